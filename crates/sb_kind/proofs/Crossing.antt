-- Values and elements may cross threads: they own what they hold, and share nothing.
use denote.RattleType.{RattleType}
use denote.Struct.Field.{i64-field, bool-field}
use denote.Struct.Declared.{shape}
use denote.Struct.Tuple.{Tuple, tuple_type, tuple_field}
use denote.Builtin.{i64}
use denote.Param.Send.{IsSend, IsSync, recorded_send, recorded_sync, struct_send, struct_sync, sendable}
use Rattle.std.specs.Prelude.{[], ◌∷◌}
use Rattle.std.proofs.option.Option.TheSendSync as Option
use Rattle.sb_text.specs.contracts.text.Text as text
use Rattle.sb_text.proofs.text.Text.TheSendSync as Text
use Rattle.sqlite_items.specs.contracts.boxed.Boxed as boxed
use Rattle.sqlite_items.proofs.boxed.Boxed.TheSendSync as ValBoxed
use Rattle.sqlite_items.proofs.items.Items.TheSendSync as ValItems
use Rattle.sb_types.specs.contracts.values.Val as val
use Rattle.sb_types.proofs.values.Val.TheLaws.TheKnot as val_knot
use Rattle.sb_laws.proofs.items.Items.TheSendSync as Items
use Rattle.sb_sketch.proofs.counts.Cells.TheSendSync as Cells
use Rattle.sb_sketch.proofs.registers.Registers.TheSendSync as Registers
use Rattle.sb_kind.specs.contracts.agg.Agg as agg
use Rattle.sb_kind.proofs.agg.Agg.TheLaws.TheKnot as knot
use Rattle.sb_kind.proofs.boxed.Boxed.TheSendSync as Boxed
use Rattle.sb_kind.proofs.many.Many.TheSendSync as Many

-- a pair, as its parts may
pair_send : (A B : RattleType) → IsSend A → IsSend B → IsSend (Tuple (A ∷ B ∷ []))
pair_send A B s t =
    let T = tuple_field (A ∷ B ∷ []) in
    recorded_send T.row T.Value T.into T.into_one (struct_send (shape (tuple_type (A ∷ B ∷ []))) (s, (t, tt)))

pair_sync : (A B : RattleType) → IsSync A → IsSync B → IsSync (Tuple (A ∷ B ∷ []))
pair_sync A B s t =
    let T = tuple_field (A ∷ B ∷ []) in
    recorded_sync T.row T.Value T.into T.into_one (struct_sync (shape (tuple_type (A ∷ B ∷ []))) (s, (t, tt)))

int_send : IsSend i64-field.row
int_send = search sendable

int_sync : IsSync i64-field.row
int_sync = search sendable

bool_send : IsSend bool-field.row
bool_send = search sendable

bool_sync : IsSync bool-field.row
bool_sync = search sendable

-- a value, whose parts are values
val_field_send : IsSend val.the_field.row
val_field_send = val_knot.send-Val int_send Text.the_send bool_send (λ h s. ValBoxed.the_send h s) (λ h s. Option.the_send (boxed.the_row h) (ValBoxed.the_send h s)) (λ h s. ValItems.the_send h s)

val_field_sync : IsSync val.the_field.row
val_field_sync = val_knot.sync-Val int_sync Text.the_sync bool_sync (λ h s. ValBoxed.the_sync h s) (λ h s. Option.the_sync (boxed.the_row h) (ValBoxed.the_sync h s)) (λ h s. ValItems.the_sync h s)

pub val_send : IsSend val.the_row
val_send = search (val_field_send, sendable)

pub val_sync : IsSync val.the_row
val_sync = search (val_field_sync, sendable)

-- an element, whose parts are elements
scored_send : IsSend (Tuple (i64 ∷ text.the_row ∷ []))
scored_send = search (Text.the_send, sendable)

scored_sync : IsSync (Tuple (i64 ∷ text.the_row ∷ []))
scored_sync = search (Text.the_sync, sendable)

agg_field_send : IsSend agg.the_field.row
agg_field_send = knot.send-Agg int_send val_field_send (Items.the_send val.the_row val_send) (Items.the_send _ scored_send) Cells.the_send Registers.the_send (λ h s. Boxed.the_send h s) (λ h s. Many.the_send (Tuple (val.the_row ∷ h ∷ [])) (pair_send val.the_row h val_send s))

agg_field_sync : IsSync agg.the_field.row
agg_field_sync = knot.sync-Agg int_sync val_field_sync (Items.the_sync val.the_row val_sync) (Items.the_sync _ scored_sync) Cells.the_sync Registers.the_sync (λ h s. Boxed.the_sync h s) (λ h s. Many.the_sync (Tuple (val.the_row ∷ h ∷ [])) (pair_sync val.the_row h val_sync s))

pub agg_send : IsSend agg.the_row
agg_send = search (agg_field_send, sendable)

pub agg_sync : IsSync agg.the_row
agg_sync = search (agg_field_sync, sendable)
