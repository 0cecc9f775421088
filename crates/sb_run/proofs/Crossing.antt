-- What the threads of a batch and of a live run share, and what they give back, may cross threads.
use mir.Syntax.{Sym}
use denote.Param.Send.{AllSend, IsSend, IsSync, recorded_send, struct_send, sendable}
use denote.RattleType.{RattleType}
use denote.Builtin.{u8, u32, u64}
use denote.Struct.Declared.{shape}
use denote.Struct.Field.{rows}
use denote.Struct.Tuple.{TupleAt, field_at, parts, type_at}
use Rattle.std.specs.Prelude.{List, [], ◌∷◌}
use Rattle.std.specs.contracts.result.Result as result
use Rattle.std.proofs.result.Result.TheSendSync as Result
use Rattle.sb_check.specs.contracts.log.LogError as error
use Rattle.sb_check.proofs.log.LogError.TheSendSync as LogError
use Rattle.sb_job.specs.contracts.key_sums.KeySums as sums
use Rattle.sb_job.specs.contracts.seed.Seed as seed
use Rattle.sb_job.proofs.key_sums.KeySums.TheSendSync as KeySums
use Rattle.sb_kind.specs.contracts.agg.Agg as agg
use Rattle.sb_kind.proofs.Crossing.{agg_send, agg_sync}
use Rattle.sb_check.specs.contracts.checked.Checked as checked
use Rattle.sb_grammar.specs.contracts.programs.Program as program
use Rattle.sb_check.specs.contracts.declarations.SourceDecl as source_decl
use Rattle.sb_check.specs.contracts.declarations.ServiceDecl as service_decl
use Rattle.sb_check.specs.contracts.declarations.LetDecl as let_decl
use Rattle.sb_check.specs.contracts.declarations.StoreDecl as store_decl
use Rattle.sb_batcher.specs.contracts.batcher.Batcher as batcher
use Rattle.sb_kind.specs.contracts.dictionary.OnlineM as online_kind
use Rattle.sb_plan.specs.contracts.batch_runner.Runner as runner
use Rattle.sb_plan.specs.contracts.online_runner.OnlineRunner as online_runner
use Rattle.sb_service.specs.contracts.service.Service as service
use Rattle.sb_grammar.proofs.expressions.CmpOp.TheSendSync as CmpOp
use Rattle.sb_grammar.proofs.expressions.PostStep.TheSendSync as PostStep
use Rattle.sb_grammar.proofs.expressions.Scalar.TheSendSync as Scalar
use Rattle.sb_grammar.proofs.programs.FieldTree.TheSendSync as FieldTree
use Rattle.sb_text.proofs.text.Text.TheSendSync as Text
use Rattle.sqlite_items.proofs.boxed.Boxed.TheSendSync as Boxed
use Rattle.sqlite_items.proofs.items.Items.TheSendSync as Items
use Rattle.std.proofs.boxed.Box.TheSendSync as Box
use Rattle.std.proofs.vec.Vec.TheSendSync as Vec
use Rattle.std.proofs.Crossing.{crosses}
use Rattle.sb_grammar.proofs.expressions.AddRest.TheLaws.TheKnot as Expressions
use Rattle.sb_grammar.proofs.expressions.TypeTree.TheLaws.TheKnot as TypeTrees
use Rattle.sb_grammar.proofs.programs.Head.TheLaws.TheKnot as Streams
use Rattle.sb_grammar.proofs.programs.MonoTree.TheLaws.TheKnot as MonoTrees
use Rattle.sb_types.proofs.types.Ty.TheLaws.TheKnot as Types
use Rattle.std.proofs.option.Option.TheSendSync as Option
use Rattle.sb_terms.proofs.term.Double.TheSendSync as Double
use Rattle.sb_terms.proofs.term.Single.TheSendSync as Single
use Rattle.sb_terms.proofs.flow.Flow.TheLaws.TheKnot as Flows
use Rattle.sb_terms.proofs.term.Term.TheLaws.TheKnot as Terms
use Rattle.sb_types.proofs.values.Val.TheLaws.TheKnot as Values
use Rattle.std.proofs.marker.PhantomData.TheSendSync as PhantomData
use Rattle.sb_gather.proofs.top.TopM.TheSendSync as TopM
use Rattle.sb_kind.proofs.boxed.Boxed.TheSendSync as KindBoxed
use Rattle.sb_sketch.proofs.cms.CmsM.TheSendSync as CmsM
use Rattle.sb_sketch.proofs.hll.HllM.TheSendSync as HllM
use Rattle.sb_kind.proofs.kind.Kind.TheLaws.TheKnot as Kinds
use Rattle.sb_feed.proofs.index.BatchIndex.TheSendSync as BatchIndex
use Rattle.sb_plan.proofs.parts.Entry.TheSendSync as Entry
use Rattle.sb_plan.proofs.stores.Stores.TheSendSync as Stores
use Rattle.std.below.std_collections.proofs.btree.tree.Tree.TheSendSync as Tree
use Rattle.std.proofs.collections.BTreeMap.TheSendSync as BTreeMap
use Rattle.std.proofs.MapsCrossing as Maps

-- a checked program
program_sync : IsSync program.the_field.row
program_sync = search (CmpOp.the_field_sync, PostStep.the_sync, Scalar.the_field_sync, FieldTree.the_sync, Text.the_sync, Boxed.the_sync, Items.the_sync, Box.the_sync, Vec.the_sync, crosses, Expressions.crosses, TypeTrees.crosses, Streams.crosses, MonoTrees.crosses, sendable) depth 60 fits 20000

batcher_sync : IsSync batcher.the_field.row
batcher_sync = search sendable depth 60

source_decl_sync : IsSync source_decl.the_row
source_decl_sync = search (Text.the_sync, Boxed.the_sync, Items.the_sync, crosses, Types.crosses, sendable) depth 60 fits 20000

service_decl_sync : IsSync service_decl.the_row
service_decl_sync = search (Text.the_sync, Boxed.the_sync, Items.the_sync, crosses, Types.crosses, sendable) depth 60 fits 20000

let_decl_sync : IsSync let_decl.the_row
let_decl_sync = search (Option.the_field_sync, Option.the_sync, Double.the_field_sync, Single.the_field_sync, Text.the_sync, Boxed.the_sync, Items.the_sync, crosses, Flows.crosses, Terms.crosses, Types.crosses, Values.crosses, sendable) depth 60 fits 20000

store_decl_sync : IsSync store_decl.the_row
store_decl_sync = search (PhantomData.the_field_sync, Option.the_field_sync, Option.the_sync, TopM.the_sync, KindBoxed.the_sync, CmsM.the_sync, HllM.the_sync, Double.the_field_sync, Single.the_field_sync, Text.the_sync, Boxed.the_sync, Items.the_sync, crosses, Kinds.crosses, Flows.crosses, Terms.crosses, Types.crosses, Values.crosses, sendable) depth 60 fits 20000

pub checked_sync : IsSync checked.the_row
checked_sync = search (program_sync, batcher_sync, source_decl_sync, service_decl_sync, let_decl_sync, store_decl_sync, crosses, sendable) depth 60 fits 20000

-- the stores of a batch, and the rows of a service
pub runner_sync : IsSync runner.the_row
runner_sync = search (TopM.the_sync, KindBoxed.the_sync, Stores.the_sync, CmsM.the_sync, HllM.the_sync, Vec.the_sync, crosses, Kinds.crosses, sendable) depth 60 fits 20000

pub service_sync : IsSync service.the_row
service_sync = search (Option.the_field_sync, Option.the_sync, Text.the_sync, Boxed.the_sync, Items.the_sync, Tree.the_field_sync, BTreeMap.the_sync, Maps.crosses, crosses, Values.crosses, sendable) depth 60 fits 20000

-- the records of a live run, and the dictionary of one of its stores
pub commuting_sync : IsSync online_kind.the_row
commuting_sync = search (TopM.the_sync, KindBoxed.the_sync, CmsM.the_sync, HllM.the_sync, crosses, Kinds.crosses, sendable) depth 60 fits 20000

pub feed_sync : IsSync online_runner.the_row
feed_sync = search (agg_sync, TopM.the_sync, KindBoxed.the_sync, BatchIndex.the_sync, Entry.the_sync, Stores.the_sync, CmsM.the_sync, HllM.the_sync, Vec.the_sync, crosses, Kinds.crosses, sendable) depth 60 fits 20000

-- the seed of a table
pub seed_sync : IsSync seed.the_row
seed_sync = search sendable depth 60

-- numbers and bytes
pub number_sync : IsSync u64
number_sync = search sendable

pub depth_sync : IsSync u32
depth_sync = search sendable

pub byte_sync : IsSync u8
byte_sync = search sendable

-- ---- what a thread takes with it, and what it gives

-- a closure, as what it captures
parts_send : (captures : List RattleType) → AllSend captures → AllSend (rows (parts captures))
parts_send [] all = tt
parts_send (C ∷ captures) all = (all.0, parts_send captures all.1)

closure_send : (name : Sym) (captures : List RattleType) → AllSend captures → IsSend (TupleAt name captures)
closure_send name captures all =
    let T = field_at name captures in
    recorded_send T.row T.Value T.into T.into_one (struct_send (shape (type_at name captures)) (parts_send captures all))

-- one that captures ten
pub ten_send : (name : Sym) (A B C D E F G H I J : RattleType) → IsSend A → IsSend B → IsSend C → IsSend D → IsSend E → IsSend F → IsSend G → IsSend H → IsSend I → IsSend J
    → IsSend (TupleAt name (A ∷ B ∷ C ∷ D ∷ E ∷ F ∷ G ∷ H ∷ I ∷ J ∷ []))
ten_send name A B C D E F G H I J a b c d e f g h i j =
    closure_send name (A ∷ B ∷ C ∷ D ∷ E ∷ F ∷ G ∷ H ∷ I ∷ J ∷ []) (a, (b, (c, (d, (e, (f, (g, (h, (i, (j, tt))))))))))

-- the sums of a log, or what is wrong with it
pub sums_send : IsSend (result.the_row (sums.the_row agg.the_row) error.the_row)
sums_send = Result.the_send (sums.the_row agg.the_row) error.the_row (KeySums.the_send agg.the_row agg_send) LogError.the_send
