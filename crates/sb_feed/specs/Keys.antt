-- Keys of stores: their order, and the hash by which they are divided among shards.
use Rattle.std.specs.Prelude.{◌≡◌, ℕ, ◌*◌, ◌^◌, ◌%◌, Bool, List, [], ◌∷◌, ◌++◌, bit_xor}
use Rattle.std.proofs.Common.{refl, ap, ◌∙◌}
use Rattle.std.specs.Int.{w32, to_be_bytes}
use Rattle.std.specs.declared.cmp.Ordering.{Ordering}
use Rattle.std.specs.declared.cmp.Ordering.TheVariants.{Less, Equal, Greater}
use Rattle.std.specs.Ordering.{nat_cmp, on, then_cmp, ordering_then, eq_by_cmp}
use Rattle.std.specs.Cmp.Lexicographic.{slice_cmp}
use Rattle.std.specs.FinMap.{IsAntisymmetric, nat_cmp-IsAntisymmetric, slice_cmp-IsAntisymmetric}
use Rattle.sb_feed.specs.declared.key.KeyBytes.{KeyBytes}

-- by store, and then by the bytes of the text
abbrev pub key_order : KeyBytes → KeyBytes → Ordering
key_order = then_cmp (on (λ k. k.store) nat_cmp) (on (λ k. k.text) (slice_cmp nat_cmp))

-- the same store and the same text
abbrev pub same_key : KeyBytes → KeyBytes → Bool
same_key = eq_by_cmp key_order

-- FNV-1a with 64 bits, after Fowler, Noll and Vo: a byte is xored in, and the hash is then multiplied by the prime
abbrev pub fnv_1a : ℕ → List ℕ → ℕ
fnv_1a hash [] = hash
fnv_1a hash (byte ∷ bytes) = fnv_1a (bit_xor hash byte * 1099511628211 % 2 ^ 64) bytes

-- the hash of the store's number in four bytes, the highest first, and then of the text
abbrev pub key_hash : KeyBytes → ℕ
key_hash key = fnv_1a 14695981039346656037 (to_be_bytes w32 key.store ++ key.text)

-- the number of a key's shard
abbrev pub shard_of : ℕ → KeyBytes → ℕ
shard_of shards key = key_hash key % shards

both_tie : (a b : Ordering) → ordering_then a b ≡ Equal → (a ≡ Equal) × (b ≡ Equal)
both_tie Equal b e = (refl, e)
both_tie Less b e = cc
both_tie Greater b e = cc

-- keys that tie are equal
pub key_order-IsAntisymmetric : IsAntisymmetric key_order
key_order-IsAntisymmetric x y e =
    let ties = both_tie (nat_cmp x.store y.store) (slice_cmp nat_cmp x.text y.text) e in
    ap (λ (s : ℕ). record { store = s; text = x.text }) (nat_cmp-IsAntisymmetric x.store y.store ties.0)
    ∙ ap (λ (t : List ℕ). record { store = y.store; text = t }) (slice_cmp-IsAntisymmetric nat_cmp-IsAntisymmetric x.text y.text ties.1)
