-- The number that an item is hashed to, by SHA-256 (FIPS 180-4).
use Rattle.std.specs.Prelude.{ℕ, List, take}
use Rattle.std.specs.Int.{w64, from_be_bytes}
use Rattle.sha2.specs.Sha256.{sha256}

-- the first eight bytes of the SHA-256 of these bytes, big endian
abbrev pub first_word : List ℕ → ℕ
first_word bytes = from_be_bytes w64 (take 8 (sha256 bytes))
