-- What is proved of the definitions, each stated once. The proof of HeadExact is head-exact, in proofs/, and so for the others.
-- Assumes nothing: these are statements.
use Rattle.std.specs.Prelude.{ℕ, ◌+◌, ◌^◌, ◌≤◌, ◌<◌, ◌≡◌, ◌↔◌, List, ◌++◌, length, drop}
use Rattle.wire_bytes.specs.Bytes.{Bytes, Stands}
use Rattle.wire_heads.specs.Head.{head_is, head_bytes, head_at, head_len, Within}

-- a head is as long as head_len says
abbrev pub HeadLength : Type 0
HeadLength = (m v : ℕ) → length (head_bytes m v) ≡ head_len v

-- and that is nine bytes at most
abbrev pub HeadShort : Type 0
HeadShort = (v : ℕ) → head_len v ≤ 9

-- a head that stands in a list is read there, whatever its width
abbrev pub HeadReadsBack : Type 0
HeadReadsBack = (s t : List ℕ) (p m v : ℕ) → Within m v → v < 2 ^ 64 → drop p s ≡ head_bytes m v ++ t → head_at s p ≡ head_is m v (p + head_len v)

-- the heads read are exactly those that stand there
abbrev pub HeadExact : Type 0
HeadExact = (s : List ℕ) → Bytes s → (p m v e : ℕ) → (head_at s p ≡ head_is m v e) ↔ (Within m v × (v < 2 ^ 64) × Stands s p (head_bytes m v) e)
