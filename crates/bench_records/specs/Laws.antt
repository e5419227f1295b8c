-- What is proved of the definitions. The proof of RecordWithin is record_within, in proofs/.
-- Assumes nothing: these are statements.
use Rattle.std.specs.Prelude.{ℕ, ◌+◌, ◌≤◌, ◌≡◌, List, length, Some}
use Rattle.bench_records.specs.Kinds.{head}
use Rattle.bench_records.specs.Records.{record_at}
use Rattle.bench_records.specs.declared.fields.Record.{Record}

-- a record that was read has its body behind its fields, and lies within the script
abbrev pub RecordWithin : Type 0
RecordWithin =
    (s : List ℕ) (p : ℕ) (r : Record) → record_at s p ≡ Some r
    → (r.body ≡ p + head) × (r.body + r.length ≤ length s)
