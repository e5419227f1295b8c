-- What is proved of the definitions. The proof of StepMoves is step-moves, in proofs/, and so for the others.
-- Assumes nothing: these are statements.
use Rattle.std.specs.Prelude.{ℕ, ◌+◌, ◌≤◌, ◌≡◌, Some, List, ℤ, length}
use Rattle.bench_records.specs.Kinds.{head}
use Rattle.bench_script.specs.Runs.{step_answer}
use Rattle.bench_script.specs.Bench.{played}
use Rattle.bench_script.specs.declared.calls.Stepped.{Stepped}

-- behind a good record the next starts at least its fields further on, within the script
abbrev pub StepMoves : Type 0
StepMoves =
    (ws s : List ℕ) (p : ℕ) (out : List ℕ) (rows : List ℤ) (y : Stepped) → step_answer ws s p out rows ≡ Some y
    → (p + head ≤ y.next) × (y.next ≤ length s)

-- a script has no more records than bytes: a larger bound changes nothing
abbrev pub PlayedBound : Type 0
PlayedBound = (n m : ℕ) (ws s : List ℕ) → length s ≤ n → length s ≤ m → played n ws s ≡ played m ws s
