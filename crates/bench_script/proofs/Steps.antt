-- A step, where its record is good and where it is bad. Assumes nothing.
use Rattle.std.specs.Prelude.{Option, None, Some}
use Prim.Native.Nat.{ℕ, ◌+◌, ◌≤◌}
use mathlib.Core.Path.{◌≡◌, refl, ap}
use mathlib.Core.List.{List}
use native.Mathlib.Omega.{arith}
use lib.IntN.{ℤ}
use lib.ListN.{length}
use Rattle.bench_records.specs.Records.{record_at}
use Rattle.bench_script.specs.Runs.{Left, alone, record_leaves, scan_leaves, step_leaves, step_from, step_answer}
use Rattle.bench_script.specs.Laws.{StepMoves}
use Rattle.bench_records.specs.declared.fields.Record.{Record}
use Rattle.bench_script.specs.declared.calls.Ran.{Ran}
use Rattle.bench_script.specs.declared.calls.Stepped.{Stepped}
use Rattle.bench_records.specs.Kinds.{head}
use Rattle.bench_records.proofs.Scans.{record_within}

module _ (ws s : List ℕ) (p : ℕ) (out : List ℕ) (rows : List ℤ) where
  -- the equations of a step that answers y and leaves ws', out' and rows'
  abbrev Says : Option Stepped → List ℕ → List ℕ → List ℤ → Type 0
  Says y ws' out' rows' =
      (y ≡ step_answer ws s p out rows)
      × ((ws' ≡ (step_leaves ws s p out rows).words)
      × ((out' ≡ (step_leaves ws s p out rows).out)
      × (rows' ≡ (step_leaves ws s p out rows).rows)))

  pub step-good : (r : Record) → record_at s p ≡ Some r → (x : Ran) (ws' out' : List ℕ) (rows' : List ℤ)
      → ◌≡◌ {A = Left} (record { ran = x; words = ws'; out = out'; rows = rows' }) (record_leaves ws s out rows r)
      → Says (Some (record { number = x.number; count = x.count; next = r.body + r.length })) ws' out' rows'
  unfolding step_answer step_leaves scan_leaves step_from
  step-good r e x ws' out' rows' h = rw (e, ← h) (refl, (refl, (refl, refl)))

  pub step-bad : record_at s p ≡ None → Says None ws out rows
  unfolding step_answer step_leaves scan_leaves step_from alone
  step-bad e = rw e (refl, (refl, (refl, refl)))

from-moves : (s : List ℕ) (p : ℕ) (x : Ran) (a : Option Record) (y : Stepped) → record_at s p ≡ a → step_from x a ≡ Some y
    → (p + head ≤ y.next) × (y.next ≤ length s)
unfolding step_from
from-moves s p x (Some r) y e g =
    let w = record_within s p r e in
    let f : record { number = x.number; count = x.count; next = r.body + r.length } ≡ y = cc in
    let n = ap (λ (z : Stepped). z.next) f in
    (omega (arith, w.0, n), omega (arith, w.1, n))
from-moves s p x None y e g = absurd (let z : ◌≡◌ {A = ℕ} 0 1 = cc in omega arith)

pub step-moves : StepMoves
unfolding step_answer
step-moves ws s p out rows y g = from-moves s p (step_leaves ws s p out rows).ran (record_at s p) y refl g
