-- The report's pairs counted one after the other: as many as were found, and as many as are left from place k.
use Prim.Native.Nat.{ℕ, ◌+◌, ◌<◌, ◌≤◌}
use mathlib.Core.Bool.{Bool, true, false}
use mathlib.Core.Path.{◌≡◌, ap}
use native.Mathlib.Omega.{arith}
use lib.ListN.{length, get_or, drop}
use Rattle.report.specs.Sizes.{pair_count}
use Rattle.report.specs.Rules.{broken, broken_in, candidates, no_pair}
use Rattle.report.specs.declared.Inputs.{Inputs}
use Rattle.report.proofs.Candidates.{left_yes, left_no, left_none}

pub record Counted (i : Inputs) (listed : ℕ → Bool) (n k : ℕ) : Type 0 where
  pub whole : n + length (broken_in i listed (drop k candidates)) ≡ length (broken_in i listed candidates)

module _ {i : Inputs} {listed : ℕ → Bool} {n k : ℕ} (w : Counted i listed n k) where
  pub end : pair_count ≤ k → n ≡ length (broken_in i listed candidates)
  end h = omega (arith, ap length (left_none i listed k h))

  -- the pair at k is a breach, as the code found, or it is none
  module _ {b : Bool} (h : k < pair_count) (found : b ≡ broken i listed (get_or candidates k no_pair)) where
    pub counted : {n' : ℕ} → b ≡ true → n' ≡ n + 1 → Counted i listed n' (k + 1)
    counted e f = record { whole = omega (arith, w.whole, ap length (left_yes i listed k h found e)) }

    pub passed : {n' : ℕ} → b ≡ false → n' ≡ n → Counted i listed n' (k + 1)
    passed e f = record { whole = omega (arith, w.whole, ap length (left_no i listed k h found e)) }
