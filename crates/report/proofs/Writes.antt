-- The report's pairs stored one after the other: what is left to store from place k, at `at`, makes the whole report.
use Prim.Native.Nat.{ℕ, suc, ◌+◌, ◌<◌, ◌≤◌}
use mathlib.Core.Bool.{Bool, true, false}
use mathlib.Core.Path.{◌≡◌, refl, ap, ◌∙◌}
use mathlib.Core.List.{List, [], ◌∷◌}
use native.Mathlib.Nat.{zero-add}
use native.Mathlib.Omega.{arith}
use lib.ListN.{length, get_or, drop}
use lib.Seq.{sets, sets-eq, length-sets}
use Rattle.report.specs.Sizes.{pair_count}
use Rattle.report.specs.Lists.{front}
use Rattle.report.specs.Rules.{broken, broken_in, candidates, no_pair}
use Rattle.report.specs.Report.{flat}
use Rattle.report.specs.declared.Inputs.{Inputs}
use Rattle.report.specs.declared.breaches.Pair.{Pair}
use Rattle.report.proofs.Candidates.{left_yes, left_no, left_none}

abbrev left : Inputs → (ℕ → Bool) → ℕ → List ℕ
left i listed k = flat (broken_in i listed (drop k candidates))

pub record Written (i : Inputs) (listed : ℕ → Bool) (old pairs : List ℕ) (at k : ℕ) : Type 0 where
  pub long : length pairs ≡ length old
  pub room : at + length (left i listed k) ≤ length old
  pub rest : sets pairs at (left i listed k) ≡ front (left i listed 0) old

pub start : (i : Inputs) (listed : ℕ → Bool) (old : List ℕ) → length (left i listed 0) ≤ length old → Written i listed old old 0 0
unfolding front
start i listed old h = record { long = refl; room = omega arith; rest = sets-eq (left i listed 0) old 0 (omega arith) ∙ rw (zero-add) }

module _ {i : Inputs} {listed : ℕ → Bool} {old pairs : List ℕ} {at k : ℕ} (w : Written i listed old pairs at k) where
  pub end : pair_count ≤ k → pairs ≡ front (left i listed 0) old
  unfolding flat
  end h = rw (left_none i listed k h) at w.rest

  -- the pair at k is a breach, as the code found, or it is none
  module _ {b : Bool} (h : k < pair_count) (found : b ≡ broken i listed (get_or candidates k no_pair)) where
    pub room_for : b ≡ true → at + 1 < length pairs
    unfolding flat
    room_for e = omega (arith, ap (λ ps. length (flat ps)) (left_yes i listed k h found e))

    pub stored : {p : Pair} {pairs' : List ℕ} {at' : ℕ} → b ≡ true → p ≡ get_or candidates k no_pair → pairs' ≡ sets pairs at (p.group ∷ p.number ∷ [])
        → at' ≡ at + 2 → Written i listed old pairs' at' (k + 1)
    unfolding flat
    stored {p} {pairs'} {at'} e f g a =
        let two : at' ≡ suc (suc at) = omega arith in
        record {
          long = ap length g ∙ length-sets pairs at (p.group ∷ p.number ∷ []) ∙ w.long;
          room = omega (arith, w.room, ap (λ ps. length (flat ps)) (left_yes i listed k h found e));
          rest = rw (g, f, two) (rw (left_yes i listed k h found e) at w.rest);
        }

    pub passed : {pairs' : List ℕ} {at' : ℕ} → b ≡ false → pairs' ≡ pairs → at' ≡ at → Written i listed old pairs' at' (k + 1)
    passed e f g =
        let same : left i listed k ≡ left i listed (k + 1) = ap flat (left_no i listed k h found e) in
        rw (f, g) (record { long = w.long; room = rw same at w.room; rest = rw same at w.rest })
