-- The call's answer at each of its ends: a refusal leaves the buffer, and an accepted call writes the breaches.
use Prim.Native.Nat.{ℕ, suc, ◌*◌, ◌<◌, ◌≤◌}
use mathlib.Core.Bool.{Bool, true, false, cond}
use mathlib.Core.Path.{◌≡◌, refl, sym, ◌∙◌}
use mathlib.Core.List.{List, [], ◌∷◌}
use native.Mathlib.Omega.{arith}
use lib.Dec.{eqb}
use lib.ListN.{length}
use borrow.Author.Tests.{lt-ltb, le-ltb, ltb-true}
use Rattle.report_tables.specs.Endpoints.{types}
use Rattle.report.specs.Sizes.{pair_count}
use Rattle.report.specs.Lists.{keep, ascends, first_of, front}
use Rattle.report.specs.Rules.{broken, broken_in, breaches, candidates}
use Rattle.report.specs.Report.{in_range, report_number, report_of, flat, pairs_after}
use Rattle.report.specs.declared.Inputs.{Inputs}
use Rattle.report.specs.declared.Answer.{Answer}
use Rattle.report.specs.declared.breaches.Pair.{Pair}
use Rattle.report.proofs.Bools.{and_left}
use Rattle.report.proofs.Tables.{length-candidates}

pub type_below : (i : Inputs) → in_range i ≡ true → i.endpoint < types
unfolding in_range
type_below i range = ltb-true _ _ (and_left _ _ (and_left _ _ (and_left _ _ (and_left _ _ range))))

pub judged_type : (i : Inputs) {b : Bool} → b ≡ in_range i → b ≡ true → i.endpoint < types
judged_type i range e = type_below i (sym range ∙ e)

length-flat : (ps : List Pair) → length (flat ps) ≡ 2 * length ps
unfolding flat
length-flat [] = refl
length-flat (p ∷ ps) = omega (arith, length-flat ps)

pub room : (ps : List Pair) (n size : ℕ) → n ≡ length ps → 2 * n ≤ size → length (flat ps) ≤ size
room ps n size e h = omega (arith, length-flat ps)

keep-shorter : {A : Type 0} (p : A → Bool) (l : List A) → length (keep p l) ≤ length l
unfolding keep
keep-shorter p [] = omega arith
keep-shorter p (x ∷ l) = go (p x) (keep-shorter p l)
  where
    go : (b : Bool) → length (keep p l) ≤ length l → length (cond b (x ∷ keep p l) (keep p l)) ≤ suc (length l)
    go true h = omega arith
    go false h = omega arith

pub few : (i : Inputs) (listed : ℕ → Bool) {n : ℕ} → n ≡ length (broken_in i listed candidates) → n ≤ pair_count
few i listed e = omega (arith, keep-shorter (broken i listed) candidates, length-candidates)

abbrev answer : ℕ → ℕ → Answer
answer n count = record { number = n; count = count }

-- what the call found: whether the inputs are in range, whether the list ascends, and how many breaches there are
module _ (i : Inputs) (attributes buffer : List ℕ) where
  abbrev Ends : Answer → List ℕ → Type 0
  Ends a pairs = (a ≡ report_of i attributes (length buffer)) × (pairs ≡ pairs_after i attributes buffer)

  refused : (n : ℕ) → report_number i attributes (length buffer) ≡ n → eqb n 0 ≡ false → Ends (answer n 0) buffer
  unfolding report_of pairs_after
  refused n e f = (rw (e, f), rw (e, f))

  module _ {b : Bool} (range : b ≡ in_range i) where
    pub ends-16 : b ≡ false → Ends (answer 16 0) buffer
    unfolding report_number first_of
    ends-16 e = refused 16 (rw (← range, e)) refl

    module _ {c : Bool} (ascent : c ≡ ascends attributes) (in-range : b ≡ true) where
      pub ends-17 : c ≡ false → Ends (answer 17 0) buffer
      unfolding report_number first_of
      ends-17 e = refused 17 (rw (← range, in-range, ← ascent, e)) refl

      module _ (ps : List Pair) {n : ℕ} (same : ps ≡ breaches i attributes) (counted : n ≡ length ps) (ascending : c ≡ true) where
        pub ends-15 : length buffer < 2 * n → Ends (answer 15 0) buffer
        unfolding report_number first_of
        ends-15 h = refused 15 (rw (← range, in-range, ← ascent, ascending, ← same, ← counted, lt-ltb _ _ h)) refl

        pub ends-0 : (pairs : List ℕ) → pairs ≡ front (flat ps) buffer → 2 * n ≤ length buffer → Ends (answer 0 n) pairs
        unfolding report_of pairs_after report_number first_of
        ends-0 pairs written h =
            let e : report_number i attributes (length buffer) ≡ 0 = rw (← range, in-range, ← ascent, ascending, ← same, ← counted, le-ltb _ _ h) in
            (rw (e, counted, same), rw (written, e, same))
