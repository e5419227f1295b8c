-- The flags of the listed numbers stand for the list: the report by flags is the report by membership.
use Prim.Native.Nat.{ℕ, suc, ◌<◌}
use mathlib.Core.Bool.{Bool, true, false, not, ◌&&◌, ◌||◌, or-false}
use mathlib.Core.Path.{◌≡◌, refl, sym, ap, ◌∙◌}
use mathlib.Core.List.{List, [], ◌∷◌, ◌++◌, foldl}
use native.Mathlib.Omega.{arith}
use lib.Dec.{eqb, ltb}
use lib.ListN.{length, get_or, set, replicate, length-set, length-replicate, get_or-replicate}
use lib.Seq.{get_or-set_same, get_or-set_other}
use borrow.Author.Tests.{eqb-true, eqb-false, ltb-true}
use Rattle.report.specs.Sizes.{number_end, pair_count}
use Rattle.report.specs.Lists.{member, keep, flagged, marked}
use Rattle.report_tables.specs.Attributes.{rows}
use Rattle.report.specs.Attributes.{mandatory}
use Rattle.report.specs.Rules.{bit_rules, lacks_attribute, broken, broken_in, candidates, no_pair, breaches}
use Rattle.report.specs.declared.Inputs.{Inputs}
use Rattle.report.specs.declared.breaches.Pair.{Pair}
use Rattle.report.proofs.Tables.{passes, length-candidates}

-- one number marked
mark_one : (s : List Bool) (x n : ℕ) → n < length s → flagged (marked s x) n ≡ (eqb n x || flagged s n)
mark_one s x n h = go (eqb n x) refl
  where
    go : (b : Bool) → eqb n x ≡ b → get_or (set s x true) n false ≡ (b || get_or s n false)
    go true e = let m : n ≡ x = eqb-true n x e in rw (m) (get_or-set_same s x true false (rw (m) at h))
    go false e = get_or-set_other s x n true false (λ m. eqb-false n x e m)

or_swap : (a b c : Bool) → ((a || b) || c) ≡ (b || (a || c))
or_swap true true c = refl
or_swap true false c = refl
or_swap false true c = refl
or_swap false false c = refl

-- all of a list marked
mark_all : (ns : List ℕ) (s : List Bool) (n : ℕ) → n < length s → flagged (foldl marked s ns) n ≡ (flagged s n || member n ns)
unfolding member
mark_all [] s n h = sym (or-false (flagged s n))
mark_all (x ∷ ns) s n h =
    mark_all ns (set s x true) n (rw length-set h)
    ∙ ap (λ b. b || member n ns) (mark_one s x n h)
    ∙ or_swap (eqb n x) (flagged s n) (member n ns)

pub listed-flag : (ns : List ℕ) (n : ℕ) → n < number_end → flagged (foldl marked (replicate number_end false) ns) n ≡ member n ns
listed-flag ns n h =
    mark_all ns (replicate number_end false) n (rw length-replicate h)
    ∙ ap (λ b. b || member n ns) (get_or-replicate number_end n false false h)

-- two tests that agree on a list keep the same
keep_same : {A : Type 0} (p q : A → Bool) (l : List A) (d : A) → ((k : ℕ) → k < length l → p (get_or l k d) ≡ q (get_or l k d)) → keep p l ≡ keep q l
unfolding keep
keep_same p q [] d same = refl
keep_same p q (x ∷ l) d same = rw (same 0 (omega arith), keep_same p q l d (λ k h. same (suc k) (omega arith)))

-- no candidate's number is past the flags
number-below : (k : ℕ) → k < pair_count → (get_or candidates k no_pair).number < number_end
unfolding candidates rows
number-below k h = ltb-true _ _ (passes (λ k. ltb (get_or candidates k no_pair).number number_end) pair_count k refl h)

broken-same : (i : Inputs) (f g : ℕ → Bool) (p : Pair) → f p.number ≡ g p.number → broken i f p ≡ broken i g p
unfolding broken lacks_attribute
broken-same i f g p e =
    ap (λ b. get_or (false ∷ bit_rules i p.number ++ (not (eqb i.endpoint 0) && mandatory i p.number && not b) ∷ []) p.group false) e

pub by_flags : (i : Inputs) (ns : List ℕ) (flags : List Bool) → flags ≡ foldl marked (replicate number_end false) ns → broken_in i (flagged flags) candidates ≡ breaches i ns
unfolding breaches
by_flags i ns flags e =
    rw e
    (keep_same _ _ candidates no_pair
    (λ k h. broken-same i _ _ (get_or candidates k no_pair) (listed-flag ns _ (number-below k (rw length-candidates at h)))))
