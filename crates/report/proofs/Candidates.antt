-- The report's list, walked place by place: the rule of the pair at a place, and what is left from there on.
use Prim.Native.Nat.{ℕ, ◌+◌, ◌<◌, ◌≤◌, ◌/◌, ◌%◌}
use mathlib.Core.Bool.{Bool, true, false, not, ◌&&◌}
use mathlib.Core.Path.{◌≡◌, refl, sym}
use mathlib.Core.List.{[], ◌∷◌}
use native.Mathlib.Numerals.{add-one}
use native.Mathlib.Omega.{arith}
use lib.Dec.{eqb}
use borrow.Author.Tests.{ne_eqb}
use lib.ListN.{get_or, drop, drop_of_length-le, get_or-append}
use lib.Seq.{drop-cons}
use Rattle.report_tables.specs.Features.{bits}
use Rattle.report_tables.specs.Attributes.{row_count, rows, no_row}
use Rattle.report.specs.Sizes.{bit_pairs, pair_count}
use Rattle.report.specs.Lists.{keep}
use Rattle.report.specs.Attributes.{conditions, mandatory}
use Rattle.report.specs.Rules.{bit_rules, lacks_attribute, broken, broken_in, candidates, no_pair}
use Rattle.report_tables.specs.declared.attributes.Row.{Row}
use Rattle.report.specs.declared.Inputs.{Inputs}
use Rattle.report.proofs.Tables.{bit-pair, row-pair, row_condition, length-candidates}

module _ (i : Inputs) (listed : ℕ → Bool) where
  -- group 6 by the row's own condition
  pub row_lacks : (k : ℕ) → k < row_count
      → (not (eqb i.endpoint 0) && conditions i (get_or rows k no_row).1 && not (listed (get_or rows k no_row).0))
      ≡ lacks_attribute i listed (get_or rows k no_row).0
  unfolding lacks_attribute mandatory
  row_lacks k h = rw (row_condition k h)

  -- a row whose condition the device meets, and which is no root's
  pub row_met : (k : ℕ) → k < row_count → (r : Row) → r ≡ get_or rows k no_row → (i.endpoint ≡ 0 → ⊥) → {m v l : Bool} → v ≡ m → m ≡ conditions i r.1 → v ≡ true
      → l ≡ listed r.0 → not l ≡ lacks_attribute i listed (get_or rows k no_row).0
  row_met k h r row z f g e is = rw (← row_lacks k h, ← row, ← g, ← f, e, ne_eqb i.endpoint 0 z, is) refl

  pub bit-broken : (k : ℕ) → k < bit_pairs → get_or (bit_rules i (k % bits)) (k / bits) false ≡ broken i listed (get_or candidates k no_pair)
  unfolding broken bit_rules
  bit-broken k h = rw (bit-pair k h, add-one (k / bits)) (sym (get_or-append (bit_rules i (k % bits)) (lacks_attribute i listed (k % bits) ∷ []) false (k / bits) (omega arith)))

  pub row-broken : (k m : ℕ) → m ≡ bit_pairs + k → k < row_count → lacks_attribute i listed (get_or rows k no_row).0 ≡ broken i listed (get_or candidates m no_pair)
  unfolding broken bit_rules
  row-broken k m e h = rw (e, row-pair k h)

  -- what is left of the report at place k, where the pair there is a breach, where it is none, and past the last
  module _ (k : ℕ) {b : Bool} (h : k < pair_count) (found : b ≡ broken i listed (get_or candidates k no_pair)) where
    pub left_yes : b ≡ true → broken_in i listed (drop k candidates) ≡ get_or candidates k no_pair ∷ broken_in i listed (drop (k + 1) candidates)
    unfolding keep
    left_yes e = rw (add-one, drop-cons candidates k no_pair (rw length-candidates h), ← found, e)

    pub left_no : b ≡ false → broken_in i listed (drop k candidates) ≡ broken_in i listed (drop (k + 1) candidates)
    unfolding keep
    left_no e = rw (add-one, drop-cons candidates k no_pair (rw length-candidates h), ← found, e)

  pub left_none : (k : ℕ) → pair_count ≤ k → broken_in i listed (drop k candidates) ≡ []
  unfolding keep
  left_none k h = rw (drop_of_length-le candidates {i = k} (rw length-candidates h))
