-- The tables of the code and those of specs/ agree: each rule is one test, computed over the whole table, and one law that
-- turns a passed test into the rule at every entry.
use Prim.Native.Nat.{ℕ, zero, suc, ◌+◌, ◌<◌, ◌/◌, ◌%◌}
use mathlib.Core.Bool.{Bool, true, false, not, ◌&&◌, beq}
use mathlib.Core.Path.{◌≡◌, refl}
use mathlib.Core.List.{List, [], ◌∷◌}
use native.Mathlib.Decide.{dec_lt}
use native.Mathlib.Nat.{not-suc-le-zero, le_of_suc-le-suc}
use native.Mathlib.Omega.{arith}
use lib.Dec.{eqb}
use lib.ListN.{length, get_or}
use borrow.Author.Tests.{eqb-true, eq-eqb}
use Rattle.report_tables.specs.Endpoints.{types, bits_of, mask}
use Rattle.report_tables.specs.Features.{bits}
use Rattle.report_tables.specs.Attributes.{row_count, rows, no_row}
use Rattle.report.specs.Sizes.{bit_pairs, attribute_group, pair_count}
use Rattle.report.specs.Lists.{member}
use Rattle.report.specs.Features.{bit}
use Rattle.report.specs.Attributes.{condition_in}
use Rattle.report.specs.Rules.{candidates, no_pair}
use Rattle.report_tables.specs.declared.attributes.Row.{Row}
use Rattle.report.specs.declared.breaches.Pair.{Pair}
use Rattle.report.proofs.Bools.{and_left, and_right, not_true, same}

-- a test passes at every number below n
abbrev pub every : (ℕ → Bool) → ℕ → Bool
every p zero = true
every p (suc n) = every p n && p n

pub passes : (p : ℕ → Bool) (n k : ℕ) → every p n ≡ true → k < n → p k ≡ true
passes p zero k e h = absurd (not-suc-le-zero h)
passes p (suc n) k e h =
    elim (dec_lt k n) [
      | yes l ↦ passes p n k (and_left (every p n) (p n) e) l
      | no l ↦ let m : k ≡ n = omega arith in rw m (and_right (every p n) (p n) e)
    ]

-- section 2.3: a column of sets, read through masks, type by type and bit by bit
abbrev right : List (List ℕ) → ℕ → ℕ → Bool
right column t b = beq (bit (mask (bits_of column t)) b) (member b (bits_of column t))

pub mask_at : (column : List (List ℕ)) → every (λ t. every (right column t) bits) types ≡ true → (t b : ℕ) → t < types → b < bits
    → bit (mask (bits_of column t)) b ≡ member b (bits_of column t)
mask_at column e t b ht hb = same _ _ (passes (right column t) bits b (passes (λ t. every (right column t) bits) types t e ht) hb)

-- section 3.3: no two rows have one number, so that a row's condition is that of its number
abbrev absent : ℕ → List Row → Bool
absent n [] = true
absent n (r ∷ rs) = not (eqb n r.0) && absent n rs

abbrev apart : List Row → Bool
apart [] = true
apart (r ∷ rs) = absent r.0 rs && apart rs

absent-at : (n : ℕ) (rs : List Row) (k : ℕ) → k < length rs → absent n rs ≡ true → eqb n (get_or rs k no_row).0 ≡ false
absent-at n [] k h e = absurd (not-suc-le-zero h)
absent-at n (r ∷ rs) zero h e = not_true (eqb n r.0) (and_left _ (absent n rs) e)
absent-at n (r ∷ rs) (suc k) h e = absent-at n rs k (le_of_suc-le-suc h) (and_right (not (eqb n r.0)) _ e)

condition-at : (rs : List Row) (k : ℕ) → k < length rs → apart rs ≡ true → condition_in rs (get_or rs k no_row).0 ≡ (get_or rs k no_row).1
unfolding condition_in
condition-at [] k h e = absurd (not-suc-le-zero h)
condition-at (r ∷ rs) zero h e = rw (eq-eqb r.0 r.0 refl) refl
condition-at (r ∷ rs) (suc k) h e =
    rw (absent-at r.0 rs k (le_of_suc-le-suc h) (and_left _ (apart rs) e)) (condition-at rs k (le_of_suc-le-suc h) (and_right (absent r.0 rs) _ e))

pub row_condition : (k : ℕ) → k < row_count → condition_in rows (get_or rows k no_row).0 ≡ (get_or rows k no_row).1
unfolding rows
row_condition k h = condition-at rows k h refl

-- the pairs of a report by place: eleven bits in each of five groups, then the rows
abbrev pub pair_of : ℕ → ℕ → Pair
pair_of g n = record { group = g; number = n }

abbrev is : Pair → Pair → Bool
is p q = eqb p.group q.group && eqb p.number q.number

pair_same : {g h m n : ℕ} → g ≡ h → m ≡ n → pair_of g m ≡ pair_of h n
pair_same e f = cc

is_same_lem : (p q : Pair) → is p q ≡ true → p ≡ q
is_same_lem p q e = pair_same (eqb-true _ _ (and_left _ (eqb p.number q.number) e)) (eqb-true _ _ (and_right (eqb p.group q.group) _ e))

pub bit-pair : (k : ℕ) → k < bit_pairs → get_or candidates k no_pair ≡ pair_of (k / bits + 1) (k % bits)
unfolding candidates rows
bit-pair k h = is_same_lem _ _ (passes (λ k. is (get_or candidates k no_pair) (pair_of (k / bits + 1) (k % bits))) bit_pairs k refl h)

pub row-pair : (k : ℕ) → k < row_count → get_or candidates (bit_pairs + k) no_pair ≡ pair_of attribute_group (get_or rows k no_row).0
unfolding candidates rows
row-pair k h = is_same_lem _ _ (passes (λ k. is (get_or candidates (bit_pairs + k) no_pair) (pair_of attribute_group (get_or rows k no_row).0)) row_count k refl h)

pub row_read : (k m : ℕ) (r : Row) → m ≡ bit_pairs + k → k < row_count → r ≡ get_or rows k no_row → pair_of attribute_group r.0 ≡ get_or candidates m no_pair
row_read k m r e h f = rw (e, f, row-pair k h)

pub length-rows : length rows ≡ row_count
unfolding rows
length-rows = refl

pub length-candidates : length candidates ≡ pair_count
unfolding candidates rows
length-candidates = refl
