-- A rule is broken only for a number that its group judges: a bit below eleven, or an attribute of the table.
use Prim.Native.Nat.{ℕ, suc, ◌<◌, ◌^◌}
use mathlib.Core.Bool.{Bool, true, false, not, ◌&&◌, cond, false≢true}
use mathlib.Core.Path.{◌≡◌, refl}
use mathlib.Core.Logic.{⊎_elim}
use mathlib.Core.List.{List, [], ◌∷◌}
use native.Mathlib.Nat.{div-eq_of_lt, lt_of_lt_of_le}
use native.Mathlib.Decide.{dec_lt}
use native.Mathlib.Omega.{arith}
use lib.Dec.{eqb, ltb}
use lib.Pow.{pow_mono}
use lib.ListN.{length, get_or}
use borrow.Author.Tests.{eqb-true, ltb-true}
use Rattle.report_tables.specs.Endpoints.{types, required, bits_of}
use Rattle.report_tables.specs.Features.{bits, maps, ASYMMETRIC, BATTERY, V2X}
use Rattle.report.specs.Lists.{member}
use Rattle.report.specs.Features.{bit}
use Rattle.report_tables.specs.Attributes.{rows, no_row}
use Rattle.report.specs.Attributes.{conditions, condition_in, mandatory}
use Rattle.report.specs.Rules.{has, need, lacks_need, clashes, lacks_supply, lacks_required, has_invalid, lacks_attribute}
use Rattle.report.specs.Report.{in_range}
use Rattle.report.specs.declared.Inputs.{Inputs}
use Rattle.report_tables.specs.declared.attributes.Row.{Row}
use Rattle.report.proofs.Bools.{and_left, and_right, or_cases}
use Rattle.report.proofs.Tables.{passes}
use Rattle.report.proofs.Answers.{type_below}

-- a map that the bits make has no other bit
bit_below : (m b : ℕ) → m < maps → bit m b ≡ true → b < bits
unfolding bit
bit_below m b h e =
    elim (dec_lt b bits) [
      | yes l ↦ l
      | no l ↦
          let small : m < 2 ^ b = lt_of_lt_of_le h (pow_mono {i = bits} {j = b} (omega arith)) in
          absurd (false≢true (rw (div-eq_of_lt small) at e))
    ]

-- the bits of a column's cell
abbrev below : List ℕ → Bool
below [] = true
below (b ∷ bs) = ltb b bits && below bs

member_below : (b : ℕ) (bs : List ℕ) → below bs ≡ true → member b bs ≡ true → b < bits
unfolding member
member_below b [] e m = absurd (false≢true m)
member_below b (x ∷ bs) e m =
    ⊎_elim (λ f. omega (arith, eqb-true b x f, ltb-true x bits (and_left (ltb x bits) (below bs) e)))
    (λ f. member_below b bs (and_right (ltb x bits) (below bs) e) f)
    (or_cases (eqb b x) (member b bs) m)

required-below : (t b : ℕ) → t < types → member b (bits_of required t) ≡ true → b < bits
unfolding required
required-below t b h m = member_below b (bits_of required t) (passes (λ t. below (bits_of required t)) types t refl h) m

module _ (i : Inputs) (b : ℕ) (range : in_range i ≡ true) where
  pub features_below : i.features < maps
  unfolding in_range
  features_below = ltb-true _ _ (and_right (ltb i.endpoint types) _ (and_left _ _ (and_left _ _ (and_left _ _ range))))

  has-below : has i b ≡ true → b < bits
  has-below e = bit_below i.features b features_below e

  pub need-below : lacks_need i b ≡ true → b < bits
  unfolding lacks_need
  need-below e = has-below (and_left _ (not (has i (need b))) e)

  pub clash_below : clashes i b ≡ true → b < bits
  unfolding clashes
  clash_below e = omega (arith, eqb-true b BATTERY (and_left _ _ (and_left _ _ e)))

  pub supply_below : lacks_supply i b ≡ true → b < bits
  unfolding lacks_supply
  supply_below e =
      ⊎_elim (λ f. omega (arith, eqb-true b ASYMMETRIC (and_left _ _ (and_left _ _ f))))
      (λ f. omega (arith, eqb-true b V2X (and_left _ _ (and_left _ _ f))))
      (or_cases (eqb b ASYMMETRIC && has i ASYMMETRIC && eqb i.phases 1) (eqb b V2X && has i V2X && not (eqb i.directions 2)) e)

  pub required-bit_below : lacks_required i b ≡ true → b < bits
  unfolding lacks_required
  required-bit_below e = required-below i.endpoint b (type_below i range) (and_left _ (not (has i b)) e)

  pub invalid-below : has_invalid i b ≡ true → b < bits
  unfolding has_invalid
  invalid-below e = has-below (and_right (member b _) (has i b) e)

-- a mandatory attribute has a row
row_of : (i : Inputs) (rs : List Row) (n : ℕ) → conditions i (condition_in rs n) ≡ true → (k : ℕ) × (k < length rs) × ((get_or rs k no_row).0 ≡ n)
unfolding conditions condition_in
row_of i [] n e = absurd (false≢true e)
row_of i (r ∷ rs) n e = go (eqb r.0 n) refl (λ e. row_of i rs n e) e
  where
    go : (b : Bool) → eqb r.0 n ≡ b → (conditions i (condition_in rs n) ≡ true → (k : ℕ) × (k < length rs) × ((get_or rs k no_row).0 ≡ n))
        → conditions i (cond b r.1 (condition_in rs n)) ≡ true → (k : ℕ) × (k < suc (length rs)) × ((get_or (r ∷ rs) k no_row).0 ≡ n)
    go true f later e = (0, omega arith, eqb-true r.0 n f)
    go false f later e = (suc (later e).0, omega (arith, (later e).1), (later e).2)

pub attribute_row : (i : Inputs) (listed : ℕ → Bool) (n : ℕ) → lacks_attribute i listed n ≡ true → (k : ℕ) × (k < length rows) × ((get_or rows k no_row).0 ≡ n)
unfolding lacks_attribute mandatory
attribute_row i listed n e = row_of i rows n (and_right (not (eqb i.endpoint 0)) _ (and_left _ (not (listed n)) e))
