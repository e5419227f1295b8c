-- The six groups of document 01, "Conformance", and the list of what a device breaks.
use Rattle.std.specs.Prelude.{ℕ, Bool, false, not, ◌&&◌, ◌||◌, cond, List, [], ◌∷◌, ◌++◌, map, eqb, get_or}
use Rattle.report.specs.Lists.{member, keep}
use Rattle.report_tables.specs.Features.{CORE, BATTERY, EMOB, ASYMMETRIC, V2X, all_bits}
use Rattle.report.specs.Features.{bit}
use Rattle.report_tables.specs.Endpoints.{required, invalid, bits_of}
use Rattle.report_tables.specs.Attributes.{rows}
use Rattle.report.specs.Attributes.{mandatory}
use Rattle.report.specs.declared.Inputs.{Inputs}
use Rattle.report.specs.declared.breaches.Pair.{Pair}

-- the device's feature map has bit b
abbrev pub has : Inputs → ℕ → Bool
has i b = bit i.features b

-- section 2.1, "Requires": EMOB for bit 10, CORE for bits 1 to 9. CORE needs nothing, which is to need itself
abbrev pub need : ℕ → ℕ
need b = cond (eqb b V2X) EMOB CORE

-- 1. a bit set without the one it needs
unfoldable pub lacks_need : Inputs → ℕ → Bool
lacks_need i b = has i b && not (has i (need b))

-- 2. BATTERY with EMOB; number 2
unfoldable pub clashes : Inputs → ℕ → Bool
clashes i b = eqb b BATTERY && has i BATTERY && has i EMOB

-- 3. ASYMMETRIC with one phase (9); V2X without both directions (10)
unfoldable pub lacks_supply : Inputs → ℕ → Bool
lacks_supply i b =
    (eqb b ASYMMETRIC && has i ASYMMETRIC && eqb i.phases 1)
    || (eqb b V2X && has i V2X && not (eqb i.directions 2))

-- 4. a required bit of the type's row clear
unfoldable pub lacks_required : Inputs → ℕ → Bool
lacks_required i b = member b (bits_of required i.endpoint) && not (has i b)

-- 5. an invalid bit of it set
unfoldable pub has_invalid : Inputs → ℕ → Bool
has_invalid i b = member b (bits_of invalid i.endpoint) && has i b

-- 6. a mandatory attribute not listed; not applied to DEVICE_ROOT, type 0
unfoldable pub lacks_attribute : Inputs → (ℕ → Bool) → ℕ → Bool
lacks_attribute i listed n = not (eqb i.endpoint 0) && mandatory i n && not (listed n)

-- groups 1 to 5 of a bit, in order
unfoldable pub bit_rules : Inputs → ℕ → List Bool
bit_rules i b = lacks_need i b ∷ clashes i b ∷ lacks_supply i b ∷ lacks_required i b ∷ has_invalid i b ∷ []

-- the rule of the pair's group, 1 to 6, is broken for its number; there is no group 0
unfoldable pub broken : Inputs → (ℕ → Bool) → Pair → Bool
broken i listed p = get_or (false ∷ bit_rules i p.number ++ lacks_attribute i listed p.number ∷ []) p.group false

-- the numbers of a group, as pairs
abbrev pub pairs : ℕ → List ℕ → List Pair
pairs g ns = map (λ n. record { group = g; number = n }) ns

-- the pairs that can stand in a report, in its order: groups 1 to 5 judge each bit, group 6 each row of section 3.3
unfoldable pub candidates : List Pair
candidates =
    pairs 1 all_bits ++ pairs 2 all_bits ++ pairs 3 all_bits ++ pairs 4 all_bits ++ pairs 5 all_bits
    ++ pairs 6 (map (λ r. r.0) rows)

abbrev pub no_pair : Pair
no_pair = record { group = 0; number = 0 }

-- those of some pairs whose rule is broken
abbrev pub broken_in : Inputs → (ℕ → Bool) → List Pair → List Pair
broken_in i listed ps = keep (broken i listed) ps

-- the report's list: every pair whose rule is broken
unfoldable pub breaches : Inputs → List ℕ → List Pair
breaches i attributes = broken_in i (λ n. member n attributes) candidates
