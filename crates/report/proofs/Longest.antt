-- The longest report, by groups: 9 bits without the one they need, 1 clash, 6 required or invalid bits, 32 supplies and attributes.
use Prim.Native.Nat.{ℕ, suc, ◌+◌, ◌-◌, ◌<◌, ◌≤◌}
use mathlib.Core.Bool.{Bool, true, false, not, ◌&&◌, ◌||◌, cond, false≢true}
use mathlib.Core.Path.{◌≡◌, refl, ap, ◌∙◌}
use mathlib.Core.List.{List, [], ◌∷◌, ◌++◌, map}
use native.Mathlib.Omega.{arith}
use lib.Dec.{eqb, leb}
use lib.ListN.{length}
use borrow.Author.Tests.{leb-true}
use Rattle.report_tables.specs.Endpoints.{types, required, invalid, bits_of}
use Rattle.report_tables.specs.Features.{bits, maps, BATTERY, ASYMMETRIC, V2X, all_bits}
use Rattle.report.specs.Lists.{member, keep}
use Rattle.report.specs.Features.{bit}
use Rattle.report_tables.specs.Attributes.{rows}
use Rattle.report.specs.Attributes.{conditions, condition_in, mandatory}
use Rattle.report.specs.Rules.{has, need, lacks_need, clashes, lacks_supply, lacks_required, has_invalid, lacks_attribute, bit_rules, broken, pairs, candidates, breaches}
use Rattle.report.specs.Report.{in_range}
use Rattle.report.specs.Statements.{Longest, longest}
use Rattle.report_tables.specs.declared.attributes.Condition.{Condition}
use Rattle.report.specs.declared.Inputs.{Inputs}
use Rattle.report.specs.declared.breaches.Pair.{Pair}
use Rattle.report.proofs.Bools.{and_left, and_right}
use Rattle.report.proofs.Tables.{passes}
use Rattle.report.proofs.Answers.{type_below}
use Rattle.report.proofs.Bounds.{features_below}

-- how many of a list pass a test
abbrev many : {A : Type 0} → (A → Bool) → List A → ℕ
many p l = length (keep p l)

many_append : {A : Type 0} (p : A → Bool) (l m : List A) → many p (l ++ m) ≡ many p l + many p m
unfolding keep
many_append p [] m = omega arith
many_append p (x ∷ l) m = go (p x) (many_append p l m)
  where
    go : (b : Bool) → many p (l ++ m) ≡ many p l + many p m
        → length (cond b (x ∷ keep p (l ++ m)) (keep p (l ++ m))) ≡ length (cond b (x ∷ keep p l) (keep p l)) + many p m
    go true e = omega (arith, e)
    go false e = e

many_pairs : (p : Pair → Bool) (g : ℕ) (ns : List ℕ) → many p (pairs g ns) ≡ many (λ n. p (record { group = g; number = n })) ns
unfolding keep
many_pairs p g [] = refl
many_pairs p g (n ∷ ns) = go (p (record { group = g; number = n })) (many_pairs p g ns)
  where
    go : (b : Bool) → many p (pairs g ns) ≡ many (λ n. p (record { group = g; number = n })) ns
        → length (cond b (record { group = g; number = n } ∷ keep p (pairs g ns)) (keep p (pairs g ns)))
        ≡ length (cond b (n ∷ keep (λ n. p (record { group = g; number = n })) ns) (keep (λ n. p (record { group = g; number = n })) ns))
    go true e = ap suc e
    go false e = e

group_first : (p : Pair → Bool) (g : ℕ) (ns : List ℕ) (rest : List Pair) → many p (pairs g ns ++ rest) ≡ many (λ n. p (record { group = g; number = n })) ns + many p rest
group_first p g ns rest = many_append p (pairs g ns) rest ∙ ap (λ n. n + many p rest) (many_pairs p g ns)

-- a wider test passes no fewer
many_wider : {A : Type 0} (p q : A → Bool) → ((x : A) → p x ≡ true → q x ≡ true) → (l : List A) → many p l ≤ many q l
unfolding keep
many_wider p q w [] = omega arith
many_wider p q w (x ∷ l) = go (p x) (q x) (w x) (many_wider p q w l)
  where
    go : (a b : Bool) → (a ≡ true → b ≡ true) → many p l ≤ many q l → length (cond a (x ∷ keep p l) (keep p l)) ≤ length (cond b (x ∷ keep q l) (keep q l))
    go true true f h = omega arith
    go true false f h = absurd (false≢true (f refl))
    go false true f h = omega arith
    go false false f h = h

-- 1: with CORE clear, nine bits lack it and V2X may lack EMOB; but then EMOB does not lack CORE
needs_few : (m : ℕ) → m < maps → many (λ b. bit m b && not (bit m (need b))) all_bits ≤ 9
unfolding keep bit
needs_few m h = leb-true _ _ (passes (λ m. leb (many (λ b. bit m b && not (bit m (need b))) all_bits) 9) maps m refl h)

-- 4 and 5: what a type requires and what it forbids; DEVICE_ROOT forbids all
abbrev cells : ℕ → ℕ
cells t = many (λ b. member b (bits_of required t)) all_bits + many (λ b. member b (bits_of invalid t)) all_bits

cells_few : (t : ℕ) → t < types → cells t ≤ cond (eqb t 0) bits 6
unfolding keep member required invalid
cells_few t h = leb-true _ _ (passes (λ t. leb (cells t) (cond (eqb t 0) bits 6)) types t refl h)

supply_wider : (a h p v x both : Bool) → ((a && h && p) || (v && x && not both)) ≡ true → (a || (v && not both)) ≡ true
supply_wider true h p v x both e = refl
supply_wider false h p true true both e = e
supply_wider false h p true false both e = absurd (false≢true e)
supply_wider false h p false x both e = e

-- 3 and 6: both directions take away one supply and bring two attributes
abbrev supplied : Bool → ℕ → Bool
supplied both b = eqb b ASYMMETRIC || (eqb b V2X && not both)

abbrev wanted : Bool → Condition → Bool
wanted both Condition.Optional = false
wanted both Condition.IfAsymmetricBoth = both
wanted both _ = true

supplied_few : (both : Bool) → many (supplied both) all_bits ≤ 2
unfolding keep
supplied_few true = leb-true _ 2 refl
supplied_few false = leb-true _ 2 refl

both_few : (both : Bool) → many (supplied both) all_bits + many (λ n. wanted both (condition_in rows n)) (map (λ r. r.0) rows) ≤ 32
unfolding keep rows condition_in
both_few true = leb-true _ 32 refl
both_few false = leb-true _ 32 refl

module _ (i : Inputs) (listed : ℕ → Bool) where
  abbrev both : Bool
  both = eqb i.directions 2

  condition_wider : (c : Condition) → conditions i c ≡ true → wanted both c ≡ true
  unfolding conditions
  condition_wider Condition.Optional e = e
  condition_wider Condition.IfAsymmetricBoth e = and_right (has i ASYMMETRIC) both e
  condition_wider Condition.Always e = refl
  condition_wider Condition.IfV2x e = refl
  condition_wider Condition.IfProcess e = refl
  condition_wider Condition.IfLimits e = refl
  condition_wider Condition.IfLimitsOut e = refl
  condition_wider Condition.IfAsymmetricCurrents e = refl
  condition_wider Condition.IfSetpoints e = refl
  condition_wider Condition.IfSetpointsOut e = refl
  condition_wider Condition.IfFlex e = refl
  condition_wider Condition.IfForecast e = refl
  condition_wider Condition.IfOut e = refl
  condition_wider Condition.IfProcessState e = refl

  attribute_wider : (n : ℕ) → lacks_attribute i listed n ≡ true → wanted both (condition_in rows n) ≡ true
  unfolding lacks_attribute mandatory
  attribute_wider n e = condition_wider (condition_in rows n) (and_right (not (eqb i.endpoint 0)) _ (and_left _ (not (listed n)) e))

  clashes-few : many (clashes i) all_bits ≤ 1
  unfolding clashes keep
  clashes-few = many_wider (clashes i) (λ b. eqb b BATTERY) (λ b e. and_left _ _ (and_left _ _ e)) all_bits

  supplies : many (lacks_supply i) all_bits ≤ many (supplied both) all_bits
  unfolding lacks_supply
  supplies = many_wider _ (supplied both) (λ b e. supply_wider (eqb b ASYMMETRIC) (has i ASYMMETRIC) (eqb i.phases 1) (eqb b V2X) (has i V2X) both e) all_bits

  lacking : many (lacks_required i) all_bits ≤ many (λ b. member b (bits_of required i.endpoint)) all_bits
  unfolding lacks_required
  lacking = many_wider _ _ (λ b e. and_left _ (not (has i b)) e) all_bits

  having : many (has_invalid i) all_bits ≤ many (λ b. member b (bits_of invalid i.endpoint)) all_bits
  unfolding has_invalid
  having = many_wider _ _ (λ b e. and_left _ (has i b) e) all_bits

  abbrev attributes : List ℕ
  attributes = map (λ r. r.0) rows

  -- the report group by group
  abbrev found : List Pair → ℕ
  found ps = many (broken i listed) ps

  abbrev from5 : List Pair
  from5 = pairs 5 all_bits ++ pairs 6 attributes

  abbrev from3 : List Pair
  from3 = pairs 3 all_bits ++ pairs 4 all_bits ++ from5

  by_group : found candidates
      ≡ many (lacks_need i) all_bits + (many (clashes i) all_bits + (many (lacks_supply i) all_bits + (many (lacks_required i) all_bits
      + (many (has_invalid i) all_bits + many (lacks_attribute i listed) attributes))))
  unfolding broken bit_rules candidates
  by_group =
      let one : found candidates ≡ many (lacks_need i) all_bits + found (pairs 2 all_bits ++ from3) = group_first (broken i listed) 1 all_bits (pairs 2 all_bits ++ from3) in
      let two : found (pairs 2 all_bits ++ from3) ≡ many (clashes i) all_bits + found from3 = group_first (broken i listed) 2 all_bits from3 in
      let three : found from3 ≡ many (lacks_supply i) all_bits + found (pairs 4 all_bits ++ from5) = group_first (broken i listed) 3 all_bits (pairs 4 all_bits ++ from5) in
      let four : found (pairs 4 all_bits ++ from5) ≡ many (lacks_required i) all_bits + found from5 = group_first (broken i listed) 4 all_bits from5 in
      let five : found from5 ≡ many (has_invalid i) all_bits + found (pairs 6 attributes) = group_first (broken i listed) 5 all_bits (pairs 6 attributes) in
      let six : found (pairs 6 attributes) ≡ many (lacks_attribute i listed) attributes = many_pairs (broken i listed) 6 attributes in
      rw (one, two, three, four, five, six)

  wants : many (lacks_attribute i listed) attributes ≤ many (λ n. wanted both (condition_in rows n)) attributes
  wants = many_wider _ _ attribute_wider attributes

  -- DEVICE_ROOT has no attribute to list
  root_wants : eqb i.endpoint 0 ≡ true → many (lacks_attribute i listed) attributes ≤ 0
  unfolding lacks_attribute keep rows
  root_wants e = many_wider (lacks_attribute i listed) (λ n. false) (λ n f. absurd (false≢true (rw e at f))) attributes

  pub few : in_range i ≡ true → many (broken i listed) candidates ≤ longest
  unfolding lacks_need
  few range = go (eqb i.endpoint 0) refl (cells_few i.endpoint (type_below i range))
    where
      needs : many (lacks_need i) all_bits ≤ 9
      needs = needs_few i.features (features_below i 0 range)

      go : (b : Bool) → eqb i.endpoint 0 ≡ b → cells i.endpoint ≤ cond b bits 6 → many (broken i listed) candidates ≤ longest
      go true e h = omega (arith, by_group, needs, clashes-few, supplies, supplied_few both, lacking, having, root_wants e, h)
      go false e h = omega (arith, by_group, needs, clashes-few, supplies, both_few both, lacking, having, wants, h)

-- the grid connection that has all but CORE, one phase, both directions, and lists nothing
abbrev worst : Inputs
worst = record { endpoint = 1; features = maps - 2; phases = 1; directions = 2; limits = true; currents = true; setpoints = true; process = true }

worst_long : (in_range worst ≡ true) × (length (breaches worst []) ≡ longest)
unfolding in_range breaches keep candidates broken bit_rules lacks_need clashes lacks_supply lacks_required has_invalid lacks_attribute mandatory condition_in rows conditions required invalid member bit
worst_long = (refl, refl)

pub longest-report : Longest
unfolding Longest breaches
longest-report = ((λ i attributes range. few i (λ n. member n attributes) range), (worst, worst_long.0, worst_long.1))
