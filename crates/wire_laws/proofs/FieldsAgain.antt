-- Each kind of field, read and written again. Assumes nothing.
use Rattle.std.specs.Prelude.{None, Some}
use Prim.Native.Nat.{ℕ, ◌^◌, ◌≤◌}
use mathlib.Core.Path.{◌≡◌, refl, ap, ◌∙◌}
use mathlib.Core.Bool.{Bool, true, false, cond}
use mathlib.Core.Option
use mathlib.Core.Option.{Option, some, none, bind}
use native.Mathlib.Omega.{arith}
use lib.Dec.{leb, ltb, eqb}
use lib.IntN.{ℤ, pos, negsuc}
use borrow.Author.Tests.{eqb-true, le-leb, le-ltb, leb-true, ltb-true}
use Rattle.wire_cbor.specs.Item.{Item, Pairs}
use Rattle.wire_messages.specs.declared.Field.{Field}
use Rattle.wire_messages.specs.Options.{Aim}
use Rattle.wire_messages.specs.Options.{Amount}
use Rattle.wire_fields.specs.Fields.{number_up_to, truth, signed, map_in, needed, optional, value_in, aim_in, amount_in, success_in, only_true, truth_item, value_item, aim_item, amount_item}
use Rattle.wire_requests.specs.WrittenRequests.{aim_wide}
use Rattle.wire_responses.specs.WrittenResponses.{amount_up_to}
use Rattle.wire_laws.specs.RoundTrips.{Field64}
use Rattle.wire_laws.proofs.FieldsBack.{Allowed}

-- none is no value
pub no_value : {X : Type 0} {x : X} → none ≡ some x → ⊥
no_value e = let z : ◌≡◌ {A = ℕ} 0 1 = cc in omega arith

pub same-inside : {X : Type 0} {x y : X} → some x ≡ some y → x ≡ y
same-inside e = cc

-- the parts of a chain of readers
pub bind-parts : {X Y : Type 0} (o : Option X) (k : X → Option Y) (y : Y) → bind o k ≡ some y → (x : X) × (o ≡ some x) × (k x ≡ some y)
unfolding bind
bind-parts (some x) k y e = (x, refl, e)
bind-parts none k y e = absurd (no_value e)

pub map-part : {X Y : Type 0} (g : X → Y) (o : Option X) (y : Y) → Option.map g o ≡ some y → (x : X) × (o ≡ some x) × (g x ≡ y)
map-part g (some x) y e = (x, refl, cc)
map-part g none y e = absurd (no_value e)

pub needed-part : {X : Type 0} (f : Item → Option X) (o : Option Item) (x : X) → needed f o ≡ some x → (i : Item) × (o ≡ some i) × (f i ≡ some x)
unfolding needed
needed-part f (some i) x e = (i, refl, e)
needed-part f none x e = absurd (no_value e)

test_part : {X : Type 0} (b : Bool) (x y : X) → cond b (some x) none ≡ some y → (b ≡ true) × (x ≡ y)
test_part true x y e = (refl, cc)
test_part false x y e = absurd (no_value e)

up_to : (most : ℕ) (i : Item) (v : ℕ) → number_up_to most i ≡ some v → (i ≡ Item.uint v) × (v ≤ most)
unfolding number_up_to
up_to most (Item.uint n) v e =
    let t = test_part (leb n most) n v e in
    (ap Item.uint t.1, let l = leb-true n most t.0 in omega (arith, t.1))
up_to most (Item.nint n) v e = absurd (no_value e)
up_to most (Item.bytes b) v e = absurd (no_value e)
up_to most (Item.text b) v e = absurd (no_value e)
up_to most (Item.array is) v e = absurd (no_value e)
up_to most (Item.map m) v e = absurd (no_value e)
up_to most (Item.simple n) v e = absurd (no_value e)

pub uint_again : (most : ℕ) (o : Option Item) (v : ℕ) → needed (number_up_to most) o ≡ some v → (o ≡ some (Item.uint v)) × (v ≤ most)
uint_again most o v e =
    let p = needed-part (number_up_to most) o v e in
    let u = up_to most p.0 v p.2 in
    (p.1 ∙ ap some u.0, u.1)

map_of_lem : (i : Item) (m : Pairs) → map_in i ≡ some m → i ≡ Item.map m
unfolding map_in
map_of_lem (Item.uint n) m e = absurd (no_value e)
map_of_lem (Item.nint n) m e = absurd (no_value e)
map_of_lem (Item.bytes b) m e = absurd (no_value e)
map_of_lem (Item.text b) m e = absurd (no_value e)
map_of_lem (Item.array is) m e = absurd (no_value e)
map_of_lem (Item.map k) m e = cc
map_of_lem (Item.simple n) m e = absurd (no_value e)

pub map-again : (o : Option Item) (m : Pairs) → needed map_in o ≡ some m → o ≡ some (Item.map m)
map-again o m e =
    let p = needed-part map_in o m e in
    p.1 ∙ ap some (map_of_lem p.0 m p.2)

truth-simple : (v : ℕ) (b : Bool) (p q : Bool) → eqb v 20 ≡ p → eqb v 21 ≡ q → cond p (some false) (cond q (some true) none) ≡ some b → Item.simple v ≡ truth_item b
truth-simple v true true q x y e = absurd (let z : ◌≡◌ {A = ℕ} 0 1 = cc in omega arith)
truth-simple v false true q x y e = ap Item.simple (eqb-true v 20 x)
truth-simple v true false true x y e = ap Item.simple (eqb-true v 21 y)
truth-simple v false false true x y e = absurd (let z : ◌≡◌ {A = ℕ} 0 1 = cc in omega arith)
truth-simple v b false false x y e = absurd (no_value e)

truth-of : (i : Item) (b : Bool) → truth i ≡ some b → i ≡ truth_item b
unfolding truth
truth-of (Item.uint n) b e = absurd (no_value e)
truth-of (Item.nint n) b e = absurd (no_value e)
truth-of (Item.bytes s) b e = absurd (no_value e)
truth-of (Item.text s) b e = absurd (no_value e)
truth-of (Item.array is) b e = absurd (no_value e)
truth-of (Item.map m) b e = absurd (no_value e)
truth-of (Item.simple v) b e = truth-simple v b (eqb v 20) (eqb v 21) refl refl e

pub truth-again : (o : Option Item) (b : Bool) → needed truth o ≡ some b → o ≡ some (truth_item b)
truth-again o b e =
    let p = needed-part truth o b e in
    p.1 ∙ ap some (truth-of p.0 b p.2)

pub success_again : (o : Option Item) (b : Bool) → success_in o ≡ some b → o ≡ some (truth_item true)
unfolding success_in
success_again o b e = go p.0 (truth-again o p.0 p.1) p.2
  where
    p : (x : Bool) × (needed truth o ≡ some x) × (only_true x ≡ some b)
    p = bind-parts (needed truth o) only_true b e

    go : (x : Bool) → o ≡ some (truth_item x) → only_true x ≡ some b → o ≡ some (truth_item true)
    go true h f = h
    go false h f = absurd (no_value f)

pub aim_again : (o : Option Item) (a : Aim) → aim_in o ≡ some a → (o ≡ aim_item a) × (aim_wide a ≡ false)
unfolding aim_in optional aim_item
aim_again none a e = go a cc
  where
    go : (a : Aim) → None ≡ a → (none ≡ aim_item a) × (aim_wide a ≡ false)
    go None x = (refl, refl)
    go (Some d) x = absurd (let z : ◌≡◌ {A = ℕ} 0 1 = cc in omega arith)
aim_again (some i) a e =
    let p = map-part Some (number_up_to 1 i) a e in
    let u = up_to 1 i p.0 p.1 in
    rw (← p.2) (ap some u.0, le-ltb 1 p.0 u.1)

pub amount-again : (most : ℕ) (o : Option Item) (a : Amount) → amount_in most o ≡ some a → (o ≡ amount_item a) × (amount_up_to most a ≡ true)
unfolding amount_in optional amount_item
amount-again most none a e = go a cc
  where
    go : (a : Amount) → None ≡ a → (none ≡ amount_item a) × (amount_up_to most a ≡ true)
    go None x = (refl, refl)
    go (Some d) x = absurd (let z : ◌≡◌ {A = ℕ} 0 1 = cc in omega arith)
amount-again most (some i) a e =
    let p = map-part Some (number_up_to most i) a e in
    let u = up_to most i p.0 p.1 in
    rw (← p.2) (ap some u.0, le-leb p.0 most u.1)

value_simple : (null : Bool) (v : ℕ) (f : Field) (p : Bool) → eqb v 22 ≡ p → cond p (cond null (some Field.Null) none) none ≡ some f → (some (Item.simple v) ≡ value_item f) × Field64 f × Allowed null f
unfolding value_item
value_simple true v f true x e = go f cc
  where
    go : (f : Field) → Field.Null ≡ f → (some (Item.simple v) ≡ value_item f) × Field64 f × Allowed true f
    go Field.Null q = (ap (λ (k : ℕ). some (Item.simple k)) (eqb-true v 22 x), tt, refl)
    go Field.Absent q = absurd (let z : ◌≡◌ {A = ℕ} 0 1 = cc in omega arith)
    go (Field.Value n) q = absurd (let z : ◌≡◌ {A = ℕ} 0 1 = cc in omega arith)
value_simple false v f true x e = absurd (no_value e)
value_simple null v f false x e = absurd (no_value e)

field_is : (z : ℤ) (f : Field) → some (Field.Value z) ≡ some f → Field.Value z ≡ f
field_is z f e = cc

number-value : (i : Item) (z : ℤ) (b : Bool) (null : Bool) (f : Field) → some i ≡ value_item (Field.Value z) → (b ≡ true → Field64 (Field.Value z))
    → cond b (some (Field.Value z)) none ≡ some f → (some i ≡ value_item f) × Field64 f × Allowed null f
number-value i z true null f h g e = rw (← field_is z f e) (h, g refl, tt)
number-value i z false null f h g e = absurd (no_value e)

value_of : (null : Bool) (i : Item) (f : Field) → signed null i ≡ some f → (some i ≡ value_item f) × Field64 f × Allowed null f
unfolding signed value_item
value_of null (Item.uint n) f e = number-value (Item.uint n) (pos n) (ltb n (2 ^ 63)) null f refl (λ x. ltb-true n (2 ^ 63) x) e
value_of null (Item.nint n) f e = number-value (Item.nint n) (negsuc n) (ltb n (2 ^ 63)) null f refl (λ x. ltb-true n (2 ^ 63) x) e
value_of null (Item.bytes b) f e = absurd (no_value e)
value_of null (Item.text b) f e = absurd (no_value e)
value_of null (Item.array is) f e = absurd (no_value e)
value_of null (Item.map m) f e = absurd (no_value e)
value_of null (Item.simple v) f e = value_simple null v f (eqb v 22) refl e

pub value_again : (null : Bool) (o : Option Item) (f : Field) → value_in null o ≡ some f → (o ≡ value_item f) × Field64 f × Allowed null f
unfolding value_in optional value_item
value_again null none f e = go f cc
  where
    go : (f : Field) → Field.Absent ≡ f → (none ≡ value_item f) × Field64 f × Allowed null f
    go Field.Absent q = (refl, tt, tt)
    go Field.Null q = absurd (let z : ◌≡◌ {A = ℕ} 0 1 = cc in omega arith)
    go (Field.Value n) q = absurd (let z : ◌≡◌ {A = ℕ} 0 1 = cc in omega arith)
value_again null (some i) f e =
    let p = map-part (λ (x : Field). x) (signed null i) f e in
    value_of null i f (p.1 ∙ ap some p.2)
