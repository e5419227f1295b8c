-- Each kind of field, told by what is seen of it. Assumes nothing.
use Rattle.std.specs.Prelude.{Some}
use Prim.Native.Nat.{ℕ}
use mathlib.Core.Path.{◌≡◌, refl, sym, ap, ◌∙◌}
use mathlib.Core.Bool.{Bool, true, false, cond, not, ◌&&◌, ◌||◌}
use mathlib.Core.Option
use mathlib.Core.Option.{Option, some, none, bind}
use native.Mathlib.Omega.{arith}
use lib.Dec.{leb, eqb}
use borrow.Author.Tests.{eqb-true, le-ltb}
use Rattle.wire_cbor.specs.Item.{Item}
use Rattle.wire_cbor.specs.Scan.{key_head_of, pairs_in}
use Rattle.wire_cbor.specs.declared.heads.KeyHead.{KeyHead}
use Rattle.wire_fields.specs.Fields.{number_up_to, truth, map_in, needed, optional, amount_in, only_true, success_in}
use Rattle.wire_fields.specs.Ranges.{up_to_most}
use Rattle.wire_fields.specs.KeyHeads.{found, Reads, UintReads, MapReads, number_seen, amount_of}

-- a test that says of the head what f makes of the field
module _ {X : Type 0} (f : Option Item → Option X) (t : KeyHead → Bool) (x : KeyHead → X) (h : (o : Option Item) → f o ≡ found (t (key_head_of o)) (x (key_head_of o))) where
  pub reads-by : (k : KeyHead) (r : Bool) → r ≡ t k → Reads k f r (x k)
  unfolding Reads
  reads-by k r e o q = h o ∙ ap (λ (j : KeyHead). found (t j) (x j)) (sym q) ∙ ap (λ (b : Bool). found b (x k)) (sym e)

-- UNSIGNED NUMBERS
abbrev uint_test : ℕ → KeyHead → Bool
uint_test most k = number_seen (up_to_most most) k

uint_key_head : (most : ℕ) (o : Option Item) → needed (number_up_to most) o ≡ found (uint_test most (key_head_of o)) (key_head_of o).arg
unfolding needed number_up_to key_head_of
uint_key_head most none = refl
uint_key_head most (some (Item.uint v)) = refl
uint_key_head most (some (Item.nint v)) = rw (le-ltb v 0 (omega arith)) refl
uint_key_head most (some (Item.bytes b)) = refl
uint_key_head most (some (Item.text b)) = refl
uint_key_head most (some (Item.array is)) = refl
uint_key_head most (some (Item.map m)) = refl
uint_key_head most (some (Item.simple v)) = refl

-- an answer is changed with what is found
pub map_found : {X Y : Type 0} (g : X → Y) (ok : Bool) (x : X) → Option.map g (found ok x) ≡ found ok (g x)
map_found g true x = refl
map_found g false x = refl

amount-key_head : (most : ℕ) (o : Option Item) → amount_in most o ≡ found (eqb (key_head_of o).major 8 || uint_test most (key_head_of o)) (amount_of (key_head_of o))
unfolding amount_in optional number_up_to key_head_of amount_of
amount-key_head most none = refl
amount-key_head most (some (Item.uint v)) = map_found Some (leb v most) v
amount-key_head most (some (Item.nint v)) = rw (le-ltb v 0 (omega arith)) refl
amount-key_head most (some (Item.bytes b)) = refl
amount-key_head most (some (Item.text b)) = refl
amount-key_head most (some (Item.array is)) = refl
amount-key_head most (some (Item.map m)) = refl
amount-key_head most (some (Item.simple v)) = refl

pub uint_reads : (must : Bool) (most : ℕ) (k : KeyHead) (r : Bool) → r ≡ ((not must && eqb k.major 8) || uint_test most k) → UintReads k must most r
unfolding UintReads
uint_reads true most = reads-by _ (uint_test most) (λ k. k.arg) (uint_key_head most)
uint_reads false most = reads-by _ (λ k. eqb k.major 8 || uint_test most k) amount_of (amount-key_head most)

-- TRUTHS
truth-of : (v : ℕ) (a b : Bool) → eqb v 20 ≡ a → eqb v 21 ≡ b → cond a (some false) (cond b (some true) none) ≡ found (a || b) b
truth-of v true true x y = absurd (let p = eqb-true v 20 x in let q = eqb-true v 21 y in omega arith)
truth-of v true false x y = refl
truth-of v false true x y = refl
truth-of v false false x y = refl

truth-key_head : (o : Option Item) → needed truth o ≡ found (eqb (key_head_of o).major 7 && (eqb (key_head_of o).arg 20 || eqb (key_head_of o).arg 21)) (eqb (key_head_of o).arg 21)
unfolding needed truth key_head_of
truth-key_head none = refl
truth-key_head (some (Item.uint v)) = refl
truth-key_head (some (Item.nint v)) = refl
truth-key_head (some (Item.bytes b)) = refl
truth-key_head (some (Item.text b)) = refl
truth-key_head (some (Item.array is)) = refl
truth-key_head (some (Item.map m)) = refl
truth-key_head (some (Item.simple v)) = truth-of v (eqb v 20) (eqb v 21) refl refl

pub truth_reads : (k : KeyHead) (r : Bool) → r ≡ (eqb k.major 7 && (eqb k.arg 20 || eqb k.arg 21)) → Reads k (needed truth) r (eqb k.arg 21)
truth_reads = reads-by _ (λ k. eqb k.major 7 && (eqb k.arg 20 || eqb k.arg 21)) (λ k. eqb k.arg 21) truth-key_head

success_of : (m a b : Bool) → bind (found (m && (a || b)) b) only_true ≡ found (m && b) true
unfolding bind
success_of true true true = refl
success_of true true false = refl
success_of true false true = refl
success_of true false false = refl
success_of false a b = refl

success_key_head : (o : Option Item) → success_in o ≡ found (eqb (key_head_of o).major 7 && eqb (key_head_of o).arg 21) true
unfolding success_in
success_key_head o = ap (λ (x : Option Bool). bind x only_true) (truth-key_head o) ∙ success_of (eqb (key_head_of o).major 7) (eqb (key_head_of o).arg 20) (eqb (key_head_of o).arg 21)

pub success_reads : (k : KeyHead) (r : Bool) → r ≡ (eqb k.major 7 && eqb k.arg 21) → Reads k success_in r true
success_reads = reads-by _ (λ k. eqb k.major 7 && eqb k.arg 21) (λ k. true) success_key_head

-- MAPS
map-key_head : (o : Option Item) → needed map_in o ≡ found (eqb (key_head_of o).major 5) (pairs_in o)
unfolding needed map_in key_head_of
map-key_head none = refl
map-key_head (some (Item.uint v)) = refl
map-key_head (some (Item.nint v)) = refl
map-key_head (some (Item.bytes b)) = refl
map-key_head (some (Item.text b)) = refl
map-key_head (some (Item.array is)) = refl
map-key_head (some (Item.map m)) = refl
map-key_head (some (Item.simple v)) = refl

pub map-reads : (k : KeyHead) → MapReads k (eqb k.major 5)
unfolding MapReads
map-reads k o q = map-key_head o ∙ ap (λ (x : KeyHead). found (eqb x.major 5) (pairs_in o)) (sym q)
