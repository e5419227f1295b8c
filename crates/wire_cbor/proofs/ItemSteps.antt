-- Where a reader stops, case by case, as the checkers find it. Assumes nothing.
use Prim.Native.Nat.{ℕ, zero, suc, ◌+◌, ◌-◌, ◌<◌, ◌≤◌}
use mathlib.Core.Path.{◌≡◌, refl, sym, ap, ◌∙◌}
use mathlib.Core.Logic.{⊎_elim}
use mathlib.Core.Bool.{Bool, true, false, cond}
use mathlib.Core.List.{List, ◌++◌}
use mathlib.Core.Option.{some, none}
use native.Mathlib.Omega.{arith}
use lib.ListN.{length, take, drop, length-append}
use lib.Dec.{leb, eqb}
use borrow.Author.Tests.{ne_eqb, lt-leb}
use Rattle.wire_bytes.specs.Bytes.{Bytes}
use Rattle.std.specs.Prelude.{Some, None}
use Rattle.wire_heads.specs.Head.{HeadRead, head_is, head_bytes, head_at}
use Rattle.wire_cbor.specs.Item.{Item, Items, Pairs, Got, got, bad, and_then, items_at, pairs_at, string_at, from_head}
use Rattle.wire_cbor.specs.Item.{item_at, rest_at, EndRead, end_of, levels, payload_of, is_some, encode, encode_items, encode_pairs, count, count_pairs}
use Rattle.wire_heads.specs.Key.{KeyRead, key_is, key_at}
use Rattle.wire_heads.specs.declared.reading.Head.{Head}
use Rattle.wire_bytes.proofs.Order.{below, one_more}
use Rattle.wire_heads.proofs.Widths.{head-length, len_positive}
use Rattle.wire_heads.proofs.HeadLaws.{head-found}
use Rattle.wire_cbor.proofs.Sound.{Sound, item_sound, key_found, allowed-rest}

-- what only wraps a value ends where it ended
end_wrap : {X Y : Type 0} (g : Got X) (k : X → Y) → end_of (and_then g (λ x e. got (k x) e)) ≡ end_of g
end_wrap (got x q) k = refl
end_wrap bad k = refl

-- an item has a byte at least
head-long : (m v : ℕ) (bs : List ℕ) → 1 ≤ length (head_bytes m v ++ bs)
head-long m v bs = omega (arith, length-append (head_bytes m v) bs, head-length m v, len_positive v)

encode_long : (i : Item) → 1 ≤ length (encode i)
unfolding encode
encode_long (Item.uint v) = omega (arith, head-length 0 v, len_positive v)
encode_long (Item.nint v) = omega (arith, head-length 1 v, len_positive v)
encode_long (Item.bytes b) = head-long 2 (length b) b
encode_long (Item.text b) = head-long 3 (length b) b
encode_long (Item.array xs) = head-long 4 (count xs) (encode_items xs)
encode_long (Item.map xs) = head-long 5 (count_pairs xs) (encode_pairs xs)
encode_long (Item.simple v) = omega (arith, head-length 7 v, len_positive v)

-- readers go forward and stay within the list
module _ (s : List ℕ) (ok : Bytes s) (p : ℕ) where
  pub item_ends : (d e : ℕ) (i : Item) → item_at s d p ≡ got i e → (p < e) × (e ≤ length s)
  unfolding Sound
  item_ends d e i h = let y = item_sound s ok d p e i h in (omega (arith, y.0.len, encode_long i), y.0.fits)

  pub head-ends : (m v e : ℕ) (r : HeadRead) → r ≡ head_at s p → r ≡ head_is m v e → (p < e) × (e ≤ length s)
  head-ends m v e r h w =
      let f = head-found s ok p m v e (sym h ∙ w) in
      (omega (arith, f.stands.len, head-length m v, len_positive v), f.stands.fits)

  pub key_ends : (lo k e : ℕ) (r : KeyRead) → r ≡ key_at s lo p → r ≡ key_is k e → (p < e) × (e ≤ length s)
  key_ends lo k e r h w = head-ends 0 k e (head_at s p) refl (key_found s lo p k e (sym h ∙ w)).0

-- the subset has no head of another major type
pub head-rest : (s : List ℕ) → Bytes s → (p m v e : ℕ) (r : HeadRead) → r ≡ head_at s p → r ≡ head_is m v e → (m ≡ 7 → ⊥) → m ≤ 5
head-rest s ok p m v e r h w n7 = ⊎_elim
    (λ (lt : m < 6). omega arith)
    (λ (ge : 6 ≤ m). absurd (n7 (allowed-rest m v (head-found s ok p m v e (sym h ∙ w)).within (lt-leb m 5 (omega arith))).0))
    (below m 6)

-- an array, item by item
module _ (f : ℕ → Got Item) (p n : ℕ) where
  pub items_none : n ≡ 0 → Some p ≡ end_of (items_at f n p)
  unfolding items_at
  items_none z = rw z

  module _ (nz : n ≡ 0 → ⊥) where
    pub items_bad : f p ≡ bad → None ≡ end_of (items_at f n p)
    unfolding items_at
    items_bad w = rw (one_more n nz, w)

    pub items_next : (i : Item) (e : ℕ) → f p ≡ got i e → end_of (items_at f (n - 1) e) ≡ end_of (items_at f n p)
    unfolding items_at
    items_next i e w = sym (ap (λ (k : ℕ). end_of (items_at f k p)) (one_more n nz) ∙ rw w (end_wrap (items_at f (n - 1) e) (Items.more i)))

-- a map, pair by pair
module _ (s : List ℕ) (f : ℕ → Got Item) (lo p n : ℕ) where
  pub pairs-none : n ≡ 0 → got Pairs.empty p ≡ pairs_at s f n lo p
  unfolding pairs_at
  pairs-none z = rw z

  module _ (nz : n ≡ 0 → ⊥) (h : KeyRead) (e : h ≡ key_at s lo p) where
    pub pairs-key : h ≡ None → bad ≡ pairs_at s f n lo p
    unfolding pairs_at
    pairs-key w = rw (one_more n nz, sym e ∙ w)

    module _ (k q : ℕ) (w : h ≡ key_is k q) where
      pub pairs-bad : f q ≡ bad → bad ≡ pairs_at s f n lo p
      unfolding pairs_at
      pairs-bad b = rw (one_more n nz, sym e ∙ w, b)

      pub pairs-more : (i : Item) (e' : ℕ) → f q ≡ got i e' → pairs_at s f n lo p ≡ and_then (pairs_at s f (n - 1) (k + 1) e') (λ ps e''. got (Pairs.pair k i ps) e'')
      unfolding pairs_at
      pairs-more i e' b = ap (λ (j : ℕ). pairs_at s f j lo p) (one_more n nz) ∙ rw (sym e ∙ w, b)

      pub pairs_next : (i : Item) (e' : ℕ) → f q ≡ got i e' → end_of (pairs_at s f (n - 1) (k + 1) e') ≡ end_of (pairs_at s f n lo p)
      pairs_next i e' b = sym (ap end_of (pairs-more i e' b) ∙ end_wrap (pairs_at s f (n - 1) (k + 1) e') (Pairs.pair k i))

flat : (a b c : Item) (q : ℕ) (x y : Bool) → Some q ≡ end_of (cond x (got a q) (cond y (got b q) (got c q)))
flat a b c q true y = refl
flat a b c q false true = refl
flat a b c q false false = refl

string_end : (s : List ℕ) (g : List ℕ → Item) (v q : ℕ) → end_of (string_at s g v q) ≡ cond (leb v (length s - q)) (Some (q + v)) None
string_end s g v q = go (leb v (length s - q))
  where
    go : (b : Bool) → end_of (cond b (got (g (take v (drop q s))) (q + v)) bad) ≡ cond b (Some (q + v)) None
    go true = refl
    go false = refl

-- an item, by its head
pub by_head : (s : List ℕ) (d p : ℕ) (h : HeadRead) → h ≡ head_at s p → rest_at s d h ≡ item_at s d p
unfolding item_at
by_head s zero p h e = ap (rest_at s 0) e
by_head s (suc d) p h e = ap (rest_at s (suc d)) e

pub item_rest : (s : List ℕ) (d p : ℕ) (h : HeadRead) → h ≡ head_at s p → (x : Head) → h ≡ Some x → (r : EndRead) → r ≡ end_of (rest_at s d (Some x)) → r ≡ end_of (item_at s d p)
item_rest s d p h e x w r g = g ∙ ap end_of (by_head s d p (Some x) (sym w ∙ e))

pub item_no_head : (s : List ℕ) (d p : ℕ) (h : HeadRead) → h ≡ head_at s p → h ≡ None → bad ≡ item_at s d p
unfolding from_head
item_no_head s d p h e w = ap (rest_at s d) (sym w) ∙ by_head s d p h e

-- what is behind a head
module _ (s : List ℕ) (m v q d : ℕ) where
  pub rest_flat : (2 ≤ m → m ≤ 5 → ⊥) → Some q ≡ end_of (rest_at s d (head_is m v q))
  unfolding from_head
  rest_flat out =
      let other : (k : ℕ) → 2 ≤ k → k ≤ 5 → eqb m k ≡ false = λ k g l. ne_eqb m k (λ z. out (omega arith) (omega arith)) in
      rw (
        other 2 (omega arith) (omega arith),
        other 3 (omega arith) (omega arith),
        other 4 (omega arith) (omega arith),
        other 5 (omega arith) (omega arith),
      ) (flat (Item.uint v) (Item.nint v) (Item.simple v) q (eqb m 0) (eqb m 1))

  pub rest_string : 2 ≤ m → m < 4 → (r : EndRead) → r ≡ cond (leb v (length s - q)) (Some (q + v)) None → r ≡ end_of (rest_at s d (head_is m v q))
  unfolding from_head
  rest_string g l r h = h ∙ ⊎_elim
      (λ (b : m < 3). let z : m ≡ 2 = omega arith in rw z (sym (string_end s Item.bytes v q)))
      (λ (t : 3 ≤ m). let z : m ≡ 3 = omega arith in rw z (sym (string_end s Item.text v q)))
      (below m 3)

  module _ (g : 4 ≤ m) (l : m ≤ 5) where
    pub rest_deep : d ≡ 0 → None ≡ end_of (rest_at s d (head_is m v q))
    unfolding from_head
    rest_deep z = rw z (⊎_elim
        (λ (b : m < 5). let w : m ≡ 4 = omega arith in rw w)
        (λ (t : 5 ≤ m). let w : m ≡ 5 = omega arith in rw w)
        (below m 5))

    module _ (nz : d ≡ 0 → ⊥) where
      pub rest_array : m ≡ 4 → (r : EndRead) → r ≡ end_of (items_at (item_at s (d - 1)) v q) → r ≡ end_of (rest_at s d (head_is m v q))
      unfolding from_head
      rest_array z r h = h ∙ sym (ap (λ (k : ℕ). end_of (rest_at s k (head_is m v q))) (one_more d nz) ∙ rw z (end_wrap (items_at (item_at s (d - 1)) v q) Item.array))

      pub rest_map : m ≡ 5 → rest_at s d (head_is m v q) ≡ and_then (pairs_at s (item_at s (d - 1)) v 0 q) (λ xs e'. got (Item.map xs) e')
      unfolding from_head
      rest_map z = ap (λ (k : ℕ). rest_at s k (head_is m v q)) (one_more d nz) ∙ rw z

      pub rest_pairs : m ≡ 5 → (r : EndRead) → r ≡ end_of (pairs_at s (item_at s (d - 1)) v 0 q) → r ≡ end_of (rest_at s d (head_is m v q))
      rest_pairs z r h = h ∙ sym (ap end_of (rest_map z) ∙ end_wrap (pairs_at s (item_at s (d - 1)) v 0 q) Item.map)

-- what a reader read, by its end
module _ {X : Type 0} where
  pub ended : (g : Got X) (e : ℕ) → Some e ≡ end_of g → (x : X) × (g ≡ got x e)
  ended (got x q) e h = (x, cc)
  ended bad e h = absurd (let z : ◌≡◌ {A = ℕ} 0 1 = cc in omega arith)

  pub refused : (g : Got X) → None ≡ end_of g → g ≡ bad
  refused (got x q) h = absurd (let z : ◌≡◌ {A = ℕ} 0 1 = cc in omega arith)
  refused bad h = refl

-- the whole of a list
module _ (s : List ℕ) (r : EndRead) (h : r ≡ end_of (item_at s levels 0)) where
  pub whole-bad : r ≡ None → false ≡ is_some (payload_of s)
  unfolding payload_of
  whole-bad w = rw (refused (item_at s levels 0) (sym w ∙ h))

  pub whole-ends : (e : ℕ) → r ≡ Some e → eqb e (length s) ≡ is_some (payload_of s)
  unfolding payload_of
  whole-ends e w = let x = ended (item_at s levels 0) e (sym w ∙ h) in rw x.1 (go x.0 (eqb e (length s)))
    where
      go : (i : Item) (b : Bool) → b ≡ is_some (cond b (some i) none)
      go i true = refl
      go i false = refl
