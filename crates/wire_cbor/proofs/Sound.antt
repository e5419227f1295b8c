-- An item that was read is well formed, and its encoding stands where it was read. Assumes nothing.
use Prim.Native.Nat.{ℕ, zero, suc, ◌+◌, ◌-◌, ◌^◌, ◌<◌, ◌≤◌}
use mathlib.Core.Path.{◌≡◌, refl, sym, ap, subst, subst₂, ◌∙◌}
use mathlib.Core.Logic.{⊎_elim}
use mathlib.Core.Bool.{Bool, true, false, cond}
use mathlib.Core.List.{List, [], ◌++◌, append_assoc}
use native.Mathlib.Omega.{arith}
use lib.ListN.{length, take, drop, length-append, length-take, length-drop, take-append-drop}
use lib.Seq.{drop-drop, get_or-take, get_or-drop}
use lib.Dec.{leb, eqb}
use borrow.Author.Tests.{leb-true, eqb-true, eqb-false, lt-leb}
use Rattle.wire_bytes.specs.Bytes.{Bytes, Stands}
use Rattle.wire_heads.specs.Head.{HeadRead, head_is, head_bytes, head_at, Within}
use Rattle.std.specs.Prelude.{Some, None}
use Rattle.wire_cbor.specs.Item.{Item, Items, Pairs, Got, got, bad, and_then, keyed, items_at, pairs_at, from_head, item_at, encode, encode_items, encode_pairs, count, count_pairs, Ok, OkItems, OkPairs}
use Rattle.wire_heads.specs.Key.{KeyRead, key_is, key_of, key_at}
use Rattle.wire_bytes.proofs.Order.{below}
use Rattle.wire_bytes.proofs.NumberLaws.{zero-past}
use Rattle.wire_heads.proofs.HeadLaws.{HeadFound, head-found}
use Rattle.wire_heads.proofs.KeySteps.{key_parts}

-- one run of bytes behind the other
pub join : (s a b : List ℕ) (p q e : ℕ) → Stands s p a q → Stands s q b e → Stands s p (a ++ b) e
join s a b p q e f g = record {
  bytes = f.bytes ∙ ap (λ (l : List ℕ). a ++ l) g.bytes ∙ sym (append_assoc a b (drop e s));
  len = omega (arith, length-append a b, f.len, g.len);
  fits = g.fits;
}

nothing : (s : List ℕ) (p : ℕ) → p ≤ length s → Stands s p [] p
nothing s p h = record { bytes = refl; len = omega arith; fits = h }

string_stands : (s : List ℕ) (e v : ℕ) → e ≤ length s → v ≤ length s - e → Stands s e (take v (drop e s)) (e + v)
string_stands s e v le h = record {
  bytes = sym (take-append-drop v (drop e s)) ∙ ap (λ (l : List ℕ). take v (drop e s) ++ l) (drop-drop v e s);
  len = omega (arith, length-take v (drop e s), length-drop e s);
  fits = omega arith;
}

-- what a reader that went on had read
module _ {X Y : Type 0} where
  pub then_inv : (g : Got X) (k : X → ℕ → Got Y) (y : Y) (e : ℕ) → and_then g k ≡ got y e → (x : X) × (q : ℕ) × (g ≡ got x q) × (k x q ≡ got y e)
  then_inv (got x q) k y e h = (x, q, refl, h)
  then_inv bad k y e h = absurd (let z : ◌≡◌ {A = ℕ} 0 1 = cc in omega arith)

pub keyed-inv : {X : Type 0} (h : KeyRead) (k : ℕ → ℕ → Got X) (y : X) (e : ℕ) → keyed h k ≡ got y e → (key : ℕ) × (q : ℕ) × (h ≡ key_is key q) × (k key q ≡ got y e)
keyed-inv (Some x) k y e h = (x.key, x.next, refl, h)
keyed-inv None k y e h = absurd (let z : ◌≡◌ {A = ℕ} 0 1 = cc in omega arith)

-- a key that was read
key-of : (lo k q : ℕ) (h : HeadRead) → key_of lo h ≡ key_is k q → (h ≡ head_is 0 k q) × (lo ≤ k)
key-of lo k q (Some x) = go (eqb x.major 0) (leb lo x.arg) refl refl
  where
    go : (a b : Bool) → eqb x.major 0 ≡ a → leb lo x.arg ≡ b → cond a (cond b (key_is x.arg x.next) None) None ≡ key_is k q → (head_is x.major x.arg x.next ≡ head_is 0 k q) × (lo ≤ k)
    go true true ha hb h =
        let p = key_parts x.arg x.next k q h in
        let z = eqb-true x.major 0 ha in
        (rw (z, p.0, p.1), omega (arith, leb-true lo x.arg hb))
    go true false ha hb h = absurd (let z : ◌≡◌ {A = ℕ} 0 1 = cc in omega arith)
    go false b ha hb h = absurd (let z : ◌≡◌ {A = ℕ} 0 1 = cc in omega arith)
key-of lo k q None = λ h. absurd (let z : ◌≡◌ {A = ℕ} 0 1 = cc in omega arith)

pub key_found : (s : List ℕ) (lo p k q : ℕ) → key_at s lo p ≡ key_is k q → (head_at s p ≡ head_is 0 k q) × (lo ≤ k)
unfolding key_at
key_found s lo p k q h = key-of lo k q (head_at s p) h

-- what a reader of items within d levels has to show
unfoldable pub Sound : List ℕ → ℕ → (ℕ → Got Item) → Type 0
Sound s d f = (p e : ℕ) (i : Item) → f p ≡ got i e → Stands s p (encode i) e × Ok i d

items_sound : (s : List ℕ) (d : ℕ) (f : ℕ → Got Item) → Sound s d f → (n p e : ℕ) (is : Items) → p ≤ length s → items_at f n p ≡ got is e → Stands s p (encode_items is) e × (count is ≡ n) × OkItems is d
unfolding items_at Sound encode count Ok
items_sound s d f hf zero p e is le h =
    let a : Items.none ≡ is = cc in
    let b : p ≡ e = cc in
    rw (← a, ← b) (nothing s p le, refl, tt)
items_sound s d f hf (suc n) p e is le h =
    let u = then_inv (f p) _ is e h in
    let v = then_inv (items_at f n u.1) _ is e u.3 in
    let a : Items.more u.0 v.0 ≡ is = cc in
    let b : v.1 ≡ e = cc in
    let x = hf p u.1 u.0 u.2 in
    let y = items_sound s d f hf n u.1 v.1 v.0 x.0.fits v.2 in
    subst₂ (λ (z : Items) (j : ℕ). Stands s p (encode_items z) j × (count z ≡ suc n) × OkItems z d) a b
    (join s (encode u.0) (encode_items v.0) p u.1 v.1 x.0 y.0, ap suc y.1, (x.1, y.2))

pairs-sound : (s : List ℕ) → Bytes s → (d : ℕ) (f : ℕ → Got Item) → Sound s d f → (n lo p e : ℕ) (ps : Pairs) → p ≤ length s → pairs_at s f n lo p ≡ got ps e
    → Stands s p (encode_pairs ps) e × (count_pairs ps ≡ n) × OkPairs ps lo d
unfolding pairs_at Sound encode count_pairs Ok
pairs-sound s ok d f hf zero lo p e ps le h =
    let a : Pairs.empty ≡ ps = cc in
    let b : p ≡ e = cc in
    rw (← a, ← b) (nothing s p le, refl, tt)
pairs-sound s ok d f hf (suc n) lo p e ps le h =
    let w = keyed-inv (key_at s lo p) _ ps e h in
    let k = key_found s lo p w.0 w.1 w.2 in
    let hd = head-found s ok p 0 w.0 w.1 k.0 in
    let u = then_inv (f w.1) _ ps e w.3 in
    let v = then_inv (pairs_at s f n (w.0 + 1) u.1) _ ps e u.3 in
    let a : Pairs.pair w.0 u.0 v.0 ≡ ps = cc in
    let b : v.1 ≡ e = cc in
    let x = hf w.1 u.1 u.0 u.2 in
    let y = pairs-sound s ok d f hf n (w.0 + 1) u.1 v.1 v.0 x.0.fits v.2 in
    subst₂ (λ (z : Pairs) (j : ℕ). Stands s p (encode_pairs z) j × (count_pairs z ≡ suc n) × OkPairs z lo d) a b (
      join s (head_bytes 0 w.0) (encode u.0 ++ encode_pairs v.0) p w.1 v.1 hd.stands (join s (encode u.0) (encode_pairs v.0) w.1 u.1 v.1 x.0 y.0),
      ap suc y.1,
      (k.1, hd.small, x.1, y.2),
    )

-- above 5 the subset has false, true and null alone
pub allowed-rest : (m v : ℕ) → Within m v → leb m 5 ≡ false → (m ≡ 7) × (20 ≤ v) × (v ≤ 22)
allowed-rest m v al no5 = go (eqb m 7) (leb 20 v) (leb v 22) refl refl refl (rw no5 at al)
  where
    go : (a b c : Bool) → eqb m 7 ≡ a → leb 20 v ≡ b → leb v 22 ≡ c → cond false true (cond a (cond b c false) false) ≡ true → (m ≡ 7) × (20 ≤ v) × (v ≤ 22)
    go true true true ha hb hc h = (eqb-true m 7 ha, leb-true 20 v hb, leb-true v 22 hc)
    go true true false ha hb hc h = absurd (let z : ◌≡◌ {A = ℕ} 0 1 = cc in omega arith)
    go true false c ha hb hc h = absurd (let z : ◌≡◌ {A = ℕ} 0 1 = cc in omega arith)
    go false b c ha hb hc h = absurd (let z : ◌≡◌ {A = ℕ} 0 1 = cc in omega arith)

part_bytes : (s : List ℕ) → Bytes s → (v q : ℕ) → Bytes (take v (drop q s))
unfolding Bytes
part_bytes s ok v q k = ⊎_elim
    (λ h. rw (get_or-take v (drop q s) k 0 h, get_or-drop q s k 0) (ok (q + k)))
    (λ h. rw (sym (zero-past (take v (drop q s)) k (omega (arith, length-take v (drop q s))))) (omega arith))
    (below k v)

got_is : (P : Item → ℕ → Type 0) (x i : Item) (j e : ℕ) → got x j ≡ got i e → P x j → P i e
got_is P x i j e h w = let a : x ≡ i = cc in let b : j ≡ e = cc in subst₂ P a b w

-- an item by its head, given that its items and pairs are sound
module _ (s : List ℕ) (ok : Bytes s) (D : ℕ) (is : ℕ → ℕ → Got Items) (ps : ℕ → ℕ → Got Pairs)
    (his : (n p e : ℕ) (xs : Items) → p ≤ length s → is n p ≡ got xs e → Stands s p (encode_items xs) e × (count xs ≡ n) × (n < 2 ^ 64 → Ok (Item.array xs) D))
    (hps : (n p e : ℕ) (xs : Pairs) → p ≤ length s → ps n p ≡ got xs e → Stands s p (encode_pairs xs) e × (count_pairs xs ≡ n) × (n < 2 ^ 64 → Ok (Item.map xs) D))
  where
    from-is : (p e : ℕ) (i : Item) (m v q : ℕ) → head_at s p ≡ head_is m v q → from_head s is ps (head_is m v q) ≡ got i e → Stands s p (encode i) e × Ok i D
    unfolding from_head encode Ok
    from-is p e i m v q hh = go (eqb m 0) (eqb m 1) (eqb m 2) (eqb m 3) (eqb m 4) (eqb m 5) (leb v (length s - q)) refl refl refl refl refl refl refl
      where
        Holds : Item → ℕ → Type 0
        Holds x j = Stands s p (encode x) j × Ok x D

        hd : HeadFound s p m v q
        hd = head-found s ok p m v q hh

        fits : q ≤ length s
        fits = hd.stands.fits

        hs : (k : ℕ) → m ≡ k → Stands s p (head_bytes k v) q
        hs k w = subst (λ (j : ℕ). Stands s p (head_bytes j v) q) w hd.stands

        len : v ≤ length s - q → length (take v (drop q s)) ≡ v
        len h = omega (arith, length-take v (drop q s), length-drop q s)

        str : (k : ℕ) → m ≡ k → v ≤ length s - q → Stands s p (head_bytes k (length (take v (drop q s))) ++ take v (drop q s)) (q + v)
        str k w h =
            join s _ _ p q (q + v) (subst (λ (n : ℕ). Stands s p (head_bytes k n) q) (sym (len h)) (hs k w)) (string_stands s q v fits h)

        part : v ≤ length s - q → (length (take v (drop q s)) < 2 ^ 64) × Bytes (take v (drop q s))
        part h = (omega (arith, len h, hd.small), part_bytes s ok v q)

        go : (a b c d f g t : Bool) → eqb m 0 ≡ a → eqb m 1 ≡ b → eqb m 2 ≡ c → eqb m 3 ≡ d → eqb m 4 ≡ f → eqb m 5 ≡ g → leb v (length s - q) ≡ t
            → cond a (got (Item.uint v) q)
            (cond b (got (Item.nint v) q)
            (cond c (cond t (got (Item.bytes (take v (drop q s))) (q + v)) bad)
            (cond d (cond t (got (Item.text (take v (drop q s))) (q + v)) bad)
            (cond f (and_then (is v q) (λ xs e'. got (Item.array xs) e'))
            (cond g (and_then (ps v q) (λ xs e'. got (Item.map xs) e'))
            (got (Item.simple v) q)))))) ≡ got i e
            → Stands s p (encode i) e × Ok i D
        go true b c d f g t ha hb hc hd' hf hg ht w = got_is Holds _ _ _ _ w (hs 0 (eqb-true m 0 ha), hd.small)
        go false true c d f g t ha hb hc hd' hf hg ht w = got_is Holds _ _ _ _ w (hs 1 (eqb-true m 1 hb), hd.small)
        go false false true d f g true ha hb hc hd' hf hg ht w =
            got_is Holds _ _ _ _ w (str 2 (eqb-true m 2 hc) (leb-true v (length s - q) ht), part (leb-true v (length s - q) ht))
        go false false true d f g false ha hb hc hd' hf hg ht w = absurd (let z : ◌≡◌ {A = ℕ} 0 1 = cc in omega arith)
        go false false false true f g true ha hb hc hd' hf hg ht w =
            got_is Holds _ _ _ _ w (str 3 (eqb-true m 3 hd') (leb-true v (length s - q) ht), part (leb-true v (length s - q) ht))
        go false false false true f g false ha hb hc hd' hf hg ht w = absurd (let z : ◌≡◌ {A = ℕ} 0 1 = cc in omega arith)
        go false false false false true g t ha hb hc hd' hf hg ht w =
            let u = then_inv (is v q) _ i e w in
            let x = his v q u.1 u.0 fits u.2 in
            got_is Holds _ _ _ _ u.3
            (join s _ _ p q u.1 (subst (λ (n : ℕ). Stands s p (head_bytes 4 n) q) (sym x.1) (hs 4 (eqb-true m 4 hf))) x.0, x.2 hd.small)
        go false false false false false true t ha hb hc hd' hf hg ht w =
            let u = then_inv (ps v q) _ i e w in
            let x = hps v q u.1 u.0 fits u.2 in
            got_is Holds _ _ _ _ u.3
            (join s _ _ p q u.1 (subst (λ (n : ℕ). Stands s p (head_bytes 5 n) q) (sym x.1) (hs 5 (eqb-true m 5 hg))) x.0, x.2 hd.small)
        go false false false false false false t ha hb hc hd' hf hg ht w =
            let r = allowed-rest m v hd.within (lt-leb m 5 (omega (arith, eqb-false m 0 ha, eqb-false m 1 hb, eqb-false m 2 hc, eqb-false m 3 hd', eqb-false m 4 hf, eqb-false m 5 hg))) in
            got_is Holds _ _ _ _ w (hs 7 r.0, (r.1, r.2))

    from-sound : (p e : ℕ) (i : Item) (h : HeadRead) → head_at s p ≡ h → from_head s is ps h ≡ got i e → Stands s p (encode i) e × Ok i D
    unfolding from_head
    from-sound p e i (Some x) hh = from-is p e i x.major x.arg x.next hh
    from-sound p e i None hh = λ w. absurd (let z : ◌≡◌ {A = ℕ} 0 1 = cc in omega arith)

pub item_sound : (s : List ℕ) → Bytes s → (d : ℕ) → Sound s d (item_at s d)
unfolding Sound item_at Ok
item_sound s ok zero = λ p e i.
    from-sound s ok zero (λ n q. bad) (λ n q. bad)
    (λ n q x xs le h. absurd (let z : ◌≡◌ {A = ℕ} 0 1 = cc in omega arith)) (λ n q x xs le h. absurd (let z : ◌≡◌ {A = ℕ} 0 1 = cc in omega arith)) p e i (head_at s p) refl
item_sound s ok (suc d) = λ p e i.
    from-sound s ok (suc d) (items_at (item_at s d)) (λ n q. pairs_at s (item_at s d) n 0 q)
    (λ n q x xs le h. let r = items_sound s d (item_at s d) (item_sound s ok d) n q x xs le h in (r.0, r.1, λ b. (omega (arith, r.1), r.2)))
    (λ n q x xs le h. let r = pairs-sound s ok d (item_at s d) (item_sound s ok d) n 0 q x xs le h in (r.0, r.1, λ b. (omega (arith, r.1), r.2)))
    p e i (head_at s p) refl
