-- A pass over a payload, case by case, as its functions find it. Assumes nothing.
use Prim.Native.Nat.{ℕ, zero, suc, ◌+◌, ◌-◌, ◌*◌, ◌/◌, ◌%◌, ◌≤◌, ◌<◌}
use mathlib.Core.Path.{◌≡◌, refl, sym, ap, subst, ◌∙◌}
use mathlib.Core.Logic.{⊎_elim}
use mathlib.Core.Bool.{Bool, true, false, cond}
use mathlib.Core.List.{List}
use mathlib.Core.Option.{some, none}
use native.Mathlib.Omega.{arith}
use lib.ListN.{length}
use lib.Dec.{eqb, ltb}
use borrow.Author.Tests.{lt-ltb, le-ltb, ltb-true, eq-eqb, ne_eqb, eqb-true}
use Rattle.wire_bytes.specs.Bytes.{Bytes}
use Rattle.std.specs.Prelude.{Some, None}
use Rattle.wire_heads.specs.Head.{HeadRead, head_is, head_at}
use Rattle.wire_cbor.specs.Item.{Item, Pairs, Got, got, bad, pairs_at, item_at, EndRead, end_of, levels, payload_of, is_some, Ok}
use Rattle.wire_heads.specs.Key.{KeyRead, key_is, key_at}
use Rattle.wire_cbor.specs.Scan.{KEYS, LEVELS, STEP, head, key_head_of, pairs_in, key_heads_of, words_of}
use Rattle.wire_cbor.specs.Pass.{blank, note_at, noted, note_head, note_key, note_from, Left}
use Rattle.wire_bytes.proofs.Order.{below, one_more}
use Rattle.wire_heads.proofs.HeadLaws.{head_parts}
use Rattle.wire_cbor.proofs.Sound.{then_inv, key_found, Sound, item_sound}
use Rattle.wire_cbor.proofs.ItemSteps.{pairs-none, pairs-more, pairs_next, by_head, rest_map, ended, refused}
use Rattle.wire_cbor.proofs.Seen.{major_of, arg_of, read_head_of, pairs-step}
use Rattle.wire_cbor.proofs.Passes.{within, pass-exact}

module _ {X : Type 0} where
  pub left_bad : (g : Got X) (f : X → List ℕ) (l : List ℕ) → g ≡ bad → Left g f l
  left_bad g f l e = rw e tt

  pub left_by_lem : (g : Got X) (f : X → List ℕ) (l : List ℕ) → ((x : X) (e : ℕ) → g ≡ got x e → l ≡ f x) → Left g f l
  left_by_lem (got x e) f l h = h x e refl
  left_by_lem bad f l h = tt

  pub left_is : (g : Got X) (f : X → List ℕ) (l : List ℕ) → Left g f l → (x : X) (e : ℕ) → g ≡ got x e → l ≡ f x
  left_is g f l h x e w = rw w at h

-- a head that was read is the item's own
key-head-of : (i : Item) → head (major_of i) (arg_of i) ≡ key_head_of (some i)
unfolding key_head_of
key-head-of (Item.uint v) = refl
key-head-of (Item.nint v) = refl
key-head-of (Item.bytes b) = refl
key-head-of (Item.text b) = refl
key-head-of (Item.array is) = refl
key-head-of (Item.map ps) = refl
key-head-of (Item.simple v) = refl

not-map : (i : Item) → (major_of i ≡ 5 → ⊥) → pairs_in (some i) ≡ Pairs.empty
not-map (Item.uint v) ne = refl
not-map (Item.nint v) ne = refl
not-map (Item.bytes b) ne = refl
not-map (Item.text b) ne = refl
not-map (Item.array is) ne = refl
not-map (Item.map ps) ne = absurd (ne refl)
not-map (Item.simple v) ne = refl

module _ (f : List ℕ → ℕ → Item → List ℕ) (l : List ℕ) (k : ℕ) (i : Item) (ps : Pairs) where
  noted_small : k < KEYS → noted f l (Pairs.pair k i ps) ≡ noted f (f l k i) ps
  unfolding noted
  noted_small lt = ap (λ (b : Bool). noted f (cond b (f l k i) l) ps) (lt-ltb k KEYS lt)

  noted-big : KEYS ≤ k → noted f l (Pairs.pair k i ps) ≡ noted f l ps
  unfolding noted
  noted-big ge = ap (λ (b : Bool). noted f (cond b (f l k i) l) ps) (le-ltb k KEYS ge)

-- a key at a level, with the levels below it
module _ (path level : ℕ) (l : List ℕ) (k : ℕ) (i : Item) where
  note_last : LEVELS ≤ level + 1 → note_from path level l k i ≡ note_head level l k i
  unfolding note_key
  note_last h = let z : LEVELS - 1 - level ≡ 0 = omega arith in rw z

  note_deeper : level + 1 < LEVELS
      → note_from path level l k i ≡ cond (eqb k (path % STEP)) (noted (note_from (path / STEP) (level + 1)) (note_head level l k i) (pairs_in (some i))) (note_head level l k i)
  unfolding note_key
  note_deeper h = let z : LEVELS - 1 - level ≡ suc (LEVELS - 1 - (level + 1)) = omega arith in rw z

-- large keys are not noted
noted-large : (g : List ℕ → ℕ → Item → List ℕ) (s : List ℕ) (f : ℕ → Got Item) (n lo p e : ℕ) (ps : Pairs) (l : List ℕ) → pairs_at s f n lo p ≡ got ps e → KEYS ≤ lo → noted g l ps ≡ l
unfolding pairs_at noted
noted-large g s f zero lo p e ps l h le = let a : ps ≡ Pairs.empty = cc in rw a
noted-large g s f (suc n) lo p e ps l h le =
    let t = pairs-step s f n lo p e ps h in
    let o = t.order in
    ap (noted g l) t.whole ∙ noted-big g l t.key t.item t.rest (omega arith) ∙ noted-large g s f n (t.key + 1) t.next e t.rest l t.behind (omega arith)

-- how a walk over pairs ends: the position past them, and the words
abbrev pub Ends : (List ℕ → ℕ → Item → List ℕ) → Got Pairs → List ℕ → EndRead → List ℕ → Type 0
Ends g ps l r m = (r ≡ end_of ps) × Left ps (noted g l) m

-- the rest of a walk ends as the whole does
abbrev pub Onward : (List ℕ → ℕ → Item → List ℕ) → Got Pairs → List ℕ → Got Pairs → List ℕ → Type 0
Onward g ps l qs l₀ = (r : EndRead) (m : List ℕ) → Ends g ps l r m → Ends g qs l₀ r m

module _ (g : List ℕ → ℕ → Item → List ℕ) (s : List ℕ) (f : ℕ → Got Item) (lo p n : ℕ) (l : List ℕ) where
  pub ends-none : n ≡ 0 → Ends g (pairs_at s f n lo p) l (Some p) l
  unfolding noted
  ends-none z = subst (λ (ps : Got Pairs). Ends g ps l (Some p) l) (pairs-none s f lo p n z) (refl, refl)

  pub ends-bad : bad ≡ pairs_at s f n lo p → (m : List ℕ) → Ends g (pairs_at s f n lo p) l None m
  ends-bad e m = subst (λ (ps : Got Pairs). Ends g ps l None m) e (refl, tt)

  module _ (nz : n ≡ 0 → ⊥) (h : KeyRead) (e : h ≡ key_at s lo p) (k q : ℕ) (w : h ≡ key_is k q) where
    pub ends-large : KEYS ≤ k → (r : EndRead) → r ≡ end_of (pairs_at s f n lo p) → Ends g (pairs_at s f n lo p) l r l
    unfolding noted
    ends-large large r x = (
      x,
      left_by_lem (pairs_at s f n lo p) (noted g l) l (λ ps e' y.
          let t = pairs-step s f (n - 1) lo p e' ps (ap (λ (j : ℕ). pairs_at s f j lo p) (sym (one_more n nz)) ∙ y) in
          let b = (key_found s lo p k q (sym e ∙ w)).0 in
          let c = (head_parts 0 t.key t.at 0 k q (sym t.head ∙ b)).1 in
          sym (ap (noted g l) t.whole ∙ noted-big g l t.key t.item t.rest (omega arith) ∙ noted-large g s f (n - 1) (t.key + 1) t.next e' t.rest l t.behind (omega arith))),
    )

    pub ends_next : k < KEYS → (i : Item) (e' : ℕ) → f q ≡ got i e' → (l' : List ℕ) → l' ≡ g l k i → Onward g (pairs_at s f (n - 1) (k + 1) e') l' (pairs_at s f n lo p) l
    unfolding noted
    ends_next small i e' b l' le r m x = (
      x.0 ∙ pairs_next s f lo p n nz h e k q w i e' b,
      left_by_lem (pairs_at s f n lo p) (noted g l) m (λ ps e'' y.
          let u = then_inv (pairs_at s f (n - 1) (k + 1) e') _ ps e'' (sym (pairs-more s f lo p n nz h e k q w i e' b) ∙ y) in
          let c : Pairs.pair k i u.0 ≡ ps = cc in
          left_is (pairs_at s f (n - 1) (k + 1) e') (noted g l') m x.1 u.0 u.1 u.2 ∙ ap (λ (x : List ℕ). noted g x u.0) le ∙ sym (noted_small g l k i u.0 small) ∙ ap (noted g l) c),
    )

-- a value, by its head
module _ (s : List ℕ) (ok : Bytes s) (d p : ℕ) (h : HeadRead) (e : h ≡ head_at s p) (m v q : ℕ) (w : h ≡ head_is m v q) where
  own : (i : Item) (e' : ℕ) → item_at s d p ≡ got i e' → (m ≡ major_of i) × (v ≡ arg_of i)
  own i e' g = let parts = head_parts m v q (major_of i) (arg_of i) _ (sym w ∙ e ∙ read_head_of s ok d p e' i g) in (parts.0, parts.1)

  -- a map's pairs
  module _ (z : m ≡ 5) (nz : d ≡ 0 → ⊥) where
    map-pairs : (i : Item) (e' : ℕ) → item_at s d p ≡ got i e' → (ps : Pairs) × (j : ℕ) × (pairs_at s (item_at s (d - 1)) v 0 q ≡ got ps j) × (i ≡ Item.map ps)
    map-pairs i e' g =
        let u = then_inv (pairs_at s (item_at s (d - 1)) v 0 q) _ i e' (sym (rest_map s m v q d (omega arith) (omega arith) nz z) ∙ by_head s d p (head_is m v q) (sym w ∙ e) ∙ g) in
        let c : i ≡ Item.map u.0 = cc in
        (u.0, u.1, u.2, c)

  module _ (path level k : ℕ) (l l' : List ℕ) (n : l' ≡ note_at l (level * KEYS + k) (head m v)) (o : Bool)
      (t : o ≡ cond (eqb k (path % STEP)) (cond (ltb (level + 1) LEVELS) (eqb m 5) false) false) where
    as_plain : (i : Item) (e' : ℕ) → item_at s d p ≡ got i e' → l' ≡ note_head level l k i
    as_plain i e' g = let a = own i e' g in n ∙ rw (a.0, a.1, key-head-of i)

    pub value_plain : o ≡ false → Left (item_at s d p) (note_from path level l k) l'
    unfolding noted
    value_plain out = left_by_lem (item_at s d p) (note_from path level l k) l' (λ i e' g. as_plain i e' g ∙ ⊎_elim
        (λ (deep : level + 1 < LEVELS).
        go i (own i e' g).0 (eqb k (path % STEP)) (rw (lt-ltb (level + 1) LEVELS deep) at (sym t ∙ out)) ∙ sym (note_deeper path level l k i deep))
        (λ (last : LEVELS ≤ level + 1). sym (note_last path level l k i last))
        (below (level + 1) LEVELS))
      where
        go : (i : Item) → m ≡ major_of i → (c : Bool) → cond c (eqb m 5) false ≡ false
            → note_head level l k i ≡ cond c (noted (note_from (path / STEP) (level + 1)) (note_head level l k i) (pairs_in (some i))) (note_head level l k i)
        go i a true r = rw (not-map i (λ z. let y = eq-eqb m 5 (a ∙ z) in let x : ◌≡◌ {A = ℕ} 0 1 = cc in omega arith))
        go i a false r = refl

    pub value_under : o ≡ true → (m ≡ 5) × (k ≡ path % STEP) × (level + 1 < LEVELS)
    value_under is = go (eqb k (path % STEP)) (ltb (level + 1) LEVELS) (eqb m 5) refl refl refl (sym t ∙ is)
      where
        go : (x y z : Bool) → eqb k (path % STEP) ≡ x → ltb (level + 1) LEVELS ≡ y → eqb m 5 ≡ z → cond x (cond y z false) false ≡ true
            → (m ≡ 5) × (k ≡ path % STEP) × (level + 1 < LEVELS)
        go true true true hx hy hz r = (eqb-true m 5 hz, eqb-true k (path % STEP) hx, ltb-true (level + 1) LEVELS hy)
        go true true false hx hy hz r = absurd (let z : ◌≡◌ {A = ℕ} 0 1 = cc in omega arith)
        go true false z hx hy hz r = absurd (let z : ◌≡◌ {A = ℕ} 0 1 = cc in omega arith)
        go false y z hx hy hz r = absurd (let z : ◌≡◌ {A = ℕ} 0 1 = cc in omega arith)

    pub value_map : o ≡ true → (d ≡ 0 → ⊥) → (l'' : List ℕ) → Left (pairs_at s (item_at s (d - 1)) v 0 q) (noted (note_from (path / STEP) (level + 1)) l') l''
        → Left (item_at s d p) (note_from path level l k) l''
    value_map is nz l'' y = left_by_lem (item_at s d p) (note_from path level l k) l'' (λ i e' g.
        let z = value_under is in
        let x = map-pairs z.0 nz i e' g in
        left_is (pairs_at s (item_at s (d - 1)) v 0 q) (noted (note_from (path / STEP) (level + 1)) l') l'' y x.0 x.1 x.2
        ∙ ap (λ (j : Item). noted (note_from (path / STEP) (level + 1)) l' (pairs_in (some j))) (sym x.3)
        ∙ ap (λ (j : List ℕ). noted (note_from (path / STEP) (level + 1)) j (pairs_in (some i))) (as_plain i e' g)
        ∙ sym (note_deeper path level l k i z.2 ∙ rw (eq-eqb k (path % STEP) z.1)))

  -- the item that starts the payload
  module _ (g : List ℕ → ℕ → Item → List ℕ) (l l₀ : List ℕ) (c : l ≡ l₀) where
    pub root_plain : (m ≡ 5 → ⊥) → Left (item_at s d p) (λ i. noted g l₀ (pairs_in (some i))) l
    unfolding noted
    root_plain ne = left_by_lem (item_at s d p) (λ i. noted g l₀ (pairs_in (some i))) l (λ i e' x. rw (not-map i (λ z. ne ((own i e' x).0 ∙ z))) c)

    pub root_map : m ≡ 5 → (d ≡ 0 → ⊥) → (l' : List ℕ) → Left (pairs_at s (item_at s (d - 1)) v 0 q) (noted g l) l' → Left (item_at s d p) (λ i. noted g l₀ (pairs_in (some i))) l'
    root_map z nz l' y = left_by_lem (item_at s d p) (λ i. noted g l₀ (pairs_in (some i))) l' (λ i e' x.
        let a = map-pairs z nz i e' x in
        left_is (pairs_at s (item_at s (d - 1)) v 0 q) (noted g l) l' y a.0 a.1 a.2 ∙ ap (λ (j : List ℕ). noted g j a.0) c ∙ ap (λ (j : Item). noted g l₀ (pairs_in (some j))) (sym a.3))

-- the whole of a payload
module _ (s : List ℕ) (ok : Bytes s) (u : ℕ) (r : EndRead) (x : r ≡ end_of (item_at s levels 0)) where
  pub scan_taken : (e : ℕ) → r ≡ Some e → e ≡ length s → (m : List ℕ) → Left (item_at s levels 0) (λ i. noted (note_from u 0) blank (pairs_in (some i))) m
      → (true ≡ is_some (payload_of s)) × (m ≡ words_of (key_heads_of u (payload_of s)))
  unfolding payload_of key_heads_of Sound
  scan_taken e is all m y =
      let g = ended (item_at s levels 0) e (sym is ∙ x) in
      let o = within g.0 levels (item_sound s ok levels 0 e g.0 g.1).1 in
      rw (g.1, eq-eqb e (length s) all) (refl, left_is (item_at s levels 0) (λ i. noted (note_from u 0) blank (pairs_in (some i))) m y g.0 e g.1 ∙ pass-exact u o.0 0 (pairs_in (some g.0)) o.1)

  -- the same words for all that is refused
  refusal : payload_of s ≡ none → (m : List ℕ) → m ≡ blank → (false ≡ is_some (payload_of s)) × (m ≡ words_of (key_heads_of u (payload_of s)))
  unfolding key_heads_of Ok noted
  refusal e m w = rw e (refl, w ∙ pass-exact u 0 0 Pairs.empty tt)

  pub scan_refused : r ≡ None → (m : List ℕ) → m ≡ blank → (false ≡ is_some (payload_of s)) × (m ≡ words_of (key_heads_of u (payload_of s)))
  unfolding payload_of
  scan_refused is = refusal (rw (refused (item_at s levels 0) (sym is ∙ x)))

  pub scan_longer : (e : ℕ) → r ≡ Some e → (e ≡ length s → ⊥) → (m : List ℕ) → m ≡ blank → (false ≡ is_some (payload_of s)) × (m ≡ words_of (key_heads_of u (payload_of s)))
  unfolding payload_of
  scan_longer e is ne = let g = ended (item_at s levels 0) e (sym is ∙ x) in refusal (rw (g.1, ne_eqb e (length s) ne))
