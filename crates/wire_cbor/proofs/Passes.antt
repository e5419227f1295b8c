-- What one pass over a map leaves: each head is the head of what stands under its key at its level. Assumes nothing.
use Prim.Native.Nat.{ℕ, zero, suc, ◌+◌, ◌-◌, ◌*◌, ◌/◌, ◌%◌, ◌≤◌, ◌<◌}
use mathlib.Core.Path.{◌≡◌, refl, sym, ap, ◌∙◌}
use mathlib.Core.Logic.{⊎_elim}
use mathlib.Core.Bool.{Bool, true, false, cond}
use mathlib.Core.List.{List, [], ◌∷◌, ◌++◌, map, append-nil}
use mathlib.Core.Option.{Option, some, none}
use native.Mathlib.Nat.{add-zero}
use native.Mathlib.Omega.{arith}
use lib.ListN.{length, get_or, set, drop, length-set, length-replicate, get_or-replicate, drop_of_length-le, length-map, length-append, get_or-append}
use lib.Seq.{drop-cons, get_or-append-add, get_or-set_same, get_or-set_other}
use lib.Dec.{eqb, ltb}
use borrow.Author.Tests.{lt-ltb, le-ltb, eq-eqb, ne_eqb, eqb-true}
use Rattle.wire_cbor.specs.Item.{Item, Pairs, Ok, OkPairs}
use Rattle.wire_cbor.specs.Find.{value_of}
use Rattle.wire_cbor.specs.Scan.{KEYS, LEVELS, KEY_HEADS, WORDS, STEP, no_key_head, key_head_of, key_heads_from, pairs_in, followed, map_at, key_heads_along, words_of, key_head_in, key_head_at}
use Rattle.wire_cbor.specs.Pass.{blank, note_at, noted, note_head, note_key, note_from}
use Rattle.wire_cbor.specs.Laws.{KeyHeadExact}
use Rattle.wire_cbor.specs.declared.heads.KeyHead.{KeyHead}
use Rattle.wire_bytes.proofs.Order.{below}
use Rattle.wire_cbor.proofs.Seen.{none_below}

-- ONE NOTE
module _ (l : List ℕ) (k : ℕ) (x : KeyHead) where
  note_length : length (note_at l k x) ≡ length l
  unfolding note_at
  note_length = length-set (set l k x.major) (KEY_HEADS + k) x.arg ∙ length-set l k x.major

  note_here : length l ≡ WORDS → k < KEY_HEADS → key_head_in (note_at l k x) k ≡ x
  unfolding note_at key_head_in
  note_here e h = rw (
    get_or-set_other (set l k x.major) (KEY_HEADS + k) k x.arg 0 (λ z. omega arith),
    get_or-set_same l k x.major 0 (omega arith),
    get_or-set_same (set l k x.major) (KEY_HEADS + k) x.arg 0 (omega (arith, length-set l k x.major)),
  )

  note_there : (j : ℕ) → k < KEY_HEADS → j < KEY_HEADS → (k ≡ j → ⊥) → key_head_in (note_at l k x) j ≡ key_head_in l j
  unfolding note_at key_head_in
  note_there j hk hj ne = rw (
    get_or-set_other (set l k x.major) (KEY_HEADS + k) j x.arg 0 (λ z. omega arith),
    get_or-set_other l k j x.major 0 (λ z. ne (sym z)),
    get_or-set_other (set l k x.major) (KEY_HEADS + k) (KEY_HEADS + j) x.arg 0 (λ z. ne (omega arith)),
    get_or-set_other l k (KEY_HEADS + j) x.major 0 (λ z. omega arith),
  )

-- a head that is noted over another
abbrev over : KeyHead → Option Item → KeyHead
over x none = x
over x (some i) = key_head_of (some i)

abbrev bind : Option Item → (Item → Option Item) → Option Item
bind none g = none
bind (some i) g = g i

-- A PASS OVER PAIRS
module _ (f : List ℕ → ℕ → Item → List ℕ) (len : (l : List ℕ) (k : ℕ) (i : Item) → length (f l k i) ≡ length l) where
  noted-length : (l : List ℕ) (ps : Pairs) → length (noted f l ps) ≡ length l
  unfolding noted
  noted-length l Pairs.empty = refl
  noted-length l (Pairs.pair k i ps) = noted-length (cond (ltb k KEYS) (f l k i) l) ps ∙ go (ltb k KEYS)
    where
      go : (b : Bool) → length (cond b (f l k i) l) ≡ length l
      go true = len l k i
      go false = refl

  -- the head j, where only the key m notes there, and g says what of its value
  module _ (d j m : ℕ) (g : Item → Option Item) (small : m < KEYS)
      (here : (l : List ℕ) (k : ℕ) (i : Item) → length l ≡ WORDS → Ok i d → k ≡ m → key_head_in (f l k i) j ≡ over (key_head_in l j) (g i))
      (there : (l : List ℕ) (k : ℕ) (i : Item) → length l ≡ WORDS → Ok i d → k < KEYS → (k ≡ m → ⊥) → key_head_in (f l k i) j ≡ key_head_in l j)
    where
      noted-at : (ps : Pairs) (lo : ℕ) (l : List ℕ) → OkPairs ps lo d → length l ≡ WORDS → key_head_in (noted f l ps) j ≡ over (key_head_in l j) (bind (value_of ps m) g)
      unfolding noted Ok value_of
      noted-at Pairs.empty lo l ok e = refl
      noted-at (Pairs.pair k i ps) lo l ok e = ⊎_elim
          (λ (lt : k < KEYS). rw (lt-ltb k KEYS lt) (
          let ih = noted-at ps (k + 1) (f l k i) ok.3 (len l k i ∙ e) in
          go lt ih (eqb k m) refl))
          (λ (ge : KEYS ≤ k). rw (le-ltb k KEYS ge, ne_eqb k m (λ z. omega arith)) (noted-at ps (k + 1) l ok.3 e))
          (below k KEYS)
        where
          go : k < KEYS → key_head_in (noted f (f l k i) ps) j ≡ over (key_head_in (f l k i) j) (bind (value_of ps m) g) → (b : Bool) → eqb k m ≡ b
              → key_head_in (noted f (f l k i) ps) j ≡ over (key_head_in l j) (bind (cond b (some i) (value_of ps m)) g)
          go lt ih true q =
              let z = eqb-true k m q in
              ih ∙ rw (none_below ps (k + 1) d m ok.3 (omega arith)) (here l k i e ok.2 z)
          go lt ih false q =
              ih ∙ ap (λ (x : KeyHead). over x (bind (value_of ps m) g))
              (there l k i e ok.2 lt (λ z. let w = eq-eqb k m z in let y : ◌≡◌ {A = ℕ} 0 1 = cc in omega arith))

  -- the head j, where nothing is noted there
  noted-not : (d j : ℕ) → ((l : List ℕ) (k : ℕ) (i : Item) → length l ≡ WORDS → Ok i d → k < KEYS → key_head_in (f l k i) j ≡ key_head_in l j)
      → (ps : Pairs) (lo : ℕ) (l : List ℕ) → OkPairs ps lo d → length l ≡ WORDS → key_head_in (noted f l ps) j ≡ key_head_in l j
  noted-not d j h ps lo l ok e =
      noted-at d j 0 (λ i. none) (omega arith) (λ m k i q o z. h m k i q o (omega arith)) (λ m k i q o lt ne. h m k i q o lt) ps lo l ok e
      ∙ ap (over (key_head_in l j)) (nothing (value_of ps 0))
    where
      nothing : (o : Option Item) → bind o (λ i. none) ≡ none
      nothing none = refl
      nothing (some i) = refl

bind-some : (o : Option Item) → bind o some ≡ o
bind-some none = refl
bind-some (some i) = refl

-- the pairs within an item are in order
pub within : (i : Item) (d : ℕ) → Ok i d → (e : ℕ) × OkPairs (pairs_in (some i)) 0 e
unfolding Ok
within (Item.uint v) d ok = (0, tt)
within (Item.nint v) d ok = (0, tt)
within (Item.bytes b) d ok = (0, tt)
within (Item.text b) d ok = (0, tt)
within (Item.array is) d ok = (0, tt)
within (Item.map ps) zero ok = absurd ok
within (Item.map ps) (suc d) ok = (d, ok.1)
within (Item.simple v) d ok = (0, tt)

-- A PASS ALONG A PATH, with n levels below
module _ (n path level : ℕ) (l : List ℕ) (k : ℕ) (i : Item) where
  -- one key, by what its map leaves where the path leads to it
  by_key : (P : List ℕ → Type 0) → P (note_head level l k i) → P (noted (note_key n (path / STEP) (level + 1)) (note_head level l k i) (pairs_in (some i)))
      → P (note_key (suc n) path level l k i)
  unfolding note_key
  by_key P plain deep = go (eqb k (path % STEP))
    where
      go : (t : Bool) → P (cond t (noted (note_key n (path / STEP) (level + 1)) (note_head level l k i) (pairs_in (some i))) (note_head level l k i))
      go true = deep
      go false = plain

head-length : (level : ℕ) (l : List ℕ) (k : ℕ) (i : Item) → length (note_head level l k i) ≡ length l
head-length level l k i = note_length l (level * KEYS + k) (key_head_of (some i))

key_length : (n path level : ℕ) (l : List ℕ) (k : ℕ) (i : Item) → length (note_key n path level l k i) ≡ length l
unfolding note_key
key_length zero path level l k i = head-length level l k i
key_length (suc n) path level l k i =
    by_key n path level l k i (λ (x : List ℕ). length x ≡ length l) (head-length level l k i)
    (noted-length (note_key n (path / STEP) (level + 1)) (key_length n (path / STEP) (level + 1)) (note_head level l k i) (pairs_in (some i)) ∙ head-length level l k i)

-- one key: up to its level it is its head alone
key_low : (n path level d : ℕ) → level + n < LEVELS → (j : ℕ) → j < level * KEYS + KEYS
    → (l : List ℕ) (k : ℕ) (i : Item) → length l ≡ WORDS → Ok i d → k < KEYS → key_head_in (note_key n path level l k i) j ≡ key_head_in (note_head level l k i) j
unfolding note_key
key_low zero path level d fit j h l k i e ok lt = refl
key_low (suc n) path level d fit j h l k i e ok lt =
    let w = within i d ok in
    by_key n path level l k i (λ (x : List ℕ). key_head_in x j ≡ key_head_in (note_head level l k i) j) refl
    (noted-not (note_key n (path / STEP) (level + 1)) (key_length n (path / STEP) (level + 1)) w.0 j
    (λ m c x q o small.
    key_low n (path / STEP) (level + 1) w.0 (omega arith) j (omega arith) m c x q o small
    ∙ note_there m ((level + 1) * KEYS + c) (key_head_of (some x)) j (omega arith) (omega arith) (λ y. omega arith))
    (pairs_in (some i)) 0 (note_head level l k i) w.1 (head-length level l k i ∙ e))

-- a map along a path that leads nowhere is empty
empty_along : (r path : ℕ) → map_at r path Pairs.empty ≡ Pairs.empty
unfolding map_at followed value_of
empty_along zero path = refl
empty_along (suc r) path = ap (map_at r (path / STEP)) (go (ltb (path % STEP) KEYS)) ∙ empty_along r (path / STEP)
  where
    go : (b : Bool) → cond b Pairs.empty Pairs.empty ≡ Pairs.empty
    go true = refl
    go false = refl

no_value : (key : ℕ) → value_of Pairs.empty key ≡ none
unfolding value_of
no_value key = refl

bind-along : (r path key : ℕ) (o : Option Item) → bind o (λ i. value_of (map_at r path (pairs_in (some i))) key) ≡ value_of (map_at r path (pairs_in o)) key
bind-along r path key none = sym (ap (λ (x : Pairs). value_of x key) (empty_along r path) ∙ no_value key)
bind-along r path key (some i) = refl

-- the head of a key, r levels below
module _ (key : ℕ) (small : key < KEYS) where
  -- what a pass with n levels below has to show
  abbrev Along : ℕ → Type 0
  Along n = (r path level d lo : ℕ) → r ≤ n → level + n < LEVELS → (ps : Pairs) (l : List ℕ) → OkPairs ps lo d → length l ≡ WORDS
      → key_head_in (noted (note_key n path level) l ps) ((level + r) * KEYS + key) ≡ over (key_head_in l ((level + r) * KEYS + key)) (value_of (map_at r path ps) key)

  -- at its own level
  own : (n path level d lo : ℕ) → level + n < LEVELS → (ps : Pairs) (l : List ℕ) → OkPairs ps lo d → length l ≡ WORDS
      → key_head_in (noted (note_key n path level) l ps) (level * KEYS + key) ≡ over (key_head_in l (level * KEYS + key)) (value_of ps key)
  own n path level d lo fit ps l ok e =
      noted-at (note_key n path level) (key_length n path level) d (level * KEYS + key) key some small
      (λ m k i q o z.
      key_low n path level d fit (level * KEYS + key) (omega arith) m k i q o (omega arith)
      ∙ rw z (note_here m (level * KEYS + key) (key_head_of (some i)) q (omega arith)))
      (λ m k i q o lt ne.
      key_low n path level d fit (level * KEYS + key) (omega arith) m k i q o lt
      ∙ note_there m (level * KEYS + k) (key_head_of (some i)) (level * KEYS + key) (omega arith) (omega arith) (λ y. ne (omega arith)))
      ps lo l ok e
      ∙ ap (over (key_head_in l (level * KEYS + key))) (bind-some (value_of ps key))

  -- further down
  module _ (n : ℕ) (ih : Along n) (r path level d : ℕ) (le : suc r ≤ suc n) (fit : level + suc n < LEVELS) where
    abbrev place : ℕ
    place = (level + suc r) * KEYS + key

    head-there : (m : List ℕ) (k : ℕ) (i : Item) → k < KEYS → key_head_in (note_head level m k i) place ≡ key_head_in m place
    head-there m k i lt = note_there m (level * KEYS + k) (key_head_of (some i)) place (omega arith) (omega arith) (λ y. omega arith)

    other : (m : List ℕ) (k : ℕ) (i : Item) → k < KEYS → (k ≡ path % STEP → ⊥) → key_head_in (note_key (suc n) path level m k i) place ≡ key_head_in m place
    unfolding note_key
    other m k i lt ne = rw (ne_eqb k (path % STEP) ne) (head-there m k i lt)

    inside : (m : List ℕ) (k : ℕ) (i : Item) → length m ≡ WORDS → Ok i d → k < KEYS → k ≡ path % STEP
        → key_head_in (note_key (suc n) path level m k i) place ≡ over (key_head_in m place) (value_of (map_at r (path / STEP) (pairs_in (some i))) key)
    unfolding note_key
    inside m k i q o lt z =
        let w = within i d o in
        let same : (level + 1 + r) * KEYS + key ≡ place = omega arith in
        rw (eq-eqb k (path % STEP) z)
        ((rw same at (ih r (path / STEP) (level + 1) w.0 0 (omega arith) (omega arith) (pairs_in (some i)) (note_head level m k i) w.1 (head-length level m k i ∙ q)))
        ∙ ap (λ (x : KeyHead). over x (value_of (map_at r (path / STEP) (pairs_in (some i))) key)) (head-there m k i lt))

    down : (lo : ℕ) (ps : Pairs) (l : List ℕ) → OkPairs ps lo d → length l ≡ WORDS
        → key_head_in (noted (note_key (suc n) path level) l ps) place ≡ over (key_head_in l place) (value_of (map_at r (path / STEP) (followed path ps)) key)
    unfolding followed
    down lo ps l ok e = ⊎_elim
        (λ (lt : path % STEP < KEYS).
        noted-at (note_key (suc n) path level) (key_length (suc n) path level) d place (path % STEP) (λ i. value_of (map_at r (path / STEP) (pairs_in (some i))) key) lt
        (λ m k i q o z. inside m k i q o (omega arith) z)
        (λ m k i q o g ne. other m k i g ne)
        ps lo l ok e
        ∙ rw (lt-ltb (path % STEP) KEYS lt) (ap (over (key_head_in l place)) (bind-along r (path / STEP) key (value_of ps (path % STEP)))))
        (λ (ge : KEYS ≤ path % STEP).
        noted-not (note_key (suc n) path level) (key_length (suc n) path level) d place (λ m k i q o lt. other m k i lt (λ z. omega arith)) ps lo l ok e
        ∙ rw (le-ltb (path % STEP) KEYS ge, empty_along r (path / STEP), no_value key) refl)
        (below (path % STEP) KEYS)

  along_none : Along zero
  unfolding map_at
  along_none zero path level d lo le fit ps l ok e = rw (add-zero level) (own zero path level d lo fit ps l ok e)
  along_none (suc r) path level d lo le fit ps l ok e = absurd (omega arith)

  along_more : (n : ℕ) → Along n → Along (suc n)
  unfolding map_at
  along_more n ih zero path level d lo le fit ps l ok e = rw (add-zero level) (own (suc n) path level d lo fit ps l ok e)
  along_more n ih (suc r) path level d lo le fit ps l ok e = down n ih r path level d le fit lo ps l ok e

  along : (n : ℕ) → Along n
  along zero = along_none
  along (suc n) = along_more n (along n)

over_none : (o : Option Item) → over no_key_head o ≡ key_head_of o
unfolding key_head_of
over_none none = refl
over_none (some i) = refl

blank-key_head : (j : ℕ) → j < KEY_HEADS → key_head_in blank j ≡ no_key_head
unfolding key_head_in
blank-key_head j h = rw (get_or-replicate {A = ℕ} WORDS j 8 0 (omega arith), get_or-replicate {A = ℕ} WORDS (KEY_HEADS + j) 8 0 (omega arith))

-- THE WHOLE PASS
abbrev pass : ℕ → Pairs → List ℕ
pass path ps = noted (note_from path 0) blank ps

pass-key_head : (path d lo : ℕ) (ps : Pairs) → OkPairs ps lo d → (r key : ℕ) → r < LEVELS → key < KEYS → key_head_in (pass path ps) (r * KEYS + key) ≡ key_head_of (value_of (map_at r path ps) key)
pass-key_head path d lo ps ok r key h k =
    let same : (0 + r) * KEYS + key ≡ r * KEYS + key = omega arith in
    (rw same at (along key k (LEVELS - 1) r path 0 d lo (omega arith) (omega arith) ps blank ok (length-replicate {A = ℕ} WORDS 8)))
    ∙ rw (blank-key_head (r * KEYS + key) (omega arith)) (over_none (value_of (map_at r path ps) key))

-- n words, from the word k on
abbrev cells : List ℕ → ℕ → ℕ → List ℕ
cells l k zero = []
cells l k (suc n) = get_or l k 0 ∷ cells l (k + 1) n

cells-from : (l : List ℕ) (n k : ℕ) → k + n ≤ length l → drop k l ≡ cells l k n ++ drop (k + n) l
cells-from l zero k h = ap (λ (j : ℕ). drop j l) (sym (add-zero k))
cells-from l (suc n) k h =
    let a : suc k ≡ k + 1 = omega arith in
    let b : k + 1 + n ≡ k + suc n = omega arith in
    drop-cons l k 0 (omega arith) ∙ rw a (ap (λ (t : List ℕ). get_or l k 0 ∷ t) (rw b at (cells-from l n (k + 1) (omega arith))))

-- n heads of words, from the place j on
abbrev places : List ℕ → ℕ → ℕ → List KeyHead
places l j zero = []
places l j (suc n) = key_head_in l j ∷ places l (j + 1) n

words-all : (l : List ℕ) → length l ≡ WORDS → l ≡ words_of (places l 0 KEY_HEADS)
unfolding words_of key_head_in
words-all l e = cells-from l WORDS 0 (omega arith) ∙ rw (drop_of_length-le l {i = WORDS} (omega arith)) (append-nil (cells l 0 WORDS))

places-add : (l : List ℕ) (a b j : ℕ) → places l j (a + b) ≡ places l j a ++ places l (j + a) b
places-add l zero b j = let x : 0 + b ≡ b = omega arith in let y : j + 0 ≡ j = omega arith in rw (x, y)
places-add l (suc a) b j =
    let x : suc a + b ≡ suc (a + b) = omega arith in
    let y : j + 1 + a ≡ j + suc a = omega arith in
    rw x (ap (λ (t : List KeyHead). key_head_in l j ∷ t) (rw y at (places-add l a b (j + 1))))

places-keys : (l : List ℕ) (ps : Pairs) (n j k : ℕ) → ((i : ℕ) → i < n → key_head_in l (j + i) ≡ key_head_of (value_of ps (k + i))) → places l j n ≡ key_heads_from n k ps
unfolding key_heads_from
places-keys l ps zero j k h = refl
places-keys l ps (suc n) j k h =
    let first : key_head_in l j ≡ key_head_of (value_of ps k) = rw (add-zero j, add-zero k) at (h 0 (omega arith)) in
    let rest = places-keys l ps n (j + 1) (k + 1) (λ i lt.
    let a : j + (i + 1) ≡ j + 1 + i = omega arith in
    let b : k + (i + 1) ≡ k + 1 + i = omega arith in
    rw (a, b) at (h (i + 1) (omega arith))) in
    rw (first, rest)

places-along : (l : List ℕ) (n path level : ℕ) (ps : Pairs) → ((r key : ℕ) → r < n → key < KEYS → key_head_in l ((level + r) * KEYS + key) ≡ key_head_of (value_of (map_at r path ps) key))
    → places l (level * KEYS) (n * KEYS) ≡ key_heads_along n path ps
unfolding key_heads_along map_at
places-along l zero path level ps h = refl
places-along l (suc n) path level ps h =
    let split : suc n * KEYS ≡ KEYS + n * KEYS = omega arith in
    let next : level * KEYS + KEYS ≡ (level + 1) * KEYS = omega arith in
    let own = places-keys l ps KEYS (level * KEYS) 0 (λ i lt.
    let a : (level + 0) * KEYS + i ≡ level * KEYS + i = omega arith in
    let b : 0 + i ≡ i = omega arith in
    rw b (rw a at (h 0 i (omega arith) lt))) in
    let rest = places-along l n (path / STEP) (level + 1) (followed path ps) (λ r key lr lk.
    let a : (level + suc r) * KEYS + key ≡ (level + 1 + r) * KEYS + key = omega arith in
    rw a at (h (suc r) key (omega arith) lk)) in
    ap (places l (level * KEYS)) split ∙ places-add l KEYS (n * KEYS) (level * KEYS)
    ∙ ap (λ (t : List KeyHead). t ++ places l (level * KEYS + KEYS) (n * KEYS)) own
    ∙ ap (λ (j : ℕ). key_heads_from KEYS 0 ps ++ places l j (n * KEYS)) next
    ∙ ap (λ (t : List KeyHead). key_heads_from KEYS 0 ps ++ t) rest

pub pass-exact : (path d lo : ℕ) (ps : Pairs) → OkPairs ps lo d → pass path ps ≡ words_of (key_heads_along LEVELS path ps)
pass-exact path d lo ps ok =
    words-all (pass path ps) (noted-length (note_from path 0) (key_length (LEVELS - 1) path 0) blank ps ∙ length-replicate {A = ℕ} WORDS 8)
    ∙ ap words_of (places-along (pass path ps) LEVELS path 0 ps (λ r key lr lk.
    let a : r * KEYS + key ≡ (0 + r) * KEYS + key = omega arith in
    rw a at (pass-key_head path d lo ps ok r key lr lk)))

-- WHAT THE WORDS SHOW
map_at_lem : (f : KeyHead → ℕ) (l : List KeyHead) (k : ℕ) → k < length l → get_or (map f l) k 0 ≡ f (get_or l k no_key_head)
map_at_lem f [] k h = absurd (omega arith)
map_at_lem f (x ∷ xs) zero h = refl
map_at_lem f (x ∷ xs) (suc k) h = map_at_lem f xs k (omega arith)

word-key_head : (l : List KeyHead) (k : ℕ) → length l ≡ KEY_HEADS → k < KEY_HEADS → key_head_in (words_of l) k ≡ get_or l k no_key_head
unfolding words_of key_head_in
word-key_head l k e h =
    let m : List ℕ = map (λ (x : KeyHead). x.major) l in
    let a : List ℕ = map (λ (x : KeyHead). x.arg) l in
    let n : length m ≡ KEY_HEADS = length-map l (λ (x : KeyHead). x.major) ∙ e in
    let first : get_or (m ++ a) k 0 ≡ (get_or l k no_key_head).major = get_or-append m a 0 k (omega arith) ∙ map_at_lem (λ (x : KeyHead). x.major) l k (omega arith) in
    let second : get_or (m ++ a) (KEY_HEADS + k) 0 ≡ (get_or l k no_key_head).arg = ap (λ (j : ℕ). get_or (m ++ a) (j + k) 0) (sym n) ∙ get_or-append-add m a k 0 ∙ map_at_lem
    (λ (x : KeyHead). x.arg) l k (omega arith) in
    rw (first, second)

from-length : (n k : ℕ) (ps : Pairs) → length (key_heads_from n k ps) ≡ n
unfolding key_heads_from
from-length zero k ps = refl
from-length (suc n) k ps = ap suc (from-length n (k + 1) ps)

from_at : (n k i : ℕ) (ps : Pairs) → i < n → get_or (key_heads_from n k ps) i no_key_head ≡ key_head_of (value_of ps (k + i))
unfolding key_heads_from
from_at zero k i ps h = absurd (omega arith)
from_at (suc n) k zero ps h = ap (λ (j : ℕ). key_head_of (value_of ps j)) (sym (add-zero k))
from_at (suc n) k (suc i) ps h = from_at n (k + 1) i ps (omega arith) ∙ ap (λ (j : ℕ). key_head_of (value_of ps j)) (omega arith)

along_length : (n path : ℕ) (ps : Pairs) → length (key_heads_along n path ps) ≡ n * KEYS
unfolding key_heads_along
along_length zero path ps = refl
along_length (suc n) path ps =
    length-append (key_heads_from KEYS 0 ps) (key_heads_along n (path / STEP) (followed path ps))
    ∙ rw (from-length KEYS 0 ps, along_length n (path / STEP) (followed path ps)) (omega arith)

-- the head of a key at a level of n
abbrev At : ℕ → Type 0
At n = (path : ℕ) (ps : Pairs) (r key : ℕ) → r < n → key < KEYS → get_or (key_heads_along n path ps) (r * KEYS + key) no_key_head ≡ key_head_of (value_of (map_at r path ps) key)

at_more : (n : ℕ) → At n → At (suc n)
unfolding key_heads_along map_at
at_more n ih path ps zero key h k =
    let own : List KeyHead = key_heads_from KEYS 0 ps in
    let rest : List KeyHead = key_heads_along n (path / STEP) (followed path ps) in
    let z : 0 * KEYS + key ≡ key = omega arith in
    let y : 0 + key ≡ key = omega arith in
    ap (λ (j : ℕ). get_or (own ++ rest) j no_key_head) z ∙ get_or-append own rest no_key_head key (omega (arith, from-length KEYS 0 ps))
    ∙ from_at KEYS 0 key ps k ∙ ap (λ (j : ℕ). key_head_of (value_of ps j)) y
at_more n ih path ps (suc r) key h k =
    let own : List KeyHead = key_heads_from KEYS 0 ps in
    let rest : List KeyHead = key_heads_along n (path / STEP) (followed path ps) in
    let z : suc r * KEYS + key ≡ length own + (r * KEYS + key) = omega (arith, from-length KEYS 0 ps) in
    ap (λ (j : ℕ). get_or (own ++ rest) j no_key_head) z ∙ get_or-append-add own rest (r * KEYS + key) no_key_head
    ∙ ih (path / STEP) (followed path ps) r key (omega arith) k

along_at : (n : ℕ) → At n
along_at zero = λ path ps r key h k. absurd (omega arith)
along_at (suc n) = at_more n (along_at n)

pub key_head_exact : KeyHeadExact
unfolding key_head_at
key_head_exact path ps level key h k =
    rw (lt-ltb level LEVELS h, lt-ltb key KEYS k)
    (word-key_head (key_heads_along LEVELS path ps) (level * KEYS + key) (along_length LEVELS path ps) (omega arith) ∙ along_at LEVELS path ps level key h k)
