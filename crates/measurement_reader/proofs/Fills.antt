-- The functions of the walk, case by case. Assumes nothing.
use Prim.Native.Nat.{ℕ, suc, ◌+◌, ◌*◌, ◌-◌, ◌≤◌, ◌<◌}
use mathlib.Core.Path.{◌≡◌, refl, sym, ap, ◌∙◌}
use mathlib.Core.Bool.{Bool, true, false, cond, ◌&&◌}
use mathlib.Core.List.{List, [], ◌∷◌}
use mathlib.Core.Option.{Option, some, none, bind, map}
use native.Mathlib.Omega.{arith}
use lib.Seq.{sets}
use lib.Dec.{eqb, leb, ltb}
use lib.IntN.{ℤ, pos, negsuc}
use borrow.Author.Tests.{eq-eqb, ne_eqb}
use Rattle.std.specs.Prelude.{None, unwrap_or}
use Rattle.wire_heads.specs.Head.{HeadRead, head_is, head_at}
use Rattle.wire_cbor.specs.Item.{Item, Got, got, bad, EndRead, item_at, end_of, past_of}
use Rattle.wire_cbor.specs.Find.{seek_at}
use Rattle.wire_cbor.specs.Scan.{head}
use Rattle.wire_cbor.specs.declared.pairs.Stop.{Stop}
use Rattle.measurement_table.specs.Cells.{Cell, blanks}
use Rattle.measurement_table.specs.Words.{place, place_of, flat}
use Rattle.measurement_reader.specs.Walk.{place_or, Filled, number_by, number_from, cell_at, next_at, cells_at, phases_from}
use Rattle.wire_fields.specs.Ranges.{within}
use Rattle.wire_fields.specs.KeyHeads.{number_seen}
use Rattle.wire_fields.specs.declared.ranges.Range.{Range}
use Rattle.wire_fields.proofs.Joined.{no_both}
use Rattle.measurement_table.specs.declared.words.Place.{Place}

-- NUMBERS
module _ (g : Range) (m n : ℕ) where
  -- the answer by its four tests
  abbrev answer : Bool → Bool → Bool → Bool → Place
  answer a b x y = place_or (map (λ (z : ℤ). some z) (cond a (cond x (some (pos n)) none) (cond b (cond y (some (negsuc n)) none) none)))

  by_tests : answer (eqb m 0) (eqb m 1) (leb n g.high) (ltb n g.below) ≡ place_or (map (λ z. some z) (number_by g m n))
  unfolding number_by within
  by_tests = refl

  pub number-out : number_seen g (head m n) ≡ false → place 3 0 ≡ place_or (map (λ z. some z) (number_by g m n))
  unfolding place_or
  number-out e = go (eqb m 0) (eqb m 1) (leb n g.high) (ltb n g.below) e ∙ by_tests
    where
      go : (a b x y : Bool) → cond a x (b && y) ≡ false → place 3 0 ≡ answer a b x y
      go true b true y f = absurd (no_both f)
      go true b false y f = refl
      go false true x true f = absurd (no_both f)
      go false true x false f = refl
      go false false x y f = refl

  pub number-uint : number_seen g (head m n) ≡ true → m ≡ 0 → place 1 n ≡ place_or (map (λ z. some z) (number_by g m n))
  unfolding place_or place_of
  number-uint e z = go (eqb m 0) (eqb m 1) (leb n g.high) (ltb n g.below) e (eq-eqb m 0 z) ∙ by_tests
    where
      go : (a b x y : Bool) → cond a x (b && y) ≡ true → a ≡ true → place 1 n ≡ answer a b x y
      go true b true y f h = refl
      go true b false y f h = absurd (no_both (sym f))
      go false b x y f h = absurd (no_both (sym h))

  pub number-nint : number_seen g (head m n) ≡ true → (m ≡ 0 → ⊥) → place 2 n ≡ place_or (map (λ z. some z) (number_by g m n))
  unfolding place_or place_of
  number-nint e z = go (eqb m 0) (eqb m 1) (leb n g.high) (ltb n g.below) e (ne_eqb m 0 z) ∙ by_tests
    where
      go : (a b x y : Bool) → cond a x (b && y) ≡ true → a ≡ false → place 2 n ≡ answer a b x y
      go true b x y f h = absurd (no_both h)
      go false true x true f h = refl
      go false true x false f h = absurd (no_both (sym f))
      go false false x y f h = absurd (no_both (sym f))

-- PLACES
module _ (s : List ℕ) (g : Range) (at : ℕ) (there : Bool) where
  pub cell-no_head : there ≡ true → (h : HeadRead) → h ≡ head_at s at → h ≡ None → place 3 0 ≡ place_or (cell_at s g there at)
  unfolding place_or cell_at number_from
  cell-no_head t h e z = rw (t, ← e, z)

  pub cell-head : there ≡ true → (h : HeadRead) → h ≡ head_at s at → (m n q : ℕ) → h ≡ head_is m n q
      → (r : Place) → r ≡ place_or (map (λ z. some z) (number_by g m n)) → r ≡ place_or (cell_at s g there at)
  unfolding cell_at number_from
  cell-head t h e m n q z r f = rw (t, ← e, z) f

  pub cell-absent : there ≡ false → place 0 0 ≡ place_or (cell_at s g there at)
  unfolding place_or place_of cell_at
  cell-absent t = rw t

module _ (s : List ℕ) (d at : ℕ) (there : Bool) where
  pub next_past : there ≡ true → (h : EndRead) → h ≡ end_of (item_at s d at) → unwrap_or h 0 ≡ next_at s d there at
  unfolding next_at
  next_past t h e = rw (t, e) (go (item_at s d at))
    where
      go : (g : Got Item) → unwrap_or (end_of g) 0 ≡ past_of g
      go (got i x) = refl
      go bad = refl

  pub next_here : there ≡ false → at ≡ next_at s d there at
  unfolding next_at
  next_here t = rw t

-- WORDS
-- a place, and those behind it
pub place-more : (ws ws' xs : List ℕ) (a b i j : ℕ) → ws' ≡ sets ws i (a ∷ b ∷ []) → j ≡ suc (suc i) → sets ws' j xs ≡ sets ws i (a ∷ b ∷ xs)
place-more ws ws' xs a b i j e f = rw (e, f)

pub blank_step : (ws ws' : List ℕ) (at i n : ℕ) → i < n → ws' ≡ sets ws (2 * (at + i)) (0 ∷ 0 ∷ [])
    → sets ws' (2 * (at + (i + 1))) (flat (blanks (n - (i + 1)))) ≡ sets ws (2 * (at + i)) (flat (blanks (n - i)))
unfolding flat blanks place_of
blank_step ws ws' at i n h e =
    let m : n - i ≡ suc (n - (i + 1)) = omega arith in
    rw m (place-more ws ws' (flat (blanks (n - (i + 1)))) 0 0 (2 * (at + i)) (2 * (at + (i + 1))) e (omega arith))

pub blank-start : (ws : List ℕ) (at n : ℕ) → sets ws (2 * (at + 0)) (flat (blanks (n - 0))) ≡ sets ws (2 * at) (flat (blanks n))
blank-start ws at n = let a : at + 0 ≡ at = omega arith in let b : n - 0 ≡ n = omega arith in rw (a, b)

pub blank-end : (ws : List ℕ) (at i n : ℕ) → n ≤ i → sets ws (2 * (at + i)) (flat (blanks (n - i))) ≡ ws
unfolding flat blanks
blank-end ws at i n h = let b : n - i ≡ 0 = omega arith in rw b

-- PHASES
pub refused : (o : Option Cell) → (place_or o).mark ≡ 3 → o ≡ none
unfolding place_or place_of
refused none e = refl
refused (some none) e = absurd (omega arith)
refused (some (some (pos n))) e = absurd (omega arith)
refused (some (some (negsuc n))) e = absurd (omega arith)

pub taken : (o : Option Cell) → ((place_or o).mark ≡ 3 → ⊥) → (c : Cell) × (o ≡ some c) × (place_or o ≡ place_of c)
unfolding place_or
taken none e = absurd (e refl)
taken (some c) e = (c, refl, refl)

-- a place in front of those that are left
filled_more : (o : Option (List Cell)) (c : Cell) (ws ws' ws'' : List ℕ) (i j : ℕ) (ok : Bool) → ws' ≡ sets ws i ((place_of c).mark ∷ (place_of c).size ∷ []) → j ≡ suc (suc i)
    → Filled o j ws' ok ws'' → Filled (map (λ (cs : List Cell). c ∷ cs) o) i ws ok ws''
unfolding Filled flat
filled_more (some cs) c ws ws' ws'' i j ok e f x = (x.0, x.1 ∙ place-more ws ws' (flat cs) (place_of c).mark (place_of c).size i j e f)
filled_more none c ws ws' ws'' i j ok e f x = x

module _ (s : List ℕ) (d : ℕ) (g : Range) (p n q : ℕ) (w : Stop) (we : w ≡ seek_at s d p n q) (c : Place) (ce : c ≡ place_or (cell_at s g w.there w.at)) where
  pub cells_refused : (m j i : ℕ) (ws ws' : List ℕ) → m ≡ suc j → c.mark ≡ 3 → Filled (cells_at s d g m p n q) i ws false ws'
  unfolding cells_at Filled bind
  cells_refused m j i ws ws' f e = rw (f, ← we, refused (cell_at s g w.there w.at) (ap (λ (x : Place). x.mark) (sym ce) ∙ e)) refl

  pub cells_step : (m j i i' p' x : ℕ) (ws ws' ws'' : List ℕ) (ok : Bool) → m ≡ suc j → p' ≡ p + 1 → i' ≡ suc (suc i) → x ≡ next_at s d w.there w.at → (c.mark ≡ 3 → ⊥)
      → ws' ≡ sets ws i (c.mark ∷ c.size ∷ [])
      → Filled (cells_at s d g j p' w.left x) i' ws' ok ws'' → Filled (cells_at s d g m p n q) i ws ok ws''
  unfolding cells_at bind
  cells_step m j i i' p' x ws ws' ws'' ok f pe ie xe ne e h =
      let t = taken (cell_at s g w.there w.at) (λ z. ne (ap (λ (y : Place). y.mark) ce ∙ z)) in
      let ee : ws' ≡ sets ws i ((place_of t.0).mark ∷ (place_of t.0).size ∷ []) = rw (← t.2, ← ce) e in
      let h' : Filled (cells_at s d g j (p + 1) w.left (next_at s d w.there w.at)) i' ws' ok ws'' = rw (← pe, ← xe) h in
      rw (f, ← we, t.1) (filled_more (cells_at s d g j (p + 1) w.left (next_at s d w.there w.at)) t.0 ws ws' ws'' i i' ok ee ie h')

pub cells_end : (s : List ℕ) (d : ℕ) (g : Range) (m p n q i : ℕ) (ws : List ℕ) → m ≡ 0 → Filled (cells_at s d g m p n q) i ws (eqb n 0) ws
unfolding cells_at Filled flat
cells_end s d g m p n q i ws e = rw e (go (eqb n 0))
  where
    go : (b : Bool) → Filled (cond b (some []) none) i ws b ws
    go true = (refl, refl)
    go false = refl

pub cells_start : (s : List ℕ) (d : ℕ) (g : Range) (w n q i : ℕ) (words : List ℕ) (ok : Bool) (ws : List ℕ)
    → Filled (cells_at s d g (w - 0) 0 n q) (2 * (i + 0)) words ok ws → Filled (cells_at s d g w 0 n q) (2 * i) words ok ws
cells_start s d g w n q i words ok ws h = let a : i + 0 ≡ i = omega arith in let b : w - 0 ≡ w = omega arith in rw (a, b) at h

module _ (s : List ℕ) (g : Range) (w at i : ℕ) (ws ws' : List ℕ) (h : HeadRead) (he : h ≡ head_at s at) where
  pub phases_no_head : h ≡ None → Filled (phases_from s 6 g w (head_at s at)) i ws false ws'
  unfolding phases_from Filled
  phases_no_head e = rw (← he, e) refl

  module _ (m n q : ℕ) (e : h ≡ head_is m n q) where
    pub phases_no_map : (m ≡ 5 → ⊥) → Filled (phases_from s 6 g w (head_at s at)) i ws false ws'
    unfolding phases_from Filled
    phases_no_map z = rw (← he, e, ne_eqb m 5 z) refl

    pub phases_empty : n ≡ 0 → Filled (phases_from s 6 g w (head_at s at)) i ws false ws'
    unfolding phases_from Filled
    phases_empty z = rw (← he, e, eq-eqb n 0 z) (go (eqb m 5))
      where
        go : (b : Bool) → Filled (cond b none none) i ws false ws'
        go true = refl
        go false = refl

    pub phases_map : m ≡ 5 → (n ≡ 0 → ⊥) → (ok : Bool) → Filled (cells_at s 6 g w 0 n q) i ws ok ws' → Filled (phases_from s 6 g w (head_at s at)) i ws ok ws'
    unfolding phases_from
    phases_map z y ok f = rw (← he, e, eq-eqb m 5 z, ne_eqb n 0 y) f
