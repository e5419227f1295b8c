-- The rows of the walk, case by case. Assumes nothing.
use Prim.Native.Nat.{ℕ, zero, suc, ◌+◌, ◌*◌, ◌<◌}
use mathlib.Core.Path.{◌≡◌, refl, sym, ap, ◌∙◌}
use mathlib.Core.Bool.{Bool, true, false, cond}
use mathlib.Core.List.{List, [], ◌∷◌, ◌++◌}
use mathlib.Core.Option.{Option, some, none, bind, map}
use native.Mathlib.Omega.{arith}
use native.Mathlib.Numerals.{add-one}
use lib.ListN.{length, get_or, drop}
use lib.Seq.{sets, drop-cons}
use lib.Dec.{eqb}
use borrow.Author.Tests.{eq-eqb, ne_eqb, eqb-true}
use Rattle.std.specs.Prelude.{Some, None}
use Rattle.wire_heads.specs.Head.{HeadRead, head_at}
use Rattle.wire_cbor.specs.Find.{seek_at}
use Rattle.wire_cbor.specs.declared.pairs.Stop.{Stop}
use Rattle.wire_fields.proofs.Joined.{no_both}
use Rattle.measurement_reader.proofs.Options.{no_value, same-inside, bind-parts, map-part}
use Rattle.wire_fields.specs.declared.ranges.Range.{Range}
use Rattle.measurement_table.specs.Table.{rows, no_row, range_of, places}
use Rattle.measurement_table.specs.Cells.{Cell, blanks}
use Rattle.measurement_table.specs.Words.{place_of, flat}
use Rattle.measurement_reader.specs.Walk.{place_or, Filled, cell_at, next_at, cells_at, phases_from, row_at, rows_at}
use Rattle.measurement_table.specs.declared.attributes.Row.{Row}
use Rattle.measurement_table.specs.declared.words.Place.{Place}
use Rattle.measurement_reader.proofs.Fills.{refused, taken}

-- ONE ROW
module _ (s : List ℕ) (r : Row) (there : Bool) (at i : ℕ) (ws ws' : List ℕ) where
  module _ (g : Range) (ge : g ≡ range_of r.2) where
    module _ (e : r.1 ≡ 1) (c : Place) (ce : c ≡ place_or (cell_at s g there at)) where
      its_cell : c ≡ place_or (cell_at s (range_of r.2) there at)
      its_cell = ce ∙ ap (λ (x : Range). place_or (cell_at s x there at)) ge

      pub row-refused : c.mark ≡ 3 → Filled (row_at s 6 r there at) i ws false ws'
      unfolding row_at Filled
      row-refused z = rw (eq-eqb r.1 1 e, refused (cell_at s (range_of r.2) there at) (ap (λ (x : Place). x.mark) (sym its_cell) ∙ z)) refl

      pub row-single : (c.mark ≡ 3 → ⊥) → ws' ≡ sets ws i (c.mark ∷ c.size ∷ []) → Filled (row_at s 6 r there at) i ws true ws'
      unfolding row_at Filled flat
      row-single z f =
          let t = taken (cell_at s (range_of r.2) there at) (λ y. z (ap (λ (x : Place). x.mark) its_cell ∙ y)) in
          let h : ws' ≡ sets ws i ((place_of t.0).mark ∷ (place_of t.0).size ∷ []) = rw (← t.2, ← its_cell) f in
          rw (eq-eqb r.1 1 e, t.1) (refl, h)

    pub row-phases : (r.1 ≡ 1 → ⊥) → there ≡ true → (ok : Bool) → Filled (phases_from s 6 g r.1 (head_at s at)) i ws ok ws' → Filled (row_at s 6 r there at) i ws ok ws'
    unfolding row_at
    row-phases e t ok f = rw (ne_eqb r.1 1 e, t) (rw ge at f)

  pub row-blank : (r.1 ≡ 1 → ⊥) → there ≡ false → ws' ≡ sets ws i (flat (blanks r.1)) → Filled (row_at s 6 r there at) i ws true ws'
  unfolding row_at Filled
  row-blank e t f = rw (ne_eqb r.1 1 e, t) (refl, f)

-- HOW MANY PLACES
cells_long : (s : List ℕ) (d : ℕ) (g : Range) (w p n q : ℕ) (cs : List Cell) → cells_at s d g w p n q ≡ some cs → length cs ≡ w
unfolding cells_at
cells_long s d g zero p n q cs e = go (eqb n 0) e
  where
    go : (b : Bool) → cond b (some []) none ≡ some cs → length cs ≡ 0
    go true x = ap length (sym (same-inside x))
    go false x = absurd (no_value x)
cells_long s d g (suc w) p n q cs e =
    let b = bind-parts (cell_at s g (seek_at s d p n q).there (seek_at s d p n q).at) _ cs e in
    let m = map-part (λ (l : List Cell). b.0 ∷ l) (cells_at s d g w (p + 1) (seek_at s d p n q).left (next_at s d (seek_at s d p n q).there (seek_at s d p n q).at)) cs b.2 in
    let r = cells_long s d g w (p + 1) (seek_at s d p n q).left (next_at s d (seek_at s d p n q).there (seek_at s d p n q).at) m.0 m.1 in
    rw (← m.2) (ap suc r)

phases-long : (s : List ℕ) (d : ℕ) (g : Range) (w : ℕ) (h : HeadRead) (cs : List Cell) → phases_from s d g w h ≡ some cs → length cs ≡ w
unfolding phases_from
phases-long s d g w (Some h) cs e = go (eqb h.major 5) (eqb h.arg 0) e
  where
    go : (a b : Bool) → cond a (cond b none (cells_at s d g w 0 h.arg h.next)) none ≡ some cs → length cs ≡ w
    go true true x = absurd (no_value x)
    go true false x = cells_long s d g w 0 h.arg h.next cs x
    go false b x = absurd (no_value x)
phases-long s d g w None cs e = absurd (no_value e)

blanks-long : (n : ℕ) → length (blanks n) ≡ n
unfolding blanks
blanks-long zero = refl
blanks-long (suc n) = ap suc (blanks-long n)

pub row-long : (s : List ℕ) (d : ℕ) (r : Row) (there : Bool) (at : ℕ) (cs : List Cell) → row_at s d r there at ≡ some cs → length cs ≡ r.1
unfolding row_at
row-long s d r there at cs e = go (eqb r.1 1) refl there e
  where
    go : (b : Bool) → eqb r.1 1 ≡ b → (t : Bool)
        → cond b (map (λ (c : Cell). c ∷ []) (cell_at s (range_of r.2) there at))
        (cond t (phases_from s d (range_of r.2) r.1 (head_at s at)) (some (blanks r.1))) ≡ some cs → length cs ≡ r.1
    go true x t y = let m = map-part (λ (c : Cell). c ∷ []) (cell_at s (range_of r.2) there at) cs y in ap length (sym m.2) ∙ sym (eqb-true r.1 1 x)
    go false x true y = phases-long s d (range_of r.2) r.1 (head_at s at) cs y
    go false x false y = ap length (sym (same-inside y)) ∙ blanks-long r.1

-- WORDS
sets-join : (ws xs ys : List ℕ) (i j : ℕ) → j ≡ i + length xs → sets ws i (xs ++ ys) ≡ sets (sets ws i xs) j ys
sets-join ws [] ys i j e = let f : j ≡ i = omega arith in rw f
sets-join ws (x ∷ xs) ys i j e = sets-join _ xs ys (suc i) j (omega arith)

flat-join : (a b : List Cell) → flat (a ++ b) ≡ flat a ++ flat b
unfolding flat
flat-join [] b = refl
flat-join (c ∷ a) b = ap (λ (l : List ℕ). (place_of c).mark ∷ (place_of c).size ∷ l) (flat-join a b)

pub flat-long : (a : List Cell) → length (flat a) ≡ 2 * length a
unfolding flat
flat-long [] = refl
flat-long (c ∷ a) = let r = flat-long a in omega arith

-- a row in front of those that are left
join : (o : Option (List Cell)) (a : List Cell) (ws ws' ws'' : List ℕ) (i j : ℕ) (ok : Bool) → ws' ≡ sets ws i (flat a) → j ≡ i + 2 * length a
    → Filled o j ws' ok ws'' → Filled (map (λ (b : List Cell). a ++ b) o) i ws ok ws''
unfolding Filled
join (some b) a ws ws' ws'' i j ok e f x =
    (x.0, x.1 ∙ ap (λ (l : List ℕ). sets l j (flat b)) e ∙ sym (sets-join ws (flat a) (flat b) i j (omega (arith, flat-long a))) ∙ ap (λ (l : List ℕ). sets ws i l) (sym (flat-join a b)))
join none a ws ws' ws'' i j ok e f x = x

pub filled-some : (o : Option (List Cell)) (i : ℕ) (ws ws' : List ℕ) (ok : Bool) → ok ≡ true → Filled o i ws ok ws' → (a : List Cell) × (o ≡ some a) × (ws' ≡ sets ws i (flat a))
unfolding Filled
filled-some (some a) i ws ws' ok e x = (a, refl, x.1)
filled-some none i ws ws' ok e x = absurd (no_both (sym e ∙ x))

pub filled_none : (o : Option (List Cell)) (i : ℕ) (ws ws' : List ℕ) (ok : Bool) → ok ≡ false → Filled o i ws ok ws' → o ≡ none
unfolding Filled
filled_none (some a) i ws ws' ok e x = absurd (no_both (sym x.0 ∙ e))
filled_none none i ws ws' ok e x = refl

-- THE ROWS THAT ARE LEFT
module _ (s : List ℕ) (rs : List Row) (r : Row) (tail : List Row) (re : rs ≡ r ∷ tail) (n q : ℕ) (w : Stop) (we : w ≡ seek_at s 7 r.0 n q)
    (i : ℕ) (ws ws' : List ℕ) (b : Bool) (f : Filled (row_at s 6 r w.there w.at) i ws b ws') where
  pub rows-refused : b ≡ false → (ws'' : List ℕ) → Filled (rows_at s 6 rs n q) i ws false ws''
  unfolding rows_at Filled bind
  rows-refused e ws'' = rw (re, ← we, filled_none (row_at s 6 r w.there w.at) i ws ws' b e f) refl

  pub rows_step : b ≡ true → (j x : ℕ) (ok : Bool) (ws'' : List ℕ) → j ≡ i + 2 * r.1 → x ≡ next_at s 7 w.there w.at
      → Filled (rows_at s 6 tail w.left x) j ws' ok ws'' → Filled (rows_at s 6 rs n q) i ws ok ws''
  unfolding rows_at bind
  rows_step e j x ok ws'' je xe h =
      let t = filled-some (row_at s 6 r w.there w.at) i ws ws' b e f in
      let l = row-long s 6 r w.there w.at t.0 t.1 in
      let h' : Filled (rows_at s 6 tail w.left (next_at s 7 w.there w.at)) j ws' ok ws'' = rw (← xe) h in
      rw (re, ← we, t.1) (join (rows_at s 6 tail w.left (next_at s 7 w.there w.at)) t.0 ws ws' ws'' i j ok t.2 (omega arith) h')

-- the table from row k on
table-long : (k : ℕ) → k < 24 → k < length rows
unfolding rows
table-long k h = omega arith

pub row_next : (k : ℕ) (r : Row) → k < 24 → r ≡ get_or rows k no_row → drop k rows ≡ r ∷ drop (k + 1) rows
row_next k r h e = drop-cons rows k no_row (table-long k h) ∙ rw (e, add-one)

places_of : (rs tail : List Row) (r : Row) → rs ≡ r ∷ tail → places rs ≡ r.1 + places tail
unfolding places
places_of rs tail r e = rw e

pub places-next : (k : ℕ) (r : Row) → k < 24 → r ≡ get_or rows k no_row → places (drop k rows) ≡ r.1 + places (drop (k + 1) rows)
places-next k r h e = places_of (drop k rows) (drop (k + 1) rows) r (row_next k r h e)

pub places-start : (0 + places (drop 0 rows)) ≡ 36
unfolding places rows
places-start = refl

pub rows_end : (s : List ℕ) (k n q i : ℕ) (ws : List ℕ) → k ≡ 24 → Filled (rows_at s 6 (drop k rows) n q) i ws true ws
unfolding rows rows_at Filled flat
rows_end s k n q i ws e = rw e (refl, refl)
