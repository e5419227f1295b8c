-- The walk finds what the tree holds, over any table. Assumes nothing.
use Prim.Native.Nat.{ℕ, zero, suc, ◌+◌, ◌≤◌}
use mathlib.Core.Path.{◌≡◌, refl, sym, ap, ◌∙◌}
use mathlib.Core.Logic.{⊎_elim}
use mathlib.Core.Bool.{Bool, true, false, cond}
use mathlib.Core.List.{List, [], ◌∷◌}
use mathlib.Core.Option
use mathlib.Core.Option.{Option, some, none, bind}
use native.Mathlib.Omega.{arith}
use lib.Dec.{eqb, ltb}
use lib.IntN.{ℤ}
use borrow.Author.Tests.{eqb-true, ne_eqb, lt-ltb, ltb-true}
use Rattle.wire_bytes.specs.Bytes.{Bytes}
use Rattle.wire_heads.specs.Head.{head_is, head_at, head_len}
use Rattle.wire_cbor.specs.Item.{Item, Pairs, got, item_at, pairs_at, count_pairs}
use Rattle.wire_cbor.specs.Find.{value_of, seek_at}
use Rattle.wire_cbor.specs.Encodings.{Walking, Sought}
use Rattle.wire_cbor.specs.declared.pairs.Stop.{Stop}
use Rattle.wire_cbor.proofs.Seen.{major_of, arg_of, read_head_of, pairs-step, value_here, value_there}
use Rattle.wire_bytes.proofs.Order.{below}
use Rattle.wire_heads.proofs.HeadLaws.{head_parts}
use Rattle.wire_cbor.proofs.Walks.{walk-starts, seek_exact}
use Rattle.wire_fields.specs.Ranges.{number_in}
use Rattle.wire_fields.specs.ByPhase.{keys_below}
use Rattle.wire_fields.specs.declared.ranges.Range.{Range}
use Rattle.wire_fields.proofs.Joined.{and_left, and_right, and_same}
use Rattle.measurement_reader.proofs.Options.{no_value}
use Rattle.measurement_table.specs.Table.{range_of}
use Rattle.measurement_table.specs.Cells.{Cell, cell_in, cells_from, phases_in, blanks, row_in, rows_in}
use Rattle.measurement_reader.specs.Walk.{number_by, number_from, cell_at, next_at, cells_at, phases_from, row_at, rows_at}
use Rattle.measurement_table.proofs.Order.{Rising}
use Rattle.measurement_table.specs.declared.attributes.Row.{Row}

-- no key from w on
none_from : (ps : Pairs) (w k : ℕ) → keys_below w ps ≡ true → w ≤ k → value_of ps k ≡ none
unfolding keys_below value_of
none_from Pairs.empty w k e h = refl
none_from (Pairs.pair j i ps) w k e h =
    let l = ltb-true j w (and_left (ltb j w) (keys_below w ps) e) in
    rw (ne_eqb j k (λ z. omega arith)) (none_from ps w k (and_right (ltb j w) (keys_below w ps) e) h)

all_below : (t : ℕ) (ps : Pairs) → ((k : ℕ) → t ≤ k → value_of ps k ≡ none) → keys_below t ps ≡ true
unfolding keys_below value_of
all_below t Pairs.empty h = refl
all_below t (Pairs.pair j i ps) h = ⊎_elim
    (λ lt. and_same (lt-ltb j t lt) (all_below t ps (λ k le. sym (value_there j k i ps (λ z. omega arith)) ∙ h k le)))
    (λ le. absurd (no_value (sym (h j le) ∙ value_here j j i ps refl)))
    (below j t)

some-above : (t k : ℕ) (ps : Pairs) (i : Item) → t ≤ k → value_of ps k ≡ some i → keys_below t ps ≡ false
some-above t k ps i le e = go (keys_below t ps) refl
  where
    go : (b : Bool) → keys_below t ps ≡ b → b ≡ false
    go true x = absurd (no_value (sym (none_from ps t k x le) ∙ e))
    go false x = refl

-- a map with a pair has a count above zero
counted : (s : List ℕ) → Bytes s → (d p e j : ℕ) (i : Item) (ps : Pairs) → item_at s (suc d) p ≡ got (Item.map (Pairs.pair j i ps)) e → (n q : ℕ) → head_at s p ≡ head_is 5 n q → n ≡ suc (count_pairs ps)
unfolding count_pairs
counted s ok d p e j i ps h n q x = let y = read_head_of s ok (suc d) p e (Item.map (Pairs.pair j i ps)) h in (head_parts 5 n q 5 _ _ (sym x ∙ y)).1

blank-row : (r : Row) (b : Bool) → eqb r.1 1 ≡ b → ◌≡◌ {A = Option (List Cell)} (cond b (some (none ∷ [])) (some (blanks r.1))) (some (blanks r.1))
unfolding blanks
blank-row r true e = rw (eqb-true r.1 1 e)
blank-row r false e = refl

module _ (s : List ℕ) (ok : Bytes s) where
  number-exact : (g : Range) (d p e : ℕ) (i : Item) → item_at s d p ≡ got i e → number_from g (head_at s p) ≡ number_in g i
  unfolding number_from number_by number_in
  number-exact g d p e i h = rw (read_head_of s ok d p e i h) (go i)
    where
      go : (j : Item) → number_from g (head_is (major_of j) (arg_of j) (p + head_len (arg_of j))) ≡ number_in g j
      go (Item.uint v) = refl
      go (Item.nint v) = refl
      go (Item.bytes b) = refl
      go (Item.text b) = refl
      go (Item.array is) = refl
      go (Item.map ps) = refl
      go (Item.simple v) = refl

  found-cell : (g : Range) (d key : ℕ) (all : Pairs) (o : Option Item) (w : Stop) → Sought s d all key o w → cell_at s g w.there w.at ≡ cell_in g o
  unfolding cell_at cell_in
  found-cell g d key all (some i) w x = rw x.0 (ap (Option.map (λ (z : ℤ). some z)) (number-exact g d w.at x.1 i x.2))
  found-cell g d key all none w x = rw x.0

  goes_on_lem : (d key : ℕ) (all : Pairs) (o : Option Item) (w : Stop) → Sought s d all key o w → Walking s d all (key + 1) (next_at s d w.there w.at) w.left
  unfolding next_at
  goes_on_lem d key all (some i) w x = rw (x.0, x.2) x.3
  goes_on_lem d key all none w x = rw x.0 x.1

  last-cell : (d p n q : ℕ) (qs : Pairs) → Walking s d qs p q n → ◌≡◌ {A = Option (List Cell)} (cond (eqb n 0) (some []) none) (cond (keys_below p qs) (some []) none)
  unfolding pairs_at value_of
  last-cell d p zero q qs wk =
      let r = wk.reads in
      let e : Pairs.empty ≡ wk.rest = cc in
      rw (all_below p qs (λ k le. sym (wk.same k le) ∙ ap (λ (m : Pairs). value_of m k) (sym e)))
  last-cell d p (suc n) q qs wk =
      let st = pairs-step s (item_at s d) n p q wk.end wk.rest wk.reads in
      let v = sym (wk.same st.key st.order) ∙ ap (λ (m : Pairs). value_of m st.key) st.whole ∙ value_here st.key st.key st.item st.rest refl in
      rw (some-above p st.key qs st.item st.order v, ne_eqb (suc n) 0 (λ z. omega arith))

  no_cells : (o : Option Cell) → ◌≡◌ {A = Option (List Cell)} (bind o (λ c. none)) none
  unfolding bind
  no_cells (some c) = refl
  no_cells none = refl

  cells_walk : (g : Range) (d w p t n q : ℕ) (qs : Pairs) → t ≡ p + w → Walking s d qs p q n → cells_at s d g w p n q ≡ cond (keys_below t qs) (cells_from g w p qs) none
  unfolding cells_at cells_from
  cells_walk g d zero p t n q qs e wk = let f : t ≡ p = omega arith in rw f (last-cell d p n q qs wk)
  cells_walk g d (suc w) p t n q qs e wk =
      let x = seek_exact s d p q n p qs wk (omega arith) in
      let c = found-cell g d p qs (value_of qs p) (seek_at s d p n q) x in
      let r = cells_walk g d w (p + 1) t (seek_at s d p n q).left (next_at s d (seek_at s d p n q).there (seek_at s d p n q).at) qs (omega arith) (goes_on_lem d p qs (value_of qs p) (seek_at s d p n q) x) in
      rw (c, r) (go (keys_below t qs))
    where
      go : (b : Bool)
          → bind (cell_in g (value_of qs p)) (λ c. Option.map (λ (cs : List Cell). c ∷ cs) (cond b (cells_from g w (p + 1) qs) none))
          ≡ cond b (bind (cell_in g (value_of qs p)) (λ c. Option.map (λ (cs : List Cell). c ∷ cs) (cells_from g w (p + 1) qs))) none
      go true = refl
      go false = no_cells (cell_in g (value_of qs p))

  phases-walk : (g : Range) (d w p e : ℕ) (i : Item) → item_at s (suc d) p ≡ got i e → phases_from s d g w (head_at s p) ≡ phases_in g w i
  unfolding phases_from phases_in count_pairs
  phases-walk g d w p e (Item.uint v) h = rw (read_head_of s ok (suc d) p e (Item.uint v) h)
  phases-walk g d w p e (Item.nint v) h = rw (read_head_of s ok (suc d) p e (Item.nint v) h)
  phases-walk g d w p e (Item.bytes b) h = rw (read_head_of s ok (suc d) p e (Item.bytes b) h)
  phases-walk g d w p e (Item.text b) h = rw (read_head_of s ok (suc d) p e (Item.text b) h)
  phases-walk g d w p e (Item.array is) h = rw (read_head_of s ok (suc d) p e (Item.array is) h)
  phases-walk g d w p e (Item.map Pairs.empty) h = rw (read_head_of s ok (suc d) p e (Item.map Pairs.empty) h)
  phases-walk g d w p e (Item.map (Pairs.pair j i ps)) h =
      let x = walk-starts s ok d p e (Pairs.pair j i ps) h in
      let c = counted s ok d p e j i ps h x.0 x.1 x.2 in
      rw (x.2, ne_eqb x.0 0 (λ z. omega arith)) (cells_walk g d w 0 w x.0 x.1 (Pairs.pair j i ps) (omega arith) x.3)
  phases-walk g d w p e (Item.simple v) h = rw (read_head_of s ok (suc d) p e (Item.simple v) h)

  row-walk : (d : ℕ) (r : Row) (key : ℕ) (all : Pairs) (o : Option Item) (w : Stop) → Sought s (suc d) all key o w → row_at s d r w.there w.at ≡ row_in r o
  unfolding row_at row_in cell_at
  row-walk d r key all (some i) w x =
      rw (x.0, phases-walk (range_of r.2) d r.1 w.at x.1 i x.2, number-exact (range_of r.2) (suc d) w.at x.1 i x.2) (go (eqb r.1 1) (number_in (range_of r.2) i))
    where
      go : (b : Bool) (m : Option ℤ)
          → cond b (Option.map (λ (c : Cell). c ∷ []) (Option.map (λ (z : ℤ). some z) m)) (phases_in (range_of r.2) r.1 i)
          ≡ cond b (Option.map (λ (z : ℤ). some z ∷ []) m) (phases_in (range_of r.2) r.1 i)
      go true (some z) = refl
      go true none = refl
      go false m = refl
  row-walk d r key all none w x = rw x.0 (blank-row r (eqb r.1 1) refl)

  pub rows-walk : (d : ℕ) (rs : List Row) (lo n q : ℕ) (ps : Pairs) → Rising rs lo → Walking s (suc d) ps lo q n → rows_at s d rs n q ≡ rows_in rs ps
  unfolding rows_at rows_in
  rows-walk d [] lo n q ps g wk = refl
  rows-walk d (r ∷ rs) lo n q ps g wk =
      let w = seek_at s (suc d) r.0 n q in
      let x = seek_exact s (suc d) lo q n r.0 ps wk g.0 in
      let a = row-walk d r r.0 ps (value_of ps r.0) w x in
      let on = goes_on_lem (suc d) r.0 ps (value_of ps r.0) w x in
      let b = rows-walk d rs (r.0 + 1) w.left (next_at s (suc d) w.there w.at) ps g.3 on in
      rw (a, b)
