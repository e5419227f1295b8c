-- A cell as it is counted, and the rows that hold it, case by case. Assumes nothing.
use Prim.Native.Nat.{ℕ, ◌+◌}
use mathlib.Core.Path.{◌≡◌, refl, sym, ap, ◌∙◌}
use mathlib.Core.List.{List, [], ◌∷◌}
use mathlib.Core.Option.{Option, some, none}
use native.Mathlib.Omega.{arith}
use lib.IntN.{pos, negsuc}
use borrow.Author.Tests.{eq-eqb}
use Rattle.wire_cbor.specs.Item.{Item, Pairs, count_pairs}
use Rattle.wire_cbor.specs.Scan.{key_head_of}
use Rattle.wire_cbor.specs.declared.heads.KeyHead.{KeyHead}
use Rattle.wire_fields.specs.Fields.{Fields, present}
use Rattle.wire_fields.specs.Puts.{pairs_of}
use Rattle.wire_fields.specs.ByPhase.{seen_of, phase_map}
use Rattle.wire_fields.proofs.Added.{Flat, count-more, count_none}
use Rattle.measurement_table.specs.Cells.{Cell, cell_item, phase_fields, some_map, first_item, row_item}
use Rattle.measurement_table.specs.Words.{held_at, held_from}
use Rattle.measurement_table.specs.declared.attributes.Row.{Row}
use Rattle.measurement_writer.proofs.FitCases.{held_one, held-three}

pub flat-cell : (c : Cell) → Flat (cell_item c)
unfolding cell_item
flat-cell none = tt
flat-cell (some (pos n)) = tt
flat-cell (some (negsuc n)) = tt

-- COUNTED
some-map : (qs : Pairs) → (count_pairs qs ≡ 0 → ⊥) → some_map qs ≡ some (Item.map qs)
unfolding count_pairs some_map
some-map Pairs.empty z = absurd (z refl)
some-map (Pairs.pair k i ps) z = refl

no_map : (qs : Pairs) → count_pairs qs ≡ 0 → some_map qs ≡ none
unfolding count_pairs some_map
no_map Pairs.empty z = refl
no_map (Pairs.pair k i ps) z = absurd (omega arith)

seen-cell : (c : Cell) → seen_of (key_head_of (cell_item c)) ≡ pairs_of (cell_item c)
unfolding cell_item key_head_of
seen-cell none = refl
seen-cell (some (pos n)) = refl
seen-cell (some (negsuc n)) = refl

one_item : (ws : List ℕ) (i : ℕ) (r : Row) → r.1 ≡ 1 → row_item r (held_from ws r.1 i) ≡ cell_item (held_at ws i)
unfolding row_item first_item
one_item ws i r l = rw (eq-eqb r.1 1 l, held_one ws i r.1 l)

-- the fields of a map of three phases, as that room writes them
abbrev three : Option Item → Option Item → Option Item → Fields
three a b c = (0, a) ∷ (1, b) ∷ (2, c) ∷ []

three_item : (ws : List ℕ) (i : ℕ) (r : Row) → r.1 ≡ 3
    → row_item r (held_from ws r.1 i) ≡ some_map (present (three (cell_item (held_at ws i)) (cell_item (held_at ws (i + 1))) (cell_item (held_at ws (i + 2)))))
unfolding row_item phase_fields
three_item ws i r l = rw (l, held-three ws i 3 refl) refl

module _ (x y z : Cell) (a b c : KeyHead) (ae : a ≡ key_head_of (cell_item x)) (be : b ≡ key_head_of (cell_item y)) (ce : c ≡ key_head_of (cell_item z)) where
  pub three_count : seen_of a + (seen_of b + seen_of c) ≡ count_pairs (present (three (cell_item x) (cell_item y) (cell_item z)))
  three_count = rw (ae, be, ce, seen-cell x, seen-cell y, seen-cell z, count-more, count-more, count-more, count_none) (omega arith)

module _ (ws : List ℕ) (i : ℕ) (r : Row) where
  module _ (l : r.1 ≡ 1) (a : KeyHead) (ae : a ≡ key_head_of (cell_item (held_at ws i))) where
    no-pair : (c : Cell) → a ≡ key_head_of (cell_item c) → a.major ≡ 8 → 0 ≡ pairs_of (cell_item c)
    unfolding cell_item key_head_of
    no-pair none e z = refl
    no-pair (some (pos n)) e z = absurd (omega (arith, ap (λ (x : KeyHead). x.major) e))
    no-pair (some (negsuc n)) e z = absurd (omega (arith, ap (λ (x : KeyHead). x.major) e))

    a_pair : (c : Cell) → a ≡ key_head_of (cell_item c) → (a.major ≡ 8 → ⊥) → 1 ≡ pairs_of (cell_item c)
    unfolding cell_item key_head_of
    a_pair none e z = absurd (z (ap (λ (x : KeyHead). x.major) e))
    a_pair (some z') e z = refl

    pub one_absent : a.major ≡ 8 → 0 ≡ pairs_of (row_item r (held_from ws r.1 i))
    one_absent z = no-pair (held_at ws i) ae z ∙ ap pairs_of (sym (one_item ws i r l))

    pub one_there : (a.major ≡ 8 → ⊥) → 1 ≡ pairs_of (row_item r (held_from ws r.1 i))
    one_there z = a_pair (held_at ws i) ae z ∙ ap pairs_of (sym (one_item ws i r l))

  pub item_one : r.1 ≡ 1 → cell_item (held_at ws i) ≡ row_item r (held_from ws r.1 i)
  item_one l = sym (one_item ws i r l)

  module _ (l : r.1 ≡ 3) (a b c : KeyHead) (ae : a ≡ key_head_of (cell_item (held_at ws i))) (be : b ≡ key_head_of (cell_item (held_at ws (i + 1)))) (ce : c ≡ key_head_of (cell_item (held_at ws (i + 2))))
      (n : ℕ) (ne : n ≡ seen_of a + (seen_of b + seen_of c)) where
    counted : n ≡ count_pairs (present (three (cell_item (held_at ws i)) (cell_item (held_at ws (i + 1))) (cell_item (held_at ws (i + 2)))))
    counted = ne ∙ three_count (held_at ws i) (held_at ws (i + 1)) (held_at ws (i + 2)) a b c ae be ce

    -- no phase, no map; else the map
    pub three_none : n ≡ 0 → none ≡ row_item r (held_from ws r.1 i)
    three_none z = sym (three_item ws i r l ∙ no_map _ (sym counted ∙ z))

    pub three_some : (n ≡ 0 → ⊥) → phase_map (cell_item (held_at ws i)) (cell_item (held_at ws (i + 1))) (cell_item (held_at ws (i + 2))) ≡ row_item r (held_from ws r.1 i)
    three_some z = sym (three_item ws i r l ∙ some-map _ (λ e. z (counted ∙ e)))

    pub three_absent : n ≡ 0 → 0 ≡ pairs_of (row_item r (held_from ws r.1 i))
    three_absent z = ap pairs_of (three_none z)

    pub three_there : (n ≡ 0 → ⊥) → 1 ≡ pairs_of (row_item r (held_from ws r.1 i))
    three_there z = ap pairs_of (three_some z)
