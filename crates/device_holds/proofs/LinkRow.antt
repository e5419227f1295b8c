-- The row of the table of links, found in one loop: what is left decides, and r is the row where no zone of it is joined.
use Prim.Native.Nat.{ℕ, suc, ◌+◌, ◌<◌, ◌≤◌}
use mathlib.Core.Bool.{Bool, true, false, cond}
use mathlib.Core.Path.{◌≡◌, refl}
use mathlib.Core.List.{List}
use native.Mathlib.Numerals.{add-one}
use borrow.Author.Tests.{eq-eqb, ne_eqb}
use lib.ListN.{length, get_or, drop, drop_of_length-le}
use lib.Seq.{drop-cons}
use Rattle.device_store.specs.Zones.{id_of, free_zone, any, is_joined, is_up, any_joined, any_up}
use Rattle.device_holds.specs.Links.{link_row}
use Rattle.device_store.specs.declared.Zone.{Zone}

abbrev pub row_from : ℕ → List Zone → ℕ
row_from r zs = cond (any_up zs) 2 (cond (any_joined zs) 1 r)

module _ (zs : List Zone) (r i : ℕ) (inv : row_from r (drop i zs) ≡ link_row zs) where
  module _ (h : i < length zs) where
    abbrev here : Zone
    here = get_or zs i free_zone

    pub row_up : (id_of here ≡ 0 → ⊥) → here.up ≡ true → 2 ≡ link_row zs
    unfolding any_up any_joined any is_up is_joined
    row_up n u = rw (drop-cons zs i free_zone h, ne_eqb (id_of here) 0 n, u) at inv

    pub row-down : (id_of here ≡ 0 → ⊥) → here.up ≡ false → row_from 1 (drop (i + 1) zs) ≡ link_row zs
    unfolding any_up any_joined any is_up is_joined
    row-down n u = rw (add-one i, or_one (any is_joined (drop (suc i) zs))) (rw (drop-cons zs i free_zone h, ne_eqb (id_of here) 0 n, u) at inv)
      where
        or_one : (b : Bool) → ◌≡◌ {A = ℕ} (cond b 1 1) 1
        or_one true = refl
        or_one false = refl

    pub row-free : id_of here ≡ 0 → row_from r (drop (i + 1) zs) ≡ link_row zs
    unfolding any_up any_joined any is_up is_joined
    row-free e = rw (add-one i) (rw (drop-cons zs i free_zone h, eq-eqb (id_of here) 0 e) at inv)

  pub row-end : length zs ≤ i → r ≡ link_row zs
  unfolding any_up any_joined any
  row-end h = rw (drop_of_length-le zs h) at inv
