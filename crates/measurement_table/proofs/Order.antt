-- The order and the size of the table: one computed test. Assumes nothing.
use Prim.Native.Nat.{ℕ, ◌+◌, ◌^◌, ◌≤◌, ◌<◌}
use mathlib.Core.Path.{◌≡◌, refl}
use mathlib.Core.Bool.{Bool, true, ◌&&◌}
use mathlib.Core.List.{List, [], ◌∷◌}
use native.Mathlib.Omega.{arith}
use lib.ListN.{length}
use lib.Dec.{leb, ltb}
use borrow.Author.Tests.{leb-true, ltb-true}
use Rattle.wire_fields.proofs.Joined.{and_left, and_right}
use Rattle.measurement_table.specs.Table.{rows, places}
use Rattle.measurement_table.specs.declared.attributes.Row.{Row}

-- numbers ascend from lo on
abbrev pub Rising : List Row → ℕ → Type 0
Rising [] lo = Unit {0}
Rising (r ∷ rs) lo = (lo ≤ r.0) × (r.0 < 2 ^ 64) × (r.1 < 2 ^ 64) × Rising rs (r.0 + 1)

-- no row has more than three places
abbrev pub Few : List Row → Type 0
Few [] = Unit {0}
Few (r ∷ rs) = (r.1 ≤ 3) × Few rs

abbrev rises : List Row → ℕ → Bool
rises [] lo = true
rises (r ∷ rs) lo = leb lo r.0 && (ltb r.0 256 && (leb r.1 3 && rises rs (r.0 + 1)))

rising : (rs : List Row) (lo : ℕ) → rises rs lo ≡ true → Rising rs lo × Few rs
rising [] lo e = (tt, tt)
rising (r ∷ rs) lo e =
    let rest = rises rs (r.0 + 1) in
    let f = and_right (leb lo r.0) (ltb r.0 256 && (leb r.1 3 && rest)) e in
    let g = and_right (ltb r.0 256) (leb r.1 3 && rest) f in
    let t = rising rs (r.0 + 1) (and_right (leb r.1 3) rest g) in
    let a = leb-true lo r.0 (and_left (leb lo r.0) (ltb r.0 256 && (leb r.1 3 && rest)) e) in
    let b = ltb-true r.0 256 (and_left (ltb r.0 256) (leb r.1 3 && rest) f) in
    let c = leb-true r.1 3 (and_left (leb r.1 3) rest g) in
    ((a, omega arith, omega arith, t.0), (c, t.1))

pub table : Rising rows 0 × Few rows
unfolding rows
table = rising rows 0 refl

pub table-long : (length rows ≡ 24) × (places rows ≡ 36)
unfolding rows places
table-long = (refl, refl)
