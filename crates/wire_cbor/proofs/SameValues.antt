-- Pairs with ascending keys are known by what they hold under each key. Assumes nothing.
use Prim.Native.Nat.{ℕ, ◌+◌, ◌≤◌}
use mathlib.Core.Path.{◌≡◌, refl, sym, ◌∙◌}
use mathlib.Core.Logic.{⊎_elim}
use native.Mathlib.Omega.{arith}
use Rattle.wire_cbor.specs.Item.{Item, Pairs, Ok, OkPairs}
use Rattle.wire_cbor.specs.Find.{value_of}
use Rattle.wire_cbor.specs.Encodings.{SameValues}
use Rattle.wire_bytes.proofs.Order.{below}
use Rattle.wire_cbor.proofs.Seen.{value_here, value_there, none_below}

-- the first key of ps is not below that of qs, where they hold the same
first_key : (j k : ℕ) (i l : Item) (ps qs : Pairs) (d : ℕ) → OkPairs qs (k + 1) d → value_of (Pairs.pair j i ps) j ≡ value_of (Pairs.pair k l qs) j → k ≤ j
first_key j k i l ps qs d ok h = ⊎_elim
    (λ lt.
    let a = value_here j j i ps refl in
    let b = value_there k j l qs (λ z. omega arith) in
    let c = none_below qs (k + 1) d j ok (omega arith) in
    absurd (let z : ◌≡◌ {A = ℕ} 0 1 = cc in omega arith))
    (λ le. le)
    (below j k)

tails : (j k : ℕ) (i l : Item) (ps qs : Pairs) (d : ℕ) → j ≡ k → OkPairs ps (j + 1) d → OkPairs qs (k + 1) d → ((n : ℕ) → value_of (Pairs.pair j i ps) n ≡ value_of (Pairs.pair k l qs) n)
    → (n : ℕ) → value_of ps n ≡ value_of qs n
tails j k i l ps qs d e a b h n = ⊎_elim
    (λ lt. none_below ps (j + 1) d n a lt ∙ sym (none_below qs (k + 1) d n b (omega arith)))
    (λ le. sym (value_there j n i ps (λ z. omega arith)) ∙ h n ∙ value_there k n l qs (λ z. omega arith))
    (below n (j + 1))

pub same-values : SameValues
unfolding Ok value_of
same-values Pairs.empty Pairs.empty lo lo' d a b h = refl
same-values Pairs.empty (Pairs.pair k l qs) lo lo' d a b h =
    let x = h k in let y = value_here k k l qs refl in absurd (let z : ◌≡◌ {A = ℕ} 0 1 = cc in omega arith)
same-values (Pairs.pair j i ps) Pairs.empty lo lo' d a b h =
    let x = h j in let y = value_here j j i ps refl in absurd (let z : ◌≡◌ {A = ℕ} 0 1 = cc in omega arith)
same-values (Pairs.pair j i ps) (Pairs.pair k l qs) lo lo' d a b h =
    let p = first_key j k i l ps qs d b.3 (h j) in
    let q = first_key k j l i qs ps d a.3 (sym (h k)) in
    let e : j ≡ k = omega arith in
    let x = h j in
    let y = value_here j j i ps refl in
    let z = value_here k j l qs (sym e) in
    let il : i ≡ l = cc in
    let rest = same-values ps qs (j + 1) (k + 1) d a.3 b.3 (tails j k i l ps qs d e a.3 b.3 h) in
    cc
