-- Hex digits in pairs, read from the front. Assumes nothing.
use Prim.Native.Nat.{ℕ, zero, suc, ◌+◌, ◌*◌, ◌/◌, ◌%◌, ◌≤◌, ◌<◌}
use mathlib.Core.Path.{◌≡◌, refl, sym, ap, ◌∙◌}
use mathlib.Core.Bool.{Bool, true, false, ◌&&◌, cond}
use Rattle.std.specs.Prelude.{Some, None}
use Rattle.std.specs.List.{list_all}
use mathlib.Core.List.{List, [], ◌∷◌}
use native.Mathlib.Numerals.{add-one}
use native.Mathlib.Omega.{arith}
use lib.Dec.{ltb, leb, eqb}
use lib.ListN.{length, get_or, set, take, drop, length-drop}
use lib.Seq.{drop-cons, drop-drop, get_or-take, get_or-drop}
use Rattle.std.specs.Simd.{first_chunks}
use borrow.Author.Tests.{leb-true, eqb-true}
use Rattle.wire_bytes.specs.Bytes.{put}
use Rattle.console_words.specs.Hex.{is_hex, all_hex, nibble, hex_bytes, is_none, is_pairs, hex_read, hex_after}

-- the library's answer on every byte is the definition's
pub every_hex : (s : List ℕ) → list_all is_hex s ≡ all_hex s
unfolding all_hex
every_hex [] = refl
every_hex (b ∷ s) = go (is_hex b) (every_hex s)
  where
    go : (q : Bool) → list_all is_hex s ≡ all_hex s → (q && list_all is_hex s) ≡ cond q (all_hex s) false
    go true e = e
    go false e = refl

both_left : (a b : Bool) → a && b ≡ true → a ≡ true
both_left true b e = refl
both_left false b e = e

pub both_right : (a b : Bool) → a && b ≡ true → b ≡ true
both_right true b e = e
both_right false b e = absurd (let z : ◌≡◌ {A = ℕ} 0 1 = cc in omega arith)

module _ (s : List ℕ) where
  none-length : is_none s ≡ true → length s ≡ 1
  unfolding is_none
  none-length e = eqb-true (length s) 1 (both_left (eqb (length s) 1) (eqb (get_or s 0 0) 45) e)

  module _ (room : ℕ) where
    pub pairs-fit : (b : Bool) → b ≡ is_pairs s room → b ≡ true → length s / 2 ≤ room
    unfolding is_pairs
    pairs-fit b e t =
        let w = both_left (ltb 0 (length s) && eqb (length s % 2) 0 && leb (length s / 2) room) (all_hex s) (sym e ∙ t) in
        leb-true (length s / 2) room (both_right (ltb 0 (length s) && eqb (length s % 2) 0) (leb (length s / 2) room) w)

    pub pairs-digits : (b : Bool) → b ≡ is_pairs s room → b ≡ true → all_hex s ≡ true
    unfolding is_pairs
    pairs-digits b e t = both_right (ltb 0 (length s) && eqb (length s % 2) 0 && leb (length s / 2) room) (all_hex s) (sym e ∙ t)

-- two numbers at a time
two-at : (k i : ℕ) (l : List ℕ) → i < k → get_or (first_chunks 2 k l) i [] ≡ take 2 (drop (2 * i) l)
two-at zero i l h = absurd (omega arith)
two-at (suc k) zero l h = refl
two-at (suc k) (suc i) l h =
    let e : 2 + 2 * i ≡ 2 * suc i = omega arith in
    two-at k i (drop 2 l) (omega arith) ∙ ap (take 2) (drop-drop (2 * i) 2 l ∙ ap (λ (m : ℕ). drop m l) e)

module _ (l : List ℕ) (cs : List (List ℕ)) (is : cs ≡ first_chunks 2 (length l / 2) l) (i : ℕ) where
  -- one of the two numbers of the i-th
  pub one_of : (j : ℕ) → i < length l / 2 → j < 2 → get_or (get_or cs i []) j 0 ≡ get_or l (2 * i + j) 0
  one_of j h k =
      rw (is, two-at (length l / 2) i l h) (get_or-take 2 (drop (2 * i) l) j 0 k ∙ get_or-drop (2 * i) l j 0)

-- each byte of digits is one
first-digit : (q r : Bool) → cond q r false ≡ true → q ≡ true
first-digit true r e = refl
first-digit false r e = e

other-digits : (q r : Bool) → cond q r false ≡ true → r ≡ true
other-digits true r e = e
other-digits false r e = absurd (cc)

hex-at : (s : List ℕ) (k : ℕ) → all_hex s ≡ true → k < length s → is_hex (get_or s k 0) ≡ true
unfolding all_hex
hex-at [] k a h = absurd (omega arith)
hex-at (b ∷ s) zero a h = first-digit (is_hex b) (all_hex s) a
hex-at (b ∷ s) (suc k) a h = hex-at s k (other-digits (is_hex b) (all_hex s) a) (omega arith)

-- what the i-th pair of digits says
pub pair_said : (s : List ℕ) (cs : List (List ℕ)) → cs ≡ first_chunks 2 (length s / 2) s → (i v : ℕ) → all_hex s ≡ true → i < length s / 2
    → (is_hex (get_or (get_or cs i []) 0 0) ≡ true → is_hex (get_or (get_or cs i []) 1 0) ≡ true
    → v ≡ 16 * nibble (get_or (get_or cs i []) 0 0) + nibble (get_or (get_or cs i []) 1 0))
    → v ≡ 16 * nibble (get_or s (2 * i) 0) + nibble (get_or s (2 * i + 1) 0)
pair_said s cs is i v a h f =
    let z : 2 * i + 0 ≡ 2 * i = omega arith in
    let x : get_or (get_or cs i []) 0 0 ≡ get_or s (2 * i) 0 = rw z at (one_of s cs is i 0 h (omega arith)) in
    let y = one_of s cs is i 1 h (omega arith) in
    (rw (x, y) at f) (hex-at s (2 * i) a (omega arith)) (hex-at s (2 * i + 1) a (omega arith))

-- a word of one byte has no pair
none-bytes : (s out : List ℕ) → length s ≡ 1 → (length s / 2 ≡ 0) × (put out 0 (hex_bytes s) ≡ out)
unfolding put hex_bytes
none-bytes [] out h = absurd (omega arith)
none-bytes (a ∷ []) out h = (refl, refl)
none-bytes (a ∷ b ∷ s) out h = absurd (omega arith)

module _ (s out : List ℕ) (b : Bool) (e : b ≡ is_none s) where
  pub read_none : b ≡ true → (Some 0 ≡ hex_read s (length out)) × (out ≡ hex_after s out)
  unfolding hex_read hex_after
  read_none t = let w = none-bytes s out (none-length s (sym e ∙ t)) in rw (sym e ∙ t, w.0, w.1) (refl, refl)

  module _ (f : b ≡ false) (p : Bool) (d : p ≡ is_pairs s (length out)) where
    pub read_pairs : (o : List ℕ) → p ≡ true → o ≡ put out 0 (hex_bytes s) → (Some (length s / 2) ≡ hex_read s (length out)) × (o ≡ hex_after s out)
    unfolding hex_read hex_after
    read_pairs o t z = rw (sym e ∙ f, sym d ∙ t) (refl, z)

    pub read_bad : p ≡ false → (None ≡ hex_read s (length out)) × (out ≡ hex_after s out)
    unfolding hex_read hex_after
    read_bad t = rw (sym e ∙ f, sym d ∙ t) (refl, refl)

-- the bytes from the n-th on
short_bytes : (s : List ℕ) → length s < 2 → hex_bytes s ≡ []
unfolding hex_bytes
short_bytes [] h = refl
short_bytes (a ∷ []) h = refl
short_bytes (a ∷ b ∷ s) h = absurd (omega arith)

module _ (s out : List ℕ) (n k : ℕ) (q : List ℕ) (inv : put out n (hex_bytes (drop k s)) ≡ q) where
  pub store-turn : (m v : ℕ) → k + 1 < length s → m ≡ suc (suc k) → v ≡ 16 * nibble (get_or s k 0) + nibble (get_or s (k + 1) 0) → put (set out n v) (n + 1) (hex_bytes (drop m s)) ≡ q
  unfolding put hex_bytes
  store-turn m v h e z =
      let h₀ : k < length s = omega arith in
      let h₁ : suc k < length s = omega arith in
      rw (add-one n, e, z, add-one k) (rw (drop-cons s k 0 h₀, drop-cons s (suc k) 0 h₁) at inv)

  pub store-end : length s < k + 2 → out ≡ q
  unfolding put
  store-end h = rw (short_bytes (drop k s) (omega (arith, length-drop k s))) at inv
