-- Pairs of hex digits: room for them, and how they are stored. Assumes nothing.
use Prim.Native.Nat.{ℕ, suc, ◌+◌, ◌*◌, ◌/◌, ◌%◌, ◌<◌}
use mathlib.Core.Path.{◌≡◌, refl}
use mathlib.Core.List.{List, [], ◌∷◌}
use native.Mathlib.Numerals.{add-one}
use native.Mathlib.Omega.{arith}
use lib.ListN.{length, set, get_or, drop}
use lib.Seq.{drop-cons, drop-length}
use Rattle.wire_bytes.specs.Bytes.{put}
use Rattle.text.specs.Text.{hex_digit, hex}

pub hex-length : (bs : List ℕ) → 2 * length bs ≡ length (hex bs)
unfolding hex
hex-length [] = refl
hex-length (b ∷ bs) = omega (arith, hex-length bs)

-- one pair more, and none left
module _ (s bs : List ℕ) (p i : ℕ) where
  pub pair_more : (t : List ℕ) → i < length bs
      → t ≡ set (set s (p + 2 * i) (hex_digit (get_or bs i 0 / 16))) (p + 2 * i + 1) (hex_digit (get_or bs i 0 % 16))
      → put t (p + 2 * (i + 1)) (hex (drop (i + 1) bs)) ≡ put s (p + 2 * i) (hex (drop i bs))
  unfolding put hex
  pair_more t h e =
      let k : p + 2 * (i + 1) ≡ suc (suc (p + 2 * i)) = omega arith in
      rw (e, k, add-one (p + 2 * i), add-one i, drop-cons bs i 0 h)

  pub pair_none : i ≡ length bs → s ≡ put s (p + 2 * i) (hex (drop i bs))
  unfolding put hex
  pair_none k = rw (k, drop-length bs)
