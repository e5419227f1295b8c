-- Decimal digits: how many there are, and how they are stored. Assumes nothing.
use Prim.Native.Nat.{ℕ, zero, suc, ◌+◌, ◌*◌, ◌/◌, ◌%◌, ◌^◌, ◌≤◌, ◌<◌}
use mathlib.Core.Path.{◌≡◌, refl, sym, ◌∙◌}
use mathlib.Core.List.{List, [], ◌∷◌}
use native.Mathlib.Nat.{pow-suc}
use native.Mathlib.Numerals.{add-one}
use native.Mathlib.Omega.{arith}
use lib.ListN.{length, set, length-append}
use borrow.Author.Tests.{lt-ltb, le-ltb}
use Rattle.wire_bytes.specs.Bytes.{put}
use Rattle.wire_bytes.proofs.PutLaws.{put-last}
use Rattle.text.specs.Text.{digits, width_in, decimal}

pub digits-length : (w n : ℕ) → length (digits w n) ≡ w
unfolding digits
digits-length zero n = refl
digits-length (suc w) n = omega (arith, length-append (digits w (n / 10)) ((48 + n % 10) ∷ []), digits-length w (n / 10))

pub decimal-length : (n w : ℕ) → w ≡ width_in 19 n → w ≡ length (decimal n)
unfolding decimal
decimal-length n w e = e ∙ sym (digits-length (width_in 19 n) n)

pub minus_length : (n w : ℕ) → w ≡ width_in 19 n → 1 + w ≡ length (45 ∷ decimal n)
minus_length n w e = omega (arith, decimal-length n w e)

-- how many digits there are
width_one : (f n : ℕ) → n < 10 → width_in f n ≡ 1
unfolding width_in
width_one zero n h = refl
width_one (suc f) n h = rw (lt-ltb n 10 h)

width_more : (f n : ℕ) → 10 ≤ n → width_in (suc f) n ≡ suc (width_in f (n / 10))
unfolding width_in
width_more f n h = rw (le-ltb n 10 h)

one_power : (k : ℕ) → 1 ≤ 10 ^ k
one_power zero = omega arith
one_power (suc k) = omega (arith, pow-suc 10 k, one_power k)

width_power : (f k n : ℕ) → k ≤ f → 10 ^ k ≤ n → n < 10 * 10 ^ k → k + 1 ≡ width_in f n
width_power zero zero n l a b = sym (width_one zero n (omega arith))
width_power zero (suc k) n l a b = absurd (omega arith)
width_power (suc f) zero n l a b = sym (width_one (suc f) n (omega arith))
width_power (suc f) (suc k) n l a b =
    let h : 10 ^ k * 10 ≤ n = rw (pow-suc 10 k) at a in
    let g : n < 10 * (10 ^ k * 10) = rw (pow-suc 10 k) at b in
    omega (arith, width_more f n (omega (arith, one_power k)), width_power f k (n / 10) (omega arith) (omega arith) (omega arith))

pub width_log : (k n : ℕ) → k < 20 → 10 ^ k ≤ n → n < 10 * 10 ^ k → k + 1 ≡ width_in 19 n
width_log k n l a b = width_power 19 k n (omega arith) a b

pub width_zero : 1 ≡ width_in 19 0
width_zero = sym (width_one 19 0 (omega arith))

-- a number's last digit stored first, and then the others
pub put_last : (s : List ℕ) (p i j v : ℕ) → i ≡ suc j → put (set s (p + j) (48 + v % 10)) p (digits j (v / 10)) ≡ put s p (digits i v)
unfolding digits
put_last s p i j v e = rw e (put-last s (digits j (v / 10)) p j (48 + v % 10) (digits-length j (v / 10)))

pub put-nothing : (s : List ℕ) (p i v : ℕ) → i ≡ 0 → put s p (digits i v) ≡ s
unfolding put digits
put-nothing s p i v e = rw e

-- a number's digits, and a sign before them
pub put-decimal : (s t : List ℕ) (p w n : ℕ) → w ≡ width_in 19 n → t ≡ put s p (digits w n) → t ≡ put s p (decimal n)
unfolding decimal
put-decimal s t p w n e h = h ∙ rw e

pub put-minus : (s t : List ℕ) (p w n : ℕ) → w ≡ width_in 19 n → t ≡ put (set s p 45) (p + 1) (digits w n) → t ≡ put s p (45 ∷ decimal n)
unfolding put decimal
put-minus s t p w n e h = h ∙ rw (e, add-one p)
