-- Numbers as bytes: what stands at a position is what is read there, and the other way round. Assumes nothing.
use Prim.Native.Nat.{ℕ, zero, suc, ◌+◌, ◌-◌, ◌*◌, ◌/◌, ◌%◌, ◌^◌, ◌<◌, ◌≤◌}
use mathlib.Core.Path.{◌≡◌, refl, sym, ap, ◌∙◌}
use mathlib.Core.List.{List, [], ◌∷◌, ◌++◌, append_assoc}
use native.Mathlib.Nat.{add-zero, add-suc, mul_assoc, pow-suc, pow-le-pow_right}
use native.Mathlib.Numerals.{add-one}
use native.Mathlib.Omega.{arith}
use lib.ListN.{length, get_or, drop, length-append, length-drop, get_or-eq_default}
use lib.Seq.{get_or-drop, drop-drop, drop-cons, drop-append_seam}
use mir.Val.{Fits}
use mir.Syntax.{w8}
use Rattle.wire_bytes.specs.Bytes.{number_at, bytes_of, Bytes}
use Rattle.wire_bytes.specs.Laws.{NumberExact}

-- a slice of bytes holds bytes
pub all_bytes : (s : List ℕ) → ((k : ℕ) → Fits w8 (get_or s k 0)) → Bytes s
unfolding Bytes
all_bytes s h k = (h k).fits

pub zero-past : (s : List ℕ) (k : ℕ) → length s ≤ k → 0 ≡ get_or s k 0
zero-past s k h = sym (get_or-eq_default s 0 {n = k} h)

pub at_first : (s t : List ℕ) (q x : ℕ) → drop q s ≡ x ∷ t → get_or s q 0 ≡ x
at_first s t q x e = ap (λ (k : ℕ). get_or s k 0) (sym (add-zero q)) ∙ sym (get_or-drop q s 0 0) ∙ ap (λ (l : List ℕ). get_or l 0 0) e

pub past : (a t s : List ℕ) (q : ℕ) → drop q s ≡ a ++ t → drop (q + length a) s ≡ t
past a t s q e = sym (drop-drop (length a) q s) ∙ ap (drop (length a)) e ∙ drop-append_seam a t

pub room : (a t s : List ℕ) (q : ℕ) → drop q s ≡ a ++ t → length a ≤ length s - q
room a t s q e = omega (arith, length-drop q s, ap length e, length-append a t)

pub cons_at : (s : List ℕ) (q : ℕ) → q < length s → drop q s ≡ get_or s q 0 ∷ drop (q + 1) s
cons_at s q h = rw (add-one, drop-cons s q 0)

pub bytes-length : (w v : ℕ) → length (bytes_of w v) ≡ w
unfolding bytes_of
bytes-length zero v = refl
bytes-length (suc w) v = omega (arith, length-append (bytes_of w (v / 256)) (v % 256 ∷ []), bytes-length w (v / 256))

-- w bytes that stand at q say their number
pub number_of : (w : ℕ) (s t : List ℕ) (q v : ℕ) → v < 256 ^ w → drop q s ≡ bytes_of w v ++ t → number_at s q w ≡ v
unfolding number_at bytes_of
number_of zero s t q v lt e = omega arith
number_of (suc w) s t q v lt e =
    let f = e ∙ append_assoc (bytes_of w (v / 256)) (v % 256 ∷ []) t in
    let h : v < 256 ^ w * 256 = rw (pow-suc 256 w) at lt in
    let x = number_of w s (v % 256 ∷ t) q (v / 256) (omega arith) f in
    let g : drop (q + w) s ≡ v % 256 ∷ t = rw (bytes-length w (v / 256)) at (past (bytes_of w (v / 256)) (v % 256 ∷ t) s q f) in
    omega (arith, x, at_first s t (q + w) (v % 256) g)

-- a number is that of its first bytes, then that of the others
pub number-join : (s : List ℕ) (q a b : ℕ) → number_at s q (a + b) ≡ number_at s q a * 256 ^ b + number_at s (q + a) b
unfolding number_at
number-join s q a zero = ap (number_at s q) (add-zero a) ∙ omega arith
number-join s q a (suc b) =
    let e : q + (a + b) ≡ q + a + b = omega arith in
    let m : number_at s q a * 256 ^ suc b ≡ number_at s q a * 256 ^ b * 256 = rw (pow-suc 256 b) (sym (mul_assoc (number_at s q a) (256 ^ b) 256)) in
    ap (number_at s q) (add-suc a b) ∙ omega (arith, m, number-join s q a b, ap (λ (k : ℕ). get_or s k 0) e)

pub number-one : (s : List ℕ) (q : ℕ) → get_or s q 0 ≡ number_at s q 1
unfolding number_at
number-one s q = omega (arith, ap (λ (k : ℕ). get_or s k 0) (add-zero q))

-- two halves of one width, each read for itself
pub number-halves : (s : List ℕ) (q w a b : ℕ) → a ≡ number_at s q w → b ≡ number_at s (q + w) w → a * 256 ^ w + b ≡ number_at s q (w + w)
number-halves s q w a b e f = rw (e, f) (sym (number-join s q w w))

module _ (s : List ℕ) (ok : Bytes s) where
  pub number_small : (w q : ℕ) → number_at s q w < 256 ^ w
  unfolding number_at Bytes
  number_small zero q = omega arith
  number_small (suc w) q = rw (pow-suc 256 w) (omega (arith, number_small w q, ok (q + w)))

  pub number_fits : (w q : ℕ) → w ≤ 8 → number_at s q w < 2 ^ 64
  number_fits w q h = omega (arith, number_small w q, pow-le-pow_right {n = 256} (omega arith) h)

  -- the number read at q stands there
  pub number-there : (w q : ℕ) → q + w ≤ length s → drop q s ≡ bytes_of w (number_at s q w) ++ drop (q + w) s
  unfolding number_at bytes_of Bytes
  number-there zero q h = rw (add-zero q)
  number-there (suc w) q h =
      let b = ok (q + w) in
      let n : ℕ = number_at s q w * 256 + get_or s (q + w) 0 in
      let d : n / 256 ≡ number_at s q w = omega arith in
      let r : n % 256 ≡ get_or s (q + w) 0 = omega arith in
      let k : q + w + 1 ≡ q + suc w = omega arith in
      let c = rw k at (cons_at s (q + w) (omega arith)) in
      rw (d, r) (number-there w q (omega arith) ∙ ap (λ (l : List ℕ). bytes_of w (number_at s q w) ++ l) c ∙ sym (append_assoc (bytes_of w (number_at s q w)) (get_or s (q + w) 0 ∷ []) (drop (q + suc w) s)))

pub number-exact : NumberExact
number-exact s ok w p v h = (
  (λ e. rw (← e) (number_small s ok w p, record { bytes = number-there s ok w p h; len = ap (λ (n : ℕ). p + n) (sym (bytes-length w (number_at s p w))); fits = h })),
  (λ x. number_of w s (drop (p + w) s) p v x.0 x.1.bytes),
)
