-- Arguments and heads, case by case, as the functions find them. Assumes nothing.
use Prim.Native.Nat.{ℕ, ◌+◌, ◌-◌, ◌*◌, ◌/◌, ◌%◌, ◌^◌, ◌<◌, ◌≤◌}
use mathlib.Core.Path.{◌≡◌, refl, sym, ap, subst, ◌∙◌}
use mathlib.Core.Logic.{inl, inr, ⊎_elim}
use mathlib.Core.Bool.{Bool, true, false, cond}
use mathlib.Core.List.{List}
use lib.ListN.{length, get_or, set}
use lib.Dec.{leb, ltb, eqb}
use borrow.Author.Tests.{lt-ltb, le-ltb, ltb-true, ltb-false, le-leb, lt-leb, leb-true, eq-eqb, ne_eqb, eqb-true, eqb-false}
use native.Mathlib.Nat.{add-zero}
use native.Mathlib.Numerals.{add-one}
use native.Mathlib.Omega.{arith}
use Rattle.wire_bytes.specs.Bytes.{number_at, bytes_of, Bytes, put, put_whole, past_whole}
use Rattle.std.specs.Prelude.{None}
use Rattle.wire_heads.specs.Head.{ArgumentRead, argument_is, info_of, width_of, head_len, head_bytes, head_of, arg_at, allowed, with_major, head_at}
use Rattle.wire_heads.specs.Forms.{Width, form_of, held_at}
use Rattle.wire_heads.specs.declared.reading.Form.{Form}
use Rattle.wire_bytes.proofs.Order.{below}
use Rattle.wire_heads.proofs.Widths.{From, from-24, from-25, from-26, from-27, width_24, width_25, width_26, width_27, info_small, head-length}
use Rattle.wire_bytes.proofs.NumberLaws.{number_small, number_fits, number-join}
use Rattle.wire_bytes.proofs.PutLaws.{has_room, stored, not-stored}

-- what holds for each form holds of the one that additional information has
by_form : (P : Form → Type 0) (i : ℕ) → (i < 24 → P Form.Itself) → (i ≡ 24 → P (Form.Behind 1 24)) → (i ≡ 25 → P (Form.Behind 2 256))
    → (i ≡ 26 → P (Form.Behind 4 65536)) → (i ≡ 27 → P (Form.Behind 8 4294967296)) → (28 ≤ i → P Form.Nowhere) → P (form_of i)
unfolding form_of
by_form P i itself one two four eight nowhere = go (ltb i 24) (eqb i 24) (eqb i 25) (eqb i 26) (eqb i 27) refl refl refl refl refl
  where
    go : (a b c d e : Bool) → ltb i 24 ≡ a → eqb i 24 ≡ b → eqb i 25 ≡ c → eqb i 26 ≡ d → eqb i 27 ≡ e
        → P (cond a Form.Itself (cond b (Form.Behind 1 24) (cond c (Form.Behind 2 256) (cond d (Form.Behind 4 65536) (cond e (Form.Behind 8 4294967296) Form.Nowhere)))))
    go true b c d e ha hb hc hd he = itself (ltb-true i 24 ha)
    go false true c d e ha hb hc hd he = one (eqb-true i 24 hb)
    go false false true d e ha hb hc hd he = two (eqb-true i 25 hc)
    go false false false true e ha hb hc hd he = four (eqb-true i 26 hd)
    go false false false false true ha hb hc hd he = eight (eqb-true i 27 he)
    go false false false false false ha hb hc hd he =
        let high = ltb-false i 24 ha in
        let no-24 = eqb-false i 24 hb in
        let no-25 = eqb-false i 25 hc in
        let no-26 = eqb-false i 26 hd in
        let no-27 = eqb-false i 27 he in
        nowhere (omega arith)

-- the bytes behind a first byte are one, or can be read by twos
abbrev HasWidth : Form → Type 0
HasWidth Form.Itself = Unit
HasWidth (Form.Behind w l) = Width w
HasWidth Form.Nowhere = Unit

has_width : (i : ℕ) → HasWidth (form_of i)
has_width i = by_form HasWidth i (λ h. tt) (λ h. (omega arith, inl refl)) (λ h. (omega arith, inr (omega arith, refl)))
    (λ h. (omega arith, inr (omega arith, refl))) (λ h. (omega arith, inr (omega arith, refl))) (λ h. tt)

pub form_width : (i w l : ℕ) → form_of i ≡ Form.Behind w l → Width w
form_width i w l e = subst HasWidth e (has_width i)

pub arg_low : (s : List ℕ) (q i : ℕ) → i < 24 → arg_at s q i ≡ argument_is i q
unfolding arg_at
arg_low s q i h = rw (lt-ltb i 24 h)

-- an argument of more than one byte
module _ (s : List ℕ) (q i : ℕ) (high : 24 ≤ i) where
  -- above 27 there is none
  wide_not : 28 ≤ i → None ≡ arg_at s q i
  unfolding arg_at
  wide_not h =
      let v : ℕ = number_at s q (width_of i) in
      rw (le-ltb i 24 high, ne_eqb (info_of v) i (λ e. omega (arith, info_small v))) (same (leb (width_of i) (length s - q)))
    where
      same : (b : Bool) → ◌≡◌ {A = ArgumentRead} None (cond b None None)
      same true = refl
      same false = refl

  wide_is : (w l : ℕ) → w ≡ width_of i → From l (number_at s q w) i → held_at s q w l ≡ arg_at s q i
  unfolding arg_at held_at
  wide_is w l wi f = rw (le-ltb i 24 high, ← wi) (⊎_elim
      (λ lt. rw (lt-ltb v l lt, ne_eqb (info_of v) i (f.0 lt)))
      (λ le. rw (le-ltb v l le, eq-eqb (info_of v) i (f.1 le)))
      (below v l))
    where
      v : ℕ
      v = number_at s q w

-- a width of more than one byte is one of twos
pub by_twos : (w : ℕ) → Width w → (w ≡ 1 → ⊥) → (2 ≤ w) × (w % 2 ≡ 0)
by_twos w h more = ⊎_elim (λ one. absurd (more one)) (λ twos. twos) h.1

-- two bytes more of a number
module _ (s : List ℕ) (q i n : ℕ) (e : n ≡ number_at s q i) where
  pub two-more : (m : ℕ) → m ≡ number_at s (q + i) 2 → n * 65536 + m ≡ number_at s q (i + 2)
  two-more m f = rw (e, f) (sym (number-join s q i 2))

  pub two-more_fit : Bytes s → i + 2 ≤ 8 → n * 65536 + number_at s (q + i) 2 < 2 ^ 64
  two-more_fit ok h = omega (arith, two-more (number_at s (q + i) 2) refl, number_fits s ok (i + 2) q h)

-- the argument of a form
abbrev arg_of : List ℕ → ℕ → ℕ → Form → ArgumentRead
arg_of s q i Form.Itself = argument_is i q
arg_of s q i (Form.Behind w l) = held_at s q w l
arg_of s q i Form.Nowhere = None

module _ (s : List ℕ) (ok : Bytes s) (q i : ℕ) where
  by_its_form : arg_of s q i (form_of i) ≡ arg_at s q i
  by_its_form = by_form (λ f. arg_of s q i f ≡ arg_at s q i) i
      (λ h. sym (arg_low s q i h))
      (λ h. wide_is s q i (omega arith) 1 24 (width_24 i h) (rw h (from-24 _ (number_small s ok 1 q))))
      (λ h. wide_is s q i (omega arith) 2 256 (width_25 i h) (rw h (from-25 _ (number_small s ok 2 q))))
      (λ h. wide_is s q i (omega arith) 4 65536 (width_26 i h) (rw h (from-26 _ (number_small s ok 4 q))))
      (λ h. wide_is s q i (omega arith) 8 4294967296 (width_27 i h) (rw h (from-27 _)))
      (λ h. wide_not s q i (omega arith) h)

  -- an argument, by the form that was found
  pub arg_is : (f : Form) → f ≡ form_of i → arg_of s q i f ≡ arg_at s q i
  arg_is f e = ap (arg_of s q i) e ∙ by_its_form

pub head-end : (s : List ℕ) (p : ℕ) → length s ≤ p → None ≡ head_at s p
unfolding head_at
head-end s p h = rw (le-leb (length s) p h)

module _ (s : List ℕ) (p b : ℕ) (lt : p < length s) (e : b ≡ get_or s p 0) where
  pub head_in : allowed (b / 32) (b % 32) ≡ true → (a : ArgumentRead) → arg_at s (p + 1) (b % 32) ≡ a → with_major (b / 32) a ≡ head_at s p
  unfolding head_at
  head_in t a ar = rw (lt-leb (length s) p lt, ← e, t, ar)

  pub head-low : b / 32 ≤ 5 → (a : ArgumentRead) → arg_at s (p + 1) (b % 32) ≡ a → with_major (b / 32) a ≡ head_at s p
  head-low h = head_in (rw (le-leb (b / 32) 5 h))

  pub head-out : allowed (b / 32) (b % 32) ≡ false → None ≡ head_at s p
  unfolding head_at
  head-out t = rw (lt-leb (length s) p lt, ← e, t)

-- the heads above major type 5, by their first byte
module _ (b : ℕ) (high : 5 < b / 32) (byte : b < 256) where
  pub in_simple : 244 ≤ b → b ≤ 246 → allowed (b / 32) (b % 32) ≡ true
  in_simple g h = rw (lt-leb (b / 32) 5 high, eq-eqb (b / 32) 7 (omega arith), le-leb 20 (b % 32) (omega arith), le-leb (b % 32) 22 (omega arith))

  pub in_none : (244 ≤ b → b ≤ 246 → ⊥) → allowed (b / 32) (b % 32) ≡ false
  in_none out = rw (lt-leb (b / 32) 5 high) (go (eqb (b / 32) 7) (leb 20 (b % 32)) (leb (b % 32) 22) refl refl refl)
    where
      go : (x y z : Bool) → eqb (b / 32) 7 ≡ x → leb 20 (b % 32) ≡ y → leb (b % 32) 22 ≡ z → cond x (cond y z false) false ≡ false
      go false y z hx hy hz = refl
      go true false z hx hy hz = refl
      go true true false hx hy hz = refl
      go true true true hx hy hz =
          let m = eqb-true (b / 32) 7 hx in
          let l = leb-true 20 (b % 32) hy in
          let u = leb-true (b % 32) 22 hz in
          absurd (out (omega arith) (omega arith))

-- a head for which there is room: its first byte, and its argument behind it
pub fits : (s : List ℕ) (p v n : ℕ) (b : Bool) → n ≡ head_len v → b ≡ leb (p + n) (length s) → b ≡ true → p + 1 + width_of (info_of v) ≤ length s
unfolding head_len
fits s p v n b e h y = omega (arith, has_room p n (length s) b h y)

-- a head stored behind its first byte
module _ (s : List ℕ) (p m v n i : ℕ) (len : n ≡ head_len v) (small : m < 8) where
  as_long : n ≡ length (head_of m v)
  as_long = rw (lt-ltb m 8 small) (len ∙ sym (head-length m v))

  module _ (b : Bool) (room : b ≡ leb (p + n) (length s)) where
    pub head-stored : b ≡ true → i ≡ info_of v → (t : List ℕ) → t ≡ put (set s p (m * 32 + i)) (p + 1) (bytes_of (width_of (info_of v)) v)
        → (p + n ≡ past_whole s p (head_of m v)) × (t ≡ put_whole s p (head_of m v))
    unfolding head_bytes put
    head-stored y e t h =
        stored s (head_of m v) p n as_long b room t y (h ∙ rw (e, lt-ltb m 8 small, add-one p))

    pub head-not_stored : b ≡ false → (p ≡ past_whole s p (head_of m v)) × (s ≡ put_whole s p (head_of m v))
    head-not_stored = not-stored s (head_of m v) p n as_long b room

pub no_major : (s : List ℕ) (p m v : ℕ) → 8 ≤ m → (p ≡ past_whole s p (head_of m v)) × (s ≡ put_whole s p (head_of m v))
unfolding put past_whole put_whole
no_major s p m v h = rw (le-ltb m 8 h, add-zero p) (same (leb p (length s)))
  where
    same : (b : Bool) → (p ≡ cond b p p) × (s ≡ cond b s s)
    same true = (refl, refl)
    same false = (refl, refl)
