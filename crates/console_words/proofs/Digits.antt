-- Decimal digits, read from the front. Assumes nothing.
use Prim.Native.Nat.{ℕ, zero, suc, ◌+◌, ◌-◌, ◌*◌, ◌%◌, ◌≤◌, ◌<◌, min}
use mathlib.Core.Path.{◌≡◌, refl, ap, ◌∙◌}
use mathlib.Core.Bool.{Bool, true, false, cond}
use mathlib.Core.List.{List, [], ◌∷◌}
use native.Mathlib.Numerals.{add-one}
use native.Mathlib.Omega.{arith}
use lib.Dec.{ltb}
use borrow.Author.Tests.{ltb-true, ltb-false}
use lib.ListN.{length, get_or, drop, drop_of_length-le}
use lib.Seq.{drop-cons}
use Rattle.std.specs.Prelude.{Option, Some, None}
use Rattle.console_words.specs.Numbers.{is_digit, at_most_largest, digits_from, digits_of}
use Rattle.console_words.specs.Spans.{start_of}
use Rattle.console_words.specs.declared.numbers.Number.{Number}

pub capped : (n : ℕ) → min n 18446744073709551615 ≡ at_most_largest n
unfolding at_most_largest
capped n = go (ltb n 18446744073709551616) refl
  where
    go : (b : Bool) → ltb n 18446744073709551616 ≡ b → min n 18446744073709551615 ≡ cond b n 18446744073709551615
    go true e = omega (arith, ltb-true _ _ e)
    go false e = omega (arith, ltb-false _ _ e)

pub start_behind : (ends : List ℕ) (k e r : ℕ) → (k ≡ 0 → ⊥) → e ≡ get_or ends (k - 1) 0 → r ≡ min (e + 1) 18446744073709551615 → r ≡ start_of ends k
unfolding start_of
start_behind ends zero e r z f g = absurd (z refl)
start_behind ends (suc k) e r z f g =
    let j : suc k - 1 ≡ k = omega arith in
    g ∙ capped (e + 1) ∙ ap (λ n. at_most_largest (n + 1)) (f ∙ ap (λ n. get_or ends n 0) j)

pub digits_start : (s : List ℕ) → 0 < length s → digits_from 0 (drop 0 s) ≡ digits_of s
unfolding digits_of
digits_start [] h = absurd (omega arith)
digits_start (b ∷ s) h = refl

pub digits_none : (s : List ℕ) → length s ≤ 0 → None ≡ digits_of s
unfolding digits_of
digits_none [] h = refl
digits_none (b ∷ s) h = absurd (omega arith)

module _ (s : List ℕ) (q : Option Number) (v i : ℕ) (inv : digits_from v (drop i s) ≡ q) where
  pub digits_broken : i < length s → is_digit (get_or s i 0) ≡ false → None ≡ q
  unfolding digits_from
  digits_broken h e = rw (drop-cons s i 0, e) at inv

  pub digits_turn : (w : ℕ) → i < length s → is_digit (get_or s i 0) ≡ true → w ≡ at_most_largest (10 * v + get_or s i 0 % 16) → digits_from w (drop (i + 1) s) ≡ q
  unfolding digits_from
  digits_turn w h e z = rw (add-one i, z) (rw (drop-cons s i 0, e) at inv)

  pub digits_end : length s ≤ i → Some (record { negative = false; value = v }) ≡ q
  unfolding digits_from
  digits_end h = rw (drop_of_length-le s h) at inv
