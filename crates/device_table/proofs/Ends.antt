-- An end given by a sum, tested by a difference, where the sum could pass the largest word.
use Prim.Native.Nat.{ℕ, ◌+◌, ◌-◌, ◌<◌, ◌≤◌}
use mathlib.Core.Bool.{Bool, true, false, cond, ◌&&◌}
use mathlib.Core.Path.{◌≡◌, refl, sym, ◌∙◌}
use native.Mathlib.Decide.{dec_lt}
use native.Mathlib.Omega.{arith}
use borrow.Author.Tests.{lt-ltb, le-ltb}
use lib.Dec.{ltb}
use Rattle.device_store.specs.Smaller.{nearer}

-- two tests agree where each follows from the other
pub same_test : (a b c d : ℕ) → (a < b → c < d) → (c < d → a < b) → ltb a b ≡ ltb c d
same_test a b c d f g =
    elim (dec_lt c d) [
      | yes h ↦ lt-ltb a b (g h) ∙ sym (lt-ltb c d h)
      | no h ↦ let k : a < b → ⊥ = λ l. h (f l) in le-ltb a b (omega arith) ∙ sym (le-ltb c d (omega arith))
    ]

pub below_end : (t s n : ℕ) → s ≤ t → ltb (t - s) n ≡ ltb t (s + n)
below_end t s n h = same_test (t - s) n t (s + n) (λ k. omega arith) (λ k. omega arith)

-- what does not lie before r is not nearer
pub nearer-far : (cur r e : ℕ) → r ≤ e → r ≡ nearer cur r e
unfolding nearer
nearer-far cur r e h = go (ltb cur e)
  where
    go : (b : Bool) → r ≡ cond (b && ltb e r) e r
    go true = rw (le-ltb e r h)
    go false = refl

-- of two ends that differ only where neither lies before r, the nearer is the same
pub nearer-same : (cur r a b : ℕ) → (a < r → a ≡ b) → (b < r → a ≡ b) → nearer cur r a ≡ nearer cur r b
nearer-same cur r a b f g =
    elim (dec_lt a r) [
      | yes h ↦ let e : a ≡ b = f h in rw e
      | no h ↦ elim (dec_lt b r) [
        | yes k ↦ let e : a ≡ b = g k in rw e
        | no k ↦ sym (nearer-far cur r a (omega arith)) ∙ nearer-far cur r b (omega arith)
      ]
    ]
