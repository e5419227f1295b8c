-- How a call ends: refused, with every word as it was, or accepted, with its one change applied.
use Prim.Native.Nat.{ℕ}
use mathlib.Core.Path.{◌≡◌, sym, ◌∙◌}
use mathlib.Core.List.{List}
use borrow.Author.Tests.{eq-eqb, ne_eqb}
use Rattle.device_store.specs.Words.{applied, after}
use Rattle.device_store.specs.declared.Change.{Change}

-- "State, clock and lent buffers stay unchanged at every refusal"
pub refusal-keeps : (ws : List ℕ) (n : ℕ) (c : Change) → (n ≡ 0 → ⊥) → after ws n c ≡ ws
unfolding after
refusal-keeps ws n c z = rw (ne_eqb n 0 z)

pub refused : (ws : List ℕ) (k n : ℕ) (c : Change) → k ≡ n → (k ≡ 0 → ⊥) → (k ≡ n) × (ws ≡ after ws n c)
refused ws k n c e z = (e, sym (refusal-keeps ws n c (λ q. z (e ∙ q))))

pub accepted : (ws us : List ℕ) (n : ℕ) (b c : Change) → 0 ≡ n → us ≡ applied ws b → b ≡ c → (0 ≡ n) × (us ≡ after ws n c)
unfolding after
accepted ws us n b c e a q = (e, rw (eq-eqb n 0 (sym e), ← q) a)
