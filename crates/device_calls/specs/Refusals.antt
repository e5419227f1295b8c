-- Refusals: a call's tests stand in document 01's order, and the first that holds gives the number.
use Rattle.std.specs.Prelude.{ℕ, ◌<◌, Bool, true, false, ◌≡◌, List, eqb, get_or}
unfoldable pub use Rattle.refusals.specs.Refusals.{first_of}
unfoldable pub use Rattle.device_rules.specs.Rules.{late}
use Rattle.device_store.specs.Zones.{any}

-- the test in place `at` is the first to hold, and n is its number
pub record FirstAt (l : List (Bool × ℕ)) (n : ℕ) : Type 0 where
  pub at : ℕ
  pub passes : get_or l at (false, 0) ≡ (true, n)
  pub none_before : (j : ℕ) → j < at → (get_or l j (false, 0)).0 ≡ false

-- no test holds; no test has the number 0
abbrev pub NoneHolds : List (Bool × ℕ) → Type 0
NoneHolds l = (j : ℕ) → (get_or l j (false, 0)).0 ≡ false

abbrev pub Numbered : List (Bool × ℕ) → Type 0
Numbered l = any (λ x. eqb x.1 0) l ≡ false
