-- 5 and then 18, as in the list of tests; what goes together is small, so that it has a word.
use Prim.Native.Nat.{ℕ, ◌<◌}
use mathlib.Core.Bool.{Bool, true, false, ◌&&◌}
use mathlib.Core.Path.{◌≡◌, refl}
use native.Mathlib.Decide.{dec_lt}
use borrow.Author.Tests.{le-ltb, ne_eqb}
use native.Mathlib.Omega.{arith}
use Rattle.device_calls.specs.Refusals.{first_of}
use Rattle.device_store.proofs.Answered.{refused, accepted}
use Rattle.device_calls.proofs.Refused.{handed_on}
use Rattle.device_calls.specs.Calls.{override_number, override_after}
use Rattle.device_rules.specs.Rules.{go_together}
use Rattle.device_store.proofs.Tests.{via}
use Rattle.device_calls.proofs.calls.set_override.Goals as goal

-- what goes together is small
together_small : (m : Bool) (r d : ℕ) → go_together m r d ≡ true → (r < 5) × (d < 2)
unfolding go_together
together_small m r d e = (
  elim (dec_lt r 5) [
    | yes h ↦ h
    | no h ↦ absurd
        (never (rw (le-ltb r 2 (omega arith), ne_eqb r 2 (λ q. omega arith), ne_eqb r 3 (λ q. omega arith), ne_eqb r 4 (λ q. omega arith))
        (and-false m)) e)
  ],
  elim (dec_lt d 2) [
    | yes h ↦ h
    | no h ↦ absurd
        (never (rw (ne_eqb d 0 (λ q. omega arith), le-ltb d 2 (omega arith), ne_eqb d 1 (λ q. omega arith)) (simp and-false)) e)
  ],
)
  where
    and-false : (b : Bool) → (b && false) ≡ false
    and-false true = refl
    and-false false = refl

    never : {b : Bool} → b ≡ false → b ≡ true → ⊥
    never p q = let n : ◌≡◌ {A = ℕ} 0 1 = cc in omega arith

pub returns-in_err-in_order : goal.returns-in_err-in_order
unfolding override_number override_after first_of
returns-in_err-in_order c =
    let both =
    handed_on _ _ _ _ _ _ c.from_residual.ensures.1 c.in_err-in_order.ensures.1 (rw c.in_err-in_order.ensures.0) (λ e. omega arith) in
    record { value = both.0; d_after = both.1 }

pub override_word-requires : goal.override_word-requires
unfolding override_number override_after first_of
override_word-requires c = together_small _ _ _ (via c.go_together.ensures c.if-go_together.true)

pub returns-then-go_together : goal.returns-then-go_together
unfolding override_number override_after first_of
returns-then-go_together c =
    let both =
    accepted _ _ _ _ _ (rw (c.in_ok-in_order.ensures, via (rw c.is_manager.ensures at c.go_together.ensures) c.if-go_together.true))
    c.apply_head.ensures (rw c.override_word.ensures) in
    record { value = both.0; d_after = both.1 }

pub returns : goal.returns
unfolding override_number override_after first_of
returns c =
    let both =
    refused _ 18 _ _ (rw (c.in_ok-in_order.ensures, via (rw c.is_manager.ensures at c.go_together.ensures) c.if-go_together.false))
    (λ e. omega arith) in
    record { value = both.0; d_after = both.1 }
