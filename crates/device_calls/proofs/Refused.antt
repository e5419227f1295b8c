-- A refusal that a `?` hands on: the call answers its number, and nothing moves.
use Prim.Native.Nat.{ℕ}
use mathlib.Core.Path.{◌≡◌}
use mathlib.Core.List.{List}
use Rattle.std.specs.Prelude.{Result}
use Rattle.std.specs.Result.{IsErrAnd}
use Rattle.std.proofs.lemmas.Result.{err_from_is_err_and}
use Rattle.refusals.specs.Answers.{number_of, number_in}
use Rattle.refusals.specs.declared.refusal.Refusal.{Refusal}
use Rattle.device_store.specs.Words.{after}
use Rattle.device_store.specs.declared.Change.{Change}
use Rattle.device_store.proofs.Answered.{refused}

pub handed_on : {X : Type 0} (ws : List ℕ) (r : Result X Refusal) (x e : Refusal) (n : ℕ) (k : Change) → IsErrAnd r (λ y. y ≡ x) → x ≡ e → number_of e ≡ n → (number_of e ≡ 0 → ⊥)
    → (number_in r ≡ n) × (ws ≡ after ws n k)
handed_on ws r x e n k i q h z =
    let p = err_from_is_err_and r i in
    refused ws (number_in r) n k (rw (p.1, p.2, q) h) (rw (p.1, p.2, q) z)
