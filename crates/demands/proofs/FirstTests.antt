-- Laws over every list of tests: the first that holds gives the number.
use mathlib.Core.Path.{◌≡◌, refl, sym, ◌∙◌}
use mathlib.Core.Bool.{Bool, true, false, cond, ◌&&◌}
use mathlib.Core.List.{List, [], ◌∷◌, ◌++◌}
use Prim.Native.Nat.{ℕ, ◌≤◌}
use native.Mathlib.Omega.{arith}
use lib.Dec.{leb, eqb}
use borrow.Author.Tests.{ne_eqb, leb-true}
use Rattle.device_calls.specs.Refusals.{first_of, Numbered}
use Rattle.kernel_laws.proofs.FirstOf.{refused-exactly, accepted-exactly}
use Rattle.demands.specs.Answers.{ByTests}

-- each of the tests' numbers passes p
unfoldable pub each : (ℕ → Bool) → List (Bool × ℕ) → Bool
each p [] = true
each p (x ∷ l) = p x.1 && each p l

both : (a b : Bool) → (a && b) ≡ true → (a ≡ true) × (b ≡ true)
both true b e = (refl, e)
both false b e = absurd (let w : ◌≡◌ {A = ℕ} 0 1 = cc in omega arith)

-- tests behind a list are asked where it gives 0, as none of its numbers is
pub first-append : (l m : List (Bool × ℕ)) → each (leb 1) l ≡ true → first_of (l ++ m) ≡ cond (eqb (first_of l) 0) (first_of m) (first_of l)
unfolding first_of each
first-append [] m p = refl
first-append (x ∷ l) m p = let q = both (leb 1 x.1) (each (leb 1) l) p in go x.0 (leb-true 1 x.1 q.0) (first-append l m q.1)
  where
    go : (b : Bool) → 1 ≤ x.1 → first_of (l ++ m) ≡ cond (eqb (first_of l) 0) (first_of m) (first_of l)
        → cond b x.1 (first_of (l ++ m)) ≡ cond (eqb (cond b x.1 (first_of l)) 0) (first_of m) (cond b x.1 (first_of l))
    go true h ih = rw (ne_eqb x.1 0 (λ e. omega arith))
    go false h ih = ih

-- the first of tests whose numbers pass p passes it, or is 0
pub first_passes : (p : ℕ → Bool) (l : List (Bool × ℕ)) → each p l ≡ true → p 0 ≡ true → p (first_of l) ≡ true
unfolding first_of each
first_passes p [] e z = z
first_passes p (x ∷ l) e z = let q = both (p x.1) (each p l) e in go x.0 q.0 (first_passes p l q.1 z)
  where
    go : (b : Bool) → p x.1 ≡ true → p (first_of l) ≡ true → p (cond b x.1 (first_of l)) ≡ true
    go true h ih = h
    go false h ih = ih

-- a number that is the first test's is given exactly where that test is the first to hold
pub by_tests : (n : ℕ) (l : List (Bool × ℕ)) → n ≡ first_of l → Numbered l → ByTests n l
by_tests n l e m =
    let a = accepted-exactly l m in
    record {
      refused = λ k p. let r = refused-exactly l k p in (λ q. r.0 (sym e ∙ q), λ q. e ∙ r.1 q);
      accepted = (λ q. a.0 (sym e ∙ q), λ q. e ∙ a.1 q);
    }
