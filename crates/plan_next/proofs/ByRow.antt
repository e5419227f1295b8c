-- Asked for the next row again and again, an ascending list is walked from its front to its end.
use Prim.Native.Nat.{ℕ, zero, suc, ◌≤◌, ◌<◌}
use mathlib.Core.Bool.{Bool, true, false, cond}
use mathlib.Core.Path.{◌≡◌, refl, ap, ◌∙◌}
use mathlib.Core.List.{List, [], ◌∷◌}
use Rattle.std.specs.Prelude.{Option, None, Some}
use native.Mathlib.Nat.{le_of_suc-le-suc}
use native.Mathlib.Omega.{arith}
use borrow.Author.Tests.{lt-ltb, ltb-true}
use lib.Dec.{ltb}
use lib.IntN.{ℤ}
use lib.ListN.{length}
use Rattle.device_store.specs.Words.{clock_of}
use Rattle.device_holds.specs.Holds.{situation_of}
use Rattle.plan.specs.Rows.{Ascending}
use Rattle.plan.specs.Plan.{plan_of, rows_from}
use Rattle.plan.proofs.IsPlan.{plan_of-is}
use Rattle.plan_next.specs.Next.{next_of}
use Rattle.plan_next.specs.Walked.{onward, row_by_row, WalkedIsPlan}
use Rattle.plan_next.proofs.Later.{next-over}

abbrev Row : Type 0
Row = ℕ × List ℤ

-- a row that is found is past the second that was asked for
past : (rs : List Row) (t : ℕ) (r : Row) → next_of t rs ≡ Some r → t < r.0
unfolding next_of
past [] t r e = absurd (let z : ◌≡◌ {A = ℕ} 0 1 = cc in omega arith)
past (x ∷ rs) t r e = go (ltb t x.0) refl e (past rs t r)
  where
    go : (b : Bool) → ltb t x.0 ≡ b → cond b (Some x) (next_of t rs) ≡ Some r → (next_of t rs ≡ Some r → t < r.0) → t < r.0
    go true l f rest = let same : x ≡ r = cc in let h : t < x.0 = ltb-true t x.0 l in omega (arith, ap (λ (y : Row). y.0) same)
    go false l f rest = rest f

-- from the first row's second on that row is never found again
over : (x : Row) (rs : List Row) (n t : ℕ) → x.0 ≤ t → row_by_row (λ t. next_of t (x ∷ rs)) n t ≡ row_by_row (λ t. next_of t rs) n t
unfolding row_by_row onward
over x rs zero t h = refl
over x rs (suc n) t h =
    ap (λ (o : Option Row). onward o (row_by_row (λ t. next_of t (x ∷ rs)) n)) (next-over x rs t h) ∙ go (next_of t rs) refl (λ u. over x rs n u)
  where
    go : (o : Option Row) → next_of t rs ≡ o → ((u : ℕ) → x.0 ≤ u → row_by_row (λ t. next_of t (x ∷ rs)) n u ≡ row_by_row (λ t. next_of t rs) n u)
        → onward o (row_by_row (λ t. next_of t (x ∷ rs)) n) ≡ onward o (row_by_row (λ t. next_of t rs) n)
    go None e rest = refl
    go (Some r) e rest = ap (λ (l : List Row). r ∷ l) (rest r.0 (omega (arith, past rs t r e)))

walked : (rs : List Row) (a n : ℕ) → Ascending a rs → length rs ≤ n → row_by_row (λ t. next_of t rs) n a ≡ rs
unfolding row_by_row onward next_of Ascending
walked [] a zero o h = refl
walked [] a (suc n) o h = refl
walked (x ∷ rs) a zero o h = absurd (omega arith)
walked (x ∷ rs) a (suc n) o h =
    rw (lt-ltb a x.0 o.0) (ap (λ (l : List Row). x ∷ l) (over x rs n x.0 (omega arith) ∙ walked rs x.0 n o.1 (le_of_suc-le-suc h)))

pub walked-is_plan : WalkedIsPlan
unfolding rows_from
walked-is_plan ws n h = walked (plan_of (situation_of ws) (clock_of ws)) (clock_of ws) n (plan_of-is (situation_of ws) (clock_of ws)).ascending h
