-- The test for equal values says whether two lists are equal.
use Prim.Native.Nat.{ℕ}
use mathlib.Core.Bool.{Bool, true, false, cond, ◌&&◌}
use mathlib.Core.Path.{◌≡◌, refl, ap, ◌∙◌, subst}
use mathlib.Core.Logic.{ite, if_pos, if_neg}
use mathlib.Core.List.{List, [], ◌∷◌, List-discrete}
use native.Mathlib.Omega.{arith}
use lib.IntN.{ℤ, pos, negsuc, ℤ_discrete}
use lib.Pointwise.{pointwise}
use Rattle.std.specs.Ordering.{int_eq}
use Rattle.std.specs.Cmp.{signed_Decides}
use borrow.Author.Tests.{eqb-true, eq-eqb}
use Rattle.device_holds.specs.Alike.{same_number, alike}

number_same : (a : ℤ) → same_number a a ≡ true
unfolding same_number
number_same (pos a) = eq-eqb a a refl
number_same (negsuc a) = eq-eqb a a refl

same_number_lem : (a b : ℤ) → same_number a b ≡ true → a ≡ b
unfolding same_number
same_number_lem (pos a) (pos b) h = ap pos (eqb-true a b h)
same_number_lem (pos a) (negsuc b) h = absurd (let z : ◌≡◌ {A = ℕ} 0 1 = cc in omega arith)
same_number_lem (negsuc a) (pos b) h = absurd (let z : ◌≡◌ {A = ℕ} 0 1 = cc in omega arith)
same_number_lem (negsuc a) (negsuc b) h = ap negsuc (eqb-true a b h)

pub alike_same : (l : List ℤ) → alike l l ≡ true
unfolding alike
alike_same [] = refl
alike_same (a ∷ l) = rw (number_same a, alike_same l)

pub same_alike : (l k : List ℤ) → alike l k ≡ true → l ≡ k
unfolding alike
same_alike [] [] h = refl
same_alike [] (b ∷ k) h = absurd (let z : ◌≡◌ {A = ℕ} 0 1 = cc in omega arith)
same_alike (a ∷ l) [] h = absurd (let z : ◌≡◌ {A = ℕ} 0 1 = cc in omega arith)
same_alike (a ∷ l) (b ∷ k) h = go (same_number a b) refl h (same_alike l k)
  where
    go : (s : Bool) → same_number a b ≡ s → (s && alike l k) ≡ true → (alike l k ≡ true → l ≡ k) → a ∷ l ≡ b ∷ k
    go true e g rest = let x : a ≡ b = same_number_lem a b e in let y : l ≡ k = rest g in cc
    go false e g rest = absurd (let z : ◌≡◌ {A = ℕ} 0 1 = cc in omega arith)

-- a choice by whether two lists are equal is a choice by the test
pub by_test : {A : Type 0} (l k : List ℤ) (x y : A) → ite (List-discrete ℤ_discrete l k) x y ≡ cond (alike l k) x y
by_test l k x y = go (alike l k) refl
  where
    go : (b : Bool) → alike l k ≡ b → ite (List-discrete ℤ_discrete l k) x y ≡ cond b x y
    go true e = if_pos (List-discrete ℤ_discrete l k) (same_alike l k e) x y
    go false e =
        if_neg (List-discrete ℤ_discrete l k)
        (λ q. let p : alike l k ≡ true = subst (λ (v : List ℤ). alike l v ≡ true) q (alike_same l) in let z : ◌≡◌ {A = ℕ} 0 1 = cc in omega arith)
        x
        y

-- the library's equality of arrays is the test
int-same : (a b : ℤ) → int_eq a b ≡ same_number a b
int-same a b = go (int_eq a b) (same_number a b) refl refl
  where
    go : (r s : Bool) → int_eq a b ≡ r → same_number a b ≡ s → r ≡ s
    go true true e f = refl
    go false false e f = refl
    go true false e f =
        let p : a ≡ b = (signed_Decides a b).0 e in
        let s : same_number a b ≡ true = subst (λ (v : ℤ). same_number a v ≡ true) p (number_same a) in
        absurd (let z : ◌≡◌ {A = ℕ} 0 1 = cc in omega arith)
    go false true e f =
        let s : int_eq a b ≡ true = (signed_Decides a b).1 (same_number_lem a b f) in
        absurd (let z : ◌≡◌ {A = ℕ} 0 1 = cc in omega arith)

pub alike-pointwise : (l k : List ℤ) → pointwise int_eq l k ≡ alike l k
unfolding alike
alike-pointwise [] [] = refl
alike-pointwise [] (b ∷ k) = refl
alike-pointwise (a ∷ l) [] = refl
alike-pointwise (a ∷ l) (b ∷ k) =
    ap (λ (s : Bool). s && pointwise int_eq l k) (int-same a b) ∙ ap (λ (s : Bool). same_number a b && s) (alike-pointwise l k)
