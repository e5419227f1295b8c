-- The walk without a bound. Assumes nothing.
use Prim.Native.Nat.{ℕ, zero, suc, ◌≤◌, ◌<◌}
use mathlib.Core.Path.{◌≡◌, refl, ap, ◌∙◌}
use mathlib.Core.Bool.{Bool, true, false, cond}
use mathlib.Core.List.{List, [], ◌∷◌}
use native.Mathlib.Omega.{arith}
use lib.ListN.{length, take, drop, length-drop}
use lib.Dec.{eqb}
use borrow.Author.Tests.{eqb-true, eqb-false, eq-eqb, ne_eqb}
use Rattle.rescue_walk.specs.Walk.{record_len, Piece, copied, pass, walk_in, walk}
use Rattle.rescue_walk.proofs.Begins.{found}

pub data Walk : List ℕ → List Piece → Type 0 where
  ended : Walk [] []
  skips : {x : ℕ} {s : List ℕ} {ps : List Piece} → record_len (x ∷ s) ≡ 0 → Walk s ps → Walk (x ∷ s) (pass x ps)
  gives : {s : List ℕ} {ps : List Piece} → 0 < record_len s → Walk (drop (record_len s) s) ps → Walk s (copied (take (record_len s) s) ∷ ps)

walks_in : (n : ℕ) (s : List ℕ) → length s ≤ n → Walk s (walk_in n s)
unfolding walk_in
walks_in zero [] l = ended
walks_in zero (x ∷ s) l = absurd (omega arith)
walks_in (suc n) [] l = ended
walks_in (suc n) (x ∷ s) l = go (eqb (record_len (x ∷ s)) 0) refl (walks_in n s (omega arith)) (λ t k. walks_in n t k)
  where
    go :
        (b : Bool) → eqb (record_len (x ∷ s)) 0 ≡ b → Walk s (walk_in n s) → ((t : List ℕ) → length t ≤ n → Walk t (walk_in n t))
        → Walk (x ∷ s) (cond (eqb (record_len (x ∷ s)) 0) (pass x (walk_in n s))
        (copied (take (record_len (x ∷ s)) (x ∷ s)) ∷ walk_in n (drop (record_len (x ∷ s)) (x ∷ s))))
    go true e w h = rw e (skips (eqb-true (record_len (x ∷ s)) 0 e) w)
    go false e w h =
        let z = eqb-false (record_len (x ∷ s)) 0 e in
        let p : 0 < record_len (x ∷ s) = pos (record_len (x ∷ s)) z in
        let d = length-drop (record_len (x ∷ s)) (x ∷ s) in
        rw e (gives p (h (drop (record_len (x ∷ s)) (x ∷ s)) (omega arith)))
      where
        pos : (m : ℕ) → (m ≡ 0 → ⊥) → 0 < m
        pos zero f = absurd (f refl)
        pos (suc m) f = omega arith

pub walks : (s : List ℕ) → Walk s (walk s)
unfolding walk
walks s = walks_in (length s) s (omega arith)

in_record : (n : ℕ) (s : List ℕ) → 0 < record_len s → walk_in (suc n) s ≡ copied (take (record_len s) s) ∷ walk_in n (drop (record_len s) s)
unfolding walk_in
in_record n [] p = absurd (let f = found [] p in omega (arith, f.0, f.1))
in_record n (x ∷ s) p = rw (ne_eqb (record_len (x ∷ s)) 0 (λ z. omega arith))

in_pass : (n x : ℕ) (s : List ℕ) → record_len (x ∷ s) ≡ 0 → walk_in (suc n) (x ∷ s) ≡ pass x (walk_in n s)
unfolding walk_in
in_pass n x s e = rw (eq-eqb (record_len (x ∷ s)) 0 e)

walk-in : {s : List ℕ} {ps : List Piece} → Walk s ps → (n : ℕ) → length s ≤ n → walk_in n s ≡ ps
unfolding walk_in
walk-in ended zero l = refl
walk-in ended (suc n) l = refl
walk-in (skips e w) zero l = absurd (omega arith)
walk-in (skips {x} {s} e w) (suc n) l = in_pass n x s e ∙ ap (pass x) (walk-in w n (omega arith))
walk-in (gives {s} p w) zero l = absurd (let f = found s p in omega (arith, f.0, f.1))
walk-in (gives {s} p w) (suc n) l =
    let d = length-drop (record_len s) s in
    let f = found s p in
    in_record n s p ∙ ap (λ (ps : List Piece). copied (take (record_len s) s) ∷ ps) (walk-in w n (omega (arith, f.0, f.1)))

-- there is one walk
pub walk_is : {s : List ℕ} {ps : List Piece} → Walk s ps → walk s ≡ ps
unfolding walk
walk_is {s} w = walk-in w (length s) (omega arith)

pub walk-record : (s : List ℕ) → 0 < record_len s → walk s ≡ copied (take (record_len s) s) ∷ walk (drop (record_len s) s)
walk-record s l = walk_is (gives l (walks (drop (record_len s) s)))

pub walk-pass : (x : ℕ) (s : List ℕ) → record_len (x ∷ s) ≡ 0 → walk (x ∷ s) ≡ pass x (walk s)
walk-pass x s e = walk_is (skips e (walks s))

pub walk_none : walk [] ≡ []
walk_none = walk_is ended
