-- Pieces written one behind the other. Assumes nothing.
use Prim.Native.Nat.{ℕ, ◌+◌, ◌≤◌}
use mathlib.Core.Path.{◌≡◌, refl, sym, ap, ◌∙◌}
use mathlib.Core.Logic.{⊎_elim}
use mathlib.Core.List.{List, [], ◌∷◌, ◌++◌}
use native.Mathlib.Omega.{arith}
use lib.ListN.{length, length-append}
use Rattle.wire_bytes.specs.Bytes.{put, put_whole, past_whole}
use Rattle.wire_bytes.proofs.Order.{below}
use Rattle.wire_bytes.proofs.PutLaws.{put_whole_lem, put-none, puts_join, length-put}
use Rattle.text.specs.Pieces.{put_all, past_all, joined}
use Rattle.text.specs.Laws.{PiecesJoin, PiecesMore, PiecesLength, PiecesWithin}

pub pieces_join : PiecesJoin
unfolding put_all past_all joined put
pieces_join s p [] h = let w = put_whole_lem s [] p h in (sym w.0, omega (arith, w.1))
pieces_join s p (x ∷ xs) h =
    let n = length-append x (joined xs) in
    let w = put_whole_lem s x p (omega arith) in
    let m : length (put_whole s p x) ≡ length s = ap length w.0 ∙ length-put s x p in
    let k = pieces_join (put_whole s p x) (past_whole s p x) xs (omega (arith, w.1)) in
    let j = puts_join s x (joined xs) p h in
    (k.0 ∙ j.0, k.1 ∙ j.1)

pub pieces_more : PiecesMore
unfolding put_all past_all
pieces_more s p [] ys = (refl, refl)
pieces_more s p (x ∷ xs) ys = pieces_more (put_whole s p x) (past_whole s p x) xs ys

pub whole_length : (s x : List ℕ) (p : ℕ) → length (put_whole s p x) ≡ length s
whole_length s x p = ⊎_elim
    (λ lt. ap length (put-none s x p lt).0)
    (λ le. ap length (put_whole_lem s x p le).0 ∙ length-put s x p)
    (below (length s) (p + length x))

pub whole-within : (s x : List ℕ) (p : ℕ) → p ≤ length s → past_whole s p x ≤ length s
whole-within s x p h = ⊎_elim
    (λ lt. omega (arith, (put-none s x p lt).1))
    (λ le. omega (arith, (put_whole_lem s x p le).1))
    (below (length s) (p + length x))

pub pieces_length : PiecesLength
unfolding put_all
pieces_length s p [] = refl
pieces_length s p (x ∷ xs) = pieces_length (put_whole s p x) (past_whole s p x) xs ∙ whole_length s x p

pub pieces_within : PiecesWithin
unfolding past_all
pieces_within s p [] h = h
pieces_within s p (x ∷ xs) h =
    let n = whole_length s x p in
    let k = pieces_within (put_whole s p x) (past_whole s p x) xs (omega (arith, whole-within s x p h)) in
    omega arith

-- ys from q on in t still lead to what xs from p on in s lead to
pub record ToDo (s : List ℕ) (p : ℕ) (xs : List (List ℕ)) (t : List ℕ) (q : ℕ) (ys : List (List ℕ)) : Type 0 where
  pub past : past_all t q ys ≡ past_all s p xs
  pub list : put_all t q ys ≡ put_all s p xs
  pub len : length t ≡ length s

pub all_to_do : (s : List ℕ) (p : ℕ) (xs : List (List ℕ)) → ToDo s p xs s p xs
all_to_do s p xs = record { past = refl; list = refl; len = refl }

-- nothing is left
pub all_done : (s t : List ℕ) (p q : ℕ) (xs ys : List (List ℕ)) → ToDo s p xs t q ys → ys ≡ [] → (q ≡ past_all s p xs) × (t ≡ put_all s p xs)
unfolding put_all past_all
all_done s t p q xs ys w e = (rw e at w.past, rw e at w.list)

module _ (s : List ℕ) (p : ℕ) (xs : List (List ℕ)) (t : List ℕ) (q : ℕ) where
  -- one piece more is written
  pub one_done : (a : List ℕ) (ys : List (List ℕ)) (t' : List ℕ) (q' : ℕ) → ToDo s p xs t q (a ∷ ys)
      → (q' ≡ past_whole t q a) × (t' ≡ put_whole t q a) → ToDo s p xs t' q' ys
  unfolding put_all past_all
  one_done a ys t' q' w h = rw (h.0, h.1) (record { past = w.past; list = w.list; len = whole_length t a q ∙ w.len })

  -- all of a run of pieces is written
  pub run-done : (zs ys : List (List ℕ)) (t' : List ℕ) (q' : ℕ) → ToDo s p xs t q (zs ++ ys) → (q' ≡ past_all t q zs) × (t' ≡ put_all t q zs) → ToDo s p xs t' q' ys
  run-done zs ys t' q' w h =
      let m = pieces_more t q zs ys in
      rw (h.0, h.1) (record {
        past = sym m.1 ∙ w.past;
        list = sym m.0 ∙ w.list;
        len = pieces_length t q zs ∙ w.len;
      })

-- two pieces more are written
pub two-done : (s : List ℕ) (p : ℕ) (xs : List (List ℕ)) (t : List ℕ) (q : ℕ) (a b : List ℕ) (ys : List (List ℕ)) (t' t'' : List ℕ) (q' q'' : ℕ)
    → ToDo s p xs t q (a ∷ b ∷ ys) → (q' ≡ past_whole t q a) × (t' ≡ put_whole t q a) → (q'' ≡ past_whole t' q' b) × (t'' ≡ put_whole t' q' b) → ToDo s p xs t'' q'' ys
two-done s p xs t q a b ys t' t'' q' q'' w h k = one_done s p xs t' q' b ys t'' q'' (one_done s p xs t q a (b ∷ ys) t' q' w h) k
