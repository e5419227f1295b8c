-- Pieces as the one text that they make: how long an answer is, and what stands on a page behind it. Assumes nothing.
use Prim.Native.Nat.{ℕ, zero, suc, ◌+◌, ◌*◌, ◌/◌, ◌≤◌}
use mathlib.Core.Path.{◌≡◌, refl, sym, ap, ◌∙◌}
use mathlib.Core.Bool.{Bool, true, false, cond}
use mathlib.Core.List.{List, [], ◌∷◌, ◌++◌, append_assoc}
use native.Mathlib.Omega.{arith}
use lib.Dec.{ltb}
use lib.IntN.{ℤ, pos, negsuc}
use lib.ListN.{length, take, drop, length-append, take-append-drop}
use lib.Seq.{sets-eq, take_at, length-take-le}
use Rattle.wire_bytes.specs.Bytes.{put}
use Rattle.wire_bytes.proofs.PutLaws.{put_whole_lem}
use Rattle.text.specs.Text.{width_in, most_digits, decimal}
use Rattle.text.specs.Pieces.{put_all, past_all, joined}
use Rattle.text.proofs.Digits.{decimal-length}
use Rattle.text.proofs.Pieces.{pieces_join, pieces_length, pieces_within}
use Rattle.plan.specs.Plan.{row_size}
use Rattle.bench_script.specs.Answers.{cell, row_pieces, table_pieces, answer_pieces}
use Rattle.bench_script.specs.Bench.{rows_room, cell_room, answer_room}

pub joined-more : (xs ys : List (List ℕ)) → joined (xs ++ ys) ≡ joined xs ++ joined ys
unfolding joined
joined-more [] ys = refl
joined-more (x ∷ xs) ys = ap (λ (l : List ℕ). x ++ l) (joined-more xs ys) ∙ sym (append_assoc x (joined xs) (joined ys))

-- AN ANSWER
width_short : (f n : ℕ) → width_in f n ≤ suc f
unfolding width_in
width_short zero n = omega arith
width_short (suc f) n = go (ltb n 10) (width_short f (n / 10))
  where
    go : (b : Bool) → width_in f (n / 10) ≤ suc f → cond b 1 (suc (width_in f (n / 10))) ≤ suc (suc f)
    go true h = omega arith
    go false h = omega arith

decimal-long : (n : ℕ) → length (decimal n) ≤ most_digits
decimal-long n = omega (arith, decimal-length n (width_in 19 n) refl, width_short 19 n)

cell-long : (z : ℤ) → length (cell z) ≤ most_digits
unfolding cell
cell-long (pos n) = decimal-long n
cell-long (negsuc n) = omega arith

-- a number and the byte behind it
row-long : (r : List ℤ) → length (joined (row_pieces r)) ≤ cell_room * length r
unfolding joined row_pieces
row-long [] = omega arith
row-long (x ∷ []) = omega (arith, length-append (cell x) (10 ∷ []), cell-long x)
row-long (x ∷ y ∷ r) = omega (arith, length-append (cell x) (32 ∷ joined (row_pieces (y ∷ r))), cell-long x, row-long (y ∷ r))

table-long : (n : ℕ) (rs : List ℤ) → length (joined (table_pieces n rs)) ≤ cell_room * length rs
unfolding joined table_pieces
table-long zero rs = omega arith
table-long (suc n) rs =
    let row = row_pieces (take row_size rs) in
    let rest = table_pieces n (drop row_size rs) in
    omega (
      arith,
      ap length (joined-more row rest),
      length-append (joined row) (joined rest),
      row-long (take row_size rs),
      table-long n (drop row_size rs),
      ap length (take-append-drop row_size rs),
      length-append (take row_size rs) (drop row_size rs),
    )

pub answer-long : (number count : ℕ) (rows : List ℤ) → length rows ≡ rows_room → length (joined (answer_pieces number count rows)) ≤ answer_room
unfolding joined answer_pieces
answer-long number count rows h =
    omega (arith, length-append (decimal number) (10 ∷ joined (table_pieces count rows)), decimal-long number, table-long count rows)

-- A PAGE: what stands up to the end of what is put
put_front : (s bs : List ℕ) (p : ℕ) → p + length bs ≤ length s → take (p + length bs) (put s p bs) ≡ take p s ++ bs
unfolding put
put_front s bs p h =
    let l : length (take p s ++ bs) ≡ p + length bs = length-append (take p s) bs ∙ omega (arith, length-take-le p s (omega arith)) in
    ap (take (p + length bs)) (sets-eq bs s p h)
    ∙ take_at (take p s ++ bs) (drop (p + length bs) s) (p + length bs) l

pub pieces_front : (s t : List ℕ) (p q : ℕ) (xs : List (List ℕ)) → p + length (joined xs) ≤ length s → (q ≡ past_all s p xs) × (t ≡ put_all s p xs)
    → take q t ≡ take p s ++ joined xs
pieces_front s t p q xs h w =
    let j = pieces_join s p xs h in
    let k = put_whole_lem s (joined xs) p h in
    let e : q ≡ p + length (joined xs) = w.0 ∙ j.1 ∙ k.1 in
    let f : t ≡ put s p (joined xs) = w.1 ∙ j.0 ∙ k.0 in
    rw (e, f) (put_front s (joined xs) p h)

-- a position on the page stays on it
pub pieces_on_page : (s t : List ℕ) (p q : ℕ) (xs : List (List ℕ)) → (q ≡ past_all s p xs) × (t ≡ put_all s p xs) → p ≤ length s → q ≤ length t
pieces_on_page s t p q xs w h = omega (arith, w.0, ap length w.1, pieces_within s p xs h, pieces_length s p xs)
