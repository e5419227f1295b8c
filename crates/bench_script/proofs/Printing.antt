-- Rows as pieces of text: what is written, and what is left to write. Assumes nothing.
use Prim.Native.Nat.{ℕ, zero, suc, ◌+◌, ◌-◌, ◌<◌, ◌≤◌, min}
use mathlib.Core.Path.{◌≡◌, refl, sym, ap, ◌∙◌}
use mathlib.Core.Logic.{⊎_elim}
use mathlib.Core.Bool.{true, false, cond}
use mathlib.Core.List.{List, [], ◌∷◌, ◌++◌, append-nil}
use native.Mathlib.Numerals.{add-one}
use native.Mathlib.Omega.{arith}
use lib.Dec.{ltb}
use lib.IntN.{ℤ, pos, negsuc, nat_abs}
use lib.ListN.{length, get_or, take, drop, length-append, length-drop}
use lib.Seq.{drop-cons, drop-length, take_all, take_at, drop_at, drop-nil}
use lib.Signed.{lt_z}
use borrow.Author.Tests.{lt-ltb, le-ltb, ltb-true}
use Rattle.wire_bytes.proofs.Order.{below}
use Rattle.text.specs.Text.{decimal}
use Rattle.kernel.specs.Door.{row_size}
use Rattle.bench_script.specs.Answers.{cell, row_pieces, table_pieces}

-- a cell by its sign
pub cell-absent : (z : ℤ) → lt_z z (pos 0) ≡ true → 45 ∷ [] ≡ cell z
unfolding cell
cell-absent (pos n) e = absurd (omega (arith, ltb-true n 0 e))
cell-absent (negsuc n) e = refl

pub cell-number : (z : ℤ) → lt_z z (pos 0) ≡ false → decimal (nat_abs z) ≡ cell z
unfolding cell
cell-number (pos n) e = refl
cell-number (negsuc n) e = absurd (let b : ◌≡◌ {A = ℕ} 0 1 = cc in omega arith)

-- a row's number, and what stands behind it
row_cons : (x : ℤ) (r : List ℤ) → row_pieces (x ∷ r) ≡ cell x ∷ (cond (ltb 0 (length r)) 32 10 ∷ []) ∷ row_pieces r
unfolding row_pieces
row_cons x [] = refl
row_cons x (y ∷ r) = rw (lt-ltb 0 (suc (length r)) (omega arith))

behind-same : (i n k : ℕ) → k ≡ n - i → ltb 0 k ≡ ltb i n
behind-same i n k e = ⊎_elim
    (λ lt. lt-ltb 0 k (omega arith) ∙ sym (lt-ltb i n lt))
    (λ le. le-ltb 0 k (omega arith) ∙ sym (le-ltb i n le))
    (below i n)

pub row_next : (row : List ℤ) (i : ℕ) → i < length row → row_pieces (drop i row) ≡ cell (get_or row i (pos 0)) ∷ (cond (ltb (i + 1) (length row)) 32 10 ∷ []) ∷ row_pieces (drop (i + 1) row)
row_next row i h =
    let e = behind-same (suc i) (length row) (length (drop (suc i) row)) (length-drop (suc i) row) in
    rw (add-one i, drop-cons row i (pos 0) h, ← e) (row_cons (get_or row i (pos 0)) (drop (suc i) row))

pub row-over : (row : List ℤ) (i : ℕ) → i ≤ length row → length row ≤ i → row_pieces (drop i row) ≡ []
unfolding row_pieces
row-over row i h g = let e : i ≡ length row = omega arith in rw (e, drop-length row)

drop_all : (l : List ℤ) (n : ℕ) → length l ≤ n → drop n l ≡ []
drop_all [] n h = drop-nil n
drop_all (x ∷ l) zero h = absurd (omega arith)
drop_all (x ∷ l) (suc n) h = drop_all l n (omega arith)

-- a row off the front of the numbers, which is short only where they end
row-front : (rs row left : List ℤ) → rs ≡ row ++ left → length row ≡ min row_size (length rs) → (take row_size rs ≡ row) × (drop row_size rs ≡ left)
row-front rs row left e n = ⊎_elim
    (λ lt.
    let z : left ≡ [] = drop_all left 0 (omega (arith, ap (λ (l : List ℤ). length l) e, length-append row left)) in
    let f : rs ≡ row = e ∙ ap (λ (l : List ℤ). row ++ l) z ∙ append-nil row in
    rw (z, f) (take_all row_size row (omega arith), drop_all row row_size (omega arith)))
    (λ le. let k : length row ≡ row_size = omega arith in rw e (take_at row left row_size k, drop_at row left row_size k))
    (below (length rs) row_size)

-- a table's row, and what is left
pub table-next : (n m k : ℕ) (rs row left : List ℤ) → m + 1 ≡ n → k ≡ row_size → rs ≡ row ++ left → length row ≡ min k (length rs)
    → table_pieces n rs ≡ row_pieces row ++ table_pieces m left
unfolding table_pieces
table-next n m k rs row left e s a l =
    let f : n ≡ suc m = omega arith in
    let w = row-front rs row left a (rw s at l) in
    rw (f, w.0, w.1)

table_empty : (n : ℕ) → table_pieces n [] ≡ []
unfolding table_pieces row_pieces
table_empty zero = refl
table_empty (suc n) = table_empty n

-- no row is left where so many are written or the numbers end
pub table-over : (n : ℕ) (rows : List ℤ) → (0 < n → length rows ≡ 0) → table_pieces n rows ≡ []
unfolding table_pieces
table-over zero rows h = refl
table-over (suc n) [] h = table_empty (suc n)
table-over (suc n) (x ∷ rows) h = absurd (let e = h (omega arith) in omega arith)
