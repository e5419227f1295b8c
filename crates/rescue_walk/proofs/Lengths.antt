-- How long the text of a report can be: no number of it has more than five digits. Assumes nothing.
use Prim.Native.Nat.{ℕ, zero, suc, ◌+◌, ◌*◌, ◌/◌, ◌^◌, ◌≤◌, ◌<◌}
use mathlib.Core.Path.{◌≡◌, refl}
use mathlib.Core.Bool.{Bool, true, false, cond}
use mathlib.Core.List.{List, [], ◌∷◌, ◌++◌}
use native.Mathlib.Nat.{pow-suc}
use native.Mathlib.Omega.{arith}
use lib.Dec.{ltb}
use lib.ListN.{length, length-append, length-drop}
use lib.Seq.{length-take-le}
use borrow.Author.Tests.{ltb-false, lt-ltb}
use Rattle.text.specs.Text.{width_in, decimal}
use Rattle.text.specs.Pieces.{joined}
use Rattle.text.proofs.Digits.{decimal-length}
use Rattle.rescue_walk.specs.Walk.{record_len, Piece, copied, passed, pass, walk, runs_from, run_count, runs}
use Rattle.rescue_walk.specs.Rescue.{longest_script}
use Rattle.rescue_walk.specs.Lines.{line_pieces, lines_in, refusal_pieces}
use Rattle.rescue_walk.specs.Program.{said_pieces, line_room, text_room}
use Rattle.rescue_walk.specs.Laws.{TextFits}
use Rattle.rescue_walk.proofs.Begins.{found}
use Rattle.rescue_walk.proofs.Walks.{Walk, ended, skips, gives, walks}
use Rattle.rescue_walk.proofs.Rooms.{few_runs}

-- NUMBERS: below 10^(k + 1) they have at most k + 1 digits
width_short : (k f n : ℕ) → n < 10 ^ suc k → width_in f n ≤ suc k
unfolding width_in
width_short k zero n h = omega arith
width_short zero (suc f) n h = rw (lt-ltb n 10 h) (omega arith)
width_short (suc k) (suc f) n h = go (ltb n 10) (width_short k f (n / 10) (let e = pow-suc 10 (suc k) in omega arith))
  where
    go : (b : Bool) → width_in f (n / 10) ≤ suc k → cond b 1 (suc (width_in f (n / 10))) ≤ suc (suc k)
    go true l = omega arith
    go false l = omega arith

five_digits : (n : ℕ) → n < 100000 → length (decimal n) ≤ 5
five_digits n h = omega (arith, decimal-length n (width_in 19 n) refl, width_short 4 19 n h)

-- PIECES: all bytes of them
unfoldable size : List Piece → ℕ
size [] = 0
size (copied r ∷ ps) = length r + size ps
size (passed r ∷ ps) = length r + size ps

size_pass : (x : ℕ) (ps : List Piece) → size (pass x ps) ≡ suc (size ps)
unfolding size pass
size_pass x [] = refl
size_pass x (copied r ∷ ps) = omega arith
size_pass x (passed r ∷ ps) = omega arith

size_walk : {s : List ℕ} {ps : List Piece} → Walk s ps → size ps ≡ length s
unfolding size
size_walk ended = refl
size_walk (skips {x} {s} {ps} e w) = omega (arith, size_pass x ps, size_walk w)
size_walk (gives {s} {ps} p w) =
    let f = found s p in
    omega (arith, length-take-le (record_len s) s f.1, length-drop (record_len s) s, size_walk w, f.1)

-- LINES
line-long : (x y : ℕ) (l : List ℕ) (n : ℕ) → x < 100000 → y < 100000 → length (joined (lines_in l)) ≤ n
    → length (joined (lines_in (x ∷ y ∷ l))) ≤ line_room + n
unfolding joined lines_in line_pieces
line-long x y l n h k g =
    omega (
      arith,
      length-append (decimal x) (32 ∷ (decimal y ++ (10 ∷ joined (lines_in l)))),
      length-append (decimal y) (10 ∷ joined (lines_in l)),
      five_digits x h,
      five_digits y k,
    )

lines_long : (ps : List Piece) (p : ℕ) → p + size ps < 100000 → length (joined (lines_in (runs_from p ps))) ≤ line_room * run_count ps
unfolding joined lines_in runs_from run_count size
lines_long [] p h = omega arith
lines_long (copied r ∷ ps) p h = lines_long ps (p + length r) (omega arith)
lines_long (passed r ∷ ps) p h =
    let l = lines_long ps (p + length r) (omega arith) in
    let k = line-long p (length r) (runs_from (p + length r) ps) _ (omega arith) (omega arith) l in
    omega (arith, k)

refusal-long : (n : ℕ) → n < 100000 → length (joined (refusal_pieces n)) ≤ text_room
unfolding joined refusal_pieces
refusal-long n h = omega (arith, length-append (decimal n) (10 ∷ []), five_digits n h)

pub text_fits : TextFits
unfolding said_pieces runs
text_fits s = go (ltb longest_script (length s)) refl
  where
    go : (b : Bool) → ltb longest_script (length s) ≡ b → length (joined (cond b (refusal_pieces 1) (lines_in (runs s)))) ≤ text_room
    go true e = refusal-long 1 (omega arith)
    go false e =
        let h = ltb-false longest_script (length s) e in
        omega (arith, lines_long (walk s) 0 (omega (arith, size_walk (walks s))), few_runs s h)
