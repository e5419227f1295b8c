-- How much room is always enough for what comes out and for the report. Assumes nothing.
use Prim.Native.Nat.{ℕ, suc, ◌+◌, ◌*◌, ◌≤◌}
use mathlib.Core.Path.{◌≡◌, refl}
use mathlib.Core.List.{List, [], ◌∷◌}
use native.Mathlib.Omega.{arith}
use lib.ListN.{length, take, length-append, length-drop}
use lib.Seq.{length-take-le}
use borrow.Author.Tests.{le-ltb}
use Rattle.rescue_walk.specs.Walk.{record_len, Piece, copied, passed, pass, walk, kept, runs_from, run_count, rescued, runs}
use Rattle.rescue_walk.specs.Rescue.{longest_script, number}
use Rattle.rescue_walk.specs.Program.{most_runs}
use Rattle.rescue_walk.specs.Laws.{Enough}
use Rattle.rescue_walk.proofs.Begins.{found}
use Rattle.rescue_walk.proofs.Walks.{Walk, ended, skips, gives, walks}
use Rattle.rescue_walk.proofs.Loops.{runs-two}

pub kept-pass : (x : ℕ) (ps : List Piece) → kept (pass x ps) ≡ kept ps
unfolding kept pass
kept-pass x [] = refl
kept-pass x (copied r ∷ ps) = refl
kept-pass x (passed r ∷ ps) = refl

kept-le : {s : List ℕ} {ps : List Piece} → Walk s ps → length (kept ps) ≤ length s
unfolding kept
kept-le ended = omega arith
kept-le (skips {x} {s} {ps} e w) = let h = kept-le w in rw (kept-pass x ps) (omega arith)
kept-le (gives {s} {ps} p w) =
    let f = found s p in
    let l = length-take-le (record_len s) s f.1 in
    let d = length-drop (record_len s) s in
    let h = kept-le w in
    omega (arith, length-append (take (record_len s) s) (kept ps), f.1)

-- ten more where a run stands first: between two runs stands a record
unfoldable slack : List Piece → ℕ
slack [] = 0
slack (copied r ∷ ps) = 0
slack (passed r ∷ ps) = 10

slack_le : (ps : List Piece) → slack ps ≤ 10
unfolding slack
slack_le [] = omega arith
slack_le (copied r ∷ ps) = omega arith
slack_le (passed r ∷ ps) = omega arith

few_pass : (x : ℕ) (ps : List Piece) (n : ℕ) → 11 * run_count ps ≤ n + slack ps → 11 * run_count (pass x ps) ≤ suc n + slack (pass x ps)
unfolding run_count pass slack
few_pass x [] n l = omega arith
few_pass x (copied r ∷ ps) n l = omega arith
few_pass x (passed r ∷ ps) n l = omega arith

few_in : {s : List ℕ} {ps : List Piece} → Walk s ps → 11 * run_count ps ≤ length s + slack ps
unfolding run_count slack
few_in ended = omega arith
few_in (skips {x} {s} {ps} e w) = few_pass x ps (length s) (few_in w)
few_in (gives {s} {ps} p w) =
    let f = found s p in
    let d = length-drop (record_len s) s in
    let h = few_in w in
    omega (arith, f.0, f.1, slack_le ps)

-- a script has few runs
pub few_runs : (s : List ℕ) → length s ≤ longest_script → run_count (walk s) ≤ most_runs
few_runs s l = omega (arith, few_in (walks s), slack_le (walk s))

pub enough : Enough
unfolding number rescued runs
enough s out report l o r =
    let a = kept-le (walks s) in
    let b = few_runs s l in
    let d = runs-two (walk s) 0 in
    rw (le-ltb longest_script (length s) l, le-ltb out (length (kept (walk s))) (omega arith), le-ltb report (length (runs_from 0 (walk s))) (omega arith))
