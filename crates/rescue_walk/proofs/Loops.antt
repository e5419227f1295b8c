-- What the loops keep, and what the functions answer. Assumes nothing.
use Rattle.std.specs.Prelude.{Option, None, Some, is_some, unwrap_or, MatchOption}
use Prim.Native.Nat.{ℕ, zero, suc, ◌+◌, ◌-◌, ◌*◌, ◌≤◌, ◌<◌}
use mathlib.Core.Path.{◌≡◌, refl, sym, ap, subst, ◌∙◌}
use mathlib.Core.Bool.{true, false}
use mathlib.Core.List.{List, [], ◌∷◌, ◌++◌}
use native.Mathlib.Omega.{arith}
use lib.ListN.{length, drop, length-append, length-drop, drop_of_length-le}
use lib.Seq.{length-take-le, sets-eq}
use Rattle.wire_bytes.specs.Bytes.{put}
use Rattle.rescue_walk.specs.declared.steps.Cursor.{Cursor}
use Rattle.rescue_walk.specs.Walk.{record_end, Piece, copied, passed, walk, kept, runs_from, run_count, rescued, run_len}
use Rattle.rescue_walk.specs.Steps.{next_of, Reached, counted, front}
use Rattle.rescue_walk.proofs.Begins.{found}
use Rattle.rescue_walk.proofs.Walks.{walk_none}
use Rattle.rescue_walk.proofs.Pieces.{left, record_here, run_here, record_bytes, run_bytes, behind_record, behind_run, end_none, end-some}
use Rattle.rescue_walk.proofs.Pieces.{run-stop, run_on, run_end, next-run, next-record, Next, a_run, a_record, nexts}

-- run_end
pub record RunOn (s : List ℕ) (at e : ℕ) : Type 0 where
  pub within : e ≤ length s
  pub same : e + run_len (drop e s) ≡ at + run_len (drop at s)

module _ (s : List ℕ) (at e : ℕ) (r : RunOn s at e) where
  pub run-again : e < length s → (o : Option ℕ) → o ≡ record_end s e → is_some o ≡ false → RunOn s at (e + 1)
  run-again l (Some n) q b = absurd (let f : ◌≡◌ {A = ℕ} 0 1 = cc in omega arith)
  run-again l None q b = let k = run_on s e l (end_none s e (sym q)) in record { within = omega arith; same = omega (arith, r.same) }

  pub run-found : (o : Option ℕ) → o ≡ record_end s e → is_some o ≡ true → e ≡ at + run_len (drop at s)
  run-found (Some n) q b = let k = run-stop (drop e s) (end-some s e n (sym q)).0 in omega (arith, r.same)
  run-found None q b = absurd (let f : ◌≡◌ {A = ℕ} 0 1 = cc in omega arith)

  pub run-over : length s ≤ e → length s ≡ at + run_len (drop at s)
  run-over h = let k = run_end s e h in omega (arith, r.within, r.same)

-- next
pub cursor_eq : {a b c a' b' c' : ℕ} → a ≡ a' → b ≡ b' → c ≡ c'
    → ◌≡◌ {A = Cursor} (record { at = a; kept = b; runs = c }) (record { at = a'; kept = b'; runs = c' })
cursor_eq x y z = rw (x, y, z)

module _ (s : List ℕ) (c : Cursor) (e : Option ℕ) (is : e ≡ record_end s c.at) where
  pub run_is : e ≡ None → (m : ℕ) → m ≡ c.at + run_here s c → record { at = m; kept = c.kept; runs = c.runs + 1 } ≡ next_of s c
  run_is z m q = cursor_eq q refl refl ∙ sym (next-run s c (end_none s c.at (sym is ∙ z)))

  module _ (n : ℕ) (z : e ≡ Some n) where
    pub end-behind : (0 < record_here s c) × (n ≡ c.at + record_here s c)
    end-behind = end-some s c.at n (sym is ∙ z)

    pub not-before : c.at ≤ n
    not-before = omega (arith, end-behind.1)

    pub record_is : record { at = n; kept = c.kept + (n - c.at); runs = c.runs } ≡ next_of s c
    record_is = let k = end-behind in cursor_eq k.1 (omega (arith, k.1)) refl ∙ sym (next-record s c k.0)

-- count
pub runs-two : (ps : List Piece) (p : ℕ) → length (runs_from p ps) ≡ 2 * run_count ps
unfolding runs_from run_count
runs-two [] p = refl
runs-two (copied r ∷ ps) p = runs-two ps (p + length r)
runs-two (passed r ∷ ps) p = let h = runs-two ps (p + length r) in omega arith

pub kept_cons : (r : List ℕ) (ps : List Piece) → length (kept (copied r ∷ ps)) ≡ length r + length (kept ps)
unfolding kept
kept_cons r ps = length-append r (kept ps)

pub kept-skip : (r : List ℕ) (ps : List Piece) → kept (passed r ∷ ps) ≡ kept ps
unfolding kept
kept-skip r ps = refl

count-skip : (r : List ℕ) (ps : List Piece) → run_count (copied r ∷ ps) ≡ run_count ps
unfolding run_count
count-skip r ps = refl

count-cons : (r : List ℕ) (ps : List Piece) → run_count (passed r ∷ ps) ≡ suc (run_count ps)
unfolding run_count
count-cons r ps = refl

pub record Counting (s : List ℕ) (c : Cursor) : Type 0 where
  pub reached : Reached s c
  pub kept-left : c.kept + length (kept (walk (left s c))) ≡ length (rescued s)
  pub runs-left : c.runs + run_count (walk (left s c)) ≡ run_count (walk s)

pub counting_none : (s : List ℕ) → Counting s (record { at = 0; kept = 0; runs = 0 })
unfolding rescued
counting_none s = record { reached = record { within = omega arith; few_kept = omega arith; few_runs = omega arith }; kept-left = omega arith; runs-left = omega arith }

-- a record's bytes are as many as it has
pub record-bytes : (s : List ℕ) (c : Cursor) → 0 < record_here s c → length (record_bytes s c) ≡ record_here s c
record-bytes s c p = let f = found (left s c) p in length-take-le (record_here s c) (left s c) f.1

pub run-bytes : (s : List ℕ) (c : Cursor) → c.at ≤ length s → c.at + run_here s c ≤ length s → length (run_bytes s c) ≡ run_here s c
run-bytes s c w l = length-take-le (run_here s c) (left s c) (let d = length-drop c.at s in omega arith)

counting_step : (s : List ℕ) (c n : Cursor) → Counting s c → Next s c n → Counting s n × (c.at < n.at) × (n.at ≤ length s)
counting_step s c n k (a_run z p l w e) =
    let x = kept-skip (run_bytes s c) (walk (behind_run s c)) in
    let y = count-cons (run_bytes s c) (walk (behind_run s c)) in
    let a = rw (w, x) at k.kept-left in
    let b = rw (w, y) at k.runs-left in
    let st = k.reached in
    rw e
    (record { reached = record { within = l; few_kept = omega (arith, st.few_kept); few_runs = omega (arith, st.few_runs) }; kept-left = a; runs-left = omega (arith, b) }, omega arith, l)
counting_step s c n k (a_record p l w e) =
    let x = kept_cons (record_bytes s c) (walk (behind_record s c)) in
    let y = count-skip (record_bytes s c) (walk (behind_record s c)) in
    let a = rw (w, x, record-bytes s c p) at k.kept-left in
    let b = rw (w, y) at k.runs-left in
    let st = k.reached in
    rw e
    (record { reached = record { within = l; few_kept = omega (arith, st.few_kept); few_runs = omega (arith, st.few_runs) }; kept-left = omega (arith, a); runs-left = b }, omega arith, l)

pub counting_next : (s : List ℕ) (c n : Cursor) → Counting s c → c.at < length s → n ≡ next_of s c → Counting s n × (c.at < n.at) × (n.at ≤ length s)
counting_next s c n k l e = rw e (counting_step s c (next_of s c) k (nexts s c l))

kept-none : length (kept []) ≡ 0
unfolding kept
kept-none = refl

count_none : run_count [] ≡ 0
unfolding run_count
count_none = refl

pub counting_all : (s : List ℕ) (c : Cursor) → Counting s c → length s ≤ c.at → c ≡ counted s
unfolding counted
counting_all s c k l =
    let st = k.reached in
    let d = drop_of_length-le s l in
    let a = rw (d, walk_none, kept-none) at k.kept-left in
    let b = rw (d, walk_none, count_none) at k.runs-left in
    cursor_eq (omega (arith, st.within)) (omega (arith, a)) (omega (arith, b))

-- what is written at the front
pub put-nil : (d : List ℕ) (p : ℕ) → put d p [] ≡ d
unfolding put
put-nil d p = refl

pub put_front : (d xs : List ℕ) → length xs ≤ length d → put d 0 xs ≡ front d xs
unfolding put front
put_front d xs l =
    let z : 0 + length xs ≡ length xs = omega arith in
    sets-eq xs d 0 (omega arith) ∙ ap (λ (k : ℕ). xs ++ drop k d) z
