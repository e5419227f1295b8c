-- What is written piece by piece, and what `rescue` answers. Assumes nothing.
use Prim.Native.Nat.{ℕ, ◌+◌, ◌-◌, ◌*◌, ◌≤◌, ◌<◌}
use mathlib.Core.Path.{◌≡◌, refl, sym, ap, ◌∙◌}
use mathlib.Core.List.{List, [], ◌∷◌, ◌++◌}
use native.Mathlib.Numerals.{add-one}
use native.Mathlib.Omega.{arith}
use lib.ListN.{length, take, drop, set, length-drop, drop_of_length-le}
use lib.Seq.{take_all}
use borrow.Author.Tests.{eq-eqb, ne_eqb, lt-ltb, le-ltb}
use Rattle.wire_bytes.specs.Bytes.{put, put_whole}
use Rattle.wire_bytes.proofs.PutLaws.{put-put, put_whole_lem}
use Rattle.rescue_walk.specs.declared.steps.Cursor.{Cursor}
use Rattle.rescue_walk.specs.declared.scripts.Rescued.{Rescued}
use Rattle.rescue_walk.specs.Walk.{Piece, copied, passed, walk, kept, runs_from, run_count, rescued, runs}
use Rattle.rescue_walk.specs.Steps.{next_of, out_next, report_next, Room, counted, front}
use Rattle.rescue_walk.specs.Rescue.{longest_script, number, written, answer}
use Rattle.rescue_walk.proofs.Walks.{walk_none}
use Rattle.rescue_walk.proofs.Pieces.{left, record_here, run_here, record_bytes, run_bytes, behind_record, behind_run, Next, a_run, a_record, nexts}
use Rattle.rescue_walk.proofs.Loops.{Counting, counting_none, counting_next, runs-two, record-bytes, run-bytes, kept_cons, kept-skip, put-nil, put_front}

module _ (s d : List ℕ) (c : Cursor) where
  out_run : record_here s c ≡ 0 → d ≡ out_next s d c
  unfolding out_next
  out_run z = rw (eq-eqb (record_here s c) 0 z)

  out_record : 0 < record_here s c → put d c.kept (record_bytes s c) ≡ out_next s d c
  unfolding out_next
  out_record p = rw (ne_eqb (record_here s c) 0 (λ z. omega arith))

  report_run : record_here s c ≡ 0 → put d (2 * c.runs) (c.at ∷ (run_here s c ∷ [])) ≡ report_next s d c
  unfolding report_next
  report_run z = rw (eq-eqb (record_here s c) 0 z)

  report_record : 0 < record_here s c → d ≡ report_next s d c
  unfolding report_next
  report_record p = rw (ne_eqb (record_here s c) 0 (λ z. omega arith))

kept-front : (r : List ℕ) (ps : List Piece) → kept (copied r ∷ ps) ≡ r ++ kept ps
unfolding kept
kept-front r ps = refl

kept-nil : kept [] ≡ []
unfolding kept
kept-nil = refl

runs-nil : (p : ℕ) → runs_from p [] ≡ []
unfolding runs_from
runs-nil p = refl

runs_skip : (p : ℕ) (r : List ℕ) (ps : List Piece) → runs_from p (copied r ∷ ps) ≡ runs_from (p + length r) ps
unfolding runs_from
runs_skip p r ps = refl

runs-front : (p : ℕ) (r : List ℕ) (ps : List Piece) → runs_from p (passed r ∷ ps) ≡ (p ∷ (length r ∷ [])) ++ runs_from (p + length r) ps
unfolding runs_from
runs-front p r ps = refl

-- two numbers
two-put : (d : List ℕ) (i x y : ℕ) → set (set d i x) (i + 1) y ≡ put d i (x ∷ (y ∷ []))
unfolding put
two-put d i x y = rw (add-one i)

-- a piece
record A-record (s out : List ℕ) (c n : Cursor) : Type 0 where
  is : 0 < record_here s c
  ends : n.at ≡ c.at + record_here s c
  within : n.at ≤ length s
  fits : c.kept + record_here s c ≤ length out

record A-pass (s rep : List ℕ) (c n : Cursor) : Type 0 where
  is : record_here s c ≡ 0
  ends : n.at ≡ c.at + run_here s c
  fits : 2 * c.runs + 2 ≤ length rep

module _ (s out rep : List ℕ) (c n : Cursor) (room : Room s out rep c) (e : n ≡ next_of s c) where
  is_next : Next s c n
  is_next = rw e (nexts s c room.more)

  put_record : n.runs ≡ c.runs → A-record s out c n
  put_record same = go is_next
    where
      go : Next s c n → A-record s out c n
      go (a_run z p l w q) = absurd (let k = ap (λ (x : Cursor). x.runs) q in omega arith)
      go (a_record p l w q) =
          let k = ap (λ (x : Cursor). x.at) q in
          let x = kept_cons (record_bytes s c) (walk (behind_record s c)) in
          let a = rw (w, x, record-bytes s c p) at room.out_room in
          record { is = p; ends = k; within = omega arith; fits = omega (arith, a) }

  put-run : (n.runs ≡ c.runs → ⊥) → A-pass s rep c n
  put-run other = go is_next
    where
      go : Next s c n → A-pass s rep c n
      go (a_record p l w q) = absurd (other (ap (λ (x : Cursor). x.runs) q))
      go (a_run z p l w q) =
          let k = ap (λ (x : Cursor). x.at) q in
          let x = runs-front c.at (run_bytes s c) (walk (behind_run s c)) in
          let a = rw (w, x) at room.report-room in
          record { is = z; ends = k; fits = omega (arith, a) }

  pub copied_is : n.runs ≡ c.runs → (out' : List ℕ) → out' ≡ put_whole out c.kept (take (n.at - c.at) (take (length s - c.at) (left s c)))
      → (n ≡ next_of s c) × ((out' ≡ out_next s out c) × (rep ≡ report_next s rep c))
  copied_is same out' q =
      let a = put_record same in
      let k : n.at - c.at ≡ record_here s c = omega (arith, a.ends) in
      let b = record_bytes s c in
      let d = length-drop c.at s in
      let y = take_all (length s - c.at) (left s c) (omega arith) in
      let w = put_whole_lem out b c.kept (omega (arith, record-bytes s c a.is, a.fits)) in (
        e,
        (
          q ∙ ap (λ (l : List ℕ). put_whole out c.kept (take (n.at - c.at) l)) y ∙ ap (λ (m : ℕ). put_whole out c.kept (take m (left s c))) k
              ∙ w.0 ∙ out_record s out c a.is,
          report_record s rep c a.is,
        ),
      )

  pub goes_on_lem : c.at ≤ n.at
  goes_on_lem = go is_next
    where
      go : Next s c n → c.at ≤ n.at
      go (a_run z p l w q) = omega (arith, ap (λ (x : Cursor). x.at) q)
      go (a_record p l w q) = omega (arith, ap (λ (x : Cursor). x.at) q)

  pub note_fits : (n.runs ≡ c.runs → ⊥) → 2 * c.runs + 1 < length rep
  note_fits other = let a = put-run other in omega (arith, a.fits)

  pub noted-is : (n.runs ≡ c.runs → ⊥) → (n ≡ next_of s c) × ((out ≡ out_next s out c) × (set (set rep (2 * c.runs) c.at) (2 * c.runs + 1) (n.at - c.at) ≡ report_next s rep c))
  noted-is other =
      let a = put-run other in
      let k : n.at - c.at ≡ run_here s c = omega (arith, a.ends) in
      let x = two-put rep (2 * c.runs) c.at (run_here s c) in
      (e, (out_run s out c a.is, rw k (x ∙ report_run s rep c a.is)))

-- write: what is left to write makes the same of the lists
pub record Writing (s out₀ rep₀ : List ℕ) (out rep : List ℕ) (c : Cursor) : Type 0 where
  pub counting : Counting s c
  pub out_len : length out ≡ length out₀
  pub rep_len : length rep ≡ length rep₀
  pub outs : put out c.kept (kept (walk (left s c))) ≡ put out₀ 0 (rescued s)
  pub reps : put rep (2 * c.runs) (runs_from c.at (walk (left s c))) ≡ put rep₀ 0 (runs s)

outs_step : (s d : List ℕ) (c n : Cursor) → Next s c n → put d c.kept (kept (walk (left s c))) ≡ put (out_next s d c) n.kept (kept (walk (drop n.at s)))
outs_step s d c n (a_run z p l w q) =
    rw (q, ← out_run s d c z, w, kept-skip (run_bytes s c) (walk (behind_run s c)))
outs_step s d c n (a_record p l w q) =
    let r = record_bytes s c in
    let ps = walk (behind_record s c) in
    rw (q, ← out_record s d c p, w, kept-front r ps, ← put-put d r (kept ps) c.kept, record-bytes s c p)

reps_step : (s d : List ℕ) (c n : Cursor) → c.at ≤ length s → Next s c n
    → put d (2 * c.runs) (runs_from c.at (walk (left s c))) ≡ put (report_next s d c) (2 * n.runs) (runs_from n.at (walk (drop n.at s)))
reps_step s d c n h (a_run z p l w q) =
    let r = run_bytes s c in
    let ps = walk (behind_run s c) in
    let k : 2 * (c.runs + 1) ≡ 2 * c.runs + 2 = omega arith in
    rw (q, ← report_run s d c z, w, runs-front c.at r ps, run-bytes s c h l, k) (sym (put-put d (c.at ∷ (run_here s c ∷ [])) (runs_from (c.at + run_here s c) ps) (2 * c.runs)))
reps_step s d c n h (a_record p l w q) =
    let r = record_bytes s c in
    let ps = walk (behind_record s c) in
    rw (q, ← report_record s d c p, w, runs_skip c.at r ps, record-bytes s c p)

module _ (s out₀ rep₀ : List ℕ) where
  pub writing_none : Writing s out₀ rep₀ out₀ rep₀ (record { at = 0; kept = 0; runs = 0 })
  unfolding rescued runs
  writing_none = record { counting = counting_none s; out_len = refl; rep_len = refl; outs = refl; reps = refl }

  module _ (pre : (length (rescued s) ≤ length out₀) × (length (runs s) ≤ length rep₀)) (out rep : List ℕ) (c : Cursor) (k : Writing s out₀ rep₀ out rep c) where
    pub writing_room : c.at < length s → Room s out rep c
    unfolding runs
    writing_room l =
        let a = runs-two (walk (left s c)) c.at in
        let b = runs-two (walk s) 0 in
        record {
          reached = k.counting.reached;
          more = l;
          out_room = omega (arith, k.counting.kept-left, k.out_len, pre.0);
          report-room = omega (arith, k.counting.runs-left, k.rep_len, pre.1);
        }

    pub writing_next : c.at < length s → (n : Cursor) (out' rep' : List ℕ) → length out' ≡ length out → length rep' ≡ length rep
        → (n ≡ next_of s c) × ((out' ≡ out_next s out c) × (rep' ≡ report_next s rep c)) → Writing s out₀ rep₀ out' rep' n
    writing_next l n out' rep' lo lr (e, (x, y)) =
        let t : Next s c n = rw e (nexts s c l) in
        record {
          counting = (counting_next s c n k.counting l e).0;
          out_len = lo ∙ k.out_len;
          rep_len = lr ∙ k.rep_len;
          outs = rw x (sym (outs_step s out c n t) ∙ k.outs);
          reps = rw y (sym (reps_step s rep c n (omega arith) t) ∙ k.reps);
        }

    pub writing_less : c.at < length s → (n : Cursor) → n ≡ next_of s c → length s - n.at < length s - c.at
    writing_less l n e = let t = counting_next s c n k.counting l e in omega (arith, t.1, t.2)

    pub writing_all : length s ≤ c.at → (out ≡ front out₀ (rescued s)) × (rep ≡ front rep₀ (runs s))
    writing_all l =
        let d = drop_of_length-le s l in
        let a = rw (d, walk_none, kept-nil, put-nil out c.kept) at k.outs in
        let b = rw (d, walk_none, runs-nil c.at, put-nil rep (2 * c.runs)) at k.reps in
        (a ∙ put_front out₀ (rescued s) pre.0, b ∙ put_front rep₀ (runs s) pre.1)

-- rescue
counts_two : (s : List ℕ) → length (runs s) ≡ 2 * run_count (walk s)
unfolding runs
counts_two s = runs-two (walk s) 0

module _ (s out rep : List ℕ) where
  abbrev num : ℕ
  num = number s (length out) (length rep)

  abbrev Answers : Rescued → List ℕ → List ℕ → Type 0
  Answers r out' rep' = (r ≡ answer num s) × ((out' ≡ written num out (rescued s)) × (rep' ≡ written num rep (runs s)))

  refused-is : (n : ℕ) (r : Rescued) → (n ≡ 0 → ⊥) → num ≡ n → r ≡ record { number = n; length = 0; runs = 0 } → Answers r out rep
  unfolding answer written
  refused-is n r z e q = rw (e, ne_eqb n 0 z) (q, (refl, refl))

  pub too_long_lem : longest_script < length s → (r : Rescued) → r ≡ record { number = 1; length = 0; runs = 0 } → Answers r out rep
  unfolding number
  too_long_lem l r q = refused-is 1 r (λ z. omega arith) (rw (lt-ltb longest_script (length s) l)) q

  module _ (short : length s ≤ longest_script) (c : Cursor) (e : c ≡ counted s) where
    counted-kept : c.kept ≡ length (rescued s)
    unfolding counted
    counted-kept = ap (λ (x : Cursor). x.kept) e

    counted-runs : c.runs ≡ run_count (walk s)
    unfolding counted
    counted-runs = ap (λ (x : Cursor). x.runs) e

    pub no_output : length out < c.kept → (r : Rescued) → r ≡ record { number = 15; length = 0; runs = 0 } → Answers r out rep
    unfolding number
    no_output l r q = refused-is 15 r (λ z. omega arith) (rw (le-ltb longest_script (length s) short, lt-ltb (length out) (length (rescued s)) (omega (arith, counted-kept)))) q

    module _ (o : c.kept ≤ length out) where
      pub no_report : length rep < 2 * c.runs → (r : Rescued) → r ≡ record { number = 15; length = 0; runs = 0 } → Answers r out rep
      unfolding number
      no_report l r q = refused-is 15 r (λ z. omega arith) (rw (
        le-ltb longest_script (length s) short,
        le-ltb (length out) (length (rescued s)) (omega (arith, counted-kept)),
        lt-ltb (length rep) (length (runs s)) (omega (arith, counted-runs, counts_two s)),
      )) q

      module _ (l : 2 * c.runs ≤ length rep) where
        pub has_room : (length (rescued s) ≤ length out) × (length (runs s) ≤ length rep)
        has_room = (omega (arith, counted-kept), omega (arith, counted-runs, counts_two s))

        is_none : num ≡ 0
        unfolding number
        is_none = let h = has_room in rw (le-ltb longest_script (length s) short, le-ltb (length out) (length (rescued s)) h.0, le-ltb (length rep) (length (runs s)) h.1)

        pub rescued-is : (out' rep' : List ℕ) → (out' ≡ front out (rescued s)) × (rep' ≡ front rep (runs s))
            → Answers (record { number = 0; length = c.kept; runs = c.runs }) out' rep'
        unfolding answer written
        rescued-is out' rep' (x, y) = rw (is_none, counted-kept, counted-runs) (refl, (x, y))
