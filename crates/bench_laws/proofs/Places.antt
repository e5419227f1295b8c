-- Where the runs lie: the report counts the bytes of all pieces before a run, and the pieces make up the input. Assumes nothing.
use Prim.Native.Nat.{ℕ, zero, suc, ◌+◌, ◌-◌, ◌*◌, ◌≤◌, ◌<◌}
use mathlib.Core.Logic.{◌⊎◌, inl, inr}
use mathlib.Core.Path.{◌≡◌, refl, sym, ap, ◌∙◌}
use mathlib.Core.Bool.{true, false, not}
use mathlib.Core.List.{List, [], ◌∷◌, ◌++◌, append_assoc}
use native.Mathlib.Omega.{arith}
use lib.Dec.{eqb}
use lib.ListN.{length, get_or, take, drop, length-append, get_or-append}
use lib.Seq.{take_at, drop_at, drop-drop}
use borrow.Author.Tests.{eqb-true, not-true}
use Rattle.bench_records.specs.Kinds.{head}
use Rattle.bench_records.proofs.Scans.{both}
use Rattle.rescue_walk.specs.Walk.{record_len, Piece, copied, passed, walk, runs_from, run_count, runs}
use Rattle.rescue_walk.proofs.Begins.{found}
use Rattle.rescue_walk.proofs.Loops.{runs-two}
use Rattle.bench_laws.specs.Sound.{joined, filled, run_first, apart, none_starts, faithful}
use Rattle.bench_laws.specs.Places.{offset_in, length_in, end_in, NthRun, Listed, Located, Ascending, LongestRun, LongestEach, Between}
use Rattle.bench_laws.proofs.Sounds.{make_up, longest}
use Rattle.bench_laws.proofs.Pinned.{faithful-always, some-filled}

-- PIECES behind pieces
joined-more : (ps qs : List Piece) → joined (ps ++ qs) ≡ joined ps ++ joined qs
unfolding joined
joined-more [] qs = refl
joined-more (copied r ∷ ps) qs = ap (λ (l : List ℕ). r ++ l) (joined-more ps qs) ∙ sym (append_assoc r (joined ps) (joined qs))
joined-more (passed r ∷ ps) qs = ap (λ (l : List ℕ). r ++ l) (joined-more ps qs) ∙ sym (append_assoc r (joined ps) (joined qs))

count-more : (ps qs : List Piece) → run_count (ps ++ qs) ≡ run_count ps + run_count qs
unfolding run_count
count-more [] qs = omega arith
count-more (copied r ∷ ps) qs = count-more ps qs
count-more (passed r ∷ ps) qs = omega (arith, count-more ps qs)

-- the bytes of a first piece are passed on the way to the second
along : (r t : List ℕ) (p : ℕ) → p + length r + length t ≡ p + length (r ++ t)
along r t p = omega (arith, length-append r t)

runs-more : (ps qs : List Piece) (p : ℕ) → runs_from p (ps ++ qs) ≡ runs_from p ps ++ runs_from (p + length (joined ps)) qs
unfolding runs_from joined
runs-more [] qs p = let e : p + 0 ≡ p = omega arith in rw e
runs-more (copied r ∷ ps) qs p = rw (← along r (joined ps) p) (runs-more ps qs (p + length r))
runs-more (passed r ∷ ps) qs p =
    rw (← along r (joined ps) p) (ap (λ (l : List ℕ). p ∷ (length r ∷ l)) (runs-more ps qs (p + length r)))

apart-end : (ps qs : List Piece) → apart (ps ++ qs) ≡ true → apart qs ≡ true
unfolding apart
apart-end [] qs e = e
apart-end (copied r ∷ ps) qs e = apart-end ps qs e
apart-end (passed r ∷ ps) qs e = apart-end ps qs (both (not (run_first (ps ++ qs))) _ (both (filled r) _ e).1).1

faithful-end : (ps qs : List Piece) → faithful (ps ++ qs) ≡ true → faithful qs ≡ true
unfolding faithful
faithful-end [] qs e = e
faithful-end (copied r ∷ ps) qs e =
    faithful-end ps qs (both (eqb (record_len (r ++ joined (ps ++ qs))) (length r)) _ (both (filled r) _ e).1).1
faithful-end (passed r ∷ ps) qs e = faithful-end ps qs (both (none_starts r (joined (ps ++ qs))) _ e).1

-- THE i-TH RUN, with what stands before and behind it
record Split (ps : List Piece) (i : ℕ) : Type 0 where
  before : List Piece
  run : List ℕ
  behind : List Piece
  pieces : ps ≡ before ++ (passed run ∷ behind)
  nth : run_count before ≡ i

one_before : (p : Piece) (ps : List Piece) (i j : ℕ) → ((qs : List Piece) → run_count qs ≡ i → run_count (p ∷ qs) ≡ j) → Split ps i → Split (p ∷ ps) j
one_before p ps i j f x =
    record { before = p ∷ x.before; run = x.run; behind = x.behind; pieces = ap (λ (qs : List Piece). p ∷ qs) x.pieces; nth = f x.before x.nth }

split : (ps : List Piece) (i : ℕ) → i < run_count ps → Split ps i
unfolding run_count
split [] i h = absurd (omega arith)
split (copied r ∷ ps) i h = one_before (copied r) ps i i (λ qs e. e) (split ps i h)
split (passed r ∷ ps) zero h = record { before = []; run = r; behind = ps; pieces = refl; nth = refl }
split (passed r ∷ ps) (suc i) h = one_before (passed r) ps i (suc i) (λ qs e. ap suc e) (split ps i (omega arith))

-- a list behind another
get_d_behind : (xs ys : List ℕ) (n k : ℕ) → n ≡ length xs + k → get_or (xs ++ ys) n 0 ≡ get_or ys k 0
get_d_behind [] ys n k e = let f : n ≡ k = omega arith in ap (λ (m : ℕ). get_or ys m 0) f
get_d_behind (x ∷ xs) ys zero k e = absurd (omega arith)
get_d_behind (x ∷ xs) ys (suc n) k e = get_d_behind xs ys n k (omega arith)

pub listed : Listed
unfolding runs
listed s = runs-two (walk s) 0

-- THE REPORT behind some pieces: it goes on where they end
module _ (s : List ℕ) (before behind : List Piece) (is : walk s ≡ before ++ behind) where
  abbrev from : ℕ
  from = length (joined before)

  whole : s ≡ joined before ++ joined behind
  whole = sym (make_up s) ∙ ap joined is ∙ joined-more before behind

  goes_on_lem : drop from s ≡ joined behind
  goes_on_lem = ap (drop from) whole ∙ drop_at (joined before) (joined behind) from refl

  report_is : runs s ≡ runs_from 0 before ++ runs_from from behind
  unfolding runs
  report_is =
      let z : 0 + from ≡ from = omega arith in
      ap (runs_from 0) is ∙ runs-more before behind 0 ∙ ap (λ (n : ℕ). runs_from 0 before ++ runs_from n behind) z

  -- the pairs of these pieces, and those behind
  pair_before : (k : ℕ) → k < 2 * run_count before → get_or (runs s) k 0 ≡ get_or (runs_from 0 before) k 0
  pair_before k h = rw report_is (get_or-append (runs_from 0 before) (runs_from from behind) 0 k (omega (arith, runs-two before 0)))

  pair_behind : (n k : ℕ) → n ≡ 2 * run_count before + k → get_or (runs s) n 0 ≡ get_or (runs_from from behind) k 0
  pair_behind n k e = rw report_is (get_d_behind (runs_from 0 before) (runs_from from behind) n k (omega (arith, runs-two before 0)))

-- a run with its place
module _ (s : List ℕ) (before behind : List Piece) (run : List ℕ) (is : walk s ≡ before ++ (passed run ∷ behind)) where
  place_is : (offset_in s (run_count before) ≡ from s before _ is) × (length_in s (run_count before) ≡ length run)
  unfolding runs_from
  place_is = (pair_behind s before _ is (2 * run_count before) 0 (omega arith), pair_behind s before _ is (2 * run_count before + 1) 1 (omega arith))

  lies : NthRun s (run_count before) (offset_in s (run_count before)) (length_in s (run_count before))
  unfolding joined
  lies =
      let n = length (joined before) in
      let rest = run ++ joined behind in
      let w = whole s before _ is in
      let a = length-append (joined before) rest in
      let b = length-append run (joined behind) in
      rw (place_is.0, place_is.1) (record {
        before = before;
        run = run;
        behind = behind;
        pieces = is;
        nth = refl;
        inside = omega (arith, ap length w);
        offset = ap (take n) w ∙ take_at (joined before) rest n refl;
        bytes = ap (take (length run)) (goes_on_lem s before _ is) ∙ take_at run (joined behind) (length run) refl;
      })

pub located : Located
located s i h = let x = split (walk s) i h in rw (← x.nth) (lies s x.before x.behind x.run x.pieces)

-- IN ORDER: from p on no run starts before p, and none ends behind all pieces
starts_behind : (ps : List Piece) (p i : ℕ) → i < run_count ps → p ≤ get_or (runs_from p ps) (2 * i) 0
unfolding runs_from run_count
starts_behind [] p i h = absurd (omega arith)
starts_behind (copied r ∷ ps) p i h = omega (arith, starts_behind ps (p + length r) i h)
starts_behind (passed r ∷ ps) p zero h = omega arith
starts_behind (passed r ∷ ps) p (suc i) h =
    let e : 2 * suc i ≡ suc (suc (2 * i)) = omega arith in
    rw e (omega (arith, starts_behind ps (p + length r) i (omega arith)))

ends-within : (ps : List Piece) (p i : ℕ) → i < run_count ps → get_or (runs_from p ps) (2 * i) 0 + get_or (runs_from p ps) (2 * i + 1) 0 ≤ p + length (joined ps)
unfolding runs_from run_count joined
ends-within [] p i h = absurd (omega arith)
ends-within (copied r ∷ ps) p i h = omega (arith, along r (joined ps) p, ends-within ps (p + length r) i h)
ends-within (passed r ∷ ps) p zero h = omega (arith, along r (joined ps) p)
ends-within (passed r ∷ ps) p (suc i) h =
    let e : 2 * suc i ≡ suc (suc (2 * i)) = omega arith in
    let f : 2 * suc i + 1 ≡ suc (suc (2 * i + 1)) = omega arith in
    rw (f, e) (omega (arith, along r (joined ps) p, ends-within ps (p + length r) i (omega arith)))

-- what stands in front of the other pieces: a record as long as it says, or a run at whose bytes none starts
record_first : (r : List ℕ) (ps : List Piece) → faithful (copied r ∷ ps) ≡ true → (record_len (r ++ joined ps) ≡ length r) × (head ≤ length r)
unfolding faithful
record_first r ps f =
    let x = both (filled r) _ f in
    let e = eqb-true (record_len (r ++ joined ps)) (length r) (both (eqb (record_len (r ++ joined ps)) (length r)) _ x.1).0 in
    let l = some-filled r x.0 in
    (e, omega (arith, e, (found (r ++ joined ps) (omega arith)).0))

run-first : (r : List ℕ) (ps : List Piece) → apart (passed r ∷ ps) ≡ true → (0 < length r) × (run_first ps ≡ false)
unfolding apart
run-first r ps a =
    let x = both (filled r) _ a in
    (some-filled r x.0, not-true (run_first ps) (both (not (run_first ps)) _ x.1).0)

none_first : (r : List ℕ) (ps : List Piece) → faithful (passed r ∷ ps) ≡ true → (none_starts r (joined ps) ≡ true) × (faithful ps ≡ true)
unfolding faithful
none_first r ps f = both (none_starts r (joined ps)) _ f

each_none : (r t : List ℕ) (k : ℕ) → none_starts r t ≡ true → k < length r → record_len (drop k (r ++ t)) ≡ 0
unfolding none_starts
each_none [] t k n h = absurd (omega arith)
each_none (x ∷ r) t zero n h = eqb-true (record_len ((x ∷ r) ++ t)) 0 (both (eqb (record_len ((x ∷ r) ++ t)) 0) _ n).0
each_none (x ∷ r) t (suc k) n h = each_none r t k (both (eqb (record_len ((x ∷ r) ++ t)) 0) _ n).1 (omega arith)

-- what stands behind a run: nothing, or a record
data Behind (ps : List Piece) : Type 0 where
  nothing : ps ≡ [] → Behind ps
  another : (r : List ℕ) (qs : List Piece) → ps ≡ copied r ∷ qs → record_len (joined ps) ≡ length r → head ≤ length r → Behind ps

behind-run : (ps : List Piece) → run_first ps ≡ false → faithful ps ≡ true → Behind ps
unfolding run_first joined
behind-run [] n f = nothing refl
behind-run (copied r ∷ ps) n f = let k = record_first r ps f in another r ps refl k.0 k.1
behind-run (passed r ∷ ps) n f = absurd (let z : ◌≡◌ {A = ℕ} 0 1 = cc in omega arith)

module _ (s : List ℕ) (before behind : List Piece) (run : List ℕ) (is : walk s ≡ before ++ (passed run ∷ behind)) where
  apart-here : (0 < length run) × (run_first behind ≡ false)
  apart-here = run-first run behind (apart-end before (passed run ∷ behind) (rw is at (longest s)))

  faithful-here : (none_starts run (joined behind) ≡ true) × (faithful behind ≡ true)
  faithful-here = none_first run behind (faithful-end before (passed run ∷ behind) (rw is at (faithful-always s)))

  then : Behind behind
  then = behind-run behind apart-here.1 faithful-here.1

  place : (offset_in s (run_count before) ≡ length (joined before)) × (length_in s (run_count before) ≡ length run)
  place = place_is s before behind run is

  next-starts : 0 < run_count behind → end_in s (run_count before) + head ≤ offset_in s (suc (run_count before))
  unfolding run_count runs_from
  next-starts h = go then
    where
      go : Behind behind → end_in s (run_count before) + head ≤ offset_in s (suc (run_count before))
      go (nothing e) = absurd (omega (arith, ap run_count e))
      go (another r qs e l k) =
          let n = length (joined before) + length run in
          let b = pair_behind s before _ is (2 * suc (run_count before)) 2 (omega arith) ∙ ap (λ (ps : List Piece). get_or (runs_from n ps) 0 0) e in
          omega (arith, place.0, place.1, b, starts_behind qs (n + length r) 0 (omega (arith, ap run_count e)), k)

  -- the bytes from inside the run on
  inside : (k : ℕ) → drop (length (joined before) + k) s ≡ drop k (run ++ joined behind)
  unfolding joined
  inside k = sym (drop-drop k (length (joined before)) s) ∙ ap (drop k) (goes_on_lem s before _ is)

  is_longest : LongestRun s (offset_in s (run_count before)) (length_in s (run_count before))
  unfolding joined
  is_longest = rw (place.0, place.1) (record { some = apart-here.0; none = none; ends = ends then })
    where
      none : (k : ℕ) → length (joined before) ≤ k → k < length (joined before) + length run → record_len (drop k s) ≡ 0
      none k a b =
          let e : k ≡ length (joined before) + (k - length (joined before)) = omega arith in
          ap (λ (n : ℕ). record_len (drop n s)) e ∙ ap record_len (inside (k - length (joined before)))
          ∙ each_none run (joined behind) (k - length (joined before)) faithful-here.0 (omega arith)

      ends : Behind behind → (length (joined before) + length run ≡ length s) ⊎ (0 < record_len (drop (length (joined before) + length run) s))
      ends (nothing e) =
          let w = whole s before _ is in
          inl (omega (arith, ap length w, length-append (joined before) (run ++ joined behind), length-append run (joined behind), ap (λ (ps : List Piece). length (joined ps)) e))
      ends (another r qs e l k) =
          let d = inside (length run) ∙ drop_at run (joined behind) (length run) refl in
          inr (omega (arith, ap record_len d, l, k))

pub ascending : Ascending
unfolding run_count
ascending s i h =
    let x = split (walk s) i (omega arith) in
    let n = ap run_count x.pieces ∙ count-more x.before (passed x.run ∷ x.behind) in
    rw (← x.nth) (next-starts s x.before x.behind x.run x.pieces (omega (arith, n, x.nth)))

pub longest-each : LongestEach
longest-each s i h = let x = split (walk s) i h in rw (← x.nth) (is_longest s x.before x.behind x.run x.pieces)

-- A COPIED RECORD
pub between : Between
unfolding joined runs_from run_count
between s before behind r is =
    record {
      bytes = ap (take (length r)) (goes_on_lem s before _ is) ∙ take_at r (joined behind) (length r) refl;
      earlier =
          λ i h. omega (
            arith,
            pair_before s before _ is (2 * i) (omega arith),
            pair_before s before _ is (2 * i + 1) (omega arith),
            ends-within before 0 i h,
          );
      later =
          λ i a h.
          let n = ap run_count is ∙ count-more before (copied r ∷ behind) in
          omega (
            arith,
            pair_behind s before _ is (2 * i) (2 * (i - run_count before)) (omega arith),
            starts_behind behind (length (joined before) + length r) (i - run_count before) (omega (arith, n)),
          );
    }
