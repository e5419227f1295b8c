-- Where a record is ready, and where none is. Assumes nothing.
use Rattle.std.specs.Prelude.{Some}
use Prim.Native.Nat.{ℕ, ◌+◌, ◌-◌, ◌<◌, ◌≤◌}
use mathlib.Core.Path.{◌≡◌, refl, sym, ◌∙◌}
use mathlib.Core.Logic.{⊎_elim}
use mathlib.Core.Bool.{Bool, true, false}
use mathlib.Core.List.{List}
use native.Mathlib.Omega.{arith}
use borrow.Author.Tests.{lt-ltb, le-ltb, ltb-true, ltb-false, le-leb, lt-leb, eq-eqb, eqb-true}
use lib.Dec.{ltb, leb, eqb}
use lib.ListN.{length}
use Rattle.wire_bytes.proofs.Order.{below}
use Rattle.bench_records.specs.Kinds.{longest}
use Rattle.bench_records.specs.Records.{record_at}
use Rattle.bench_records.specs.declared.fields.Record.{Record}
use Rattle.bench_records.proofs.Scans.{both, record_within}
use Rattle.bench_script.specs.Bench.{answer_room}
use Rattle.bench_stream.specs.declared.pieces.Place.{Place}
use Rattle.bench_stream.specs.Buffer.{is_short}
use Rattle.bench_stream.specs.Ready.{is_record, is_told, is_ready, PieceRun, goes_on}
use Rattle.bench_stream.specs.Laws.{WholeRuns, LastRuns, GetsOn}

-- room behind n
pub room-behind : (a n m : ℕ) → n ≤ m → leb a (m - n) ≡ leb (n + a) m
room-behind a n m h = ⊎_elim
    (λ lt. lt-leb a (m - n) (omega arith) ∙ sym (lt-leb (n + a) m lt))
    (λ le. le-leb a (m - n) (omega arith) ∙ sym (le-leb (n + a) m le))
    (below m (n + a))

-- TOLD
module _ (s : List ℕ) (p : ℕ) where
  pub told-long : p + longest ≤ length s → is_told s p ≡ true
  unfolding is_told
  told-long h = rw (le-leb (p + longest) (length s) h)

  pub told-short : length s < p + longest → is_told s p ≡ is_record (record_at s p)
  unfolding is_told
  told-short h = rw (lt-leb (p + longest) (length s) h)

  pub told-whole : (r : Record) → record_at s p ≡ Some r → is_told s p ≡ true
  unfolding is_record
  told-whole r e = ⊎_elim (λ lt. told-short lt ∙ rw e) told-long (below (length s) (p + longest))

pub not_so : false ≡ true → ⊥
not_so e = let z : ◌≡◌ {A = ℕ} 0 1 = cc in omega arith

-- READY
module _ (s : List ℕ) (last : Bool) (page : ℕ) (p : Place) where
  pub ready_ended : length s ≤ p.from → is_ready s last page p ≡ false
  unfolding is_ready
  ready_ended h = rw (le-ltb p.from (length s) h)

  module _ (here : p.from < length s) where
    pub ready_full : leb (p.at + answer_room) page ≡ false → is_ready s last page p ≡ false
    unfolding is_ready
    ready_full h = rw (lt-ltb p.from (length s) here, h)

    module _ (room : leb (p.at + answer_room) page ≡ true) where
      pub ready_last : last ≡ true → is_ready s last page p ≡ true
      unfolding is_ready
      ready_last h = rw (lt-ltb p.from (length s) here, room, h)

      pub ready_told : last ≡ false → is_ready s last page p ≡ is_told s p.from
      unfolding is_ready
      ready_told h = rw (lt-ltb p.from (length s) here, room, h)

  -- what is known where one is
  pub ready_is : is_ready s last page p ≡ true → (p.from < length s) × (p.at + answer_room ≤ page) × ((last ≡ false) → is_told s p.from ≡ true)
  ready_is e = ⊎_elim
      (λ here. ⊎_elim
      (λ lt. absurd (let f = ready_full here (lt-leb (p.at + answer_room) page lt) in let z : ◌≡◌ {A = ℕ} 0 1 = cc in omega arith))
      (λ le. (here, le, λ n. sym (ready_told here (le-leb (p.at + answer_room) page le) n) ∙ e))
      (below page (p.at + answer_room)))
      (λ le. absurd (let f = ready_ended le in let z : ◌≡◌ {A = ℕ} 0 1 = cc in omega arith))
      (below p.from (length s))

pub last_runs : LastRuns
last_runs s page p here room = ready_last s true page p here (le-leb (p.at + answer_room) page room) refl

pub whole-runs : WholeRuns
whole-runs s last page p r e room =
    let w = record_within s p.from r e in
    let here : p.from < length s = omega (arith, w.0, w.1) in
    go last refl here
  where
    go : (b : Bool) → last ≡ b → p.from < length s → is_ready s last page p ≡ true
    go true q here = ready_last s last page p here (le-leb (p.at + answer_room) page room) q
    go false q here = ready_told s last page p here (le-leb (p.at + answer_room) page room) q ∙ told-whole s p.from r e

-- A PIECE that is the last or as long as the longest record, and in which nothing was run, is empty and the last
clash : {b : Bool} → b ≡ true → b ≡ false → ⊥
clash y n = let z : ◌≡◌ {A = ℕ} 0 1 = cc in omega arith

pub stuck : (s : List ℕ) (last : Bool) (page : ℕ) (p : Place) → (last ≡ false → longest ≤ length s) → answer_room ≤ page → p.from ≡ 0 → p.at ≡ 0
    → is_ready s last page p ≡ false → (length s ≡ 0) × (last ≡ true)
stuck s last page p long room f a stops = go last refl
  where
    fits : leb (p.at + answer_room) page ≡ true
    fits = le-leb (p.at + answer_room) page (omega arith)

    go : (b : Bool) → last ≡ b → (length s ≡ 0) × (last ≡ true)
    go true q = ⊎_elim
        (λ here. absurd (clash (ready_last s last page p (omega arith) fits q) stops))
        (λ le. (omega arith, q))
        (below 0 (length s))
    go false q =
        let l = long q in
        absurd (clash (ready_told s last page p (omega arith) fits q ∙ told-long s p.from (omega arith)) stops)

-- a piece that is not short is so
pub not_short : (to left : ℕ) → is_short to left ≡ false → eqb left 0 ≡ false → longest ≤ to
unfolding is_short
not_short to left e n = ⊎_elim some (λ le. le) (below to longest)
  where
    some : to < longest → longest ≤ to
    some lt =
        let f : ltb 0 left ≡ false = rw (lt-ltb to longest lt) at e in
        let g = ltb-false 0 left f in
        absurd (clash (eq-eqb left 0 (omega arith)) n)

pub gets_on : GetsOn
gets_on ws s left page p ws' page' full room ran first =
    let x = stuck s (eqb left 0) (length page) p (λ n. not_short (length s) left full n) room first (ran.none first) ran.stops in
    (x.0, eqb-true left 0 x.1)

-- GOING ON
pub goes_some : (p : Place) → goes_on p ≡ true → 0 < p.from
unfolding goes_on
goes_some p e = ltb-true 0 p.from (both (ltb 0 p.from) p.good e).0

pub goes_good : (p : Place) → goes_on p ≡ true → p.good ≡ true
unfolding goes_on
goes_good p e = (both (ltb 0 p.from) p.good e).1

-- it does not, though no record was bad: nothing was run
pub goes_none : (p : Place) → goes_on p ≡ false → p.good ≡ true → p.from ≡ 0
unfolding goes_on
goes_none p e y = ⊎_elim (λ lt. absurd (clash y (rw (lt-ltb 0 p.from lt) at e))) (λ le. omega arith) (below 0 p.from)

-- so that nothing is left to read
pub read_all : (ws s : List ℕ) (to left : ℕ) (page : List ℕ) (p : Place) (ws' page' : List ℕ) → to ≡ length s → is_short to left ≡ false
    → answer_room ≤ length page → PieceRun ws s (eqb left 0) page p ws' page' → goes_on p ≡ false → p.good ≡ true → left ≡ 0
read_all ws s to left page p ws' page' e full room ran g y = (gets_on ws s left page p ws' page' (rw e at full) room ran (goes_none p g y)).1
