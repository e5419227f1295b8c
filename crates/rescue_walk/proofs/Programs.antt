-- What the program's two calls leave in rooms that are always enough. Assumes nothing.
use Prim.Native.Nat.{ℕ, ◌*◌, ◌≤◌, ◌<◌}
use mathlib.Core.Logic.{⊎_elim}
use mathlib.Core.Path.{◌≡◌, refl, ◌∙◌}
use mathlib.Core.List.{List}
use native.Mathlib.Omega.{arith}
use lib.ListN.{length, take, drop}
use lib.Seq.{take_at}
use borrow.Author.Tests.{lt-ltb, le-ltb}
use Rattle.wire_bytes.proofs.Order.{below}
use Rattle.wire_bytes.proofs.PutLaws.{put_whole_lem}
use Rattle.text.specs.Pieces.{put_all, past_all, joined}
use Rattle.text.proofs.Pieces.{pieces_join}
use Rattle.rescue_walk.specs.declared.scripts.Rescued.{Rescued}
use Rattle.rescue_walk.specs.Walk.{walk, run_count, rescued, runs}
use Rattle.rescue_walk.specs.Steps.{front}
use Rattle.rescue_walk.specs.Rescue.{longest_script, number, written, answer}
use Rattle.rescue_walk.specs.Lines.{text_pieces}
use Rattle.rescue_walk.specs.Program.{kept_text, said_pieces, said_text, report_room, text_room}
use Rattle.rescue_walk.proofs.Loops.{runs-two, put_front}
use Rattle.rescue_walk.proofs.Rooms.{enough}
use Rattle.rescue_walk.proofs.Lengths.{text_fits}

-- what stands at the front of a room
front-take : (d xs : List ℕ) → take (length xs) (front d xs) ≡ xs
unfolding front
front-take d xs = take_at xs (drop (length xs) d) (length xs) refl

page_front : (page page' : List ℕ) (n : ℕ) (xs : List (List ℕ)) → length (joined xs) ≤ length page → (n ≡ past_all page 0 xs) × (page' ≡ put_all page 0 xs)
    → (n ≡ length (joined xs)) × (take n page' ≡ joined xs)
page_front page page' n xs h w =
    let j = pieces_join page 0 xs (omega arith) in
    let k = put_whole_lem page (joined xs) 0 (omega arith) in
    let e : n ≡ length (joined xs) = omega (arith, w.0, j.1, k.1) in
    let f : page' ≡ front page (joined xs) = w.1 ∙ j.0 ∙ k.0 ∙ put_front page (joined xs) h in
    (e, rw (e, f) (front-take page (joined xs)))

-- a rescue's number is 1 above the size, else 0
module _ (s out rep : List ℕ) where
  abbrev num : ℕ
  num = number s (length out) (length rep)

  long_number : longest_script < length s → num ≡ 1
  unfolding number
  long_number l = rw (lt-ltb longest_script (length s) l)

  -- what `rescue` answers and leaves
  abbrev Answers : Rescued → List ℕ → List ℕ → Type 0
  Answers x out' rep' = (x ≡ answer num s) × ((out' ≡ written num out (rescued s)) × (rep' ≡ written num rep (runs s)))

  module _ (x : Rescued) (out' rep' : List ℕ) (is : Answers x out' rep') where
    -- what the program then keeps, and what it says
    abbrev Keeps : Type 0
    Keeps = (x.length ≡ length (kept_text s)) × (take x.length out' ≡ kept_text s)

    abbrev Says : Type 0
    Says = text_pieces x.number x.runs rep' ≡ said_pieces s

    long : longest_script < length s → Keeps × Says
    unfolding answer kept_text text_pieces said_pieces
    long l =
        let e : x ≡ record { number = 1; length = 0; runs = 0 } = rw (long_number l) at is.0 in
        rw (e, lt-ltb longest_script (length s) l) ((refl, refl), refl)

    module _ (l : length s ≤ longest_script) (z : num ≡ 0) where
      none : (x ≡ record { number = 0; length = length (rescued s); runs = run_count (walk s) }) × ((out' ≡ front out (rescued s)) × (rep' ≡ front rep (runs s)))
      unfolding answer written
      none = (rw z at is.0, (rw z at is.1.0, rw z at is.1.1))

      two-each : length (runs s) ≡ 2 * run_count (walk s)
      unfolding runs
      two-each = runs-two (walk s) 0

      short : Keeps × Says
      unfolding kept_text text_pieces said_pieces
      short =
          let f = rw two-each at (front-take rep (runs s)) in
          rw (none.0, none.1.0, none.1.1, le-ltb longest_script (length s) l, f) ((refl, front-take out (rescued s)), refl)

    pub does : longest_script ≤ length out → report_room ≤ length rep → Keeps × Says
    does o r = ⊎_elim long (λ l. short l (enough s (length out) (length rep) l o r)) (below longest_script (length s))

    -- and it is whole on the page
    pub says : Says → (page page' : List ℕ) (n : ℕ) → text_room ≤ length page
        → (n ≡ past_all page 0 (text_pieces x.number x.runs rep')) × (page' ≡ put_all page 0 (text_pieces x.number x.runs rep'))
        → (n ≡ length (said_text s)) × (take n page' ≡ said_text s)
    says e page page' n h w = page_front page page' n (said_pieces s) (omega (arith, text_fits s)) (rw e at w)
