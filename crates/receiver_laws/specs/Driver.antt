-- A driver that hands scraps to the receiver and does something with each frame. Assumes nothing: these are definitions.
use Rattle.std.specs.Prelude.{ℕ, zero, suc, Bool, cond, ◌&&◌, List, [], ◌∷◌, ◌++◌, length, take, drop, ltb, eqb}
use Rattle.wire_prefix.specs.Prefix.{end_of}
use Rattle.receiver.specs.declared.record.Record.{Record}
use Rattle.receiver_laws.specs.Stream.{Cut}
use Rattle.receiver.specs.Receive.{Done, shut, record_at, received}

-- the frame that a call gives out stands at the front of the room
unfoldable pub given : Done → List (List ℕ)
given d = cond (eqb d.answer.length 0) [] (take d.answer.length d.room ∷ [])

-- the call was not refused and left bytes of the scrap
unfoldable pub goes_on : Done → List ℕ → Bool
goes_on d scrap = eqb d.answer.number 0 && ltb d.answer.taken (length scrap)

-- the scraps as one stream
unfoldable pub joined : List (List ℕ) → List ℕ
joined [] = []
joined (s ∷ ss) = s ++ joined ss

-- what a frame makes of a state, and what comes out beside it
pub record Effect (S O : Type 0) : Type 0 where
  pub state : S
  pub output : O

-- what frames make of a state, and all that comes out, in order
pub record Effects (S O : Type 0) : Type 0 where
  pub state : S
  pub outputs : List O

-- frames applied one by one, in order
unfoldable pub applied : {S O : Type 0} → (S → List ℕ → Effect S O) → S → List (List ℕ) → Effects S O
applied apply s [] = record { state = s; outputs = [] }
applied apply s (f ∷ fs) =
    let rest = applied apply (apply s f).state fs in
    record { state = rest.state; outputs = (apply s f).output ∷ rest.outputs }

-- what a driver keeps: the state that frames are applied to, all that came out, the record and the room
pub record Driven (S O : Type 0) : Type 0 where
  pub state : S
  pub outputs : List O
  pub after : Record
  pub room : List ℕ

-- nothing is done
abbrev pub still : {S O : Type 0} → S → Record → List ℕ → Driven S O
still s r room = record { state = s; outputs = []; after = r; room = room }

-- with what came out before
abbrev pub behind : {S O : Type 0} → List O → Driven S O → Driven S O
behind os d = record { state = d.state; outputs = os ++ d.outputs; after = d.after; room = d.room }

-- calls with what is left of the scrap until it is used up or refused, at most n calls; a frame is applied when it is
-- given out, before the next call
unfoldable pub feed_in : {S O : Type 0} → (S → List ℕ → Effect S O) → ℕ → S → Record → List ℕ → List ℕ → Driven S O
feed_in apply zero s r room scrap = still s r room
feed_in apply (suc n) s r room scrap =
    let d = received r room scrap in
    let x = applied apply s (given d) in
    behind x.outputs
    (cond (goes_on d scrap) (feed_in apply n x.state d.after d.room (drop d.answer.taken scrap))
    (still x.state d.after d.room))

-- a call that leaves bytes has taken one
unfoldable pub feed : {S O : Type 0} → (S → List ℕ → Effect S O) → S → Record → List ℕ → List ℕ → Driven S O
feed apply s r room scrap = feed_in apply (suc (length scrap)) s r room scrap

-- THE DRIVER: scrap after scrap
unfoldable pub drive : {S O : Type 0} → (S → List ℕ → Effect S O) → S → Record → List ℕ → List (List ℕ) → Driven S O
drive apply s r room [] = still s r room
drive apply s r room (x ∷ xs) =
    let d = feed apply s r room x in
    behind d.outputs (drive apply d.state d.after d.room xs)

-- a driver that only collects the frames
abbrev pub collect : Unit {0} → List ℕ → Effect (Unit {0}) (List ℕ)
collect s f = record { state = s; output = f }

-- what such a driver has seen of the stream: the frames, whether it is closed, and the bytes of an unfinished frame
abbrev pub seen : Driven (Unit {0}) (List ℕ) → Cut
seen d = record { frames = d.outputs; closed = eqb d.after.closed 1; left = take d.after.have d.room }

-- the record at a stream's end, from its bytes alone
unfoldable pub record_of : Cut → Record
record_of c = cond c.closed shut (record_at (length c.left) (end_of c.left))
