-- Frames that come in one second: what each leaves and the number that it gets, one after the other.
use Rattle.std.specs.Prelude.{ℕ, ◌≤◌, ◌≢◌, List, [], ◌∷◌}
use Rattle.wire_prefix.specs.Prefix.{most_frame}
use Rattle.kernel.specs.Frame.{frame_number, frame_after}

-- a frame as the call is given it: the zone, the bytes, and the room of the output buffer
pub record Sent : Type 0 where
  pub zone : ℕ
  pub bytes : List ℕ
  pub room : ℕ

-- its number at second t, and the device behind it: what the contract of the frame call cites
abbrev pub sent_number : List ℕ → ℕ → Sent → ℕ
sent_number ws t f = frame_number ws f.zone t f.bytes f.room

abbrev pub behind : List ℕ → ℕ → Sent → List ℕ
behind ws t f = frame_after ws f.zone t f.bytes f.room

-- frames one after the other, all at second t: the device at the end, and the number of each
unfoldable pub end_of : List ℕ → ℕ → List Sent → List ℕ
end_of ws t [] = ws
end_of ws t (f ∷ fs) = end_of (behind ws t f) t fs

unfoldable pub numbers_of : List ℕ → ℕ → List Sent → List ℕ
numbers_of ws t [] = []
numbers_of ws t (f ∷ fs) = sent_number ws t f ∷ numbers_of (behind ws t f) t fs

-- the same frames in another order: neighbours change places, again and again
pub data Reordered : List Sent → List Sent → Type 0 where
  none : Reordered [] []
  below : {fs gs : List Sent} (f : Sent) → Reordered fs gs → Reordered (f ∷ fs) (f ∷ gs)
  swapped : (f g : Sent) (fs : List Sent) → Reordered (f ∷ g ∷ fs) (g ∷ f ∷ fs)
  through : {fs gs hs : List Sent} → Reordered fs gs → Reordered gs hs → Reordered fs hs

-- "each output buffer holds 2,052 bytes"
abbrev pub Roomy : Sent → Type 0
Roomy f = most_frame ≤ f.room

-- so it is of every frame; and no two are of one zone
pub data Every (p : Sent → Type 0) : List Sent → Type 0 where
  nobody : Every p []
  each : {f : Sent} {fs : List Sent} → p f → Every p fs → Every p (f ∷ fs)

pub data Different : List Sent → Type 0 where
  alone : Different []
  beside : {f : Sent} {fs : List Sent} → Every (λ g. f.zone ≢ g.zone) fs → Different fs → Different (f ∷ fs)
