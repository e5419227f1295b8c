-- What readers pass over: "A map may hold arrays and an array may hold maps, under unknown keys; these are passed over, still checked", and the
-- zero of "duration 0 or omitted". Each stated once: the proof of RequestUnknownPassed is request_unknown_passed, in proofs/, and so for the others.
-- Assumes nothing: these are definitions and statements.
use Rattle.std.specs.Prelude.{ℕ, ◌≤◌, ◌≡◌, Bool, true, cond, not, ◌&&◌, List, length, leb, eqb}
use Rattle.std.proofs.Math.Option.{Option, some, none}
use Rattle.wire_bytes.specs.Bytes.{Bytes}
use Rattle.wire_cbor.specs.Item.{Item, Pairs, Ok, levels, encode, payload_of, is_some}
use Rattle.wire_cbor.specs.Find.{value_of}
use Rattle.wire_prefix.specs.Prefix.{framed, payload_in, most_payload}
use Rattle.wire_fields.specs.Fields.{number_up_to, needed}
use Rattle.wire_requests.specs.Requests.{read_request}
use Rattle.wire_responses.specs.Responses.{read_response}
use Rattle.wire_output.specs.Writing.{item_frame}
use Rattle.wire_laws.specs.RoundTrips.{parameter_keys, result_keys, omits_zero, PlainRequest, PlainResponse}

-- TAKEN OUT OF A MAP
-- the pairs with those keys alone
unfoldable pub kept : (ℕ → Bool) → Pairs → Pairs
kept those Pairs.empty = Pairs.empty
kept those (Pairs.pair k i ps) = cond (those k) (Pairs.pair k i (kept those ps)) (kept those ps)

-- a map as f leaves it; any other item as it is
unfoldable pub in_map : (Pairs → Pairs) → Item → Item
in_map f (Item.uint v) = Item.uint v
in_map f (Item.nint v) = Item.nint v
in_map f (Item.bytes b) = Item.bytes b
in_map f (Item.text b) = Item.text b
in_map f (Item.array is) = Item.array is
in_map f (Item.map ps) = Item.map (f ps)
in_map f (Item.simple v) = Item.simple v

-- the same of what stands under a key
unfoldable pub under : ℕ → (Pairs → Pairs) → Pairs → Pairs
under key f Pairs.empty = Pairs.empty
under key f (Pairs.pair k i ps) = Pairs.pair k (cond (eqb k key) (in_map f i) i) (under key f ps)

-- a map without unknown keys, of which 1 to n are known
abbrev pub known : ℕ → Pairs → Pairs
known n = kept (λ k. leb 1 k && leb k n)

-- the command that a request names under key 4; 0 where there is none, which is refused with 3
abbrev pub or_zero : Option ℕ → ℕ
or_zero (some n) = n
or_zero none = 0

unfoldable pub command_of : Pairs → ℕ
command_of ps = or_zero (needed (number_up_to 65535) (value_of ps 4))

-- "{1: message id, .. 5: parameters}": a request without unknown keys, in its envelope and in the parameters of the command that it names
unfoldable pub request_known : Pairs → Pairs
request_known ps = known 5 (under 5 (known (parameter_keys (command_of ps))) ps)

-- "{1: message id, 2: status, 3: result}": a response without unknown keys, in its envelope and in the result of the command that the caller names
unfoldable pub response_known : ℕ → Pairs → Pairs
response_known command ps = known 3 (under 3 (known (result_keys command)) ps)

-- parameters without a duration (key 3) that is a written zero
unfoldable pub zero_omitted : Pairs → Pairs
zero_omitted ps = cond (is_some (needed (number_up_to 0) (value_of ps 3))) (kept (λ k. not (eqb k 3)) ps) ps

-- a request without one, of the commands that take 0 and omitted alike: SetLimit and SetCurrentLimits. Of SetSetpoint the two differ (L8)
unfoldable pub duration_omitted : Pairs → Pairs
duration_omitted ps = cond (omits_zero (command_of ps)) (under 5 zero_omitted ps) ps

-- PASSED OVER
-- a frame with a right prefix whose payload is that map, strict in all that it holds: "still checked"
pub record Carries (frame : List ℕ) (ps : Pairs) : Type 0 where
  pub prefix : framed frame ≡ true
  pub payload : payload_of (payload_in frame) ≡ some (Item.map ps)

-- a map that can be a payload: well formed, and not too long
pub record Fits (ps : Pairs) : Type 0 where
  pub formed : Ok (Item.map ps) levels
  pub short : length (encode (Item.map ps)) ≤ most_payload

-- what `less` takes out of a map makes no difference to a reader of frames
pub record PassedOver (X : Type 0) (read : List ℕ → X) (less : Pairs → Pairs) : Type 0 where
  -- two frames whose maps are the same without it are read alike
  pub alike : (frame other : List ℕ) (ps qs : Pairs) → Carries frame ps → Carries other qs → less ps ≡ less qs → read frame ≡ read other
  -- two maps that are the same without it, each encoded as a frame, are read alike
  pub encoded : (ps qs : Pairs) → Fits ps → Fits qs → less ps ≡ less qs → read (item_frame (Item.map ps)) ≡ read (item_frame (Item.map qs))
  -- a frame from which it is taken out is still a frame, and is read alike
  pub without : (frame : List ℕ) → Bytes frame → (ps : Pairs) → Carries frame ps
      → Carries (item_frame (Item.map (less ps))) (less ps) × (read (item_frame (Item.map (less ps))) ≡ read frame)

-- unknown keys of a request, in its envelope and in the parameters of each command
abbrev pub RequestUnknownPassed : Type 0
RequestUnknownPassed = PassedOver _ read_request request_known

-- unknown keys of a response, in its envelope and in the result of each command; for every command that a caller names
abbrev pub ResponseUnknownPassed : Type 0
ResponseUnknownPassed = (command : ℕ) → PassedOver _ (read_response command) (response_known command)

-- "duration 0 or omitted": a written zero of SetLimit and SetCurrentLimits
abbrev pub ZeroDurationPassed : Type 0
ZeroDurationPassed = PassedOver _ read_request duration_omitted

-- WHAT IS LEFT
-- no unknown key and no written zero duration of the commands that omit it: a frame that writes again as the same bytes
abbrev pub RequestLeft : Type 0
RequestLeft = (ps : Pairs) → PlainRequest (duration_omitted (request_known ps))

abbrev pub ResponseLeft : Type 0
ResponseLeft = (command : ℕ) (ps : Pairs) → PlainResponse command (response_known command ps)
