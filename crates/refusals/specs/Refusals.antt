-- Refusals by name: a call's tests stand in document 01's order, and the first that holds gives the number.
use Rattle.std.specs.Prelude.{ℕ, Bool, cond, List, [], ◌∷◌}

-- the number of the first test that holds, 0 where none does
unfoldable pub first_of : List (Bool × ℕ) → ℕ
first_of [] = 0
first_of (x ∷ l) = cond x.0 x.1 (first_of l)

-- prefix or payload length wrong
abbrev pub BAD_LENGTH : ℕ
BAD_LENGTH = 1

-- payload is not the strict CBOR
abbrev pub BAD_CBOR : ℕ
BAD_CBOR = 2

-- payload is not a map, a needed key is missing, or a known key has a wrong type or range
abbrev pub BAD_MESSAGE : ℕ
BAD_MESSAGE = 3

-- endpoint, feature or command is not served
abbrev pub NOT_SERVED : ℕ
NOT_SERVED = 4

-- time out of order or past the end
abbrev pub BAD_TIME : ℕ
BAD_TIME = 5

-- join: id outside 1 to 255, or rank outside 1 to 3
abbrev pub BAD_ZONE : ℕ
BAD_ZONE = 6

-- join of a joined id; link already as told; clearing an override that is not set
abbrev pub ALREADY : ℕ
ALREADY = 7

-- join with eight zones joined
abbrev pub FULL : ℕ
FULL = 8

-- zone not joined
abbrev pub NOT_JOINED : ℕ
NOT_JOINED = 9

-- command from a zone whose link is down
abbrev pub LINK_DOWN : ℕ
LINK_DOWN = 10

-- limits, setpoints or current limits not accepted, or a named direction not supported
abbrev pub NOT_SUPPORTED : ℕ
NOT_SUPPORTED = 11

-- SetLimit or SetCurrentLimits while an override is set
abbrev pub OVERRIDDEN : ℕ
OVERRIDDEN = 12

-- a Set command with a negative value or naming nothing, or a phase from the phase count up
abbrev pub BAD_VALUE : ℕ
BAD_VALUE = 13

-- a consumption limit below the minimum, 0 aside
abbrev pub BELOW_MINIMUM : ℕ
BELOW_MINIMUM = 14

-- nothing else is refused, and the complete output is longer than the lent buffer
abbrev pub NO_SPACE : ℕ
NO_SPACE = 15

-- bad settings, or conformance inputs out of range
abbrev pub BAD_SETTINGS : ℕ
BAD_SETTINGS = 16

-- attribute list not strictly ascending
abbrev pub NOT_ASCENDING : ℕ
NOT_ASCENDING = 17

-- override reason and direction do not go together
abbrev pub BAD_OVERRIDE : ℕ
BAD_OVERRIDE = 18
