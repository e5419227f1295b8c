-- What a call answers, as document 01's number. Assumes nothing: these are definitions.
use Rattle.std.specs.Prelude.{ℕ, Result, Ok, Err}
use Rattle.refusals.specs.Refusals.{BAD_LENGTH, BAD_CBOR, BAD_MESSAGE, NOT_SERVED, BAD_TIME, BAD_ZONE, ALREADY, FULL, NOT_JOINED, LINK_DOWN, NOT_SUPPORTED, OVERRIDDEN, BAD_VALUE, BELOW_MINIMUM, NO_SPACE, BAD_SETTINGS, NOT_ASCENDING, BAD_OVERRIDE}
use Rattle.refusals.specs.declared.refusal.Refusal.{Refusal}

-- "Refusal numbers": that of each
abbrev pub number_of : Refusal → ℕ
number_of Refusal.BadLength = BAD_LENGTH
number_of Refusal.BadCbor = BAD_CBOR
number_of Refusal.BadMessage = BAD_MESSAGE
number_of Refusal.NotServed = NOT_SERVED
number_of Refusal.BadTime = BAD_TIME
number_of Refusal.BadZone = BAD_ZONE
number_of Refusal.Already = ALREADY
number_of Refusal.Full = FULL
number_of Refusal.NotJoined = NOT_JOINED
number_of Refusal.LinkDown = LINK_DOWN
number_of Refusal.NotSupported = NOT_SUPPORTED
number_of Refusal.Overridden = OVERRIDDEN
number_of Refusal.BadValue = BAD_VALUE
number_of Refusal.BelowMinimum = BELOW_MINIMUM
number_of Refusal.NoSpace = NO_SPACE
number_of Refusal.BadSettings = BAD_SETTINGS
number_of Refusal.NotAscending = NOT_ASCENDING
number_of Refusal.BadOverride = BAD_OVERRIDE

-- 0 is a call that is accepted
abbrev pub number_in : {X : Type 0} → Result X Refusal → ℕ
number_in (Ok x) = 0
number_in (Err e) = number_of e
