-- The statuses of a response, and where its result stands.
use Rattle.std.specs.Prelude.{ℕ, Bool, ◌&&◌, ◌||◌, leb, eqb}
use Rattle.refusals.specs.Refusals.{NOT_SERVED, BAD_TIME, NOT_JOINED, NOT_SUPPORTED, BELOW_MINIMUM}
use Rattle.wire_messages.specs.Numbers.{SET_LIMIT}

-- "Status is 0 or a number the table gives as one": 0, 4, 5, 9 to 14
unfoldable pub is_status : ℕ → Bool
is_status n = eqb n 0 || eqb n NOT_SERVED || eqb n BAD_TIME || (leb NOT_JOINED n && leb n BELOW_MINIMUM)

-- "The result stands at status 0, and for SetLimit also at 11 to 14"
unfoldable pub stands : ℕ → ℕ → Bool
stands command status = eqb status 0 || (eqb command SET_LIMIT && (leb NOT_SUPPORTED status && leb status BELOW_MINIMUM))
