-- Requests as C reads and writes them: flat, and as words and values.
use Rattle.std.specs.Prelude.{ℕ, List, ℤ}
use Rattle.kernel.specs.Door.{Reading, Written, request_number, request_item, item_frame, written_of, left_by}
use Rattle.capi_messages.specs.Requests.{request_of, flat_request, request_in, request_words, request_values}

-- what a reading leaves in the words and the values: those of the request that was read; "unchanged at every refusal"
unfoldable pub request_words_after : Reading → List ℕ → List ℕ
request_words_after (Reading.Is r) ws = request_words (flat_request r r.command)
request_words_after (Reading.Unserved i) ws = ws
request_words_after (Reading.Refused n) ws = ws

unfoldable pub request_values_after : Reading → List ℤ → List ℤ
request_values_after (Reading.Is r) vs = request_values (flat_request r r.command)
request_values_after (Reading.Unserved i) vs = vs
request_values_after (Reading.Refused n) vs = vs

-- what writing them answers, given the room, and leaves
unfoldable pub request_written : List ℕ → List ℤ → ℕ → Written
request_written ws vs room =
    written_of (request_number (request_of (request_in ws vs))) (item_frame (request_item (request_of (request_in ws vs)))) room

unfoldable pub request_left : List ℕ → List ℤ → List ℕ → List ℕ
request_left ws vs out =
    left_by (request_number (request_of (request_in ws vs))) (item_frame (request_item (request_of (request_in ws vs)))) out
