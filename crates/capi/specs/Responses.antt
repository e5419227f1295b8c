-- Responses as C reads and writes them: flat, and as words and values.
use Rattle.std.specs.Prelude.{ℕ, List, ℤ}
use Rattle.kernel.specs.Door.{Answer, Written, response_number, response_item, item_frame, written_of, left_by}
use Rattle.capi_messages.specs.Responses.{response_of, flat_response, response_in, response_words, response_values}

-- what a reading leaves in the words and the values: those of the response that was read; "unchanged at every refusal"
unfoldable pub response_words_after : Answer → List ℕ → List ℕ
response_words_after (Answer.Is r) ws = response_words (flat_response r r.outcome)
response_words_after (Answer.Refused n) ws = ws

unfoldable pub response_values_after : Answer → List ℤ → List ℤ
response_values_after (Answer.Is r) vs = response_values (flat_response r r.outcome)
response_values_after (Answer.Refused n) vs = vs

-- what writing them answers, given the room, and leaves
unfoldable pub response_written : ℕ → List ℕ → List ℤ → ℕ → Written
response_written command ws vs room =
    let r = response_of command (response_in ws vs) in written_of (response_number command r) (item_frame (response_item r)) room

unfoldable pub response_left : ℕ → List ℕ → List ℤ → List ℕ → List ℕ
response_left command ws vs out =
    let r = response_of command (response_in ws vs) in left_by (response_number command r) (item_frame (response_item r)) out
