-- What the readers make of a payload, told by what is seen under its small keys. What Seen's readers answer is proved to be so. Assumes nothing: these are definitions.
use Rattle.std.specs.Prelude
use Rattle.std.specs.Prelude.{ℕ, ◌+◌, ◌*◌, ◌≡◌, List, None, Some}
use Rattle.std.proofs.Math.Option.{Option, some, none}
use Rattle.wire_cbor.specs.Item.{Pairs}
use Rattle.wire_cbor.specs.Find.{value_of}
use Rattle.wire_cbor.specs.Scan.{STEP, map_at}
use Rattle.wire_messages.specs.declared.Outcome.{Outcome}
use Rattle.wire_fields.specs.KeyHeads.{given, Shown}
use Rattle.wire_responses.specs.Responses.{outcome_in, result_in, response_in, answer_of}
use Rattle.wire_responses.specs.declared.reading.Answer.{Answer}

-- the result of a response stands at the first level, under key 3, and its map of phases at the second, under key 2
abbrev pub result_path : ℕ
result_path = 3 + 2 * STEP

abbrev pub result_from : Option Outcome → Prelude.Option Outcome
result_from (some o) = Some o
result_from none = None

-- of every result that is seen, f makes that answer
unfoldable pub InResult : {X : Type 0} → List ℕ → (Pairs → Option X) → Prelude.Option X → Type 0
InResult ws f r = (ps : Pairs) → Shown ws result_path ps → f (map_at 1 result_path ps) ≡ given r

unfoldable pub OutcomeReads : List ℕ → ℕ → Prelude.Option Outcome → Type 0
OutcomeReads ws c r = (ps : Pairs) → Shown ws result_path ps → r ≡ result_from (outcome_in c (map_at 1 result_path ps))

unfoldable pub ResultReads : List ℕ → ℕ → ℕ → Prelude.Option Outcome → Type 0
ResultReads ws c status r = (ps : Pairs) → Shown ws result_path ps → r ≡ result_from (result_in c status (value_of ps 3))

unfoldable pub BodyReads : List ℕ → ℕ → Answer → Type 0
BodyReads ws c r = (ps : Pairs) → Shown ws result_path ps → r ≡ answer_of (response_in c ps)
