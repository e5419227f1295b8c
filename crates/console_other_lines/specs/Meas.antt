-- What a line `meas BYTES` answers. Assumes nothing: these are definitions.
use Rattle.std.specs.Prelude.{ℕ, ◌≡◌, Bool, true, false, cond, ◌||◌, List, [], ◌∷◌, ◌++◌, length, take, replicate, eqb, Option, Some, None}
use Rattle.wire_cbor.specs.Item.{encode}
use Rattle.wire_output.specs.Writing.{written_of, left_by}
use Rattle.text.specs.Text.{decimal}
use Rattle.console_words.specs.Answers.{hex_or_none, bad_line}
use Rattle.console_words.specs.Hex.{hex_read, hex_after}
use Rattle.measurement_table.specs.Table.{rows}
use Rattle.measurement_table.specs.Words.{held, range_number}
use Rattle.measurement_table.specs.Payload.{read_number, read_after, item_of}
use Rattle.measurement.specs.Flow.{flow_of, cell_for, ac_active_power, ac_active_power_per_phase, dc_power}
use Rattle.measurement.specs.declared.flow.Flow.{Flow}

-- FLOWS
unfoldable pub is_there : Flow → Bool
is_there Flow.Absent = false
is_there Flow.Neither = true
is_there Flow.In = true
is_there Flow.Out = true

-- a flow that is there behind its name: `:none`, `:in`, `:out`
unfoldable pub flow_pieces : List ℕ → Flow → List (List ℕ)
flow_pieces name Flow.Absent = []
flow_pieces name Flow.Neither = name ∷ (58 ∷ 110 ∷ 111 ∷ 110 ∷ 101 ∷ []) ∷ []
flow_pieces name Flow.In = name ∷ (58 ∷ 105 ∷ 110 ∷ []) ∷ []
flow_pieces name Flow.Out = name ∷ (58 ∷ 111 ∷ 117 ∷ 116 ∷ []) ∷ []

abbrev pub flow_in : List ℕ → ℕ → ℕ → Flow
flow_in ws n p = flow_of (cell_for rows (held ws) n p)

abbrev pub phase_in : List ℕ → ℕ → Flow
phase_in ws p = flow_in ws ac_active_power_per_phase p

unfoldable pub some_flow : List ℕ → Bool
some_flow ws =
    is_there (flow_in ws ac_active_power 0) || (is_there (flow_in ws dc_power 0) || (is_there (phase_in ws 0) || (is_there (phase_in ws 1) || is_there (phase_in ws 2))))

-- ` 1`, ` 40`, ` 10.0`, ` 10.1`, ` 10.2`
unfoldable pub all_flows : List ℕ → List (List ℕ)
all_flows ws =
    flow_pieces (32 ∷ 49 ∷ []) (flow_in ws ac_active_power 0)
    ++ (flow_pieces (32 ∷ 52 ∷ 48 ∷ []) (flow_in ws dc_power 0)
    ++ (flow_pieces (32 ∷ 49 ∷ 48 ∷ 46 ∷ 48 ∷ []) (phase_in ws 0)
    ++ (flow_pieces (32 ∷ 49 ∷ 48 ∷ 46 ∷ 49 ∷ []) (phase_in ws 1)
    ++ (flow_pieces (32 ∷ 49 ∷ 48 ∷ 46 ∷ 50 ∷ []) (phase_in ws 2)
    ++ []))))

-- "the flows that are there, or `-`"
unfoldable pub flows_pieces : List ℕ → List (List ℕ)
flows_pieces ws = cond (some_flow ws) (all_flows ws) ((32 ∷ 45 ∷ []) ∷ [])

-- THE LINE
-- the longest payload that is written has so many bytes
abbrev pub room : List ℕ
room = replicate 326 0

abbrev pub payload_in : List ℕ → List ℕ
payload_in ws = encode (item_of (held ws))

-- "the payload written again or `-`"
unfoldable pub again_text : ℕ → List ℕ → List ℕ
again_text n ws =
    cond (eqb n 0) (hex_or_none (left_by (range_number ws) (payload_in ws) room) (written_of (range_number ws) (payload_in ws) (length room)).length) (45 ∷ [])

-- the words that a line reads into: nothing is measured in them
abbrev pub unread : List ℕ
unread = replicate 72 0

-- the number, the payload, the flows
unfoldable pub payload_pieces : List ℕ → List (List ℕ)
payload_pieces s =
    decimal (read_number s) ∷ (32 ∷ []) ∷ again_text (read_number s) (read_after s unread) ∷ (flows_pieces (read_after s unread) ++ ((10 ∷ []) ∷ []))

-- beside a refusal the line shows neither payload nor flows: ` - -`
abbrev pub RefusedShows : Type 0
RefusedShows =
    (s : List ℕ) → (read_number s ≡ 0 → ⊥) → payload_pieces s ≡ decimal (read_number s) ∷ (32 ∷ []) ∷ (45 ∷ []) ∷ (32 ∷ 45 ∷ []) ∷ (10 ∷ []) ∷ []

-- the answer by how many bytes a word says, none where it is bad, and by those bytes in their room
abbrev pub bytes_answer : Option ℕ → List ℕ → List (List ℕ)
bytes_answer None bytes = bad_line ∷ []
bytes_answer (Some n) bytes = payload_pieces (take n bytes)

-- the answer for a word, whose bytes have so much room
unfoldable pub meas_pieces : List ℕ → List ℕ → List (List ℕ)
meas_pieces w bytes = bytes_answer (hex_read w (length bytes)) (hex_after w bytes)
