-- What the program `rescue` writes for a script, whatever room it lends. Assumes nothing: these are definitions.
use Rattle.std.specs.Prelude.{ℕ, ◌*◌, cond, List, [], ltb, length}
use Rattle.text.specs.Pieces.{joined}
use Rattle.rescue_walk.specs.Walk.{rescued, runs}
use Rattle.rescue_walk.specs.Rescue.{longest_script}
use Rattle.rescue_walk.specs.Lines.{lines_in, refusal_pieces}

-- on the standard output: what comes out, "an input above the size is 1", "nothing written"
unfoldable pub kept_text : List ℕ → List ℕ
kept_text s = cond (ltb longest_script (length s)) [] (rescued s)

-- "Its report, on the error output", or the refusal: the program's rooms are always enough, so it knows no 15
unfoldable pub said_pieces : List ℕ → List (List ℕ)
said_pieces s = cond (ltb longest_script (length s)) (refusal_pieces 1) (lines_in (runs s))

abbrev pub said_text : List ℕ → List ℕ
said_text s = joined (said_pieces s)

-- ROOMS. The most runs of a script: each has a byte at least, and between two of them stands a record
abbrev pub most_runs : ℕ
most_runs = 1490

-- two numbers a run
abbrev pub report_room : ℕ
report_room = 2 * most_runs

-- a line: two numbers of at most five digits, a space and a newline
abbrev pub line_room : ℕ
line_room = 12

-- the longest text
abbrev pub text_room : ℕ
text_room = line_room * most_runs
