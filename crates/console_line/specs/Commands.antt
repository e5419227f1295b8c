-- Which command a line is, and how many words it has. Assumes nothing: these are definitions.
use Rattle.std.specs.Prelude.{ℕ, cond, List, [], ◌∷◌, map, leb, length, get_or, take}
use Rattle.std.specs.Borrow.{Bor}
use Rattle.console_words.specs.Spans.{same_bytes}
use Rattle.console_line.specs.declared.commands.Command.{Command}
use Rattle.console_line.specs.declared.commands.Line.{Line}

abbrev pub says : Command → ℕ → Line
says c n = (c, n)

-- no command; and no line has no words
abbrev pub unknown : Line
unknown = says Command.Unknown 0

-- each name, its command, and how many words its line has
abbrev pub table : List (List ℕ × Line)
table =
    (115 ∷ 116 ∷ 97 ∷ 114 ∷ 116 ∷ [], says Command.Start 13)  -- start
    ∷ (106 ∷ 111 ∷ 105 ∷ 110 ∷ [], says Command.Join 4)  -- join
    ∷ (108 ∷ 101 ∷ 97 ∷ 118 ∷ 101 ∷ [], says Command.Leave 3)  -- leave
    ∷ (108 ∷ 111 ∷ 115 ∷ 116 ∷ [], says Command.Lost 3)  -- lost
    ∷ (98 ∷ 97 ∷ 99 ∷ 107 ∷ [], says Command.Back 3)  -- back
    ∷ (111 ∷ 118 ∷ 101 ∷ 114 ∷ 114 ∷ 105 ∷ 100 ∷ 101 ∷ [], says Command.Override 4)  -- override
    ∷ (99 ∷ 108 ∷ 101 ∷ 97 ∷ 114 ∷ [], says Command.Clear 2)  -- clear
    ∷ (109 ∷ 111 ∷ 118 ∷ 101 ∷ [], says Command.Move 2)  -- move
    ∷ (97 ∷ 115 ∷ 107 ∷ [], says Command.Ask 1)  -- ask
    ∷ (112 ∷ 108 ∷ 97 ∷ 110 ∷ [], says Command.Plan 2)  -- plan
    ∷ (114 ∷ 111 ∷ 119 ∷ 115 ∷ [], says Command.Rows 2)  -- rows
    ∷ (102 ∷ 114 ∷ 97 ∷ 109 ∷ 101 ∷ [], says Command.Frame 5)  -- frame
    ∷ (114 ∷ 101 ∷ 113 ∷ 117 ∷ 101 ∷ 115 ∷ 116 ∷ [], says Command.Request 2)  -- request
    ∷ (114 ∷ 101 ∷ 115 ∷ 112 ∷ 111 ∷ 110 ∷ 115 ∷ 101 ∷ [], says Command.Response 3)  -- response
    ∷ (99 ∷ 111 ∷ 110 ∷ 102 ∷ [], says Command.Conf 11)  -- conf
    ∷ (109 ∷ 101 ∷ 97 ∷ 115 ∷ [], says Command.Meas 2)  -- meas
    ∷ []

-- what the code's rows say, whose names are lent
abbrev pub said : List (Bor (List ℕ) × Line) → List (List ℕ × Line)
said rows = map (λ r. (r.0.now, r.1)) rows

-- what its rows say, in their order
abbrev pub lines_of : List (List ℕ × Line) → List Line
lines_of rows = map (λ r. r.1) rows

-- the first row whose name is the word
unfoldable pub found : List (List ℕ × Line) → List ℕ → Line
found [] w = unknown
found (r ∷ rs) w = cond (same_bytes w r.0) r.1 (found rs w)

-- what a line's first word says, by the ends of its words
unfoldable pub line_of : List ℕ → List ℕ → Line
line_of s ends = cond (leb (get_or ends 0 0) (length s)) (found table (take (get_or ends 0 0) s)) unknown
