-- How much room is always enough. The proof of Enough is enough, in proofs/, and so for the other.
-- Assumes nothing: these are statements.
use Rattle.std.specs.Prelude.{ℕ, ◌≤◌, ◌≡◌, List, length}
use Rattle.rescue_walk.specs.Rescue.{longest_script, number}
use Rattle.rescue_walk.specs.Program.{said_text, report_room, text_room}

-- rooms that are always enough: 16,384 bytes and 2,980 numbers
abbrev pub Enough : Type 0
Enough = (s : List ℕ) (out report : ℕ) → length s ≤ longest_script → longest_script ≤ out → report_room ≤ report → number s out report ≡ 0

-- a page that is always enough for what is said: 17,880 bytes
abbrev pub TextFits : Type 0
TextFits = (s : List ℕ) → length (said_text s) ≤ text_room
