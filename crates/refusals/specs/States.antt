-- The control states: "FAILSAFE 3 .. OVERRIDE 4 .. LIMITED 2 .. CONTROLLED 1 .. AUTONOMOUS 0".
use Rattle.std.specs.Prelude.{ℕ}

abbrev pub AUTONOMOUS : ℕ
AUTONOMOUS = 0

abbrev pub CONTROLLED : ℕ
CONTROLLED = 1

abbrev pub LIMITED : ℕ
LIMITED = 2

abbrev pub FAILSAFE : ℕ
FAILSAFE = 3

abbrev pub OVERRIDE : ℕ
OVERRIDE = 4
