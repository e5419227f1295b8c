-- What is left to read says the same, turn by turn: whether all is good, and what is stored.
use mathlib.Core.Path.{◌≡◌}
use lib.ListN.{length, drop}
use Rattle.console_line.specs.Fields.{all_good, stored_from}
use Rattle.console_line.proofs.fields.read.Given as goal

abbrev pub invariant-loop-k : goal.invariant-loop-k
invariant-loop-k l =
    record {
      len : length l.fields ≡ length l.initial.fields;
      good : all_good l.line l.ends l.k (drop l.k l.kinds) ≡ all_good l.line l.ends 0 l.kinds;
      stored : stored_from l.line l.ends l.k (drop l.k l.kinds) l.fields ≡ stored_from l.line l.ends 0 l.kinds l.initial.fields;
    }
