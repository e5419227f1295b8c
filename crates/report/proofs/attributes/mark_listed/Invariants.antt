-- Marking what is left of the list from each place on gives all the marks.
use mathlib.Core.Path.{◌≡◌}
use mathlib.Core.List.{foldl}
use lib.ListN.{length, drop}
use Rattle.report.specs.Lists.{marked}
use Rattle.report.proofs.attributes.mark_listed.Given as goal

abbrev pub invariant-loop-number : goal.invariant-loop-number
invariant-loop-number l =
    (length l.flags ≡ length l.initial.flags) ×
    (foldl marked l.flags (drop l.number-index l.attributes) ≡ foldl marked l.initial.flags l.attributes)
