-- The words passed over are not the word, and what is left of the line has the others.
use Prim.Native.Nat.{◌-◌}
use lib.ListN.{length}
use Rattle.console_words.proofs.Places.{Sought}
use Rattle.console_words.proofs.spans.place.Given as goal

abbrev pub invariant-loop-k : goal.invariant-loop-k
invariant-loop-k l = Sought l.word l.line l.k l.at

abbrev pub decreases-loop-k : goal.decreases-loop-k
decreases-loop-k l = length l.line - l.at
