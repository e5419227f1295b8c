-- The library's answer is the definition's.
use Rattle.std.proofs.Common.{rules}
use Rattle.std.proofs.lemmas.Fn.{always_returns_same}
use lib.Dec.{ltb}
use Rattle.report.proofs.Walks.{sorted-ascends}
use Rattle.report.proofs.ascending.Goals as goal

pub returns : goal.returns
returns c = sorted-ascends _ _ (c.is_sorted_by.ensures.cases ltb (always_returns_same _ _ _ (λ a r f k. search rules)))
