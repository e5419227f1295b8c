-- By the head: refused for no map, and for a map of no pairs.
use mathlib.Core.Path.{◌≡◌}
use mathlib.Core.Logic.{⊎_elim}
use Rattle.measurement_reader.proofs.Fills.{phases_no_map, phases_empty}
use Rattle.measurement_reader.proofs.walk.phases_into.Goals as goal

pub returns-then-head-ne5 : goal.returns-then-head-ne5
returns-then-head-ne5 c = ⊎_elim
    (λ z. phases_no_map _ _ _ _ _ _ _ _ c.read_head.ensures _ _ _ c.in-Some.is z)
    (λ z. phases_empty _ _ _ _ _ _ _ _ c.read_head.ensures _ _ _ c.in-Some.is (let y : (c.in-Some.head.major ≡ 5) × (c.in-Some.head.arg ≡ 0) = z in y.1))
    c.then-head-ne5.either
