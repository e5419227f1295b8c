-- What the call answers and leaves: the refusal number in document 01's order, the count of pairs, and the buffer.
use Rattle.std.specs.Prelude.{ℕ, ◌*◌, Bool, not, ◌&&◌, cond, List, [], ◌∷◌, ltb, leb, eqb, length}
use Rattle.report_tables.specs.Endpoints.{types}
use Rattle.report_tables.specs.Features.{maps}
use Rattle.report.specs.Sizes.{phase_count, direction_kinds}
use Rattle.report.specs.Lists.{ascends, first_of, front}
use Rattle.report.specs.Rules.{breaches}
use Rattle.report.specs.declared.Inputs.{Inputs}
use Rattle.report.specs.declared.Answer.{Answer}
use Rattle.report.specs.declared.breaches.Pair.{Pair}
use Rattle.refusals.specs.Refusals.{NOT_ASCENDING, NO_SPACE, BAD_SETTINGS}

-- endpoint type 0 to 10, an 11-bit feature map, phase count 1 to 3, directions 0 to 2
unfoldable pub in_range : Inputs → Bool
in_range i =
    ltb i.endpoint types && ltb i.features maps && ltb 0 i.phases && leb i.phases phase_count && ltb i.directions direction_kinds

-- the refusal: 16, 17, 15 in that order. The room is counted in numbers, two a pair
unfoldable pub report_number : Inputs → List ℕ → ℕ → ℕ
report_number i attributes room =
    first_of
    ((not (in_range i), BAD_SETTINGS)
    ∷ (not (ascends attributes), NOT_ASCENDING)
    ∷ (ltb room (2 * length (breaches i attributes)), NO_SPACE)
    ∷ [])

-- the answer: the number, and how many pairs were written, 0 beside a refusal
unfoldable pub report_of : Inputs → List ℕ → ℕ → Answer
report_of i attributes room =
    record {
      number = report_number i attributes room;
      count = cond (eqb (report_number i attributes room) 0) (length (breaches i attributes)) 0;
    }

-- pairs as numbers: group, number, group, number
unfoldable pub flat : List Pair → List ℕ
flat [] = []
flat (p ∷ ps) = p.group ∷ p.number ∷ flat ps

-- the buffer afterwards: the pairs over its front, unchanged at a refusal
unfoldable pub pairs_after : Inputs → List ℕ → List ℕ → List ℕ
pairs_after i attributes buffer =
    cond (eqb (report_number i attributes (length buffer)) 0) (front (flat (breaches i attributes)) buffer) buffer
