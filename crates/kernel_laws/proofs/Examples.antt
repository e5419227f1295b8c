-- Readings, worked out. Assumes nothing.
use mathlib.Core.Path.{◌≡◌, refl}
use mathlib.Core.Bool.{true, false}
use mathlib.Core.List.{[], ◌∷◌}
use Rattle.ticks.specs.declared.front.Front.{Front}
use Rattle.ticks.specs.Ticks.{END, step_of, refused, accepted, moved, reading_of}
use native.Mathlib.Omega.{arith}
use Rattle.kernel_laws.specs.TickLaws.{refusal, at, answers, shown, truly, last, gap, done, more}
use Rattle.kernel_laws.proofs.Over.{true-seconds}

abbrev fresh : Front
fresh = record { begun = false; last = 0; seconds = 0; remainder = 0 }

-- 1 ms before the rollover, 999 ms on, 1 ms on, back, and 2^31 - 1 from the last that was accepted
rollover : answers fresh (4294967295 ∷ 998 ∷ 999 ∷ 998 ∷ 2147484646 ∷ []) ≡ at 0 ∷ at 0 ∷ at 1 ∷ refusal ∷ at 2147484 ∷ []
unfolding step_of refused accepted moved reading_of answers
rollover = refl

-- the last second, its last millisecond, and past it; a front that no reading leaves
end : answers (record { begun = true; last = 7; seconds = END; remainder = 998 }) (8 ∷ 9 ∷ 8 ∷ []) ≡ at END ∷ refusal ∷ at END ∷ []
unfolding step_of refused accepted moved reading_of answers
end = refl

odd : answers (record { begun = true; last = 7; seconds = 18446744073709551615; remainder = 4294967295 }) (7 ∷ []) ≡ refusal ∷ []
unfolding step_of refused accepted moved reading_of answers
odd = refl

-- past the end a refused reading leaves the front, so one whole round later the counter shows the last second again
round : answers (record { begun = true; last = 8; seconds = END; remainder = 999 }) (2147483655 ∷ 6 ∷ 8 ∷ []) ≡ refusal ∷ refusal ∷ at END ∷ []
unfolding step_of refused accepted moved reading_of answers
round = refl

-- the law's premises can be met: 1 ms before the rollover, 999 ms on, 1 ms on
met : answers fresh (shown 4294967295 (0 ∷ 999 ∷ 1000 ∷ [])) ≡ at 0 ∷ at 0 ∷ at 1 ∷ []
unfolding truly
met =
    true-seconds fresh refl 4294967295 0 (999 ∷ 1000 ∷ [])
    (gap {t = 0} {u = 999} (omega arith) (omega arith) (gap {t = 999} {u = 1000} (omega arith) (omega arith) last))
    (more {t = 999} (omega arith) (more {t = 1000} (omega arith) done))
