-- What `rescue` answers and leaves. Assumes nothing: these are definitions.
use Rattle.std.specs.Prelude.{ℕ, cond, ◌||◌, List, ltb, eqb, length}
use Rattle.rescue_walk.specs.declared.scripts.Rescued.{Rescued}
use Rattle.rescue_walk.specs.Walk.{walk, run_count, rescued, runs}
use Rattle.rescue_walk.specs.Steps.{front}

-- "a script up to 16,384 bytes"
abbrev pub longest_script : ℕ
longest_script = 16384

-- "an input above the size is 1, tested first", "15 for output or report without room"
unfoldable pub number : List ℕ → ℕ → ℕ → ℕ
number s out report =
    cond (ltb longest_script (length s)) 1 (cond (ltb out (length (rescued s)) || ltb report (length (runs s))) 15 0)

-- "nothing written" where refused
unfoldable pub written : ℕ → List ℕ → List ℕ → List ℕ
written n d xs = cond (eqb n 0) (front d xs) d

-- the number, with both counts where it is 0
unfoldable pub answer : ℕ → List ℕ → Rescued
answer n s = cond (eqb n 0) (record { number = 0; length = length (rescued s); runs = run_count (walk s) }) (record { number = n; length = 0; runs = 0 })
