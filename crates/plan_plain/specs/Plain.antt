-- The plan made the slow way: "for each expiry held, and for the failsafe end, work out every value at that second and at the second before".
use Rattle.std.specs.Prelude.{ℕ, zero, suc, ◌-◌, Bool, cond, not, ◌&&◌, List, [], ◌∷◌, eqb, ℤ}
use Rattle.device_store.specs.Sizes.{end}
use Rattle.device_store.specs.Zones.{any}
use Rattle.device_holds.specs.Holds.{Situation, values_at}
use Rattle.plan_plain.specs.Candidates.{candidates_of}
use Rattle.device_holds.specs.Alike.{alike}

-- n is one of some seconds
unfoldable pub is_one_of : ℕ → List ℕ → Bool
is_one_of n cs = any (λ c. eqb n c) cs

-- a row stands at a candidate whose values differ from those of the second before
unfoldable pub stands : Situation → ℕ → Bool
stands s n = is_one_of n (candidates_of s) && not (alike (values_at s n) (values_at s (n - 1)))

-- of the n seconds after `now` those that pass the test p, in order and each once
unfoldable pub seconds_of : (ℕ → Bool) → ℕ → ℕ → List ℕ
seconds_of p now zero = []
seconds_of p now (suc n) = cond (p (suc now)) (suc now ∷ seconds_of p (suc now) n) (seconds_of p (suc now) n)

-- the seconds of the rows after `now`, up to 2^40 - 1
unfoldable pub plain_seconds : Situation → ℕ → List ℕ
plain_seconds s now = seconds_of (stands s) now (end - 1 - now)

-- the rows as plain numbers
unfoldable pub rows_at : Situation → List ℕ → List (ℕ × List ℤ)
rows_at s [] = []
rows_at s (n ∷ ns) = (n, values_at s n) ∷ rows_at s ns

unfoldable pub plain_rows : Situation → ℕ → List (ℕ × List ℤ)
plain_rows s now = rows_at s (plain_seconds s now)

-- the first of some seconds, the end of time where there is none
unfoldable pub first_or : ℕ → List ℕ → ℕ
first_or e [] = e
first_or e (n ∷ ns) = n

-- the second of the next row after t
unfoldable pub next_row : Situation → ℕ → ℕ
next_row s t = first_or end (plain_seconds s t)
