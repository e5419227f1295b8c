-- What the leaves of the table answer of plain numbers. The contracts of the table cite none of this: it parts the work.
use Rattle.std.specs.Prelude.{ℕ, ◌+◌, ◌-◌, ◌<◌, cond, ◌≡◌, List, ltb, ℤ, pos, negsuc, get_or}
use Rattle.device_store.specs.Quantities.{limits, setpoints, is_limit, is_setpoint, direction_of, supports}
use Rattle.device_store.specs.Sizes.{value_end}

-- the first number that is not shown in a direction: 0 where it is not supported
unfoldable pub top_of : ℕ → ℕ → ℕ
top_of has d = cond (supports has d) value_end 0

unfoldable pub shown_below : ℕ → ℕ → ℤ
shown_below top v = cond (ltb v top) (pos v) (negsuc 0)

-- the number met for quantity q
unfoldable pub number_in : List ℕ → List ℕ → ℕ → ℕ
number_in low lead q = cond (is_limit q) (get_or low q 0) (cond (is_setpoint q) (get_or lead (q - limits) 0) (get_or low (q - setpoints) 0))

-- what is shown of quantity q, with the numbers met; a row has it behind its first place
unfoldable pub shown_in : ℕ → List ℕ → List ℕ → ℕ → ℤ
shown_in has low lead q = shown_below (top_of has (direction_of q)) (number_in low lead q)

abbrev pub Filled : (ℕ → ℤ) → List ℤ → ℕ → Type 0
Filled f v n = (k : ℕ) → k < n → get_or v (k + 1) (pos 0) ≡ f k
