-- "'If only the clock moved' in demand 3 now means this second call": a plan's rows are what an ask shows once the clock is moved.
use Rattle.std.specs.Prelude.{ℕ, ◌≡◌, cond, leb, ℤ, length}
use mathlib.Core.List.{List, [], ◌∷◌, Memᴰ}
use Rattle.device_store.specs.Sizes.{words}
use Rattle.device_calls.specs.Calls.{ask_answer, move_number, move_after}
use Rattle.plan.specs.Plan.{rows_from}

-- what rows say of second t: the values of the last row at or before it, and those of now before the first
unfoldable pub said_of : List (ℕ × List ℤ) → List ℤ → ℕ → List ℤ
said_of [] now t = now
said_of (r ∷ rs) now t = cond (leb r.0 t) (said_of rs r.1 t) now

-- the rows that are left at second t
unfoldable pub left_at : List (ℕ × List ℤ) → ℕ → List (ℕ × List ℤ)
left_at [] t = []
left_at (r ∷ rs) t = cond (leb r.0 t) (left_at rs t) (r ∷ rs)

pub record Moving (ws : List ℕ) : Type 0 where
  -- the clock can be moved to a row's second, and an ask then shows the row's values
  pub row : (r : ℕ × List ℤ) → Memᴰ r (rows_from ws) → (move_number ws r.0 ≡ 0) × (ask_answer (move_after ws r.0) ≡ r.1)
  -- at any second to which it can be moved, between two rows too, an ask shows the values of the row before
  pub shows : (t : ℕ) → move_number ws t ≡ 0 → ask_answer (move_after ws t) ≡ said_of (rows_from ws) (ask_answer ws) t
  -- and what is still planned is what was planned behind it
  pub rest : (t : ℕ) → move_number ws t ≡ 0 → rows_from (move_after ws t) ≡ left_at (rows_from ws) t

-- of every content of a device's words
abbrev pub MovesAsPlanned : Type 0
MovesAsPlanned = (ws : List ℕ) → length ws ≡ words → Moving ws
