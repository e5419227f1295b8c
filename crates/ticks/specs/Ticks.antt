-- What a reading of the counter makes of the front (document 02, L10). Assumes nothing: these are definitions.
use Rattle.std.specs.Prelude.{ℕ, ◌+◌, ◌-◌, ◌/◌, ◌%◌, ◌^◌, true, false, cond, pos, negsuc, nat_lt}
use Rattle.ticks.specs.declared.front.Front.{Front}
use Rattle.ticks.specs.declared.front.Reading.{Reading}
use Rattle.refusals.specs.Refusals.{BAD_TIME}

-- the last second of document 01's clock: the end of L10
abbrev pub END : ℕ
END = 2 ^ 40 - 1

-- a front before its first reading
unfoldable pub no_front : Front
no_front = record { begun = false; last = 0; seconds = 0; remainder = 0 }

-- "The step between two readings is their difference modulo 2^32"
unfoldable pub step_of : ℕ → ℕ → ℕ
step_of last tick = (tick + (2 ^ 32 - last)) % 2 ^ 32

-- "A refused reading changes nothing"; beside a refusal the seconds are -1
unfoldable pub refused : Front → Reading
refused f = record { number = BAD_TIME; seconds = negsuc 0; front = f }

unfoldable pub accepted : ℕ → ℕ → ℕ → Reading
accepted tick s rest = record {
  number = 0;
  seconds = pos s;
  front = record { begun = true; last = tick; seconds = s; remainder = rest };
}

-- so many milliseconds after the front's second: 5 "where the seconds would pass the end", else "keeping the remainder of less than 1,000 ms"
unfoldable pub moved : Front → ℕ → ℕ → Reading
moved f tick ms = cond (nat_lt END (f.seconds + ms / 1000)) (refused f) (accepted tick (f.seconds + ms / 1000) (ms % 1000))

-- "a step of 2^31 or more counts as time going back"; "The first reading is second 0"
unfoldable pub reading_of : Front → ℕ → Reading
reading_of f tick =
    cond f.begun
    (cond (nat_lt (step_of f.last tick) (2 ^ 31)) (moved f tick (f.remainder + step_of f.last tick)) (refused f))
    (accepted tick 0 0)
