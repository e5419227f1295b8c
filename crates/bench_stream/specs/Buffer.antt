-- What of a script is read and not yet run. Assumes nothing: these are definitions.
use Rattle.std.specs.Prelude.{ℕ, ◌+◌, ◌-◌, ◌≤◌, ◌≡◌, Bool, false, ◌&&◌, List, ◌++◌, ltb, length, take, drop}
use Rattle.std.specs.Io.KnownBytes.{Consumes}
use Rattle.std.specs.declared.option.Option.{Option}
use Rattle.bench_records.specs.Kinds.{longest}
use Rattle.bench_stream.specs.declared.input.Input.{Input}

-- the bytes of the buffer from `from` to `to`
unfoldable pub bytes_in : List ℕ → ℕ → ℕ → List ℕ
bytes_in buf from to = take (to - from) (drop from buf)

-- those at the front; the buffer behind them as it was
unfoldable pub shifted : List ℕ → ℕ → ℕ → List ℕ
shifted buf from to = bytes_in buf from to ++ drop (to - from) buf

-- fewer bytes are there than the longest record has, and more may be read
unfoldable pub is_short : ℕ → ℕ → Bool
is_short to left = ltb to longest && ltb 0 left

-- what a fill makes of the buffer: the bytes that were not yet run stand at its front, what was read behind them; it is not
-- short, and no byte is counted that may not be read
pub record Filled (buf : List ℕ) (x : Input) (buf' : List ℕ) (y : Input) : Type 0 where
  pub first : y.from ≡ 0
  pub within : y.to ≤ length buf
  pub more : x.to - x.from ≤ y.to
  pub kept : take (x.to - x.from) buf' ≡ bytes_in buf x.from x.to
  pub counted : y.to + y.left ≤ (x.to - x.from) + x.left
  pub enough : is_short y.to y.left ≡ false

-- what a reader has left to give, where that is known, before and after: so many bytes were taken from its front that they and
-- those that may still be read are no more than `most`
abbrev pub Takes : Option (List ℕ) → Option (List ℕ) → ℕ → ℕ → Type 0
Takes old new left most = (bs : List ℕ) × Consumes old new bs × (length bs + left ≤ most)
