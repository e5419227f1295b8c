-- Scripts, worked out. Assumes nothing.
use Prim.Native.Nat.{ℕ}
use mathlib.Core.Path.{◌≡◌, refl}
use mathlib.Core.Bool.{false}
use mathlib.Core.List.{List, [], ◌∷◌, ◌++◌}
use Rattle.wire_bytes.specs.Bytes.{number_at}
use Rattle.bench_records.specs.Kinds.{right_length, right_body}
use Rattle.bench_records.specs.Records.{is_mark, fields_at, good, record_at}
use Rattle.rescue_walk.specs.Walk.{scan_len, record_len, pass, walk_in, walk, kept, runs_from, rescued, runs}
use Rattle.bench_laws.specs.Sound.{reads_in, sound}

-- a leave (kind 2, no body) and a join (kind 1, a body of one byte)
abbrev plain : List ℕ
plain = 0x4D ∷ 0x48 ∷ 2 ∷ 0 ∷ 0 ∷ 0 ∷ 0 ∷ 7 ∷ 0 ∷ 0 ∷ []

abbrev join : List ℕ
join = 0x4D ∷ 0x48 ∷ 1 ∷ 3 ∷ 0 ∷ 0 ∷ 0 ∷ 7 ∷ 0 ∷ 1 ∷ 9 ∷ []

-- two bytes before a record, a mark between two, and a cut record at the end
abbrev damaged : List ℕ
damaged = (0xFF ∷ 0x4D ∷ []) ++ plain ++ (0x4D ∷ 0x48 ∷ []) ++ join ++ (0x4D ∷ 0x48 ∷ 2 ∷ [])

out_is : rescued damaged ≡ plain ++ join
unfolding number_at is_mark fields_at good right_length right_body record_at scan_len record_len pass walk_in walk kept rescued
out_is = refl

report_is : runs damaged ≡ 0 ∷ 2 ∷ 12 ∷ 2 ∷ 25 ∷ 3 ∷ []
unfolding number_at is_mark fields_at good right_length right_body record_at scan_len record_len pass walk_in walk runs_from runs
report_is = refl

-- a join with no body is no record
not-read : sound (0x4D ∷ 0x48 ∷ 1 ∷ 3 ∷ 0 ∷ 0 ∷ 0 ∷ 7 ∷ 0 ∷ 0 ∷ []) ≡ false
unfolding number_at is_mark fields_at good right_length right_body record_at scan_len record_len reads_in sound
not-read = refl
