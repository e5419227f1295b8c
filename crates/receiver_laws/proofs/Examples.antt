-- Streams and scraps, worked out. Assumes nothing.
use mathlib.Core.Path.{◌≡◌, refl}
use mathlib.Core.Bool.{true, false}
use mathlib.Core.List.{[], ◌∷◌}
use Rattle.wire_bytes.specs.Bytes.{number_at}
use Rattle.wire_prefix.specs.Prefix.{end_of, bad_end}
use Rattle.receiver_laws.specs.Stream.{cut_in, cut}

-- a frame of one byte, and part of a frame of two
one_and_part : cut (0 ∷ 0 ∷ 0 ∷ 1 ∷ 7 ∷ 0 ∷ 0 ∷ 0 ∷ 2 ∷ 8 ∷ [])
    ≡ record { frames = (0 ∷ 0 ∷ 0 ∷ 1 ∷ 7 ∷ []) ∷ []; closed = false; left = 0 ∷ 0 ∷ 0 ∷ 2 ∷ 8 ∷ [] }
unfolding number_at end_of bad_end cut_in cut
one_and_part = refl

-- 2,049 is too long
too_long_lem : cut (0 ∷ 0 ∷ 0 ∷ 1 ∷ 7 ∷ 0 ∷ 0 ∷ 8 ∷ 1 ∷ 9 ∷ [])
    ≡ record { frames = (0 ∷ 0 ∷ 0 ∷ 1 ∷ 7 ∷ []) ∷ []; closed = true; left = [] }
unfolding number_at end_of bad_end cut_in cut
too_long_lem = refl
