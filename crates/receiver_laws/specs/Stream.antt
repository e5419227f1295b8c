-- The frames of an uncut stream. Nothing here knows of scraps, records or rooms. Assumes nothing: these are definitions.
use Rattle.std.specs.Prelude.{ℕ, zero, suc, Bool, true, false, cond, ◌&&◌, List, [], ◌∷◌, length, take, drop, ltb}
use Rattle.wire_prefix.specs.Prefix.{framed, end_of, bad_end}

-- the whole frames in order, whether a bad length closed the stream, and the bytes behind the last frame (none once closed)
pub record Cut : Type 0 where
  pub frames : List (List ℕ)
  pub closed : Bool
  pub left : List ℕ

-- an unfinished frame
abbrev pub stop : List ℕ → Cut
stop s = record { frames = []; closed = false; left = s }

-- a bad length
abbrev pub halt : Cut
halt = record { frames = []; closed = true; left = [] }

-- a frame in front
abbrev pub give : List ℕ → Cut → Cut
give f c = record { frames = f ∷ c.frames; closed = c.closed; left = c.left }

-- with at most n frames
unfoldable pub cut_in : ℕ → List ℕ → Cut
cut_in zero s = stop s
cut_in (suc n) s =
    cond (bad_end (end_of s)) halt
    (cond (ltb (length s) (end_of s)) (stop s) (give (take (end_of s) s) (cut_in n (drop (end_of s) s))))

-- THE STREAM: one of n bytes has fewer than n + 1 frames
unfoldable pub cut : List ℕ → Cut
cut s = cut_in (suc (length s)) s

-- each is a frame
unfoldable pub all_framed : List (List ℕ) → Bool
all_framed [] = true
all_framed (f ∷ fs) = framed f && all_framed fs
