-- Heads of the strict subset (RFC 8949, 3): a major type and an argument in its shortest form. Assumes nothing: these are definitions.
use Rattle.std.specs.Prelude.{ℕ, ◌+◌, ◌-◌, ◌*◌, ◌/◌, ◌%◌, ◌≡◌, Bool, true, false, cond, List, [], ◌∷◌, length, get_or, ltb, leb, eqb}
use Rattle.std.specs.Prelude.{Option, Some, None}
use Rattle.wire_bytes.specs.Bytes.{number_at, bytes_of}
use Rattle.wire_heads.specs.declared.reading.Head.{Head}
use Rattle.wire_heads.specs.declared.reading.Argument.{Argument}

-- WHAT IS READ
-- an argument or a head, each with the position past it, where one stands
abbrev pub ArgumentRead : Type 0
ArgumentRead = Option Argument

abbrev pub argument_is : ℕ → ℕ → ArgumentRead
argument_is v e = Some (record { value = v; next = e })

abbrev pub HeadRead : Type 0
HeadRead = Option Head

abbrev pub head_is : ℕ → ℕ → ℕ → HeadRead
head_is m v e = Some (record { major = m; arg = v; next = e })

-- HEADS
-- the additional information of the shortest head of an argument
unfoldable pub info_of : ℕ → ℕ
info_of v = cond (ltb v 24) v (cond (ltb v 256) 24 (cond (ltb v 65536) 25 (cond (ltb v 4294967296) 26 27)))

-- how many bytes of argument stand behind a first byte with additional information i
unfoldable pub width_of : ℕ → ℕ
width_of i = cond (eqb i 24) 1 (cond (eqb i 25) 2 (cond (eqb i 26) 4 (cond (eqb i 27) 8 0)))

-- how many bytes the head of an argument has
unfoldable pub head_len : ℕ → ℕ
head_len v = 1 + width_of (info_of v)

-- the bytes of the head of major type m with argument v
unfoldable pub head_bytes : ℕ → ℕ → List ℕ
head_bytes m v = (m * 32 + info_of v) ∷ bytes_of (width_of (info_of v)) v

-- the same for any number m: there are eight major types
abbrev pub head_of : ℕ → ℕ → List ℕ
head_of m v = cond (ltb m 8) (head_bytes m v) []

-- the subset: major types 0 to 5 with any argument, and of 7 the simple values 20 to 22 (false, true, null)
abbrev pub allowed : ℕ → ℕ → Bool
allowed m v = cond (leb m 5) true (cond (eqb m 7) (cond (leb 20 v) (leb v 22) false) false)

abbrev pub Within : ℕ → ℕ → Type 0
Within m v = allowed m v ≡ true

-- the argument v that w bytes at p say, where they are there and i is its shortest form
abbrev pub wide_at : List ℕ → ℕ → ℕ → ℕ → ℕ → ArgumentRead
wide_at s p i w v = cond (leb w (length s - p)) (cond (eqb (info_of v) i) (argument_is v (p + w)) None) None

-- the argument of additional information i, whose bytes start at p
unfoldable pub arg_at : List ℕ → ℕ → ℕ → ArgumentRead
arg_at s p i = cond (ltb i 24) (argument_is i p) (wide_at s p i (width_of i) (number_at s p (width_of i)))

abbrev pub with_major : ℕ → ArgumentRead → HeadRead
with_major m (Some a) = head_is m a.value a.next
with_major m None = None

-- the head whose first byte is b, its argument's bytes at p
abbrev pub head_from : List ℕ → ℕ → ℕ → HeadRead
head_from s p b = cond (allowed (b / 32) (b % 32)) (with_major (b / 32) (arg_at s p (b % 32))) None

-- the head at p
unfoldable pub head_at : List ℕ → ℕ → HeadRead
head_at s p = cond (leb (length s) p) None (head_from s (p + 1) (get_or s p 0))
