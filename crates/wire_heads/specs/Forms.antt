-- How the reader of heads parts its work: the form of an argument, and one whose bytes stand behind the first. Assumes nothing: these are definitions.
use Rattle.std.specs.Prelude.{ℕ, ◌+◌, ◌-◌, ◌%◌, ◌≤◌, ◌≡◌, ◌⊎◌, cond, List, length, ltb, leb, eqb, None}
use Rattle.wire_bytes.specs.Bytes.{number_at}
use Rattle.wire_heads.specs.Head.{ArgumentRead, argument_is}
use Rattle.wire_heads.specs.declared.reading.Form.{Form}

-- where additional information i says the argument (RFC 8949, 3), and from which number on it needs all its bytes
unfoldable pub form_of : ℕ → Form
form_of i =
    cond (ltb i 24) Form.Itself
    (cond (eqb i 24) (Form.Behind 1 24)
    (cond (eqb i 25) (Form.Behind 2 256)
    (cond (eqb i 26) (Form.Behind 4 65536)
    (cond (eqb i 27) (Form.Behind 8 4294967296) Form.Nowhere))))

-- one byte, or bytes that are read by twos
abbrev pub Width : ℕ → Type 0
Width w = (w ≤ 8) × ((w ≡ 1) ⊎ ((2 ≤ w) × (w % 2 ≡ 0)))

-- the argument that w bytes at p hold, from l on
unfoldable pub held_at : List ℕ → ℕ → ℕ → ℕ → ArgumentRead
held_at s p w l = cond (leb w (length s - p)) (cond (ltb (number_at s p w) l) None (argument_is (number_at s p w) (p + w))) None
