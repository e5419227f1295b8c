-- The keys of a map: "unsigned map keys strictly ascending". Assumes nothing: these are definitions.
use Rattle.std.specs.Prelude.{ℕ, ◌+◌, Bool, true, false, cond, List, leb, eqb, Option, Some, None}
use Rattle.wire_heads.specs.Head.{HeadRead, head_at}
use Rattle.wire_heads.specs.declared.keys.Key.{Key}

-- a key and the position past it, where one stands
abbrev pub KeyRead : Type 0
KeyRead = Option Key

abbrev pub key_is : ℕ → ℕ → KeyRead
key_is k e = Some (record { key = k; next = e })

abbrev pub key_from : ℕ → ℕ → ℕ → KeyRead
key_from lo k e = cond (leb lo k) (key_is k e) None

-- a key is an unsigned number, not below lo
abbrev pub key_of : ℕ → HeadRead → KeyRead
key_of lo (Some h) = cond (eqb h.major 0) (key_from lo h.arg h.next) None
key_of lo None = None

-- the key at p
unfoldable pub key_at : List ℕ → ℕ → ℕ → KeyRead
key_at s lo p = key_of lo (head_at s p)

-- the least key that may come first, or behind the last
abbrev pub least : Bool → ℕ → ℕ
least true last = 0
least false last = last + 1
