-- Bytes added one after the other behind those already written. Assumes nothing: these are definitions.
use Rattle.std.specs.Prelude.{ℕ, ◌+◌, ◌≤◌, ◌≡◌, cond, List, [], ◌∷◌, ◌++◌, length, take, ltb}
use Rattle.std.proofs.Math.Option.{Option, some, none}
use Rattle.wire_bytes.specs.Bytes.{put_whole, past_whole}
use Rattle.wire_heads.specs.Head.{head_bytes, head_of}
use Rattle.wire_cbor.specs.Item.{Item, encode}
use Rattle.wire_cbor.specs.declared.heads.KeyHead.{KeyHead}

-- from s, written up to p, to t, written up to q: bs was added, of at most `most` bytes
pub record Adds (s : List ℕ) (p : ℕ) (bs : List ℕ) (most : ℕ) (t : List ℕ) (q : ℕ) : Type 0 where
  pub grows : take q t ≡ take p s ++ bs
  pub moved : q ≡ p + length bs
  pub short : length bs ≤ most
  pub kept : length t ≡ length s

-- the same where there is room for as many bytes as it may be; where there is not, nothing is said
pub record Puts (s : List ℕ) (p : ℕ) (bs : List ℕ) (most : ℕ) (t : List ℕ) (q : ℕ) : Type 0 where
  pub fit : p + most ≤ length s → Adds s p bs most t q

-- a key and a head
unfoldable pub pair_bytes : ℕ → ℕ → ℕ → List ℕ
pair_bytes key major arg = head_bytes 0 key ++ head_bytes major arg

-- a field: nothing where it is left out
unfoldable pub field_bytes : ℕ → Option Item → List ℕ
field_bytes key (some i) = head_bytes 0 key ++ encode i
field_bytes key none = []

-- what is to be seen under a key: nothing where nothing is
unfoldable pub key_head_bytes : ℕ → KeyHead → List ℕ
key_head_bytes key k = cond (ltb k.major 8) (pair_bytes key k.major k.arg) []

-- a key and a head have at most this many bytes
abbrev pub pair_room : ℕ
pair_room = 18

-- how many pairs a field is
abbrev pub pairs_of : Option Item → ℕ
pairs_of (some i) = 1
pairs_of none = 0

-- EXACTLY, for every room
-- pieces one behind the other, each put where it fits whole; one that does not is passed over
unfoldable pub put_each : List ℕ → ℕ → List (List ℕ) → List ℕ
put_each s p [] = s
put_each s p (b ∷ bs) = put_each (put_whole s p b) (past_whole s p b) bs

unfoldable pub past_each : List ℕ → ℕ → List (List ℕ) → ℕ
past_each s p [] = p
past_each s p (b ∷ bs) = past_each (put_whole s p b) (past_whole s p b) bs

-- a key and a head; a field, nothing where it is left out
abbrev pub pair_pieces : ℕ → ℕ → ℕ → List (List ℕ)
pair_pieces key major arg = head_of 0 key ∷ head_of major arg ∷ []

unfoldable pub field_pieces : ℕ → Option Item → List (List ℕ)
field_pieces key (some i) = head_bytes 0 key ∷ encode i ∷ []
field_pieces key none = []

unfoldable pub key_head_pieces : ℕ → KeyHead → List (List ℕ)
key_head_pieces key k = cond (ltb k.major 8) (pair_pieces key k.major k.arg) []

-- from s, written up to p, to t, written up to q: these pieces, and with room for a pair the bytes that they are
pub record PutsField (s : List ℕ) (p : ℕ) (pieces : List (List ℕ)) (bs : List ℕ) (t : List ℕ) (q : ℕ) : Type 0 where
  pub left : t ≡ put_each s p pieces
  pub past : q ≡ past_each s p pieces
  pub puts : Puts s p bs pair_room t q
