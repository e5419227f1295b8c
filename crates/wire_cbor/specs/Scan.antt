-- What one pass over a payload keeps: the heads under the small keys of its map and of the maps below it, along a path of keys.
-- Assumes nothing: these are definitions.
use Rattle.std.specs.Prelude.{ℕ, zero, suc, ◌+◌, ◌*◌, ◌/◌, ◌%◌, cond, List, [], ◌∷◌, ◌++◌, map, length, get_or, ltb}
use Rattle.std.proofs.Math.Option.{Option, some, none}
use Rattle.wire_cbor.specs.Item.{Item, Pairs, count, count_pairs}
use Rattle.wire_cbor.specs.Find.{value_of}
use Rattle.wire_cbor.specs.declared.heads.KeyHead.{KeyHead}

-- SIZES, as the code has them
-- the small keys are 0 to 5
abbrev pub KEYS : ℕ
KEYS = 6

-- how many maps within each other are looked into
abbrev pub LEVELS : ℕ
LEVELS = 3

-- the small keys of each
abbrev pub KEY_HEADS : ℕ
KEY_HEADS = KEYS * LEVELS

-- two words each
abbrev pub WORDS : ℕ
WORDS = 2 * KEY_HEADS

-- a path has a digit to this base for each level, the first the lowest: the key whose map is looked into next
abbrev pub STEP : ℕ
STEP = 16

-- HEADS UNDER SMALL KEYS
abbrev pub head : ℕ → ℕ → KeyHead
head m v = record { major = m; arg = v }

-- nothing there; its argument is of no use
abbrev pub no_key_head : KeyHead
no_key_head = head 8 8

-- the head of what stands under a key
unfoldable pub key_head_of : Option Item → KeyHead
key_head_of none = no_key_head
key_head_of (some (Item.uint v)) = head 0 v
key_head_of (some (Item.nint v)) = head 1 v
key_head_of (some (Item.bytes b)) = head 2 (length b)
key_head_of (some (Item.text b)) = head 3 (length b)
key_head_of (some (Item.array is)) = head 4 (count is)
key_head_of (some (Item.map ps)) = head 5 (count_pairs ps)
key_head_of (some (Item.simple v)) = head 7 v

-- n keys of a map, from k on
unfoldable pub key_heads_from : ℕ → ℕ → Pairs → List KeyHead
key_heads_from zero k ps = []
key_heads_from (suc n) k ps = key_head_of (value_of ps k) ∷ key_heads_from n (k + 1) ps

-- the pairs of a map; none of anything else
abbrev pub pairs_in : Option Item → Pairs
pairs_in none = Pairs.empty
pairs_in (some (Item.uint v)) = Pairs.empty
pairs_in (some (Item.nint v)) = Pairs.empty
pairs_in (some (Item.bytes b)) = Pairs.empty
pairs_in (some (Item.text b)) = Pairs.empty
pairs_in (some (Item.array is)) = Pairs.empty
pairs_in (some (Item.map ps)) = ps
pairs_in (some (Item.simple v)) = Pairs.empty

-- the map under the first key of a path, where that is a small key
unfoldable pub followed : ℕ → Pairs → Pairs
followed path ps = cond (ltb (path % STEP) KEYS) (pairs_in (value_of ps (path % STEP))) Pairs.empty

-- the map at a level of a path
unfoldable pub map_at : ℕ → ℕ → Pairs → Pairs
map_at zero path ps = ps
map_at (suc level) path ps = map_at level (path / STEP) (followed path ps)

-- the small keys of n maps along a path
unfoldable pub key_heads_along : ℕ → ℕ → Pairs → List KeyHead
key_heads_along zero path ps = []
key_heads_along (suc n) path ps = key_heads_from KEYS 0 ps ++ key_heads_along n (path / STEP) (followed path ps)

-- those of a payload
unfoldable pub key_heads_of : ℕ → Option Item → List KeyHead
key_heads_of path o = key_heads_along LEVELS path (pairs_in o)

-- heads as words: the major types, then the arguments
unfoldable pub words_of : List KeyHead → List ℕ
words_of l = map (λ x. x.major) l ++ map (λ x. x.arg) l

-- the head in a place of words
unfoldable pub key_head_in : List ℕ → ℕ → KeyHead
key_head_in ws j = head (get_or ws j 0) (get_or ws (KEY_HEADS + j) 0)

-- the head of a small key at a level; nothing past the last
unfoldable pub key_head_at : List ℕ → ℕ → ℕ → KeyHead
key_head_at ws level key = cond (ltb level LEVELS) (cond (ltb key KEYS) (key_head_in ws (level * KEYS + key)) no_key_head) no_key_head
