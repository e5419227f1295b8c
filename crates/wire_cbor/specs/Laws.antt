-- What is proved of the definitions. The proof of KeyHeadExact is key_head_exact, in proofs/. Assumes nothing: these are statements.
use Rattle.std.specs.Prelude.{ℕ, ◌<◌, ◌≡◌}
use Rattle.wire_cbor.specs.Item.{Pairs}
use Rattle.wire_cbor.specs.Find.{value_of}
use Rattle.wire_cbor.specs.Scan.{KEYS, LEVELS, key_head_of, map_at, key_heads_along, words_of, key_head_at}

-- the words kept of a payload show, for each level and small key, what stands under that key of the map at that level
abbrev pub KeyHeadExact : Type 0
KeyHeadExact =
    (path : ℕ) (ps : Pairs) (level key : ℕ) → level < LEVELS → key < KEYS
    → key_head_at (words_of (key_heads_along LEVELS path ps)) level key ≡ key_head_of (value_of (map_at level path ps) key)
