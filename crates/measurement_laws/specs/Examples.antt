-- Payloads and what they are read as; their bytes are written by hand from RFC 8949. One table of cases over the definitions that the calls' contracts cite.
use Rattle.std.specs.Prelude.{ℕ, ◌≡◌, List, [], ◌∷◌, ◌++◌, map, replicate, pos, negsuc}
use Rattle.std.proofs.Math.Option.{some, none}
use Rattle.wire_cbor.specs.Item.{encode}
use Rattle.measurement_table.specs.Cells.{Cell, blanks}
use Rattle.measurement_table.specs.Words.{flat, held}
use Rattle.measurement_table.specs.Payload.{read_number, read_after, item_of}

-- a payload, the refusal that reading it answers, 0 for none, and the words that are left
pub record Case : Type 0 where
  pub payload : List ℕ
  pub number : ℕ
  pub words : List ℕ

-- what an earlier read left in the words: the number 1 in every cell
abbrev pub earlier : List ℕ
earlier = replicate 72 1

abbrev reads : List ℕ → List Cell → Case
reads s cs = record { payload = s; number = 0; words = flat cs }

-- a refused read leaves them
abbrev refuses : ℕ → List ℕ → Case
refuses n s = record { payload = s; number = n; words = earlier }

-- READ, AND WRITTEN AS THE SAME BYTES
unfoldable pub plain : List Case
plain =
    -- {}: no attribute
    reads (160 ∷ []) (blanks 36)
    -- {1: -5000000, 24: -998}: an inverter that feeds 5 kW
    ∷ reads (162 ∷ 1 ∷ 58 ∷ 0 ∷ 76 ∷ 75 ∷ 63 ∷ 24 ∷ 24 ∷ 57 ∷ 3 ∷ 229 ∷ []) (some (negsuc 4999999) ∷ blanks 21 ++ some (negsuc 997) ∷ blanks 13)
    -- {20: {0: -7200, 2: 5}}: two phases of three
    ∷ reads (161 ∷ 20 ∷ 162 ∷ 0 ∷ 57 ∷ 28 ∷ 31 ∷ 2 ∷ 5 ∷ []) (blanks 12 ++ some (negsuc 7199) ∷ none ∷ some (pos 5) ∷ blanks 21)
    -- {22: {0: 1, 1: 2, 2: 3}}: all three
    ∷ reads (161 ∷ 22 ∷ 163 ∷ 0 ∷ 1 ∷ 1 ∷ 2 ∷ 2 ∷ 3 ∷ []) (blanks 18 ++ some (pos 1) ∷ some (pos 2) ∷ some (pos 3) ∷ blanks 15)
    ∷ []

-- both ends of each kind
unfoldable pub ends : List Case
ends =
    -- int64, {1: -2^63, 2: 2^63 - 1}
    reads
    (162 ∷ 1 ∷ 59 ∷ 127 ∷ 255 ∷ 255 ∷ 255 ∷ 255 ∷ 255 ∷ 255 ∷ 255 ∷ 2 ∷ 27 ∷ 127 ∷ 255 ∷ 255 ∷ 255 ∷ 255 ∷ 255 ∷ 255 ∷ 255 ∷ [])
    (some (negsuc 9223372036854775807) ∷ some (pos 9223372036854775807) ∷ blanks 34)
    -- and of phases, {10: {0: -2^63, 1: 2^63 - 1}}
    ∷ reads
    (161 ∷ 10 ∷ 162 ∷ 0 ∷ 59 ∷ 127 ∷ 255 ∷ 255 ∷ 255 ∷ 255 ∷ 255 ∷ 255 ∷ 255 ∷ 1 ∷ 27 ∷ 127 ∷ 255 ∷ 255 ∷ 255 ∷ 255 ∷ 255 ∷ 255 ∷ 255 ∷ [])
    (blanks 3 ++ some (negsuc 9223372036854775807) ∷ some (pos 9223372036854775807) ∷ blanks 31)
    -- uint64, {3: 2^64 - 1, 30: 0}
    ∷ reads (162 ∷ 3 ∷ 27 ∷ 255 ∷ 255 ∷ 255 ∷ 255 ∷ 255 ∷ 255 ∷ 255 ∷ 255 ∷ 24 ∷ 30 ∷ 0 ∷ [])
    (blanks 2 ++ some (pos 18446744073709551615) ∷ blanks 20 ++ some (pos 0) ∷ blanks 12)
    -- uint32, {23: 0, 42: 2^32 - 1}
    ∷ reads (162 ∷ 23 ∷ 0 ∷ 24 ∷ 42 ∷ 26 ∷ 255 ∷ 255 ∷ 255 ∷ 255 ∷ []) (blanks 21 ++ some (pos 0) ∷ blanks 5 ++ some (pos 4294967295) ∷ blanks 8)
    -- and of phases, {21: {0: 0, 2: 2^32 - 1}}
    ∷ reads (161 ∷ 21 ∷ 162 ∷ 0 ∷ 0 ∷ 2 ∷ 26 ∷ 255 ∷ 255 ∷ 255 ∷ 255 ∷ []) (blanks 15 ++ some (pos 0) ∷ none ∷ some (pos 4294967295) ∷ blanks 18)
    -- int16, {60: -32768} and {60: 32767}
    ∷ reads (161 ∷ 24 ∷ 60 ∷ 57 ∷ 127 ∷ 255 ∷ []) (blanks 35 ++ some (negsuc 32767) ∷ [])
    ∷ reads (161 ∷ 24 ∷ 60 ∷ 25 ∷ 127 ∷ 255 ∷ []) (blanks 35 ++ some (pos 32767) ∷ [])
    -- the power factor, {24: -1000} and {24: 1000}
    ∷ reads (161 ∷ 24 ∷ 24 ∷ 57 ∷ 3 ∷ 231 ∷ []) (blanks 22 ++ some (negsuc 999) ∷ blanks 13)
    ∷ reads (161 ∷ 24 ∷ 24 ∷ 25 ∷ 3 ∷ 232 ∷ []) (blanks 22 ++ some (pos 1000) ∷ blanks 13)
    -- percent, {50: 100, 51: 0}
    ∷ reads (162 ∷ 24 ∷ 50 ∷ 24 ∷ 100 ∷ 24 ∷ 51 ∷ 0 ∷ []) (blanks 30 ++ some (pos 100) ∷ some (pos 0) ∷ blanks 4)
    ∷ []

-- READ OR REFUSED
-- one past both ends of each kind
unfoldable pub beyond : List Case
beyond =
    -- int64, {1: -2^63 - 1} and {1: 2^63}
    refuses 3 (161 ∷ 1 ∷ 59 ∷ 128 ∷ 0 ∷ 0 ∷ 0 ∷ 0 ∷ 0 ∷ 0 ∷ 0 ∷ [])
    ∷ refuses 3 (161 ∷ 1 ∷ 27 ∷ 128 ∷ 0 ∷ 0 ∷ 0 ∷ 0 ∷ 0 ∷ 0 ∷ 0 ∷ [])
    -- and of phases, {10: {0: -2^63 - 1}} and {10: {2: 2^63}}
    ∷ refuses 3 (161 ∷ 10 ∷ 161 ∷ 0 ∷ 59 ∷ 128 ∷ 0 ∷ 0 ∷ 0 ∷ 0 ∷ 0 ∷ 0 ∷ 0 ∷ [])
    ∷ refuses 3 (161 ∷ 10 ∷ 161 ∷ 2 ∷ 27 ∷ 128 ∷ 0 ∷ 0 ∷ 0 ∷ 0 ∷ 0 ∷ 0 ∷ 0 ∷ [])
    -- uint64, {3: -1}, and {3: 2^64}, which only a tag can say
    ∷ refuses 3 (161 ∷ 3 ∷ 32 ∷ [])
    ∷ refuses 2 (161 ∷ 3 ∷ 194 ∷ 73 ∷ 1 ∷ 0 ∷ 0 ∷ 0 ∷ 0 ∷ 0 ∷ 0 ∷ 0 ∷ 0 ∷ [])
    -- uint32, {23: -1} and {23: 2^32}
    ∷ refuses 3 (161 ∷ 23 ∷ 32 ∷ [])
    ∷ refuses 3 (161 ∷ 23 ∷ 27 ∷ 0 ∷ 0 ∷ 0 ∷ 1 ∷ 0 ∷ 0 ∷ 0 ∷ 0 ∷ [])
    -- and of phases, {21: {0: -1}} and {21: {2: 2^32}}
    ∷ refuses 3 (161 ∷ 21 ∷ 161 ∷ 0 ∷ 32 ∷ [])
    ∷ refuses 3 (161 ∷ 21 ∷ 161 ∷ 2 ∷ 27 ∷ 0 ∷ 0 ∷ 0 ∷ 1 ∷ 0 ∷ 0 ∷ 0 ∷ 0 ∷ [])
    -- int16, {60: -32769} and {60: 32768}
    ∷ refuses 3 (161 ∷ 24 ∷ 60 ∷ 57 ∷ 128 ∷ 0 ∷ [])
    ∷ refuses 3 (161 ∷ 24 ∷ 60 ∷ 25 ∷ 128 ∷ 0 ∷ [])
    -- the power factor, {24: -1001} and {24: 1001}
    ∷ refuses 3 (161 ∷ 24 ∷ 24 ∷ 57 ∷ 3 ∷ 232 ∷ [])
    ∷ refuses 3 (161 ∷ 24 ∷ 24 ∷ 25 ∷ 3 ∷ 233 ∷ [])
    -- percent, {50: -1}, {50: 101}, {51: -1} and {51: 101}
    ∷ refuses 3 (161 ∷ 24 ∷ 50 ∷ 32 ∷ [])
    ∷ refuses 3 (161 ∷ 24 ∷ 50 ∷ 24 ∷ 101 ∷ [])
    ∷ refuses 3 (161 ∷ 24 ∷ 51 ∷ 32 ∷ [])
    ∷ refuses 3 (161 ∷ 24 ∷ 51 ∷ 24 ∷ 101 ∷ [])
    ∷ []

unfoldable pub others : List Case
others =
    -- {1: 7, 99: true}: a key that no attribute has is passed over
    reads (162 ∷ 1 ∷ 7 ∷ 24 ∷ 99 ∷ 245 ∷ []) (some (pos 7) ∷ blanks 35)
    -- no bytes
    ∷ refuses 1 []
    -- {1: 7} with a head too long for it, and {2: 0, 1: 0}
    ∷ refuses 2 (161 ∷ 1 ∷ 24 ∷ 7 ∷ [])
    ∷ refuses 2 (162 ∷ 2 ∷ 0 ∷ 1 ∷ 0 ∷ [])
    -- []: no map
    ∷ refuses 3 (128 ∷ [])
    -- {1: null}
    ∷ refuses 3 (161 ∷ 1 ∷ 246 ∷ [])
    -- {10: {}}, {10: {3: 1}}, {10: 1}, and {10: {-1: 1}}, whose key is not unsigned
    ∷ refuses 3 (161 ∷ 10 ∷ 160 ∷ [])
    ∷ refuses 3 (161 ∷ 10 ∷ 161 ∷ 3 ∷ 1 ∷ [])
    ∷ refuses 3 (161 ∷ 10 ∷ 1 ∷ [])
    ∷ refuses 2 (161 ∷ 10 ∷ 161 ∷ 32 ∷ 1 ∷ [])
    -- {1: 7, 50: 101}: what is read before the refusal is not stored
    ∷ refuses 3 (162 ∷ 1 ∷ 7 ∷ 24 ∷ 50 ∷ 24 ∷ 101 ∷ [])
    ∷ []

-- what reading makes of a payload
unfoldable pub found : Case → Case
found c = record { payload = c.payload; number = read_number c.payload; words = read_after c.payload earlier }

-- what is written for the words
unfoldable pub written : Case → List ℕ
written c = encode (item_of (held c.words))

-- each case finds its answer, and those of the first two lists are written as they were
abbrev pub Worked : Type 0
Worked =
    (map found (plain ++ ends ++ beyond ++ others) ≡ plain ++ ends ++ beyond ++ others)
    × (map written (plain ++ ends) ≡ map (λ c. c.payload) (plain ++ ends))
