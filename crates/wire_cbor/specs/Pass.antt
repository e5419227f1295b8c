-- How one pass notes the heads under the small keys, pair by pair. Assumes nothing: these are definitions.
use Rattle.std.specs.Prelude.{ℕ, zero, suc, ◌+◌, ◌-◌, ◌*◌, ◌/◌, ◌%◌, ◌≡◌, cond, List, set, replicate, ltb, eqb}
use Rattle.std.proofs.Math.Option.{some}
use Rattle.wire_cbor.specs.Item.{Item, Pairs, Got, got, bad}
use Rattle.wire_cbor.specs.Scan.{KEYS, LEVELS, KEY_HEADS, WORDS, STEP, key_head_of, pairs_in}
use Rattle.wire_cbor.specs.declared.heads.KeyHead.{KeyHead}

-- nothing seen
abbrev pub blank : List ℕ
blank = replicate WORDS 8

-- words with the head in place j as x
unfoldable pub note_at : List ℕ → ℕ → KeyHead → List ℕ
note_at l j x = set (set l j x.major) (KEY_HEADS + j) x.arg

-- what f notes of each small key and its value, one pair after the other
unfoldable pub noted : (List ℕ → ℕ → Item → List ℕ) → List ℕ → Pairs → List ℕ
noted f l Pairs.empty = l
noted f l (Pairs.pair k i ps) = noted f (cond (ltb k KEYS) (f l k i) l) ps

-- the head of a value, at a level
abbrev pub note_head : ℕ → List ℕ → ℕ → Item → List ℕ
note_head level l k i = note_at l (level * KEYS + k) (key_head_of (some i))

-- and, with n levels below, under the first key of a path those of the map that the value is
unfoldable pub note_key : ℕ → ℕ → ℕ → List ℕ → ℕ → Item → List ℕ
note_key zero path level l k i = note_head level l k i
note_key (suc n) path level l k i =
    cond (eqb k (path % STEP)) (noted (note_key n (path / STEP) (level + 1)) (note_head level l k i) (pairs_in (some i))) (note_head level l k i)

-- the same with as many levels below as there are
abbrev pub note_from : ℕ → ℕ → List ℕ → ℕ → Item → List ℕ
note_from path level = note_key (LEVELS - 1 - level) path level

-- what is left behind what was read; where it is bad that is of no use
abbrev pub Left : {X : Type 0} → Got X → (X → List ℕ) → List ℕ → Type 0
Left (got x e) f l = l ≡ f x
Left bad f l = Unit {0}
