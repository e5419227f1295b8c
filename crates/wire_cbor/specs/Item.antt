-- Items of the strict subset as trees, their one encoding, which are well formed, and the decoder. Assumes nothing: these are definitions.
use Rattle.std.specs.Prelude.{ℕ, zero, suc, ◌+◌, ◌-◌, ◌^◌, ◌≤◌, ◌<◌, Bool, true, false, cond, List, [], ◌++◌, length, take, drop, leb, eqb}
use Rattle.std.specs.Prelude.{Option as Maybe, Some, None}
use Rattle.std.proofs.Math.Option.{Option, some, none as nothing}
use Rattle.wire_bytes.specs.Bytes.{Bytes}
use Rattle.wire_heads.specs.Head.{HeadRead, head_bytes, head_at}
use Rattle.wire_heads.specs.Key.{KeyRead, key_at}

mutual
  pub data Item : Type 0 where
    uint : ℕ → Item
    nint : ℕ → Item
    bytes : List ℕ → Item
    text : List ℕ → Item
    array : Items → Item
    map : Pairs → Item
    simple : ℕ → Item

  pub data Items : Type 0 where
    none : Items
    more : Item → Items → Items

  pub data Pairs : Type 0 where
    empty : Pairs
    pair : ℕ → Item → Pairs → Pairs

unfoldable pub count : Items → ℕ
count none = 0
count (more i is) = suc (count is)

unfoldable pub count_pairs : Pairs → ℕ
count_pairs empty = 0
count_pairs (pair k i ps) = suc (count_pairs ps)

-- the one encoding of an item; nint n is the number -1 - n
unfoldable mutual
  unfolding count count_pairs

  pub encode : Item → List ℕ
  encode (uint v) = head_bytes 0 v
  encode (nint v) = head_bytes 1 v
  encode (bytes b) = head_bytes 2 (length b) ++ b
  encode (text b) = head_bytes 3 (length b) ++ b
  encode (array is) = head_bytes 4 (count is) ++ encode_items is
  encode (map ps) = head_bytes 5 (count_pairs ps) ++ encode_pairs ps
  encode (simple v) = head_bytes 7 v

  pub encode_items : Items → List ℕ
  encode_items none = []
  encode_items (more i is) = encode i ++ encode_items is

  pub encode_pairs : Pairs → List ℕ
  encode_pairs empty = []
  encode_pairs (pair k i ps) = head_bytes 0 k ++ (encode i ++ encode_pairs ps)

-- an item of the subset, with at most d arrays and maps within each other; keys ascend, from lo on
unfoldable mutual
  pub Ok : Item → ℕ → Type 0
  Ok (uint v) d = v < 2 ^ 64
  Ok (nint v) d = v < 2 ^ 64
  Ok (bytes b) d = (length b < 2 ^ 64) × Bytes b
  Ok (text b) d = (length b < 2 ^ 64) × Bytes b
  Ok (array is) zero = ⊥
  Ok (array is) (suc d) = (count is < 2 ^ 64) × OkItems is d
  Ok (map ps) zero = ⊥
  Ok (map ps) (suc d) = (count_pairs ps < 2 ^ 64) × OkPairs ps 0 d
  Ok (simple v) d = (20 ≤ v) × (v ≤ 22)

  pub OkItems : Items → ℕ → Type 0
  OkItems none d = Unit {0}
  OkItems (more i is) d = Ok i d × OkItems is d

  pub OkPairs : Pairs → ℕ → ℕ → Type 0
  OkPairs empty lo d = Unit {0}
  OkPairs (pair k i ps) lo d = (lo ≤ k) × (k < 2 ^ 64) × Ok i d × OkPairs ps (k + 1) d

-- what a reader finds: a value and the position past it
pub data Got (X : Type 0) : Type 0 where
  got : X → ℕ → Got X
  bad : Got X

abbrev pub and_then : {X Y : Type 0} → Got X → (X → ℕ → Got Y) → Got Y
and_then (got x e) f = f x e
and_then bad f = bad

-- n items at p, each read by f
unfoldable pub items_at : (ℕ → Got Item) → ℕ → ℕ → Got Items
items_at f zero p = got none p
items_at f (suc n) p = and_then (f p) (λ i e. and_then (items_at f n e) (λ is e'. got (more i is) e'))

abbrev pub keyed : {X : Type 0} → KeyRead → (ℕ → ℕ → Got X) → Got X
keyed (Some k) f = f k.key k.next
keyed None f = bad

-- n pairs at p, the first key not below lo and each next key above the one before, each value read by f
unfoldable pub pairs_at : List ℕ → (ℕ → Got Item) → ℕ → ℕ → ℕ → Got Pairs
pairs_at s f zero lo p = got empty p
pairs_at s f (suc n) lo p =
    keyed (key_at s lo p) (λ k e. and_then (f e) (λ i e'. and_then (pairs_at s f n (k + 1) e') (λ ps e''. got (pair k i ps) e'')))

-- v bytes at p, as the item that g makes of them
abbrev pub string_at : List ℕ → (List ℕ → Item) → ℕ → ℕ → Got Item
string_at s g v p = cond (leb v (length s - p)) (got (g (take v (drop p s))) (p + v)) bad

-- the item whose head is given, its items and pairs read by is and ps
unfoldable pub from_head : List ℕ → (ℕ → ℕ → Got Items) → (ℕ → ℕ → Got Pairs) → HeadRead → Got Item
from_head s is ps (Some h) =
    cond (eqb h.major 0) (got (uint h.arg) h.next)
    (cond (eqb h.major 1) (got (nint h.arg) h.next)
    (cond (eqb h.major 2) (string_at s bytes h.arg h.next)
    (cond (eqb h.major 3) (string_at s text h.arg h.next)
    (cond (eqb h.major 4) (and_then (is h.arg h.next) (λ xs e'. got (array xs) e'))
    (cond (eqb h.major 5) (and_then (ps h.arg h.next) (λ xs e'. got (map xs) e'))
    (got (simple h.arg) h.next))))))
from_head s is ps None = bad

-- the item at p, with at most d arrays and maps within each other
unfoldable pub item_at : List ℕ → ℕ → ℕ → Got Item
item_at s zero p = from_head s (λ n q. bad) (λ n q. bad) (head_at s p)
item_at s (suc d) p = from_head s (items_at (item_at s d)) (λ n q. pairs_at s (item_at s d) n 0 q) (head_at s p)

-- the items and pairs within an item of d levels
abbrev pub items_within : List ℕ → ℕ → ℕ → ℕ → Got Items
items_within s zero n q = bad
items_within s (suc d) n q = items_at (item_at s d) n q

abbrev pub pairs_within : List ℕ → ℕ → ℕ → ℕ → Got Pairs
pairs_within s zero n q = bad
pairs_within s (suc d) n q = pairs_at s (item_at s d) n 0 q

-- the item of d levels whose head is given
abbrev pub rest_at : List ℕ → ℕ → HeadRead → Got Item
rest_at s d h = from_head s (items_within s d) (pairs_within s d) h

-- where a reader stopped, where what it read is good
abbrev pub EndRead : Type 0
EndRead = Maybe ℕ

abbrev pub end_of : {X : Type 0} → Got X → EndRead
end_of (got x e) = Some e
end_of bad = None

-- the same as a number; 0 where it is bad, as nothing that is read ends at 0
abbrev pub past_of : {X : Type 0} → Got X → ℕ
past_of (got x e) = e
past_of bad = 0

-- nesting of maps and arrays: at most 8
abbrev pub levels : ℕ
levels = 8

-- an item that ends at n
abbrev pub ends_at : ℕ → Got Item → Option Item
ends_at n (got i e) = cond (eqb e n) (some i) nothing
ends_at n bad = nothing

-- the one item that the whole of s is, if it is one
unfoldable pub payload_of : List ℕ → Option Item
payload_of s = ends_at (length s) (item_at s levels 0)

abbrev pub is_some : {X : Type 0} → Option X → Bool
is_some (some x) = true
is_some nothing = false
