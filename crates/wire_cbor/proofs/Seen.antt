-- What an item and a map that were read are made of: the head, a pair and the pairs behind it, the value under a key. Assumes nothing.
use Prim.Native.Nat.{ℕ, zero, suc, ◌+◌, ◌^◌, ◌≤◌, ◌<◌}
use mathlib.Core.Path.{◌≡◌, refl, ap, ◌∙◌}
use mathlib.Core.List.{List, ◌++◌, append_assoc}
use mathlib.Core.Option.{some, none}
use native.Mathlib.Omega.{arith}
use lib.ListN.{length, drop}
use borrow.Author.Tests.{le-leb, eq-eqb, ne_eqb}
use Rattle.wire_bytes.specs.Bytes.{Bytes}
use Rattle.wire_heads.specs.Head.{head_is, head_bytes, head_at, head_len}
use Rattle.wire_cbor.specs.Item.{Item, Pairs, Got, got, pairs_at, item_at, encode, encode_items, encode_pairs, count, count_pairs, Ok, OkPairs}
use Rattle.wire_heads.specs.Key.{key_at}
use Rattle.wire_cbor.specs.Find.{value_of}
use Rattle.wire_heads.proofs.HeadLaws.{head-reads_back}
use Rattle.wire_cbor.proofs.Sound.{Sound, item_sound, then_inv, keyed-inv, key_found}

-- the major type and the argument of an item's head, and the bytes behind it
abbrev pub major_of : Item → ℕ
major_of (Item.uint v) = 0
major_of (Item.nint v) = 1
major_of (Item.bytes b) = 2
major_of (Item.text b) = 3
major_of (Item.array is) = 4
major_of (Item.map ps) = 5
major_of (Item.simple v) = 7

abbrev pub arg_of : Item → ℕ
arg_of (Item.uint v) = v
arg_of (Item.nint v) = v
arg_of (Item.bytes b) = length b
arg_of (Item.text b) = length b
arg_of (Item.array is) = count is
arg_of (Item.map ps) = count_pairs ps
arg_of (Item.simple v) = v

-- where an item's encoding stands, its head is read
pub item_head : (s t : List ℕ) (d p : ℕ) (i : Item) → Ok i d → drop p s ≡ encode i ++ t → head_at s p ≡ head_is (major_of i) (arg_of i) (p + head_len (arg_of i))
unfolding encode Ok
item_head s t d p (Item.uint v) ok e = head-reads_back s t p 0 v refl ok e
item_head s t d p (Item.nint v) ok e = head-reads_back s t p 1 v refl ok e
item_head s t d p (Item.bytes b) ok e = head-reads_back s (b ++ t) p 2 (length b) refl ok.0 (e ∙ append_assoc (head_bytes 2 (length b)) b t)
item_head s t d p (Item.text b) ok e = head-reads_back s (b ++ t) p 3 (length b) refl ok.0 (e ∙ append_assoc (head_bytes 3 (length b)) b t)
item_head s t zero p (Item.array xs) ok e = absurd ok
item_head s t (suc d) p (Item.array xs) ok e = head-reads_back s (encode_items xs ++ t) p 4 (count xs) refl ok.0 (e ∙ append_assoc (head_bytes 4 (count xs)) (encode_items xs) t)
item_head s t zero p (Item.map xs) ok e = absurd ok
item_head s t (suc d) p (Item.map xs) ok e = head-reads_back s (encode_pairs xs ++ t) p 5 (count_pairs xs) refl ok.0 (e ∙ append_assoc (head_bytes 5 (count_pairs xs)) (encode_pairs xs) t)
item_head s t d p (Item.simple v) ok e = let small : v < 2 ^ 64 = omega (arith, ok.1) in head-reads_back s t p 7 v (simp (le-leb 20 v ok.0, le-leb v 22 ok.1)) small e

-- an item that was read, by its head
pub read_head_of : (s : List ℕ) → Bytes s → (d p e : ℕ) (i : Item) → item_at s d p ≡ got i e → head_at s p ≡ head_is (major_of i) (arg_of i) (p + head_len (arg_of i))
unfolding Sound
read_head_of s ok d p e i h = let x = item_sound s ok d p e i h in item_head s (drop e s) d p i x.1 x.0.bytes

pub value_here : (j k : ℕ) (i : Item) (ps : Pairs) → j ≡ k → value_of (Pairs.pair j i ps) k ≡ some i
unfolding value_of
value_here j k i ps e = rw (eq-eqb j k e)

pub value_there : (j k : ℕ) (i : Item) (ps : Pairs) → (j ≡ k → ⊥) → value_of (Pairs.pair j i ps) k ≡ value_of ps k
unfolding value_of
value_there j k i ps ne = rw (ne_eqb j k ne)

-- a pair that was read, and the pairs behind it
pub record Step (s : List ℕ) (f : ℕ → Got Item) (n lo p : ℕ) (all : Pairs) (end : ℕ) : Type 0 where
  pub key : ℕ
  pub at : ℕ
  pub item : Item
  pub next : ℕ
  pub rest : Pairs
  pub head : head_at s p ≡ head_is 0 key at
  pub order : lo ≤ key
  pub value : f at ≡ got item next
  pub behind : pairs_at s f n (key + 1) next ≡ got rest end
  pub whole : all ≡ Pairs.pair key item rest

pub pairs-step : (s : List ℕ) (f : ℕ → Got Item) (n lo p e : ℕ) (ps : Pairs) → pairs_at s f (suc n) lo p ≡ got ps e → Step s f n lo p ps e
unfolding pairs_at
pairs-step s f n lo p e ps h =
    let w = keyed-inv (key_at s lo p) _ ps e h in
    let k = key_found s lo p w.0 w.1 w.2 in
    let u = then_inv (f w.1) _ ps e w.3 in
    let v = then_inv (pairs_at s f n (w.0 + 1) u.1) _ ps e u.3 in
    let b : v.1 ≡ e = cc in
    let a : ps ≡ Pairs.pair w.0 u.0 v.0 = cc in
    record { key = w.0; at = w.1; item = u.0; next = u.1; rest = v.0; head = k.0; order = k.1; value = u.2; behind = v.2 ∙ ap (got v.0) b; whole = a }

-- no key is below the least
pub none_below : (ps : Pairs) (lo d k : ℕ) → OkPairs ps lo d → k < lo → value_of ps k ≡ none
unfolding value_of Ok
none_below Pairs.empty lo d k ok lt = refl
none_below (Pairs.pair j i ps) lo d k ok lt =
    let h = ok.0 in
    value_there j k i ps (λ z. omega arith) ∙ none_below ps (j + 1) d k ok.3 (omega arith)
