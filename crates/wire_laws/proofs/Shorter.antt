-- A map from which pairs are taken out is still well formed, and its encoding is no longer. Assumes nothing.
use Prim.Native.Nat.{ℕ, zero, suc, ◌+◌, ◌≤◌}
use mathlib.Core.Path.{◌≡◌, refl}
use mathlib.Core.Bool.{Bool, true, false, cond}
use native.Mathlib.Omega.{arith}
use lib.ListN.{length, length-append}
use lib.Dec.{eqb}
use Rattle.wire_heads.specs.Head.{head_len, head_bytes}
use Rattle.wire_heads.proofs.Widths.{by_width, head-length, len_positive}
use Rattle.wire_cbor.specs.Item.{Item, Pairs, encode, encode_pairs, count_pairs, Ok, OkPairs, levels}
use Rattle.wire_laws.specs.PassedOver.{kept, in_map, under, Fits}
use Rattle.wire_laws.proofs.Maps.{lower}

-- HEADS: a smaller argument has none longer
at_most : (m c : ℕ) → (24 ≤ m → 1 ≤ c) → (256 ≤ m → 2 ≤ c) → (65536 ≤ m → 4 ≤ c) → (4294967296 ≤ m → 8 ≤ c) → head_len m ≤ 1 + c
unfolding head_len
at_most m c x y z w =
    by_width (λ (i v : ℕ). 1 + v ≤ 1 + c) m (λ a. omega arith) (λ a b. omega (arith, x a)) (λ a b. omega (arith, y a)) (λ a b. omega (arith, z a)) (λ a. omega (arith, w a))

pub no_longer : (m n : ℕ) → m ≤ n → head_len m ≤ head_len n
unfolding head_len
no_longer m n h =
    by_width (λ (i v : ℕ). head_len m ≤ 1 + v) n
    (λ a. at_most m 0 (λ b. absurd (omega arith)) (λ b. absurd (omega arith)) (λ b. absurd (omega arith)) (λ b. absurd (omega arith)))
    (λ a c. at_most m 1 (λ b. omega arith) (λ b. absurd (omega arith)) (λ b. absurd (omega arith)) (λ b. absurd (omega arith)))
    (λ a c. at_most m 2 (λ b. omega arith) (λ b. omega arith) (λ b. absurd (omega arith)) (λ b. absurd (omega arith)))
    (λ a c. at_most m 4 (λ b. omega arith) (λ b. omega arith) (λ b. omega arith) (λ b. absurd (omega arith)))
    (λ a. at_most m 8 (λ b. omega arith) (λ b. omega arith) (λ b. omega arith) (λ b. omega arith))

-- MAPS
-- pairs that are well formed where others are, no more and no longer than they
pub record Less (ps qs : Pairs) : Type 0 where
  pub formed : (lo d : ℕ) → OkPairs ps lo d → OkPairs qs lo d
  pub fewer : count_pairs qs ≤ count_pairs ps
  pub shorter : length (encode_pairs qs) ≤ length (encode_pairs ps)

pub same-less : (ps : Pairs) → Less ps ps
same-less ps = record { formed = λ lo d o. o; fewer = omega arith; shorter = omega arith }

pub less_less : {ps qs rs : Pairs} → Less ps qs → Less qs rs → Less ps rs
less_less a b = record {
  formed = λ lo d o. b.formed lo d (a.formed lo d o);
  fewer = omega (arith, a.fewer, b.fewer);
  shorter = omega (arith, a.shorter, b.shorter);
}

-- a pair, its value and the pairs behind it
pairs-long : (k : ℕ) (i : Item) (ps : Pairs) → length (encode_pairs (Pairs.pair k i ps)) ≡ length (head_bytes 0 k) + (length (encode i) + length (encode_pairs ps))
unfolding encode_pairs
pairs-long k i ps = rw (length-append, length-append) refl

map-long : (ps : Pairs) → length (encode (Item.map ps)) ≡ head_len (count_pairs ps) + length (encode_pairs ps)
unfolding encode
map-long ps = rw (length-append, head-length) refl

-- a pair that stays, with a value that is no longer, before pairs of which some go
less_pair : (k : ℕ) (i j : Item) (ps qs : Pairs) → ((d : ℕ) → Ok i d → Ok j d) → length (encode j) ≤ length (encode i) → Less ps qs
    → Less (Pairs.pair k i ps) (Pairs.pair k j qs)
unfolding OkPairs count_pairs
less_pair k i j ps qs f s r = record {
  formed = λ lo d o. (o.0, o.1, f d o.2, r.formed (k + 1) d o.3);
  fewer = omega (arith, r.fewer);
  shorter = omega (arith, s, r.shorter, pairs-long k i ps, pairs-long k j qs);
}

-- a pair that goes
less_gone : (k : ℕ) (i : Item) (ps qs : Pairs) → Less ps qs → Less (Pairs.pair k i ps) qs
unfolding OkPairs count_pairs
less_gone k i ps qs r = record {
  formed = λ lo d o. lower qs lo (k + 1) d (omega (arith, o.0)) (r.formed (k + 1) d o.3);
  fewer = omega (arith, r.fewer);
  shorter = omega (arith, r.shorter, pairs-long k i ps);
}

pub less_kept : (those : ℕ → Bool) (ps : Pairs) → Less ps (kept those ps)
unfolding kept
less_kept those Pairs.empty = same-less Pairs.empty
less_kept those (Pairs.pair k i ps) = go (those k) (less_kept those ps)
  where
    go : (b : Bool) → Less ps (kept those ps) → Less (Pairs.pair k i ps) (cond b (Pairs.pair k i (kept those ps)) (kept those ps))
    go true r = less_pair k i i ps (kept those ps) (λ d o. o) (omega arith) r
    go false r = less_gone k i ps (kept those ps) r

-- ITEMS
map-formed : (ps qs : Pairs) → Less ps qs → (d : ℕ) → Ok (Item.map ps) d → Ok (Item.map qs) d
unfolding Ok
map-formed ps qs r zero o = absurd o
map-formed ps qs r (suc d) o = (omega (arith, o.0, r.fewer), r.formed 0 d o.1)

map-shorter : (ps qs : Pairs) → Less ps qs → length (encode (Item.map qs)) ≤ length (encode (Item.map ps))
map-shorter ps qs r = omega (arith, map-long ps, map-long qs, no_longer (count_pairs qs) (count_pairs ps) r.fewer, r.shorter)

module _ (f : Pairs → Pairs) (r : (ps : Pairs) → Less ps (f ps)) where
  item_formed : (i : Item) (d : ℕ) → Ok i d → Ok (in_map f i) d
  unfolding in_map
  item_formed (Item.uint v) d o = o
  item_formed (Item.nint v) d o = o
  item_formed (Item.bytes b) d o = o
  item_formed (Item.text b) d o = o
  item_formed (Item.array is) d o = o
  item_formed (Item.map ps) d o = map-formed ps (f ps) (r ps) d o
  item_formed (Item.simple v) d o = o

  item_shorter : (i : Item) → length (encode (in_map f i)) ≤ length (encode i)
  unfolding in_map
  item_shorter (Item.uint v) = omega arith
  item_shorter (Item.nint v) = omega arith
  item_shorter (Item.bytes b) = omega arith
  item_shorter (Item.text b) = omega arith
  item_shorter (Item.array is) = omega arith
  item_shorter (Item.map ps) = map-shorter ps (f ps) (r ps)
  item_shorter (Item.simple v) = omega arith

  pub less_under : (key : ℕ) (ps : Pairs) → Less ps (under key f ps)
  unfolding under
  less_under key Pairs.empty = same-less Pairs.empty
  less_under key (Pairs.pair k i ps) = go (eqb k key) (less_under key ps)
    where
      go : (b : Bool) → Less ps (under key f ps) → Less (Pairs.pair k i ps) (Pairs.pair k (cond b (in_map f i) i) (under key f ps))
      go true l = less_pair k i (in_map f i) ps (under key f ps) (item_formed i) (item_shorter i) l
      go false l = less_pair k i i ps (under key f ps) (λ d o. o) (omega arith) l

-- PAYLOADS
pub map-some : (ps : Pairs) → 1 ≤ length (encode (Item.map ps))
map-some ps = omega (arith, map-long ps, len_positive (count_pairs ps))

pub less_fits : (ps qs : Pairs) → Less ps qs → Fits ps → Fits qs
less_fits ps qs r f = record { formed = map-formed ps qs r levels f.formed; short = omega (arith, map-shorter ps qs r, f.short) }
