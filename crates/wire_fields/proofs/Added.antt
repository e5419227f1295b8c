-- Bytes added one after the other. Assumes nothing.
use Rattle.std.specs.Prelude.{None, Some}
use Prim.Native.Nat.{ℕ, ◌+◌, ◌≤◌, ◌<◌}
use mathlib.Core.Path.{◌≡◌, refl, sym, ap, subst, ◌∙◌}
use mathlib.Core.Bool.{Bool, cond}
use mathlib.Core.List.{List, [], ◌∷◌, ◌++◌, append-nil, append_assoc}
use mathlib.Core.Option.{Option, some, none}
use native.Mathlib.Omega.{arith}
use lib.ListN.{length, take, drop, length-append}
use lib.Seq.{sets-eq, take_at, length-take-le}
use borrow.Author.Tests.{lt-ltb, le-ltb}
use lib.IntN.{pos, negsuc}
use Rattle.wire_bytes.specs.Bytes.{put, put_whole, past_whole}
use Rattle.wire_heads.specs.Head.{head_bytes, head_of}
use Rattle.wire_cbor.specs.Item.{Item, encode, encode_pairs, count_pairs}
use Rattle.wire_cbor.specs.Scan.{key_head_of}
use Rattle.wire_cbor.specs.declared.heads.KeyHead.{KeyHead}
use Rattle.wire_messages.specs.declared.Field.{Field}
use Rattle.wire_messages.specs.Options.{Amount}
use Rattle.wire_heads.proofs.Widths.{head-length, head-short}
use Rattle.wire_bytes.proofs.PutLaws.{put_whole_lem, length-put}
use Rattle.wire_fields.specs.Fields.{Fields, present, map_item, value_item, amount_item}
use Rattle.wire_fields.specs.Puts.{Adds, Puts, pair_bytes, field_bytes, key_head_bytes, pairs_of, pair_room, put_each, past_each, pair_pieces, field_pieces, key_head_pieces, PutsField}

adds_none : (s : List ℕ) (p n : ℕ) → Adds s p [] n s p
adds_none s p n = record { grows = sym (append-nil (take p s)); moved = omega arith; short = omega arith; kept = refl }

module _ {s t u a b : List ℕ} {p q r n k : ℕ} where
  adds_more : Adds s p a n t q → Adds t q b k u r → Adds s p (a ++ b) (n + k) u r
  adds_more x y = record {
    grows = y.grows ∙ ap (λ (l : List ℕ). l ++ b) x.grows ∙ append_assoc (take p s) a b;
    moved = omega (arith, x.moved, y.moved, length-append a b);
    short = omega (arith, x.short, y.short, length-append a b);
    kept = y.kept ∙ x.kept;
  }

adds_wider : {s t a : List ℕ} {p q n : ℕ} (k : ℕ) → n ≤ k → Adds s p a n t q → Adds s p a k t q
adds_wider k h x = record { grows = x.grows; moved = x.moved; short = omega (arith, x.short); kept = x.kept }

adds_same : {s t a b : List ℕ} {p q n : ℕ} → a ≡ b → Adds s p a n t q → Adds s p b n t q
adds_same {s} {t} {a} {b} {p} {q} {n} e x = subst (λ (l : List ℕ). Adds s p l n t q) e x

-- bytes that were put where they fit
adds_put : (s bs t : List ℕ) (p q n : ℕ) → p + length bs ≤ length s → length bs ≤ n → q ≡ p + length bs → t ≡ put s p bs → Adds s p bs n t q
unfolding put
adds_put s bs t p q n h l e z = record {
  grows = rw (e, z, sets-eq bs s p h) (take_at (take p s ++ bs) (drop (p + length bs) s) (p + length bs) (length-append (take p s) bs
      ∙ ap (λ (k : ℕ). k + length bs) (length-take-le p s (omega arith))));
  moved = e;
  short = l;
  kept = ap length z ∙ length-put s bs p;
}

-- a head that was written
adds_head : (s t : List ℕ) (p m v q : ℕ) → p + 9 ≤ length s → m < 8 → (q ≡ past_whole s p (head_of m v)) × (t ≡ put_whole s p (head_of m v)) → Adds s p (head_bytes m v) 9 t q
adds_head s t p m v q h lt w =
    let n : length (head_bytes m v) ≤ 9 = omega (arith, head-length m v, head-short v) in
    let x : (q ≡ past_whole s p (head_bytes m v)) × (t ≡ put_whole s p (head_bytes m v)) = rw (lt-ltb m 8 lt) at w in
    let y = put_whole_lem s (head_bytes m v) p (omega arith) in
    adds_put s (head_bytes m v) t p q 9 (omega arith) n (x.0 ∙ y.1) (x.1 ∙ y.0)

-- ADDED WHERE THERE IS ROOM
pub puts_none : (s : List ℕ) (p n : ℕ) → Puts s p [] n s p
puts_none s p n = record { fit = λ h. adds_none s p n }

module _ {s t u a b : List ℕ} {p q r n k : ℕ} where
  pub puts_more : Puts s p a n t q → Puts t q b k u r → Puts s p (a ++ b) (n + k) u r
  puts_more x y = record { fit = λ h. let z = x.fit (omega arith) in adds_more z (y.fit (omega (arith, z.moved, z.short, z.kept))) }

pub puts_wider : {s t a : List ℕ} {p q n : ℕ} (k : ℕ) → n ≤ k → Puts s p a n t q → Puts s p a k t q
puts_wider k l x = record { fit = λ h. adds_wider k l (x.fit (omega arith)) }

pub puts_same : {s t a b : List ℕ} {p q n : ℕ} → a ≡ b → Puts s p a n t q → Puts s p b n t q
puts_same e x = record { fit = λ h. adds_same e (x.fit h) }

pub puts_head : (s t : List ℕ) (p m v q : ℕ) → m < 8 → (q ≡ past_whole s p (head_of m v)) × (t ≡ put_whole s p (head_of m v)) → Puts s p (head_bytes m v) 9 t q
puts_head s t p m v q lt w = record { fit = λ h. adds_head s t p m v q h lt w }

-- a key and a head
pub puts_pair : (s t u : List ℕ) (p key m v q r : ℕ) → m < 8 → (q ≡ past_whole s p (head_of 0 key)) × (t ≡ put_whole s p (head_of 0 key))
    → (r ≡ past_whole t q (head_of m v)) × (u ≡ put_whole t q (head_of m v)) → Puts s p (pair_bytes key m v) pair_room u r
unfolding pair_bytes
puts_pair s t u p key m v q r lt w x = puts_more (puts_head s t p 0 key q (omega arith) w) (puts_head t u q m v r lt x)

pub field-pair : (s t u : List ℕ) (p key m v q r : ℕ) → m < 8 → (q ≡ past_whole s p (head_of 0 key)) × (t ≡ put_whole s p (head_of 0 key))
    → (r ≡ past_whole t q (head_of m v)) × (u ≡ put_whole t q (head_of m v)) → PutsField s p (pair_pieces key m v) (pair_bytes key m v) u r
unfolding put_each past_each
field-pair s t u p key m v q r lt w x =
    record {
      left = rw (← w.0, ← w.1) x.1;
      past = rw (← w.0, ← w.1) x.0;
      puts = puts_pair s t u p key m v q r lt w x;
    }

-- a field that is left out
pub field-none : (s : List ℕ) (p : ℕ) → PutsField s p [] [] s p
unfolding put_each past_each
field-none s p = record { left = refl; past = refl; puts = puts_none s p pair_room }

-- what is to be seen: a key and a head, or nothing
module _ (key : ℕ) (k : KeyHead) where
  pub key_head_put : k.major < 8 → {s t : List ℕ} {p q : ℕ} → PutsField s p (pair_pieces key k.major k.arg) (pair_bytes key k.major k.arg) t q
      → PutsField s p (key_head_pieces key k) (key_head_bytes key k) t q
  unfolding key_head_pieces key_head_bytes
  key_head_put l {s} {t} {p} h =
      let e = lt-ltb k.major 8 l in
      let x : key_head_pieces key k ≡ pair_pieces key k.major k.arg = ap (λ (b : Bool). cond b (pair_pieces key k.major k.arg) []) e in
      let y : key_head_bytes key k ≡ pair_bytes key k.major k.arg = ap (λ (b : Bool). cond b (pair_bytes key k.major k.arg) []) e in
      record { left = h.left ∙ ap (put_each s p) (sym x); past = h.past ∙ ap (past_each s p) (sym x); puts = puts_same (sym y) h.puts }

  pub key_head_none : 8 ≤ k.major → (s : List ℕ) (p : ℕ) → PutsField s p (key_head_pieces key k) (key_head_bytes key k) s p
  unfolding key_head_pieces key_head_bytes
  key_head_none l s p = rw (le-ltb k.major 8 l) (field-none s p)

-- ITEMS THAT ARE THEIR HEADS: numbers and simple values
abbrev pub Flat : Option Item → Type 0
Flat none = Unit {0}
Flat (some (Item.uint v)) = Unit {0}
Flat (some (Item.nint v)) = Unit {0}
Flat (some (Item.bytes b)) = ⊥
Flat (some (Item.text b)) = ⊥
Flat (some (Item.array is)) = ⊥
Flat (some (Item.map ps)) = ⊥
Flat (some (Item.simple v)) = Unit {0}

module _ (key : ℕ) where
  pub flat-bytes : (o : Option Item) → Flat o → key_head_bytes key (key_head_of o) ≡ field_bytes key o
  unfolding key_head_bytes pair_bytes field_bytes encode key_head_of
  flat-bytes none f = refl
  flat-bytes (some (Item.uint v)) f = refl
  flat-bytes (some (Item.nint v)) f = refl
  flat-bytes (some (Item.bytes b)) f = absurd f
  flat-bytes (some (Item.text b)) f = absurd f
  flat-bytes (some (Item.array is)) f = absurd f
  flat-bytes (some (Item.map ps)) f = absurd f
  flat-bytes (some (Item.simple v)) f = refl

  flat-pieces : (o : Option Item) → Flat o → key_head_pieces key (key_head_of o) ≡ field_pieces key o
  unfolding key_head_pieces field_pieces encode key_head_of
  flat-pieces none f = refl
  flat-pieces (some (Item.uint v)) f = refl
  flat-pieces (some (Item.nint v)) f = refl
  flat-pieces (some (Item.bytes b)) f = absurd f
  flat-pieces (some (Item.text b)) f = absurd f
  flat-pieces (some (Item.array is)) f = absurd f
  flat-pieces (some (Item.map ps)) f = absurd f
  flat-pieces (some (Item.simple v)) f = refl

  -- put by its head, it is put
  pub flat-put : (o : Option Item) → Flat o → (k : KeyHead) → k ≡ key_head_of o → {s t : List ℕ} {p q : ℕ} → PutsField s p (key_head_pieces key k) (key_head_bytes key k) t q
      → PutsField s p (field_pieces key o) (field_bytes key o) t q
  flat-put o f k e h = rw (← flat-bytes o f, ← flat-pieces o f, ← e) h

pub flat-value : (f : Field) → Flat (value_item f)
unfolding value_item
flat-value Field.Absent = tt
flat-value Field.Null = tt
flat-value (Field.Value (pos n)) = tt
flat-value (Field.Value (negsuc n)) = tt

pub flat-amount : (a : Amount) → Flat (amount_item a)
unfolding amount_item
flat-amount None = tt
flat-amount (Some v) = tt

-- what was put at the front of a buffer that has the room
pub puts_fit : {s t a : List ℕ} {q n : ℕ} → n ≤ length s → Puts s 0 a n t q → Adds s 0 a n t q
puts_fit h x = x.fit (omega arith)

-- THE FIELDS OF A MAP
pub map-bytes : (fs : Fields) → encode (Item.map (present fs)) ≡ head_bytes 5 (count_pairs (present fs)) ++ encode_pairs (present fs)
unfolding encode
map-bytes fs = refl

pub fields_none : encode_pairs (present []) ≡ []
unfolding encode_pairs present
fields_none = refl

pub fields_more : (k : ℕ) (o : Option Item) (fs : Fields) → encode_pairs (present ((k, o) ∷ fs)) ≡ field_bytes k o ++ encode_pairs (present fs)
unfolding encode_pairs present field_bytes
fields_more k (some i) fs = sym (append_assoc (head_bytes 0 k) (encode i) (encode_pairs (present fs)))
fields_more k none fs = refl

pub count_none : count_pairs (present []) ≡ 0
unfolding count_pairs present
count_none = refl

pub count-more : (k : ℕ) (o : Option Item) (fs : Fields) → count_pairs (present ((k, o) ∷ fs)) ≡ pairs_of o + count_pairs (present fs)
unfolding count_pairs present
count-more k (some i) fs = omega arith
count-more k none fs = omega arith

pub pairs_small : (o : Option Item) → pairs_of o ≤ 1
pairs_small (some i) = omega arith
pairs_small none = omega arith

pub fields_one : (k : ℕ) (o : Option Item) → encode_pairs (present ((k, o) ∷ [])) ≡ field_bytes k o
fields_one k o = fields_more k o [] ∙ rw fields_none (append-nil (field_bytes k o))

-- a map under a key: the key and the head, then the pairs
pub under-key : (k n : ℕ) (fs : Fields) → n ≡ count_pairs (present fs) → pair_bytes k 5 n ++ encode_pairs (present fs) ≡ field_bytes k (map_item fs)
unfolding pair_bytes field_bytes
under-key k n fs e = rw (e, map-bytes fs) (append_assoc (head_bytes 0 k) (head_bytes 5 (count_pairs (present fs))) (encode_pairs (present fs)))

-- one field
pub one_count : (k n : ℕ) (o : Option Item) → n ≡ pairs_of o → n ≡ count_pairs (present ((k, o) ∷ []))
one_count k n o e = rw (count-more, count_none) (omega arith)
