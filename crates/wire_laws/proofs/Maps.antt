-- A map as a list of fields: what it holds, and that it is well formed. Assumes nothing.
use Prim.Native.Nat.{ℕ, suc, ◌+◌, ◌*◌, ◌^◌, ◌≤◌, ◌<◌}
use mathlib.Core.Path.{◌≡◌, refl, sym, ap, ◌∙◌}
use mathlib.Core.Bool.{Bool, true, false, cond, ◌&&◌, ◌||◌}
use mathlib.Core.List.{[], ◌∷◌}
use mathlib.Core.Option.{Option, some, none}
use native.Mathlib.Omega.{arith}
use lib.ListN.{length, length-append}
use lib.Dec.{leb, eqb}
use borrow.Author.Tests.{eqb-true, eqb-false, leb-true, ne_eqb}
use Rattle.wire_heads.specs.Head.{head_bytes}
use Rattle.wire_cbor.specs.Item.{Item, Pairs, encode, encode_pairs, count_pairs, Ok, OkPairs}
use Rattle.wire_cbor.specs.Find.{value_of}
use Rattle.wire_heads.proofs.Widths.{head-length, head-short, len_positive}
use Rattle.wire_cbor.proofs.SameValues.{same-values}
use Rattle.wire_fields.specs.Fields.{Fields, with_field, present}
use Rattle.wire_fields.specs.Puts.{field_bytes}
use Rattle.wire_fields.proofs.Joined.{and_left, and_right, or_left, or_right}
use Rattle.wire_fields.proofs.Added.{fields_none, fields_more, map-bytes}

-- what a list of fields has under a key
abbrev pub field_at : Fields → ℕ → Option Item
field_at [] k = none
field_at (f ∷ fs) k = cond (eqb f.0 k) f.1 (field_at fs k)

abbrev pub Ascending : Fields → ℕ → Type 0
Ascending [] lo = Unit {0}
Ascending (f ∷ fs) lo = (lo ≤ f.0) × Ascending fs (f.0 + 1)

below : (fs : Fields) (lo k : ℕ) → Ascending fs lo → k < lo → field_at fs k ≡ none
below [] lo k a h = refl
below (f ∷ fs) lo k a h = rw (ne_eqb f.0 k (λ e. omega (arith, a.0))) (below fs (f.0 + 1) k a.1 (omega (arith, a.0)))

with_value : (j : ℕ) (o : Option Item) (fs : Fields) (k : ℕ) → Ascending fs (j + 1) → value_of (present fs) k ≡ field_at fs k → value_of (with_field j o (present fs)) k ≡ cond (eqb j k) o (field_at fs k)
unfolding value_of
with_value j (some i) fs k a e = ap (λ (x : Option Item). cond (eqb j k) (some i) x) e
with_value j none fs k a e = go (eqb j k) refl
  where
    go : (b : Bool) → eqb j k ≡ b → value_of (present fs) k ≡ cond b none (field_at fs k)
    go true x = let q = eqb-true j k x in e ∙ below fs (j + 1) k a (omega arith)
    go false x = e

pub values : (fs : Fields) (lo k : ℕ) → Ascending fs lo → value_of (present fs) k ≡ field_at fs k
unfolding present value_of
values [] lo k a = refl
values (f ∷ fs) lo k a = with_value f.0 f.1 fs k a.1 (values fs (f.0 + 1) k a.1)

-- WELL FORMED
abbrev pub OkField : Option Item → ℕ → Type 0
OkField (some i) d = Ok i d
OkField none d = Unit {0}

abbrev pub OkFields : Fields → ℕ → Type 0
OkFields [] d = Unit {0}
OkFields (f ∷ fs) d = (f.0 < 2 ^ 64) × OkField f.1 d × OkFields fs d

pub lower : (ps : Pairs) (lo hi d : ℕ) → lo ≤ hi → OkPairs ps hi d → OkPairs ps lo d
unfolding OkPairs
lower Pairs.empty lo hi d h o = tt
lower (Pairs.pair k i ps) lo hi d h o = (omega (arith, o.0), o.1, o.2, o.3)

ok_with : (k : ℕ) (o : Option Item) (ps : Pairs) (lo d : ℕ) → lo ≤ k → k < 2 ^ 64 → OkField o d → OkPairs ps (k + 1) d → OkPairs (with_field k o ps) lo d
unfolding OkPairs
ok_with k (some i) ps lo d h g x r = (h, g, x, r)
ok_with k none ps lo d h g x r = lower ps lo (k + 1) d (omega arith) r

pub ok_fields : (fs : Fields) (lo d : ℕ) → Ascending fs lo → OkFields fs d → OkPairs (present fs) lo d
unfolding present OkPairs
ok_fields [] lo d a o = tt
ok_fields (f ∷ fs) lo d a o = ok_with f.0 f.1 (present fs) lo d a.0 o.0 o.1 (ok_fields fs (f.0 + 1) d a.1 o.2)

count-with : (k : ℕ) (o : Option Item) (ps : Pairs) → count_pairs (with_field k o ps) ≤ suc (count_pairs ps)
unfolding count_pairs
count-with k (some i) ps = omega arith
count-with k none ps = omega arith

pub count-fields : (fs : Fields) → count_pairs (present fs) ≤ length fs
unfolding present count_pairs
count-fields [] = omega arith
count-fields (f ∷ fs) = let r = count-fields fs in omega (arith, count-with f.0 f.1 (present fs))

-- a map of few fields, each well formed
pub ok_map : (fs : Fields) (d : ℕ) → length fs < 2 ^ 64 → Ascending fs 0 → OkFields fs d → Ok (Item.map (present fs)) (suc d)
unfolding Ok
ok_map fs d h a o = (omega (arith, count-fields fs), ok_fields fs 0 d a o)

-- SHORT
-- the value of a field is a head alone, or shorter
abbrev pub ShortFields : Fields → ℕ → Type 0
ShortFields [] n = Unit {0}
ShortFields (f ∷ fs) n = (length (field_bytes f.0 f.1) ≤ n) × ShortFields fs n

pub wider : (fs : Fields) (m n : ℕ) → m ≤ n → ShortFields fs m → ShortFields fs n
wider [] m n h s = tt
wider (f ∷ fs) m n h s = (omega (arith, s.0), wider fs m n h s.1)

pub short_map : (fs : Fields) (n : ℕ) → ShortFields fs n → length (encode_pairs (present fs)) ≤ length fs * n
short_map [] n h = rw fields_none (omega arith)
short_map (f ∷ fs) n h =
    let e = fields_more f.0 f.1 fs in
    let r = short_map fs n h.1 in
    rw (e, length-append) (omega (arith, h.0))

pub map-short : (fs : Fields) (n : ℕ) → ShortFields fs n → (1 ≤ length (encode (Item.map (present fs)))) × (length (encode (Item.map (present fs))) ≤ 9 + length fs * n)
map-short fs n h =
    let k = count_pairs (present fs) in
    let l : length (encode (Item.map (present fs))) ≡ length (head_bytes 5 k) + length (encode_pairs (present fs)) = rw (map-bytes, length-append) in
    (omega (arith, l, head-length 5 k, len_positive k), omega (arith, l, head-length 5 k, head-short k, short_map fs n h))

-- TWO MAPS THAT HOLD THE SAME
abbrev pub has_key : Fields → ℕ → Bool
has_key [] k = false
has_key (f ∷ fs) k = eqb f.0 k || has_key fs k

-- ps holds each field
abbrev pub Holds : Pairs → Fields → Type 0
Holds ps [] = Unit {0}
Holds ps (f ∷ fs) = (value_of ps f.0 ≡ f.1) × Holds ps fs

held : (ps : Pairs) (fs : Fields) (k : ℕ) → Holds ps fs → (has_key fs k ≡ false → value_of ps k ≡ none) → value_of ps k ≡ field_at fs k
held ps [] k h n = n refl
held ps (f ∷ fs) k h n = go (eqb f.0 k) refl n (λ m. held ps fs k h.1 m)
  where
    go : (b : Bool) → eqb f.0 k ≡ b → ((b || has_key fs k) ≡ false → value_of ps k ≡ none) → ((has_key fs k ≡ false → value_of ps k ≡ none) → value_of ps k ≡ field_at fs k)
        → value_of ps k ≡ cond b f.1 (field_at fs k)
    go true x n rest = ap (value_of ps) (sym (eqb-true f.0 k x)) ∙ h.0
    go false x n rest = rest n

-- well-formed pairs that hold the fields and no other key are the fields
pub same_map : (ps : Pairs) (fs : Fields) (lo d : ℕ) → OkPairs ps lo d → Ascending fs 0 → OkFields fs d → Holds ps fs → ((k : ℕ) → has_key fs k ≡ false → value_of ps k ≡ none) → present fs ≡ ps
same_map ps fs lo d o a f h n =
    sym (same-values ps (present fs) lo 0 d o (ok_fields fs 0 d a f) (λ k. held ps fs k h (n k) ∙ sym (values fs 0 k a)))

-- the keys of the fields are m, m + 1 and so on
abbrev pub Numbered : Fields → ℕ → Type 0
Numbered [] m = Unit {0}
Numbered (f ∷ fs) m = (f.0 ≡ m) × Numbered fs (m + 1)

outside : (fs : Fields) (m k : ℕ) → Numbered fs m → has_key fs k ≡ false → m ≤ k → k < m + length fs → ⊥
outside [] m k n h a b = omega arith
outside (f ∷ fs) m k n h a b =
    let e = eqb-false f.0 k (or_left (eqb f.0 k) (has_key fs k) h) in
    outside fs (m + 1) k n.1 (or_right (eqb f.0 k) (has_key fs k) h) (next m k a (λ z. e (n.0 ∙ z))) (omega arith)
  where
    next : (m k : ℕ) → m ≤ k → (m ≡ k → ⊥) → m + 1 ≤ k
    next m k a g = omega (arith, g)

-- a key that no field has is none of 1 to the number of fields
pub no_known : (fs : Fields) (k : ℕ) → Numbered fs 1 → has_key fs k ≡ false → (leb 1 k && leb k (length fs)) ≡ false
no_known fs k n h = go (leb 1 k && leb k (length fs)) refl
  where
    go : (b : Bool) → (leb 1 k && leb k (length fs)) ≡ b → b ≡ false
    go true e = absurd (outside fs 1 k n h (leb-true 1 k (and_left _ _ e)) (let x = leb-true k (length fs) (and_right (leb 1 k) _ e) in omega arith))
    go false e = refl
