-- A map of phases, from what is seen of it, and as the bytes that are put. Assumes nothing.
use Rattle.std.specs.Prelude
use Prim.Native.Nat.{ℕ, ◌+◌, ◌≤◌}
use mathlib.Core.Path.{◌≡◌, refl, sym, ap, ◌∙◌}
use mathlib.Core.Bool.{Bool, true, false, cond, ◌&&◌}
use mathlib.Core.List.{List, [], ◌∷◌, ◌++◌, append_assoc}
use mathlib.Core.Option.{Option, some, none, bind}
use native.Mathlib.Omega.{arith}
use lib.Dec.{ltb, eqb}
use Rattle.std.specs.Bool.{then_some}
use Rattle.wire_bytes.specs.Bytes.{put_whole, past_whole}
use Rattle.wire_cbor.specs.Item.{Item, Pairs, encode_pairs, count_pairs, is_some}
use Rattle.wire_cbor.specs.Find.{value_of}
use Rattle.wire_cbor.specs.Scan.{key_head_of, pairs_in}
use Rattle.wire_cbor.specs.declared.heads.KeyHead.{KeyHead}
use Rattle.wire_fields.specs.Fields.{map_in, needed, present}
use Rattle.wire_fields.specs.Ranges.{numeric}
use Rattle.wire_fields.specs.Seen.{numeric_seen, phases_seen}
use Rattle.wire_fields.specs.Puts.{Puts, PutsField, pair_bytes, field_bytes, key_head_bytes, pairs_of, pair_pieces, key_head_pieces, put_each, past_each}
use Rattle.wire_fields.specs.KeyHeads.{found, Tells}
use Rattle.wire_fields.specs.ByPhase.{seen_of, phases_named, only_phases, each_phase, by_phase, phases_fit, PhasesTell, PhasesRead, phase_fields, phase_map, phases_bytes, phases_room, PutsPhases}
use Rattle.wire_fields.specs.Laws.{phase_key_head, ByRange, PhasesByRange}
use Rattle.wire_fields.specs.declared.ranges.Range.{Range}
use Rattle.wire_fields.proofs.Given.{given_found}
use Rattle.wire_fields.proofs.RangeLaws.{number_tells}
use Rattle.wire_fields.proofs.Parts.{then, last}
use Rattle.wire_fields.proofs.Added.{Flat, flat-bytes, under-key, fields_more, fields_one, count-more, count_none, puts_more, puts_same}

-- READING
-- a head is of a pair where something is there
seen-pairs : (o : Option Item) → seen_of (key_head_of o) ≡ pairs_of o
unfolding key_head_of
seen-pairs none = refl
seen-pairs (some (Item.uint v)) = refl
seen-pairs (some (Item.nint v)) = refl
seen-pairs (some (Item.bytes b)) = refl
seen-pairs (some (Item.text b)) = refl
seen-pairs (some (Item.array is)) = refl
seen-pairs (some (Item.map m)) = refl
seen-pairs (some (Item.simple v)) = refl

pub seen-small : (k : KeyHead) → seen_of k ≤ 1
seen-small k = go (ltb k.major 8) refl where
  go : (b : Bool) → ltb k.major 8 ≡ b → seen_of k ≤ 1
  go true e = rw e (omega arith)
  go false e = rw e (omega arith)

-- a map of nothing but phases, by what is seen of it
map_of_lem : {Y : Type 0} (g : Pairs → Option Y) (o : Option Item) → bind (needed map_in o) (λ ps. cond (only_phases ps) (g ps) none)
    ≡ cond (is_some (needed map_in o) && only_phases (pairs_in o)) (g (pairs_in o)) none
unfolding bind needed map_in
map_of_lem g none = refl
map_of_lem g (some (Item.uint v)) = refl
map_of_lem g (some (Item.nint v)) = refl
map_of_lem g (some (Item.bytes b)) = refl
map_of_lem g (some (Item.text b)) = refl
map_of_lem g (some (Item.array is)) = refl
map_of_lem g (some (Item.map m)) = refl
map_of_lem g (some (Item.simple v)) = refl

map-seen : (o : Option Item) → (is_some (needed map_in o) && only_phases (pairs_in o)) ≡ (eqb (key_head_of o).major 5 && eqb (key_head_of o).arg (phases_named (pairs_in o)))
unfolding needed map_in key_head_of only_phases
map-seen none = refl
map-seen (some (Item.uint v)) = refl
map-seen (some (Item.nint v)) = refl
map-seen (some (Item.bytes b)) = refl
map-seen (some (Item.text b)) = refl
map-seen (some (Item.array is)) = refl
map-seen (some (Item.map m)) = refl
map-seen (some (Item.simple v)) = refl

when_found : {Y : Type 0} (s t ok : Bool) (o : Option Y) (y : Y) → o ≡ found ok y → cond (s && t) o none ≡ found (s && (t && ok)) y
when_found true true ok o y e = e
when_found true false ok o y e = refl
when_found false t ok o y e = refl

and-and : (a b c : Bool) → ((a && b) && c) ≡ (a && (b && c))
and-and true b c = refl
and-and false b c = refl

pub phases-by_range : PhasesByRange
unfolding by_phase each_phase phases_fit
phases-by_range X Y g null f x join by o =
    let ps = pairs_in o in
    let n : ℕ → Bool = λ k. numeric g null (value_of ps k) in
    let y = join (x (phase_key_head o 0)) (x (phase_key_head o 1)) (x (phase_key_head o 2)) in
    map_of_lem (each_phase f join) o
    ∙ when_found (is_some (needed map_in o)) (only_phases ps) (n 0 && (n 1 && n 2)) _ y
    (then (x (phase_key_head o 0)) y _ (n 0) (n 1 && n 2) (by (value_of ps 0)) (then (x (phase_key_head o 1)) y _ (n 1) (n 2) (by (value_of ps 1)) (last (x (phase_key_head o 2)) _ (n 2) (by (value_of ps 2)))))

-- the one test, by what is seen
module _ (g : Range) (null : Bool) (k a b c : KeyHead) where
  pub phases_seen_tell : (r : Bool) → r ≡ phases_seen g null k a b c → PhasesTell k a b c (phases_fit g null) r
  unfolding PhasesTell Tells phases_fit phases_named
  phases_seen_tell r e o ke ae be ce =
      let t : Bool = eqb k.major 5 && eqb k.arg (seen_of a + (seen_of b + seen_of c)) in
      let at : numeric g null (value_of (pairs_in o) 0) ≡ numeric_seen g null a = number_tells g null a _ refl _ ae in
      let bt : numeric g null (value_of (pairs_in o) 1) ≡ numeric_seen g null b = number_tells g null b _ refl _ be in
      let ct : numeric g null (value_of (pairs_in o) 2) ≡ numeric_seen g null c = number_tells g null c _ refl _ ce in
      let p : (j : ℕ) → seen_of (phase_key_head o j) ≡ pairs_of (value_of (pairs_in o) j) = λ (j : ℕ). seen-pairs (value_of (pairs_in o) j) in
      let n : seen_of a + (seen_of b + seen_of c) ≡ phases_named (pairs_in o) = rw (ae, be, ce, p 0, p 1, p 2) refl in
      let q : (is_some (needed map_in o) && only_phases (pairs_in o)) ≡ t = map-seen o ∙ rw (← n, ← ke) refl in
      rw (at, bt, ct, e, ← q) (sym (and-and (is_some (needed map_in o)) (only_phases (pairs_in o)) (numeric_seen g null a && (numeric_seen g null b && numeric_seen g null c))))

-- what a reader makes of the phases, by the one test
module _ {X Y : Type 0} (g : Range) (null : Bool) (f : Option Item → Option X) (x : KeyHead → X) (join : X → X → X → Y) (by : ByRange g null f x) (k a b c : KeyHead) where
  pub phases-read : (t : Bool) → PhasesTell k a b c (phases_fit g null) t → (u v w : X) → u ≡ x a → v ≡ x b → w ≡ x c
      → (r : Prelude.Option Y) → r ≡ then_some t (join u v w) → PhasesRead k a b c (by_phase f join) r
  unfolding PhasesTell PhasesRead
  phases-read t h u v w ue ve we r re o ke ae be ce =
      phases-by_range X Y g null f x join by o ∙ rw (h o ke ae be ce, re, ue, ve, we, ae, be, ce) (given_found t _)

-- WRITING
-- pieces behind pieces
each_more : (s : List ℕ) (p : ℕ) (xs bs : List (List ℕ)) → put_each s p (xs ++ bs) ≡ put_each (put_each s p xs) (past_each s p xs) bs
unfolding put_each past_each
each_more s p [] bs = refl
each_more s p (a ∷ xs) bs = each_more (put_whole s p a) (past_whole s p a) xs bs

past_more : (s : List ℕ) (p : ℕ) (xs bs : List (List ℕ)) → past_each s p (xs ++ bs) ≡ past_each (put_each s p xs) (past_each s p xs) bs
unfolding put_each past_each
past_more s p [] bs = refl
past_more s p (a ∷ xs) bs = past_more (put_whole s p a) (past_whole s p a) xs bs

abbrev Lays : List ℕ → ℕ → List (List ℕ) → List ℕ → ℕ → Type 0
Lays s p xs t q = (t ≡ put_each s p xs) × (q ≡ past_each s p xs)

lays_more : (s : List ℕ) (p : ℕ) (t u : List ℕ) (q r : ℕ) (xs ys : List (List ℕ)) → Lays s p xs t q → Lays t q ys u r → Lays s p (xs ++ ys) u r
lays_more s p t u q r xs ys h i = (i.0 ∙ rw (h.0, h.1) (sym (each_more s p xs ys)), i.1 ∙ rw (h.0, h.1) (sym (past_more s p xs ys)))

lays : {s t bs : List ℕ} {p q : ℕ} {xs : List (List ℕ)} → PutsField s p xs bs t q → Lays s p xs t q
lays h = (h.left, h.past)

-- three pairs, one behind the other
pub phases-put : {a b c : KeyHead} {s t u v : List ℕ} {p q r x : ℕ} → PutsField s p (key_head_pieces 0 a) (key_head_bytes 0 a) t q → PutsField t q (key_head_pieces 1 b) (key_head_bytes 1 b) u r
    → PutsField u r (key_head_pieces 2 c) (key_head_bytes 2 c) v x → PutsPhases s p a b c v x
phases-put {a} {b} {c} {s} {t} {u} {v} {p} {q} {r} {x} h i j =
    let f = lays_more t q u v r x (key_head_pieces 1 b) (key_head_pieces 2 c) (lays i) (lays j) in
    let l = lays_more s p t v q x (key_head_pieces 0 a) _ (lays h) f in
    record { left = l.0; past = l.1; puts = puts_more (puts_more h.puts i.puts) j.puts }

module _ (key : ℕ) (a b c : Option Item) (fa : Flat a) (fb : Flat b) (fc : Flat c) where
  phase-count : seen_of (key_head_of a) + (seen_of (key_head_of b) + seen_of (key_head_of c)) ≡ count_pairs (present (phase_fields a b c))
  phase-count = rw (seen-pairs a, seen-pairs b, seen-pairs c, count-more, count-more, count-more, count_none) (omega arith)

  phase_pairs : phases_bytes (key_head_of a) (key_head_of b) (key_head_of c) ≡ encode_pairs (present (phase_fields a b c))
  phase_pairs = rw (flat-bytes 0 a fa, flat-bytes 1 b fb, flat-bytes 2 c fc, fields_more, fields_more, fields_one) (append_assoc (field_bytes 0 a) (field_bytes 1 b) (field_bytes 2 c))

  -- the head of the map, with the count of its pairs, and the pairs: the map under its key
  pub phases-under : (n : ℕ) → n ≡ seen_of (key_head_of a) + (seen_of (key_head_of b) + seen_of (key_head_of c))
      → pair_bytes key 5 n ++ phases_bytes (key_head_of a) (key_head_of b) (key_head_of c) ≡ field_bytes key (phase_map a b c)
  phases-under n e = ap (λ (l : List ℕ). pair_bytes key 5 n ++ l) phase_pairs ∙ under-key key n (phase_fields a b c) (e ∙ phase-count)

  pub puts_map : {s t u : List ℕ} {p q r n : ℕ} → n ≡ seen_of (key_head_of a) + (seen_of (key_head_of b) + seen_of (key_head_of c))
      → PutsField s p (pair_pieces key 5 n) (pair_bytes key 5 n) t q → PutsPhases t q (key_head_of a) (key_head_of b) (key_head_of c) u r
      → Puts s p (field_bytes key (phase_map a b c)) phases_room u r
  puts_map {n = n} e h i = puts_same (phases-under n e) (puts_more h.puts i.puts)
