-- Bytes added where there is room for them and the spare, and how few they are. Assumes nothing.
use Prim.Native.Nat.{ℕ, ◌+◌, ◌*◌, ◌≤◌, ◌<◌}
use mathlib.Core.Path.{◌≡◌, sym, ap, ◌∙◌}
use mathlib.Core.List.{List, [], ◌∷◌, ◌++◌}
use mathlib.Core.Option.{Option, some, none}
use native.Mathlib.Omega.{arith}
use lib.ListN.{length, take, length-append}
use lib.IntN.{pos, negsuc}
use Rattle.wire_bytes.specs.Bytes.{put_whole, past_whole}
use Rattle.wire_heads.specs.Head.{head_bytes, head_len, head_of}
use Rattle.wire_heads.proofs.Widths.{by_width, head-length, head-short}
use Rattle.wire_cbor.specs.Item.{Item, encode, encode_pairs, count_pairs}
use Rattle.wire_cbor.specs.Scan.{key_head_of}
use Rattle.wire_cbor.specs.declared.heads.KeyHead.{KeyHead}
use Rattle.wire_fields.specs.Fields.{Fields, present}
use Rattle.wire_fields.specs.Puts.{Puts, PutsField, pair_bytes, field_bytes, key_head_bytes, pair_pieces, key_head_pieces}
use Rattle.wire_fields.specs.ByPhase.{seen_of, phase_map, PutsPhases}
use Rattle.wire_fields.proofs.Added.{puts_none, puts_more, puts_head, puts_fit, flat-put, pairs_small, map-bytes, fields_more, fields_one, count-more, count_none}
use Rattle.wire_fields.proofs.PhaseLaws.{puts_map}
use Rattle.wire_output.specs.declared.Written.{Written}
use Rattle.wire_output.proofs.Sends.{Writes}
use Rattle.measurement_table.specs.Table.{rows}
use Rattle.measurement_table.specs.Cells.{Cell, cell_item, fields_of}
use Rattle.measurement_table.specs.Words.{held}
use Rattle.measurement_table.specs.Payload.{item_of}
use Rattle.measurement_writer.specs.Room.{spare, rows_room, payload_room, PutsShort}
use Rattle.measurement_writer.proofs.Cases.{flat-cell}

-- ADDED
pub shorts_none : (s : List ℕ) (p n : ℕ) → PutsShort s p [] n s p
shorts_none s p n = record { fit = λ h. (puts_none s p n).fit (omega arith) }

module _ {s t u a b : List ℕ} {p q r n k : ℕ} where
  pub shorts_more : PutsShort s p a n t q → PutsShort t q b k u r → PutsShort s p (a ++ b) (n + k) u r
  shorts_more x y = record {
    fit = λ h.
        let v = x.fit (omega arith) in
        let w = y.fit (omega (arith, v.moved, v.short, v.kept)) in
        let z : Puts s p (a ++ b) (n + k) u r = puts_more (record { fit = λ e. v }) (record { fit = λ e. w }) in
        z.fit (omega arith);
  }

pub shorts_same : {s t a b : List ℕ} {p q n : ℕ} → a ≡ b → PutsShort s p a n t q → PutsShort s p b n t q
shorts_same e x = rw (← e) x

pub shorts_room : {s t a : List ℕ} {p q n k : ℕ} → n ≡ k → PutsShort s p a n t q → PutsShort s p a k t q
shorts_room e x = rw (← e) x

-- what asks for more room than it takes
shorts : {s t a : List ℕ} {p q n : ℕ} (k : ℕ) → n ≤ k + spare → length a ≤ k → Puts s p a n t q → PutsShort s p a k t q
shorts k h l x = record { fit = λ e. let v = x.fit (omega arith) in record { grows = v.grows; moved = v.moved; short = l; kept = v.kept } }

-- HOW FEW
key_short : (k : ℕ) → k < 256 → head_len k ≤ 2
unfolding head_len
key_short k l = by_width (λ i w. 1 + w ≤ 2) k (λ h. omega arith) (λ g h. omega arith) (λ g h. omega arith) (λ g h. omega arith) (λ g. omega arith)

small_short : (k : ℕ) → k < 24 → head_len k ≤ 1
unfolding head_len
small_short k l = by_width (λ i w. 1 + w ≤ 1) k (λ h. omega arith) (λ g h. omega arith) (λ g h. omega arith) (λ g h. omega arith) (λ g. omega arith)

cell-short : (k : ℕ) (c : Cell) → length (field_bytes k (cell_item c)) ≤ head_len k + 9
unfolding cell_item field_bytes encode
cell-short k none = omega arith
cell-short k (some (pos n)) = rw length-append (omega (arith, head-length 0 k, head-length 0 n, head-short n))
cell-short k (some (negsuc n)) = rw length-append (omega (arith, head-length 0 k, head-length 1 n, head-short n))

abbrev three : Cell → Cell → Cell → Fields
three x y z = (0, cell_item x) ∷ (1, cell_item y) ∷ (2, cell_item z) ∷ []

three_few : (x y z : Cell) → count_pairs (present (three x y z)) ≤ 3
three_few x y z = rw (count-more, count-more, count-more, count_none) (omega (arith, pairs_small (cell_item x), pairs_small (cell_item y), pairs_small (cell_item z)))

three_short : (x y z : Cell) → length (encode_pairs (present (three x y z))) ≤ 30
three_short x y z =
    rw (fields_more, fields_more, fields_one, length-append, length-append)
    (omega (arith, cell-short 0 x, cell-short 1 y, cell-short 2 z, small_short 0 (omega arith), small_short 1 (omega arith), small_short 2 (omega arith)))

map-short : (k : ℕ) (x y z : Cell) → k < 256 → length (field_bytes k (phase_map (cell_item x) (cell_item y) (cell_item z))) ≤ 33
unfolding field_bytes
map-short k x y z l =
    let n = count_pairs (present (three x y z)) in
    rw (map-bytes, length-append, length-append)
    (omega (arith, head-length 0 k, key_short k l, head-length 5 n, small_short n (omega (arith, three_few x y z)), three_short x y z))

-- ONE NUMBER
pub one_put : (k : ℕ) → k < 256 → (c : Cell) (o : Option Item) → cell_item c ≡ o → (w : ℕ) → w ≡ 1 → (a : KeyHead) → a ≡ key_head_of (cell_item c) → {s t : List ℕ} {p q : ℕ}
    → PutsField s p (key_head_pieces k a) (key_head_bytes k a) t q → PutsShort s p (field_bytes k o) (11 * w) t q
one_put k l c o oe w we a ae h =
    let x = (flat-put k (cell_item c) (flat-cell c) a ae h).puts in
    rw (← oe, we) (shorts 11 (omega arith) (omega (arith, cell-short k c, key_short k l)) x)

-- THREE PHASES
pub three_left_out : (o : Option Item) → none ≡ o → (k n : ℕ) (s : List ℕ) (p : ℕ) → PutsShort s p (field_bytes k o) n s p
unfolding field_bytes
three_left_out o e k n s p = rw (← e) (shorts_none s p n)

pub three_put : (k : ℕ) → k < 256 → (x y z : Cell) (o : Option Item) → phase_map (cell_item x) (cell_item y) (cell_item z) ≡ o → (w : ℕ) → w ≡ 3 → (a b c : KeyHead)
    → a ≡ key_head_of (cell_item x) → b ≡ key_head_of (cell_item y) → c ≡ key_head_of (cell_item z) → (n : ℕ) → n ≡ seen_of a + (seen_of b + seen_of c) → {s t u : List ℕ} {p q r : ℕ}
    → PutsField s p (pair_pieces k 5 n) (pair_bytes k 5 n) t q → PutsPhases t q a b c u r → PutsShort s p (field_bytes k o) (11 * w) u r
three_put k l x y z o oe w we a b c ae be ce n ne h i =
    let m : n ≡ seen_of (key_head_of (cell_item x)) + (seen_of (key_head_of (cell_item y)) + seen_of (key_head_of (cell_item z))) = rw (ae, be, ce) at ne in
    let j : PutsPhases _ _ (key_head_of (cell_item x)) (key_head_of (cell_item y)) (key_head_of (cell_item z)) _ _ = rw (ae, be, ce) at i in
    rw (← oe, we)
    (shorts 33 (omega arith) (map-short k x y z l) (puts_map k (cell_item x) (cell_item y) (cell_item z) (flat-cell x) (flat-cell y) (flat-cell z) m h j))

-- A PAYLOAD
pub payload_put : (ws : List ℕ) (n : ℕ) → n ≡ count_pairs (present (fields_of rows (held ws))) → n ≤ 24 → (s t u : List ℕ) (q r : ℕ)
    → (q ≡ past_whole s 0 (head_of 5 n)) × (t ≡ put_whole s 0 (head_of 5 n)) → PutsShort t q (encode_pairs (present (fields_of rows (held ws)))) rows_room u r
    → Puts s 0 (encode (item_of (held ws))) payload_room u r
unfolding item_of
payload_put ws n e l s t u q r h x =
    let y = shorts 2 (omega arith) (omega (arith, head-length 5 n, key_short n (omega arith))) (puts_head s t 0 5 n q (omega arith) h) in
    let z = shorts_same (ap (λ (m : ℕ). head_bytes 5 m ++ encode_pairs (present (fields_of rows (held ws)))) e ∙ sym (map-bytes (fields_of rows (held ws)))) (shorts_more y x) in
    record { fit = λ f. let v = z.fit (omega arith) in record { grows = v.grows; moved = v.moved; short = omega (arith, v.short); kept = v.kept } }

pub deliver_item : (i : Item) (out : List ℕ) {room n : ℕ} {buf local left : List ℕ} {w : Written} → room ≤ length buf → Puts buf 0 (encode i) room local n
    → Writes 0 (take n local) out w left → Writes 0 (encode i) out w left
deliver_item i out h p x = rw (← (puts_fit h p).grows) x
