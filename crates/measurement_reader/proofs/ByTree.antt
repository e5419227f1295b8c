-- A payload is read as its tree says. Assumes nothing.
use Prim.Native.Nat.{ℕ, suc, ◌+◌}
use mathlib.Core.Path.{◌≡◌, refl, sym, ap, ◌∙◌}
use mathlib.Core.Bool.{Bool, true, false, cond}
use mathlib.Core.List.{List, [], ◌∷◌, ◌++◌, append-nil}
use mathlib.Core.Option.{some, none, bind}
use native.Mathlib.Omega.{arith}
use lib.ListN.{length, length-append}
use lib.Seq.{sets, sets-eq, drop-length}
use lib.Dec.{eqb}
use borrow.Author.Tests.{eq-eqb, ne_eqb}
use Rattle.wire_bytes.specs.Bytes.{Bytes}
use Rattle.std.specs.Prelude.{Some, None}
use Rattle.wire_heads.specs.Head.{HeadRead, head_is, head_at}
use Rattle.wire_cbor.specs.Item.{Item, got, item_at, encode, payload_of, is_some, levels}
use Rattle.wire_cbor.specs.Find.{seek_at}
use Rattle.wire_cbor.proofs.Payload.{payload_exact}
use Rattle.wire_cbor.proofs.Complete.{item_reads_back}
use Rattle.wire_cbor.proofs.Seen.{read_head_of}
use Rattle.wire_cbor.proofs.Walks.{walk-starts}
use Rattle.refusals.specs.Refusals.{first_of}
use Rattle.wire_fields.specs.Fields.{map_in}
use Rattle.wire_fields.proofs.Joined.{is-some}
use Rattle.measurement_reader.proofs.Options.{no_value, same-inside, bind-parts, map-part}
use Rattle.measurement_table.specs.Table.{rows, places}
use Rattle.measurement_table.specs.Cells.{Cell, rows_in}
use Rattle.measurement_table.specs.Payload.{length_fits, cells_of, read_number, flat_or, read_after}
use Rattle.measurement_table.specs.Words.{flat}
use Rattle.measurement_reader.specs.Walk.{Filled, row_at, next_at, rows_at, payload_at}
use Rattle.measurement_table.specs.declared.attributes.Row.{Row}
use Rattle.measurement_reader.proofs.Walked.{rows-walk}
use Rattle.measurement_reader.proofs.Rows.{row-long, flat-long, filled-some, filled_none}
use Rattle.measurement_table.proofs.Order.{table, table-long}

rows_long : (s : List ℕ) (d : ℕ) (rs : List Row) (n q : ℕ) (cs : List Cell) → rows_at s d rs n q ≡ some cs → length cs ≡ places rs
unfolding rows_at places
rows_long s d [] n q cs e = ap length (sym (same-inside e))
rows_long s d (r ∷ rs) n q cs e =
    let w = seek_at s (suc d) r.0 n q in
    let on = next_at s (suc d) w.there w.at in
    let b = bind-parts (row_at s d r w.there w.at) _ cs e in
    let m = map-part (λ (l : List Cell). b.0 ++ l) (rows_at s d rs w.left on) cs b.2 in
    let x = row-long s d r w.there w.at b.0 b.1 in
    let y = rows_long s d rs w.left on m.0 m.1 in
    rw (← m.2) (omega (arith, length-append b.0 m.0))

payload_long : (s : List ℕ) (h : HeadRead) (cs : List Cell) → payload_at s h ≡ some cs → length cs ≡ 36
unfolding payload_at
payload_long s (Some h) cs e = go (eqb h.major 5) e
  where
    go : (b : Bool) → cond b (rows_at s 6 rows h.arg h.next) none ≡ some cs → length cs ≡ 36
    go true x = rows_long s 6 rows h.arg h.next cs x ∙ table-long.1
    go false x = absurd (no_value x)
payload_long s None cs e = absurd (no_value e)

-- all places at once
sets-whole : (ws vs : List ℕ) → length vs ≡ length ws → sets ws 0 vs ≡ vs
sets-whole ws vs e =
    let z : 0 + length vs ≡ length ws = omega arith in
    sets-eq vs ws 0 (omega arith) ∙ rw (z, drop-length) (append-nil vs)

module _ (s : List ℕ) (ok : Bytes s) where
  item_whole : (i : Item) → payload_of s ≡ some i → item_at s levels 0 ≡ got i (0 + length (encode i))
  item_whole i p = let x = (payload_exact s ok i).0 p in item_reads_back s [] levels 0 i x.0 (sym (append-nil (encode i) ∙ x.1))

  tree : (i : Item) (e : ℕ) → item_at s 8 0 ≡ got i e → payload_at s (head_at s 0) ≡ bind (map_in i) (rows_in rows)
  unfolding payload_at map_in bind
  tree (Item.uint v) e h = rw (read_head_of s ok 8 0 e (Item.uint v) h)
  tree (Item.nint v) e h = rw (read_head_of s ok 8 0 e (Item.nint v) h)
  tree (Item.bytes b) e h = rw (read_head_of s ok 8 0 e (Item.bytes b) h)
  tree (Item.text b) e h = rw (read_head_of s ok 8 0 e (Item.text b) h)
  tree (Item.array is) e h = rw (read_head_of s ok 8 0 e (Item.array is) h)
  tree (Item.map ps) e h =
      let x = walk-starts s ok 7 0 e ps h in
      rw x.2 (rows-walk s ok 6 rows 0 x.0 x.1 ps table.0 x.3)
  tree (Item.simple v) e h = rw (read_head_of s ok 8 0 e (Item.simple v) h)

  -- the places of a payload are those that the walk finds
  pub payload_walk : (i : Item) → payload_of s ≡ some i → payload_at s (head_at s 0) ≡ cells_of s
  unfolding cells_of bind
  payload_walk i p = rw p (tree i (0 + length (encode i)) (item_whole i p))

-- REFUSED OR READ, with the words before
module _ (s before : List ℕ) (b : Bool) (be : b ≡ length_fits s) where
  stays : (n : ℕ) → n ≡ read_number s → (n ≡ 0 → ⊥) → (n ≡ read_number s) × (before ≡ read_after s before)
  unfolding read_after
  stays n e h = (e, rw (ne_eqb (read_number s) 0 (λ z. h (e ∙ z))) refl)

  pub read_length : b ≡ false → (1 ≡ read_number s) × (before ≡ read_after s before)
  unfolding read_number first_of
  read_length f = stays 1 (rw (sym be ∙ f) refl) (λ z. omega arith)

  module _ (f : b ≡ true) (t : Bool) (te : t ≡ is_some (payload_of s)) where
    pub read_item : t ≡ false → (2 ≡ read_number s) × (before ≡ read_after s before)
    unfolding read_number first_of
    read_item g = stays 2 (rw (sym be ∙ f, sym te ∙ g) refl) (λ z. omega arith)

    module _ (g : t ≡ true) (ok : Bytes s) (ws ws' : List ℕ) (r : Bool) (h : Filled (payload_at s (head_at s 0)) 0 ws r ws') where
      the_walk : payload_at s (head_at s 0) ≡ cells_of s
      the_walk = let x = is-some (payload_of s) (sym te ∙ g) in payload_walk s ok x.0 x.1

      pub read_whole : length ws ≡ 72 → r ≡ true → (0 ≡ read_number s) × (ws' ≡ read_after s before)
      unfolding read_number first_of read_after flat_or
      read_whole m z =
          let x = filled-some (payload_at s (head_at s 0)) 0 ws ws' r z h in
          let c : cells_of s ≡ some x.0 = sym the_walk ∙ x.1 in
          let l = payload_long s (head_at s 0) x.0 x.1 in
          let y : ws' ≡ flat x.0 = x.2 ∙ sets-whole ws (flat x.0) (omega (arith, flat-long x.0)) in
          rw (sym be ∙ f, sym te ∙ g, c) (refl, y)

      pub read_rows : r ≡ false → (3 ≡ read_number s) × (before ≡ read_after s before)
      unfolding read_number first_of
      read_rows z =
          let c : cells_of s ≡ none = sym the_walk ∙ filled_none (payload_at s (head_at s 0)) 0 ws ws' r z h in
          stays 3 (rw (sym be ∙ f, sym te ∙ g, c) refl) (λ y. omega arith)

module _ (s : List ℕ) (ws ws' : List ℕ) (i : ℕ) (h : HeadRead) (he : h ≡ head_at s 0) where
  pub payload_no_head : h ≡ None → Filled (payload_at s (head_at s 0)) i ws false ws'
  unfolding payload_at Filled
  payload_no_head e = rw (← he, e) refl

  module _ (m n q : ℕ) (e : h ≡ head_is m n q) where
    pub payload_no_map : (m ≡ 5 → ⊥) → Filled (payload_at s (head_at s 0)) i ws (eqb m 5) ws'
    unfolding payload_at Filled
    payload_no_map z = rw (← he, e, ne_eqb m 5 z) refl

    pub payload_map : m ≡ 5 → (ok : Bool) → Filled (rows_at s 6 rows n q) i ws ok ws' → Filled (payload_at s (head_at s 0)) i ws ok ws'
    unfolding payload_at
    payload_map z ok f = rw (← he, e, eq-eqb m 5 z) f
