-- Both round trips of words, and what a read leaves in them. Assumes nothing.
use Prim.Native.Nat.{ℕ, zero, suc, ◌+◌, ◌*◌}
use mathlib.Core.Path.{◌≡◌, refl, sym, ap, ◌∙◌}
use mathlib.Core.Bool.{Bool, true, false, not}
use mathlib.Core.List.{List, [], ◌∷◌}
use mathlib.Core.Option.{Option, some, none}
use native.Mathlib.Omega.{arith}
use lib.ListN.{length, get_or, drop}
use lib.Seq.{get_or-drop, drop-drop}
use lib.Dec.{leb}
use lib.IntN.{pos, negsuc}
use borrow.Author.Tests.{eq-eqb, ne_eqb}
use Rattle.wire_cbor.specs.Item.{encode, payload_of, is_some}
use Rattle.wire_fields.proofs.Joined.{and_same}
use Rattle.refusals.specs.Refusals.{first_of}
use Rattle.measurement_table.specs.Cells.{Cell}
use Rattle.measurement_table.specs.Words.{place_of, cell_of, flat, held_at, held_from, held, marks_fit, range_number}
use Rattle.measurement_table.specs.Payload.{length_fits, cells_of, read_number, flat_or, read_after, item_of}
use Rattle.measurement_laws.specs.RoundTrips.{WordsExact, WordsReadBack, WordsWritable, WordsWriteAgain, RefusedKeeps, ReadLeaves}
use Rattle.measurement_laws.proofs.Inside.{never_read, never_written}
use Rattle.measurement_laws.proofs.Payloads.{reads-back, writes_again}

-- THE WORDS OF CELLS
cell-of : (c : Cell) → (cell_of (place_of c).mark (place_of c).size ≡ c) × (leb (place_of c).mark 2 ≡ true)
unfolding cell_of place_of
cell-of none = (refl, refl)
cell-of (some (pos n)) = (refl, refl)
cell-of (some (negsuc n)) = (refl, refl)

-- they hold those cells, and their marks mean something
held-flat : (ws : List ℕ) (cs : List Cell) (i : ℕ) → drop (2 * i) ws ≡ flat cs → (held_from ws (length cs) i ≡ cs) × (marks_fit ws (length cs) i ≡ true)
unfolding held_from flat held_at marks_fit
held-flat ws [] i e = (refl, refl)
held-flat ws (c ∷ cs) i e =
    let z : 2 * i + 0 ≡ 2 * i = omega arith in
    let y : 2 * i + 2 ≡ 2 * (i + 1) = omega arith in
    let a : get_or ws (2 * i) 0 ≡ (place_of c).mark = ap (λ (k : ℕ). get_or ws k 0) (sym z) ∙ sym (get_or-drop (2 * i) ws 0 0) ∙ ap (λ (l : List ℕ). get_or l 0 0) e in
    let b : get_or ws (2 * i + 1) 0 ≡ (place_of c).size = sym (get_or-drop (2 * i) ws 1 0) ∙ ap (λ (l : List ℕ). get_or l 1 0) e in
    let d : drop (2 * (i + 1)) ws ≡ flat cs = ap (λ (k : ℕ). drop k ws) (sym y) ∙ sym (drop-drop 2 (2 * i) ws) ∙ ap (λ (l : List ℕ). drop 2 l) e in
    let r = held-flat ws cs (i + 1) d in
    rw (a, b, (cell-of c).0, r.0) (refl, and_same (cell-of c).1 r.1)

module _ (cs : List Cell) (l : length cs ≡ 36) where
  marks-flat : marks_fit (flat cs) 36 0 ≡ true
  marks-flat = ap (λ (n : ℕ). marks_fit (flat cs) n 0) (sym l) ∙ (held-flat (flat cs) cs 0 refl).1

  flat-exact : held (flat cs) ≡ cs
  unfolding held
  flat-exact = ap (λ (n : ℕ). held_from (flat cs) n 0) (sym l) ∙ (held-flat (flat cs) cs 0 refl).0

pub words-exact : WordsExact
words-exact cs l = flat-exact cs l

-- WRITTEN AND READ BACK
from-long : (ws : List ℕ) (n i : ℕ) → length (held_from ws n i) ≡ n
unfolding held_from
from-long ws zero i = refl
from-long ws (suc n) i = ap suc (from-long ws n (i + 1))

held-long : (ws : List ℕ) → length (held ws) ≡ 36
unfolding held
held-long ws = from-long ws 36 0

read_words : (s before : List ℕ) (cs : List Cell) → read_number s ≡ 0 → cells_of s ≡ some cs → read_after s before ≡ flat cs
unfolding read_after flat_or
read_words s before cs e f = rw (f, eq-eqb (read_number s) 0 e)

pub words-read_back : WordsReadBack
words-read_back ws before e =
    let l = held-long ws in
    let r = reads-back (held ws) l (never_written ws e) in
    let c = read_words (encode (item_of (held ws))) before (held ws) r.0 r.1 in
    (r.0, c, ap held c ∙ words-exact (held ws) l)

-- WHAT A READ LEAVES
pub refused-keeps : RefusedKeeps
unfolding read_after
refused-keeps s before h = rw (ne_eqb (read_number s) 0 h) refl

-- where nothing is refused there are cells
cells_there : (a b : Bool) (o : Option (List Cell)) → first_of ((not a, 1) ∷ (not b, 2) ∷ (not (is_some o), 3) ∷ []) ≡ 0 → (cs : List Cell) × (o ≡ some cs)
unfolding first_of
cells_there true true (some cs) e = (cs, refl)
cells_there true true none e = absurd (omega arith)
cells_there true false o e = absurd (omega arith)
cells_there false b o e = absurd (omega arith)

cells_found : (s : List ℕ) → read_number s ≡ 0 → (cs : List Cell) × (cells_of s ≡ some cs)
unfolding read_number
cells_found s e = cells_there (length_fits s) (is_some (payload_of s)) (cells_of s) e

pub read_leaves : ReadLeaves
read_leaves s before e = let f = cells_found s e in (f.0, f.1, read_words s before f.0 e f.1)

-- READ AND WRITTEN AGAIN
held-again : (s before : List ℕ) (cs : List Cell) → read_number s ≡ 0 → cells_of s ≡ some cs → held (read_after s before) ≡ cs
held-again s before cs e f = ap held (read_words s before cs e f) ∙ words-exact cs (never_read s cs f).1

pub words-writable : WordsWritable
unfolding range_number
words-writable s before e =
    let f = cells_found s e in
    let i = never_read s f.0 f.1 in
    rw (held-again s before f.0 e f.1, read_words s before f.0 e f.1, i.0, marks-flat f.0 i.1) refl

pub words-write_again : WordsWriteAgain
words-write_again s before ok ps p u e =
    let f = cells_found s e in
    ap (λ (x : List Cell). encode (item_of x)) (held-again s before f.0 e f.1) ∙ writes_again s ok f.0 ps p u f.1
