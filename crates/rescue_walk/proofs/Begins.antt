-- The record that a list begins with: its first ten bytes and its room tell it. Assumes nothing.
use Rattle.std.specs.Prelude.{Option, None, Some}
use Prim.Native.Nat.{ℕ, ◌+◌, ◌≤◌, ◌<◌}
use mathlib.Core.Path.{◌≡◌, refl, sym, ap, ◌∙◌}
use mathlib.Core.Logic.{⊎_elim}
use mathlib.Core.Bool.{Bool, true, false, cond}
use mathlib.Core.List.{List, ◌++◌}
use native.Mathlib.Omega.{arith}
use lib.Dec.{leb}
use lib.ListN.{length, get_or, take, drop, length-append, length-drop, get_or-append}
use lib.Seq.{length-take-le, get_or-take, get_or-drop}
use borrow.Author.Tests.{le-leb, lt-leb, ne_eqb}
use Rattle.wire_bytes.specs.Bytes.{number_at}
use Rattle.wire_bytes.proofs.Order.{below}
use Rattle.bench_records.specs.Kinds.{head}
use Rattle.bench_records.specs.Records.{is_mark, fields_at, good, record_at}
use Rattle.bench_records.specs.declared.fields.Record.{Record}
use Rattle.bench_records.proofs.Scans.{same-number, record_within}
use Rattle.rescue_walk.specs.Walk.{scan_len, record_len, record_end}

scan_fits : (s : List ℕ) (x : Option Record) → record_at s 0 ≡ x → 0 < scan_len x → (head ≤ scan_len x) × (scan_len x ≤ length s)
unfolding scan_len
scan_fits s (Some r) e l = let w = record_within s 0 r e in (omega arith, omega (arith, w.0, w.1))
scan_fits s None e l = absurd (omega arith)

-- a record has its fields at least, and lies within
pub found : (s : List ℕ) → 0 < record_len s → (head ≤ record_len s) × (record_len s ≤ length s)
unfolding record_len
found s l = scan_fits s (record_at s 0) refl l

-- t begins as s goes on from p
module _ (s t : List ℕ) (p : ℕ) (same : (k : ℕ) → k < head → get_or t k 0 ≡ get_or s (p + k) 0) where
  same-mark : is_mark t 0 ≡ is_mark s p
  unfolding is_mark
  same-mark =
      let e : p + 0 ≡ p = omega arith in
      rw (same 0 (omega arith), same 1 (omega arith), e)

  -- and is cut where s is
  module _ (cut : leb (head + number_at s (p + 8) 2) (length t) ≡ leb (p + head + number_at s (p + 8) 2) (length s)) where
    same_good : good t 0 (fields_at t 0) ≡ good s p (fields_at s p)
    unfolding good fields_at
    same_good = rw (same-mark, same 2 (omega arith), same-number s t p same 2 8 (omega arith), cut)

    same_length : (fields_at t 0).length ≡ (fields_at s p).length
    unfolding fields_at
    same_length = same-number s t p same 2 8 (omega arith)

    pub same_len : record_len t ≡ scan_len (record_at s p)
    unfolding record_len record_at scan_len
    same_len = rw same_good (go (good s p (fields_at s p)))
      where
        go : (b : Bool) → scan_len (cond b (Some (fields_at t 0)) None) ≡ scan_len (cond b (Some (fields_at s p)) None)
        go true = ap (λ (n : ℕ). head + n) same_length
        go false = refl

-- the record at p is the one that the bytes from p on begin with
pub len_at : (s : List ℕ) (p : ℕ) → record_len (drop p s) ≡ scan_len (record_at s p)
len_at s p = same_len s (drop p s) p (λ k h. get_or-drop p s k 0) cut
  where
    cut : leb (head + number_at s (p + 8) 2) (length (drop p s)) ≡ leb (p + head + number_at s (p + 8) 2) (length s)
    cut =
        let n = number_at s (p + 8) 2 in
        let d = length-drop p s in
        ⊎_elim
        (λ lt. lt-leb (head + n) (length (drop p s)) (omega arith) ∙ sym (lt-leb (p + head + n) (length s) lt))
        (λ le. le-leb (head + n) (length (drop p s)) (omega arith) ∙ sym (le-leb (p + head + n) (length s) le))
        (below (length s) (p + head + n))

module _ (s : List ℕ) (p : ℕ) where
  -- what a reader of one record says of its end
  pub end-good : (r : Record) → record_at s p ≡ Some r → Some (r.body + r.length) ≡ record_end s p
  unfolding record_end scan_len
  end-good r e =
      let w = record_within s p r e in
      rw (len_at s p, e, ne_eqb (head + r.length) 0 (λ z. omega arith)) (ap (λ (n : ℕ). Some n) (omega (arith, w.0)))

  pub end-bad : record_at s p ≡ None → None ≡ record_end s p
  unfolding record_end scan_len
  end-bad e = rw (len_at s p, e)

  pub end_fits : (r : Record) → record_at s p ≡ Some r → r.body + r.length ≤ length s
  end_fits r e = (record_within s p r e).1

fields_len : (s : List ℕ) → 0 < record_len s → record_len s ≡ head + number_at s 8 2
unfolding record_len record_at scan_len fields_at
fields_len s = go (good s 0 (fields_at s 0))
  where
    go : (b : Bool) → 0 < scan_len (cond b (Some (fields_at s 0)) None) → scan_len (cond b (Some (fields_at s 0)) None) ≡ head + number_at s 8 2
    go true l = refl
    go false l = absurd (omega arith)

scan-len : (s : List ℕ) → scan_len (record_at s 0) ≡ record_len s
unfolding record_len
scan-len s = refl

-- a record's bytes with anything behind them begin with that record
pub stays : (s t : List ℕ) → 0 < record_len s → record_len (take (record_len s) s ++ t) ≡ record_len s
stays s t l =
    let f = found s l in
    let n = fields_len s l in
    let k = length-take-le (record_len s) s f.1 in
    let z = length-append (take (record_len s) s) t in
    same_len s (take (record_len s) s ++ t) 0
    (λ i h.
    let e : 0 + i ≡ i = omega arith in
    get_or-append (take (record_len s) s) t 0 i (omega arith) ∙ get_or-take (record_len s) s i 0 (omega arith) ∙ ap (λ (j : ℕ). get_or s j 0) (sym e))
    (le-leb (head + number_at s 8 2) (length (take (record_len s) s ++ t)) (omega arith) ∙ sym (le-leb (0 + head + number_at s 8 2) (length s) (omega arith)))
    ∙ scan-len s
