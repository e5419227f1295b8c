-- A whole record of a piece is the same one, and does the same, with whatever comes behind the piece. Assumes nothing.
use Rattle.std.specs.Prelude.{None, Some}
use Prim.Native.Nat.{ℕ, zero, suc, ◌+◌, ◌<◌, ◌≤◌}
use mathlib.Core.Path.{◌≡◌, refl, ap}
use mathlib.Core.Bool.{Bool, true, false, cond, ◌&&◌}
use mathlib.Core.List.{List, ◌++◌}
use native.Mathlib.Omega.{arith}
use lib.Dec.{leb, eqb}
use lib.IntN.{ℤ}
use lib.ListN.{length, get_or, drop, length-append, length-drop, get_or-append}
use lib.Seq.{drop-append-le, take-append-le}
use borrow.Author.Tests.{le-leb, leb-true, eqb-true}
use Rattle.wire_bytes.specs.Bytes.{number_at}
use Rattle.bench_records.specs.Kinds.{head, join, leave, lost, back, frame, plan, override, clear, move, kinds, right_length, right_body}
use Rattle.bench_records.specs.Records.{is_mark, fields_at, good, record_at}
use Rattle.bench_records.specs.declared.fields.Record.{Record}
use Rattle.bench_records.proofs.Scans.{both, record_within}
use Rattle.bench_script.specs.Runs.{call_of, body_of, record_leaves, scan_leaves, step_leaves, step_answer}
use Rattle.bench_script.specs.declared.calls.Call.{Call}

-- a body's bytes that its call does not read make no difference
call_same : (kind z a b a' b' : ℕ) → (eqb kind join ≡ true → a ≡ a') → (eqb kind override ≡ true → (a ≡ a') × (b ≡ b')) → call_of kind z a b ≡ call_of kind z a' b'
unfolding call_of
call_same kind z a b a' b' = go (eqb kind join) (eqb kind override)
  where
    go : (j o : Bool) → (j ≡ true → a ≡ a') → (o ≡ true → (a ≡ a') × (b ≡ b'))
        → cond j (Call.Join z a)
        (cond (eqb kind leave) (Call.Leave z)
        (cond (eqb kind lost) (Call.Lost z)
        (cond (eqb kind back) (Call.Back z)
        (cond (eqb kind frame) (Call.Frame z)
        (cond (eqb kind plan) Call.Plan
        (cond o (Call.Override a b)
        (cond (eqb kind clear) Call.Clear
        (cond (eqb kind move) Call.Move Call.Ask))))))))
        ≡ cond j (Call.Join z a')
        (cond (eqb kind leave) (Call.Leave z)
        (cond (eqb kind lost) (Call.Lost z)
        (cond (eqb kind back) (Call.Back z)
        (cond (eqb kind frame) (Call.Frame z)
        (cond (eqb kind plan) Call.Plan
        (cond o (Call.Override a' b')
        (cond (eqb kind clear) Call.Clear
        (cond (eqb kind move) Call.Move Call.Ask))))))))
    go true o f g = ap (λ (n : ℕ). Call.Join z n) (f refl)
    go false true f g = rw ((g refl).0, (g refl).1)
    go false false f g = refl

-- a join has a byte, an override has two
right-length : (kind n : ℕ) → right_body kind n ≡ true → right_length kind n ≡ true
unfolding right_body
right-length kind n e = (both (leb 1 kind && leb kind kinds) (right_length kind n) e).1

join-length : (kind n : ℕ) → right_length kind n ≡ true → eqb kind join ≡ true → n ≡ 1
unfolding right_length
join-length kind n e j = eqb-true n 1 (rw j at e)

override-length : (kind n : ℕ) → right_length kind n ≡ true → eqb kind override ≡ true → n ≡ 2
unfolding right_length
override-length kind n e o =
    let k : kind ≡ override = eqb-true kind override o in
    eqb-true n 2 (rw k at e)

-- s with more behind it
module _ (s more : List ℕ) (p : ℕ) (fits : p + head ≤ length s) where
  byte_same : (k : ℕ) → k < head → get_or (s ++ more) (p + k) 0 ≡ get_or s (p + k) 0
  byte_same k h = get_or-append s more 0 (p + k) (omega arith)

  number_same : (w q : ℕ) → q + w ≤ head → number_at (s ++ more) (p + q) w ≡ number_at s (p + q) w
  unfolding number_at
  number_same zero q h = refl
  number_same (suc w) q h =
      let e : p + (q + w) ≡ p + q + w = omega arith in
      omega (arith, number_same w q (omega arith), rw e at (byte_same (q + w) (omega arith)))

  fields_same : fields_at (s ++ more) p ≡ fields_at s p
  unfolding fields_at
  fields_same = rw (byte_same 2 (omega arith), byte_same 3 (omega arith), number_same 4 4 (omega arith), number_same 2 8 (omega arith))

  mark_same : is_mark (s ++ more) p ≡ is_mark s p
  unfolding is_mark
  mark_same =
      let e : p + 0 ≡ p = omega arith in
      rw (rw e at (byte_same 0 (omega arith)), byte_same 1 (omega arith))

  good-same : (r : Record) → good s p r ≡ true → good (s ++ more) p r ≡ true
  unfolding good
  good-same r g =
      let a = both (is_mark s p) _ g in
      let b = both (right_body r.kind r.length) _ a.1 in
      let c = leb-true (r.body + r.length) (length s) b.1 in
      rw (mark_same, a.0, b.0, le-leb (r.body + r.length) (length (s ++ more)) (omega (arith, c, length-append s more)))

-- a record that was read is good
good_of : (s : List ℕ) (p : ℕ) (r : Record) → record_at s p ≡ Some r → (good s p (fields_at s p) ≡ true) × (fields_at s p ≡ r)
unfolding record_at
good_of s p r e = go (good s p (fields_at s p)) refl e
  where
    go : (b : Bool) → good s p (fields_at s p) ≡ b → cond b (Some (fields_at s p)) None ≡ Some r → (good s p (fields_at s p) ≡ true) × (fields_at s p ≡ r)
    go true g w = (g, (cc))
    go false g w = absurd (let z : ◌≡◌ {A = ℕ} 0 1 = cc in omega arith)

module _ (s more : List ℕ) (p : ℕ) (r : Record) (is : record_at s p ≡ Some r) where
  within : (r.body ≡ p + head) × (r.body + r.length ≤ length s)
  within = record_within s p r is

  pub stays : record_at (s ++ more) p ≡ Some r
  unfolding record_at
  stays =
      let k = good_of s p r is in
      let h : p + head ≤ length s = omega (arith, within.0, within.1) in
      rw (fields_same s more p h, k.1, good-same s more p h r (rw k.1 at k.0))

  right : right_length r.kind r.length ≡ true
  unfolding good
  right =
      let k = good_of s p r is in
      let g : good s p r ≡ true = rw k.1 at k.0 in
      right-length r.kind r.length (both (right_body r.kind r.length) _ (both (is_mark s p) _ g).1).0

  call_stays : call_of r.kind r.zone (get_or (s ++ more) r.body 0) (get_or (s ++ more) (r.body + 1) 0) ≡ call_of r.kind r.zone (get_or s r.body 0) (get_or s (r.body + 1) 0)
  call_stays =
      call_same r.kind r.zone _ _ _ _
      (λ j. get_or-append s more 0 r.body (omega (arith, within.1, join-length r.kind r.length right j)))
      (λ o.
      let n = override-length r.kind r.length right o in
      (get_or-append s more 0 r.body (omega (arith, within.1, n)), get_or-append s more 0 (r.body + 1) (omega (arith, within.1, n))))

  body_stays : body_of (s ++ more) r ≡ body_of s r
  unfolding body_of
  body_stays =
      let d = length-drop r.body s in
      rw (drop-append-le r.body s more (omega (arith, within.1))) (take-append-le r.length (drop r.body s) more (omega (arith, within.1)))

  module _ (ws out : List ℕ) (rows : List ℤ) where
    pub leaves_stay : step_leaves ws (s ++ more) p out rows ≡ step_leaves ws s p out rows
    unfolding step_leaves scan_leaves record_leaves
    leaves_stay = rw (stays, is, call_stays, body_stays)

    pub answer-stays : step_answer ws (s ++ more) p out rows ≡ step_answer ws s p out rows
    unfolding step_answer
    answer-stays = rw (leaves_stay, stays, is)
