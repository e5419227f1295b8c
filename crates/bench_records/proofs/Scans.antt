-- A record, case by case, as its reader finds it. Assumes nothing.
use Rattle.std.specs.Prelude.{None, Some}
use Rattle.std.specs.Bool.{then_some}
use Rattle.std.specs.List.{starts_with}
use Prim.Native.Nat.{ℕ, zero, suc, ◌+◌, ◌-◌, ◌≤◌, ◌<◌}
use mathlib.Core.Path.{◌≡◌, refl, sym, ap, ◌∙◌}
use mathlib.Core.Bool.{Bool, true, false, cond, ◌&&◌, and-true, and-false}
use mathlib.Core.List.{List, [], ◌∷◌}
use native.Mathlib.Omega.{arith}
use lib.Dec.{leb, eqb}
use lib.ListN.{length, get_or, take, drop, length-drop}
use lib.Seq.{get_or-drop, get_or-take, take_all}
use borrow.Author.Tests.{eqb-true, eqb-false, eq-eqb, ne_eqb, lt-leb, leb-true, leb-false}
use Rattle.wire_bytes.specs.Bytes.{number_at}
use Rattle.wire_bytes.proofs.NumberLaws.{zero-past}
use Rattle.bench_records.specs.Kinds.{head, right_body}
use Rattle.bench_records.specs.Records.{is_mark, fields_at, good, record_at}
use Rattle.bench_records.specs.Laws.{RecordWithin}
use Rattle.bench_records.specs.declared.fields.Record.{Record}

pub both : (a b : Bool) → a && b ≡ true → (a ≡ true) × (b ≡ true)
both true b e = (refl, e)
both false b e = absurd (let z : ◌≡◌ {A = ℕ} 0 1 = cc in omega arith)

-- the mark
twice : (a b : ℕ) → eqb a b ≡ eqb b a
twice a b = go (eqb b a) refl
  where
    go : (t : Bool) → eqb b a ≡ t → eqb a b ≡ t
    go true e = eq-eqb a b (sym (eqb-true b a e))
    go false e = ne_eqb a b (λ q. eqb-false b a e (sym q))

front_mark : (l : List ℕ) → starts_with eqb l (0x4D ∷ 0x48 ∷ []) ≡ is_mark l 0
unfolding is_mark
front_mark [] = refl
front_mark (x ∷ []) = and-false (eqb 0x4D x) ∙ sym (and-false (eqb x 0x4D))
front_mark (x ∷ y ∷ l) = rw (twice 0x4D x, twice 0x48 y, and-true (eqb y 0x48))

module _ (s : List ℕ) (p : ℕ) where
  pub mark-here : starts_with eqb (take (length s - p) (drop p s)) (0x4D ∷ 0x48 ∷ []) ≡ is_mark s p
  unfolding is_mark
  mark-here =
      let e : p + 0 ≡ p = omega arith in
      let d = length-drop p s in
      rw (take_all (length s - p) (drop p s) (omega arith))
      (front_mark (drop p s) ∙ rw (get_or-drop p s 0 0, get_or-drop p s 1 0, e))

  pub mark-past : length s < p → leb p (length s) ≡ is_mark s p
  unfolding is_mark
  mark-past h = rw (lt-leb p (length s) h, ← zero-past s p (omega arith))

-- t begins as s goes on from p
module _ (s t : List ℕ) (p : ℕ) (same : (k : ℕ) → k < head → get_or t k 0 ≡ get_or s (p + k) 0) where
  pub same-number : (w q : ℕ) → q + w ≤ head → number_at t q w ≡ number_at s (p + q) w
  unfolding number_at
  same-number zero q h = refl
  same-number (suc w) q h =
      let e : p + (q + w) ≡ p + q + w = omega arith in
      omega (arith, same-number w q (omega arith), same (q + w) (omega arith) ∙ ap (λ (k : ℕ). get_or s k 0) e)

  pub same-fields : record { kind = get_or t 2 0; zone = get_or t 3 0; time = number_at t 4 4; body = p + head; length = number_at t 8 2 } ≡ fields_at s p
  unfolding fields_at
  same-fields = rw (same 2 (omega arith), same 3 (omega arith), same-number 4 4 (omega arith), same-number 2 8 (omega arith))

-- the bytes in front of a body, as a slice has them
pub in-front : (s : List ℕ) (p k : ℕ) → k < head → get_or (take (p + head - p) (drop p s)) k 0 ≡ get_or s (p + k) 0
in-front s p k h = get_or-take (p + head - p) (drop p s) k 0 (omega arith) ∙ get_or-drop p s k 0

-- the record
module _ (s : List ℕ) (p : ℕ) where
  bad : good s p (fields_at s p) ≡ false → None ≡ record_at s p
  unfolding record_at
  bad h = rw h

  pub no_mark : (b : Bool) → b ≡ is_mark s p → b ≡ false → None ≡ record_at s p
  unfolding good
  no_mark b e n = bad (rw (sym e ∙ n))

  module _ (r : Record) (e : r ≡ fields_at s p) where
    pub wrong_body : (b : Bool) → b ≡ right_body r.kind r.length → b ≡ false → None ≡ record_at s p
    unfolding good
    wrong_body b w n = bad (rw (← e, sym w ∙ n, and-false (is_mark s p)))

    pub told : (a b c : Bool) → a ≡ is_mark s p → a ≡ true → b ≡ right_body r.kind r.length → b ≡ true → c ≡ leb (r.body + r.length) (length s) → then_some c r ≡ record_at s p
    unfolding good record_at
    told a b true ea ya eb yb ec = rw (← e, sym ea ∙ ya, sym eb ∙ yb, sym ec)
    told a b false ea ya eb yb ec = rw (← e, sym ea ∙ ya, sym eb ∙ yb, sym ec)

    cut : leb (r.body + r.length) (length s) ≡ false → None ≡ record_at s p
    unfolding good
    cut n = bad (rw (← e, n, and-false (right_body r.kind r.length), and-false (is_mark s p)))

  pub cut-head : (b : Bool) → b ≡ leb (p + head) (length s) → b ≡ false → None ≡ record_at s p
  unfolding fields_at
  cut-head b e n =
      let h = leb-false (p + head) (length s) (sym e ∙ n) in
      cut (fields_at s p) refl (lt-leb (p + head + number_at s (p + 8) 2) (length s) (omega arith))

  good-within : (r : Record) → good s p r ≡ true → r.body + r.length ≤ length s
  unfolding good
  good-within r g =
      leb-true (r.body + r.length) (length s) (both (right_body r.kind r.length) _ (both (is_mark s p) _ g).1).1

  fields_body : (fields_at s p).body ≡ p + head
  unfolding fields_at
  fields_body = refl

pub record_within : RecordWithin
unfolding record_at
record_within s p r e = go (good s p (fields_at s p)) refl e
  where
    go :
        (b : Bool) → good s p (fields_at s p) ≡ b → cond b (Some (fields_at s p)) None ≡ Some r
        → (r.body ≡ p + head) × (r.body + r.length ≤ length s)
    go true g w =
        let f : fields_at s p ≡ r = cc in
        (ap (λ (x : Record). x.body) (sym f) ∙ fields_body s p, good-within s p r (rw f at g))
    go false g w = absurd (let z : ◌≡◌ {A = ℕ} 0 1 = cc in omega arith)
