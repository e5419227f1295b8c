-- What one call makes of an unfinished frame and a scrap. Assumes nothing.
use Prim.Native.Nat.{ℕ, ◌+◌, ◌-◌, ◌≤◌, ◌<◌, min}
use mathlib.Core.Path.{◌≡◌, refl, sym, ap, ◌∙◌}
use mathlib.Core.Bool.{Bool, true, false}
use mathlib.Core.List.{List, [], ◌++◌}
use native.Mathlib.Nat.{min-eq_left, min-eq_right}
use native.Mathlib.Omega.{arith}
use lib.ListN.{length, take, length-append}
use lib.Seq.{length-take-le, take-length, take-append-add, take-paste, length-paste}
use lib.Dec.{ltb}
use borrow.Author.Tests.{ltb-true, ltb-false, le-leb}
use Rattle.wire_bytes.specs.Bytes.{put_whole}
use Rattle.wire_prefix.specs.Prefix.{end_of, bad_end}
use Rattle.wire_prefix.proofs.Ends.{good-end, end-good, end_short, end_stays}
use Rattle.receiver.specs.declared.record.Record.{Record}
use Rattle.receiver.specs.Receive.{fresh, shut, is_open, end_for, record_at, refused, accepted, received, Done}
use Rattle.receiver.proofs.Counts.{Counts, prefix, payload, counts, fits, in_prefix, in_payload, end-new, end_known, at_end, no_end, at_prefix, at_payload, record_is}
use Rattle.receiver.proofs.Tests.{put-paste, at_bad, at_taken, before_end}

-- what is put behind the bytes in the room
module _ (room scrap : List ℕ) (h n : ℕ) (l : h + n ≤ length room) (m : n ≤ length scrap) where
  pub put-taken : take (h + n) (put_whole room h (take n scrap)) ≡ take h room ++ take n scrap
  put-taken = rw (put-paste room scrap h n l m) (take-paste room h scrap n (omega arith) m)

  pub put-length : length (put_whole room h (take n scrap)) ≡ length room
  put-length = rw (put-paste room scrap h n l m) (length-paste room h scrap n l m)

-- the record and the room hold p, the bytes of an unfinished frame
pub record Holds (r : Record) (room p : List ℕ) : Type 0 where
  pub big : 2052 ≤ length room
  pub good : is_open r ≡ true
  pub bytes : take r.have room ≡ p
  pub end : (r.need ≡ 0 → ⊥) → r.need ≡ end_of p

pub holds_none : (room : List ℕ) → 2052 ≤ length room → Holds fresh room []
holds_none room l = record { big = l; good = sym (in_prefix fresh refl refl); bytes = refl; end = λ z. absurd (z refl) }

module _ (r : Record) (room p : List ℕ) (h : Holds r room p) where
  pub holds_len : length p ≡ r.have
  holds_len = ap length (sym h.bytes) ∙ length-take-le r.have room (omega (arith, fits r h.good, h.big))

  pub holds_part : (bad_end (end_of p) ≡ false) × (length p < end_of p)
  holds_part = go (counts r h.good)
    where
      go : Counts r → (bad_end (end_of p) ≡ false) × (length p < end_of p)
      go (prefix a b c) =
          let n = holds_len in
          let e = end_short p (omega arith) in
          (rw (← e) (end-good 5 (omega arith) (omega arith)), omega arith)
      go (payload a b c d) =
          let n = holds_len in
          let e = h.end (λ z. omega arith) in
          (rw (← e) (end-good r.need (omega arith) d), omega arith)

  pub end_same : (scrap : List ℕ) → end_for r room scrap ≡ end_of (p ++ scrap)
  end_same scrap = go (counts r h.good)
    where
      go : Counts r → end_for r room scrap ≡ end_of (p ++ scrap)
      go (prefix a b c) = sym (end-new r room scrap b) ∙ ap (λ (l : List ℕ). end_of (l ++ scrap)) h.bytes
      go (payload a b c d) =
          sym (end_known r room scrap (λ z. omega arith)) ∙ h.end (λ z. omega arith)
          ∙ sym (end_stays p scrap (omega (arith, holds_len)))

  -- the counts follow from the bytes
  pub holds_record : r ≡ record_at (length p) (end_of p)
  holds_record = go (counts r h.good)
    where
      go : Counts r → r ≡ record_at (length p) (end_of p)
      go (prefix a b c) =
          let n = holds_len in
          let k = holds_part in
          sym (record_is r (length p) 0 0 n (sym b) (sym a)) ∙ at_prefix (length p) (end_of p) (λ q. omega (arith, k.1)) (omega arith)
      go (payload a b c d) =
          let n = holds_len in
          let k = holds_part in
          sym (record_is r (length p) (end_of p) 0 n (sym (h.end (λ z. omega arith))) (sym a))
          ∙ at_payload (length p) (end_of p) (λ q. omega (arith, k.1)) (omega arith)

-- what a call does: it closes, it takes all, or it ends a frame
pub data Called (room p scrap : List ℕ) (d : Done) : Type 0 where
  closes : bad_end (end_of (p ++ scrap)) ≡ true → d ≡ refused 1 shut room → Called room p scrap d
  takes : bad_end (end_of (p ++ scrap)) ≡ false → length (p ++ scrap) < end_of (p ++ scrap)
      → d.answer.number ≡ 0 → d.answer.taken ≡ length scrap → d.answer.length ≡ 0
      → Holds d.after d.room (p ++ scrap) → Called room p scrap d
  ends : bad_end (end_of (p ++ scrap)) ≡ false → end_of (p ++ scrap) ≤ length (p ++ scrap)
      → d.answer.number ≡ 0 → length p + d.answer.taken ≡ end_of (p ++ scrap) → 0 < d.answer.taken
      → d.answer.length ≡ end_of (p ++ scrap)
      → take (end_of (p ++ scrap)) d.room ≡ take (end_of (p ++ scrap)) (p ++ scrap)
      → Holds d.after d.room [] → Called room p scrap d

module _ (r : Record) (room p : List ℕ) (h : Holds r room p) (scrap : List ℕ) where
  abbrev end : ℕ
  end = end_of (p ++ scrap)

  call-bad : bad_end end ≡ true → Called room p scrap (received r room scrap)
  call-bad b = closes b (sym (at_bad r room scrap h.big h.good end (sym (end_same r room p h scrap)) b))

  module _ (g : bad_end end ≡ false) where
    inside : r.have < end
    inside = before_end r room scrap h.big h.good end (sym (end_same r room p h scrap)) g

    -- the answer of a call that takes n
    call-good : (n : ℕ) → n ≡ min (length scrap) (end - r.have) → accepted r room scrap end n ≡ received r room scrap
    call-good n small = at_taken r room scrap h.big h.good end (sym (end_same r room p h scrap)) g n small

    -- the room afterwards
    call-bytes : (n : ℕ) → n ≤ length scrap → r.have + n ≤ end
        → (take (r.have + n) (put_whole room r.have (take n scrap)) ≡ p ++ take n scrap)
        × (2052 ≤ length (put_whole room r.have (take n scrap)))
    call-bytes n l m =
        let f : r.have + n ≤ length room = omega (arith, (good-end end g).1, h.big) in (
          put-taken room scrap r.have n f l ∙ ap (λ (x : List ℕ). x ++ take n scrap) h.bytes,
          omega (arith, h.big, put-length room scrap r.have n f l),
        )

    -- the record that n bytes of an unfinished frame leave
    held : (n : ℕ) (room' : List ℕ) → 2052 ≤ length room' → take n room' ≡ p ++ scrap → n ≡ length (p ++ scrap)
        → length (p ++ scrap) < end → Holds (record_at n end) room' (p ++ scrap)
    held n room' big b e l = go (ltb n 4) refl
      where
        go : (t : Bool) → ltb n 4 ≡ t → Holds (record_at n end) room' (p ++ scrap)
        go true f =
            rw (← at_prefix n end (λ q. omega arith) (ltb-true n 4 f))
            (record { big = big; good = sym (in_prefix (record { have = n; need = 0; closed = 0 }) refl refl) ∙ f; bytes = b; end = λ z. absurd (z refl) })
        go false f =
            let s = ltb-false n 4 f in
            let k = in_payload (record { have = n; need = end; closed = 0 }) refl (λ q. omega arith) s (omega arith) in
            rw (← at_payload n end (λ q. omega arith) s)
            (record { big = big; good = sym k ∙ le-leb end 2052 (good-end end g).1; bytes = b; end = λ z. refl })

    -- the call leaves the frame unfinished
    call-more : length (p ++ scrap) < end → Called room p scrap (received r room scrap)
    unfolding accepted
    call-more l =
        let k = holds_len r room p h in
        let m = length-append p scrap in
        let n : ℕ = length scrap in
        let z : n ≡ min n (end - r.have) = sym (min-eq_left (omega arith)) in
        let b = call-bytes n (omega arith) (omega arith) in
        let all : take (r.have + n) (put_whole room r.have (take n scrap)) ≡ p ++ scrap = b.0 ∙ ap (λ (x : List ℕ). p ++ x) (take-length scrap) in
        rw (← call-good n z) (takes g l refl refl (sym (no_end (r.have + n) end (λ q. omega arith)))
        (held (r.have + n) (put_whole room r.have (take n scrap)) b.1 all (omega arith) l))

    -- the call ends the frame
    call-whole : end ≤ length (p ++ scrap) → Called room p scrap (received r room scrap)
    unfolding accepted
    call-whole l =
        let k = holds_len r room p h in
        let m = length-append p scrap in
        let i = inside in
        let n : ℕ = end - r.have in
        let z : n ≡ min (length scrap) n = sym (min-eq_right (omega arith)) in
        let e : r.have + n ≡ end = omega arith in
        let e' : length p + n ≡ end = omega arith in
        let q = at_end (r.have + n) end e in
        let b = call-bytes n (omega arith) (omega arith) in
        let front : take end (put_whole room r.have (take n scrap)) ≡ take end (p ++ scrap) =
        ap (λ (x : ℕ). take x (put_whole room r.have (take n scrap))) (sym e) ∙ b.0
        ∙ sym (take-append-add p scrap n) ∙ ap (λ (x : ℕ). take x (p ++ scrap)) e' in
        rw (← call-good n z) (ends g l refl e' (omega arith) (sym q.1) front
        (rw (← q.0) (holds_none (put_whole room r.have (take n scrap)) b.1)))

  pub called : Called room p scrap (received r room scrap)
  called = go (bad_end end) refl (ltb (length (p ++ scrap)) end) refl
    where
      go : (a : Bool) → bad_end end ≡ a → (b : Bool) → ltb (length (p ++ scrap)) end ≡ b → Called room p scrap (received r room scrap)
      go true e b f = call-bad e
      go false e true f = call-more e (ltb-true _ _ f)
      go false e false f = call-whole e (ltb-false _ _ f)
