-- The call's answer by its tests. Assumes nothing.
use Prim.Native.Nat.{ℕ, ◌+◌, ◌-◌, ◌≤◌, ◌<◌, min}
use mathlib.Core.Path.{◌≡◌, refl, sym, ap, ◌∙◌}
use mathlib.Core.Bool.{Bool, true, false}
use mathlib.Core.List.{List, []}
use native.Mathlib.Nat.{min-eq_left}
use native.Mathlib.Omega.{arith}
use lib.ListN.{length, take}
use lib.Seq.{paste, paste-zero}
use lib.Dec.{leb, ltb, eqb}
use borrow.Author.Tests.{ltb-true, ltb-false, eqb-true, eqb-false, lt-ltb, le-ltb}
use Rattle.wire_bytes.specs.Bytes.{put_whole, put}
use Rattle.wire_bytes.proofs.PutLaws.{put_whole_lem, copied, taken_length}
use Rattle.wire_prefix.specs.Prefix.{bad_end}
use Rattle.wire_prefix.proofs.Ends.{good-end, end-good}
use Rattle.receiver.specs.declared.record.Record.{Record}
use Rattle.receiver.specs.declared.record.Answer.{Answer}
use Rattle.receiver.specs.declared.record.Decision.{Decision}
use Rattle.receiver.specs.Receive.{shut, is_open, end_for, record_at, refusal, taking, refused, accepted, received, Done, Does}
use Rattle.receiver.proofs.Counts.{Counts, prefix, payload, counts, end_known}

pub via : {A : Type 0} {x y z : A} → x ≡ y → x ≡ z → y ≡ z
via p q = sym p ∙ q

module _ (r : Record) (room scrap : List ℕ) where
  pub at_small_room : length room < 2052 → refused 15 r room ≡ received r room scrap
  unfolding received
  at_small_room l = rw (lt-ltb (length room) 2052 l)

  module _ (l : 2052 ≤ length room) where
    pub at_not_open : is_open r ≡ false → refused 1 r room ≡ received r room scrap
    unfolding received
    at_not_open o = rw (le-ltb (length room) 2052 l, o)

    module _ (o : is_open r ≡ true) (e : ℕ) (end : e ≡ end_for r room scrap) where
      pub at_bad : bad_end e ≡ true → refused 1 shut room ≡ received r room scrap
      unfolding received
      at_bad b = rw (le-ltb (length room) 2052 l, o, ← end, b)

      module _ (g : bad_end e ≡ false) where
        -- there is a byte to take, and it fits
        pub before_end : r.have < e
        before_end = go (counts r o)
          where
            go : Counts r → r.have < e
            go (prefix x y z) = omega (arith, (good-end e g).0)
            go (payload x y z w) = let k = end_known r room scrap (λ q. omega arith) in omega arith

        module _ (n : ℕ) (least : n ≡ min (length scrap) (e - r.have)) where
          pub at_taken : accepted r room scrap e n ≡ received r room scrap
          unfolding received
          at_taken = rw (least, le-ltb (length room) 2052 l, o, ← end, g)

          pub taken_fits : (r.have + n ≤ e) × (r.have + n ≤ length room) × (n ≤ length scrap)
          taken_fits =
              let h = before_end in
              let k = good-end e g in
              (omega (arith, k.1), omega (arith, k.1), omega arith)

  -- where the record knows the end
  module _ (o : is_open r ≡ true) (z : r.need ≡ 0 → ⊥) where
    pub known-good : (r.have < r.need) × (bad_end r.need ≡ false)
    known-good = go (counts r o)
      where
        go : Counts r → (r.have < r.need) × (bad_end r.need ≡ false)
        go (prefix a b c) = absurd (z b)
        go (payload a b c d) = (c, end-good r.need (omega arith) d)

  pub decides_refused : (n : ℕ) (q : Record) (x : Decision) → refused n q room ≡ received r room scrap
      → (x.answer ≡ refusal n) × (x.after ≡ q) → (x.answer ≡ (received r room scrap).answer) × (x.after ≡ (received r room scrap).after)
  unfolding refused
  decides_refused n q x d e = rw (← d) e

  pub decides_accepted : (e n : ℕ) (x : Decision) → accepted r room scrap e n ≡ received r room scrap
      → (x.answer ≡ taking (r.have + n) e n) × (x.after ≡ record_at (r.have + n) e)
      → (x.answer ≡ (received r room scrap).answer) × (x.after ≡ (received r room scrap).after)
  unfolding accepted
  decides_accepted e n x d f = rw (← d) f

-- nothing put changes nothing
pub put-empty : (s : List ℕ) (p : ℕ) → put_whole s p [] ≡ s
unfolding put_whole put
put-empty s p = go (leb (p + 0) (length s)) refl
  where
    go : (b : Bool) → leb (p + 0) (length s) ≡ b → put_whole s p [] ≡ s
    go true e = rw e
    go false e = rw e

-- bytes copied are bytes put
module _ (room scrap : List ℕ) (h n : ℕ) (l : h + n ≤ length room) (m : n ≤ length scrap) where
  least : n ≡ min n (length scrap)
  least = sym (min-eq_left m)

  pub put-paste : put_whole room h (take n scrap) ≡ paste room h scrap n
  put-paste =
      (put_whole_lem room (take n scrap) h (omega (arith, taken_length room scrap h n n least))).0
      ∙ sym (copied room scrap h n n least (paste room h scrap n) l refl)

-- what a call takes fits, and is put behind the bytes in the room; at a refusal it is nothing
module _ (r : Record) (room scrap : List ℕ) where
  record Took (d : Done) : Type 0 where
    fits-room : (d.answer.taken ≡ 0 → ⊥) → (r.have + d.answer.taken ≤ length room) × (d.answer.taken ≤ length scrap)
    put_is : put_whole room r.have (take d.answer.taken scrap) ≡ d.room

  took_none : (n : ℕ) (q : Record) → refused n q room ≡ received r room scrap → Took (received r room scrap)
  unfolding refused
  took_none n q d = rw (← d) (record { fits-room = λ z. absurd (z refl); put_is = put-empty room r.have })

  took_some : (e n : ℕ) → (r.have + n ≤ length room) × (n ≤ length scrap) → accepted r room scrap e n ≡ received r room scrap
      → Took (received r room scrap)
  unfolding accepted
  took_some e n f d = rw (← d) (record { fits-room = λ z. f; put_is = refl })

  took : Took (received r room scrap)
  took = go (ltb (length room) 2052) refl (is_open r) refl (bad_end (end_for r room scrap)) refl
    where
      go : (a : Bool) → ltb (length room) 2052 ≡ a → (b : Bool) → is_open r ≡ b → (c : Bool) → bad_end (end_for r room scrap) ≡ c → Took (received r room scrap)
      go true ea b eb c ec = took_none 15 r (at_small_room r room scrap (ltb-true (length room) 2052 ea))
      go false ea false eb c ec = took_none 1 r (at_not_open r room scrap (ltb-false (length room) 2052 ea) eb)
      go false ea true eb true ec = took_none 1 shut (at_bad r room scrap (ltb-false (length room) 2052 ea) eb (end_for r room scrap) refl ec)
      go false ea true eb false ec =
          let l = ltb-false (length room) 2052 ea in
          let f = taken_fits r room scrap l eb (end_for r room scrap) refl ec _ refl in
          took_some (end_for r room scrap) (min (length scrap) (end_for r room scrap - r.have)) (f.1, f.2)
          (at_taken r room scrap l eb (end_for r room scrap) refl ec _ refl)

  -- what is decided is what is copied, and where nothing is taken the room stays
  module _ (x : Decision) (d : (x.answer ≡ (received r room scrap).answer) × (x.after ≡ (received r room scrap).after)) where
    same_taken : x.answer.taken ≡ (received r room scrap).answer.taken
    same_taken = ap (λ (a : Answer). a.taken) d.0

    put-says : put_whole room r.have (take x.answer.taken scrap) ≡ (received r room scrap).room
    put-says = ap (λ (n : ℕ). put_whole room r.have (take n scrap)) same_taken ∙ took.put_is

    taken_room : (x.answer.taken ≡ 0 → ⊥) → (r.have + x.answer.taken ≤ length room) × (x.answer.taken ≤ length scrap)
    taken_room z = rw same_taken (took.fits-room (λ q. z (same_taken ∙ q)))

    pub one_taken : (i : ℕ) → i < x.answer.taken → (r.have + i < length room) × (i < length scrap)
    one_taken i l = let f = taken_room (λ z. omega arith) in (omega (arith, f.0), omega (arith, f.1))

    copied-says : paste room r.have scrap x.answer.taken ≡ (received r room scrap).room
    copied-says = go (eqb x.answer.taken 0) refl
      where
        go : (b : Bool) → eqb x.answer.taken 0 ≡ b → paste room r.have scrap x.answer.taken ≡ (received r room scrap).room
        go true e =
            let z = eqb-true x.answer.taken 0 e in
            ap (paste room r.have scrap) z ∙ sym (paste-zero room r.have scrap)
            ∙ sym (ap (λ (n : ℕ). put_whole room r.have (take n scrap)) z ∙ put-empty room r.have) ∙ put-says
        go false e =
            let f = taken_room (eqb-false x.answer.taken 0 e) in
            sym (put-paste room scrap r.have x.answer.taken f.0 f.1) ∙ put-says

    pub stepped : (t : List ℕ) → t ≡ paste room r.have scrap x.answer.taken → Does (received r room scrap) x.answer x.after t
    stepped t e = (d.0, d.1, e ∙ copied-says)
