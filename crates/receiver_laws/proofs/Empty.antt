-- An empty scrap changes nothing. Assumes nothing.
use Prim.Native.Nat.{ℕ, ◌+◌, ◌-◌, ◌≤◌, ◌<◌, min}
use mathlib.Core.Path.{◌≡◌, refl, sym, ◌∙◌}
use mathlib.Core.Bool.{Bool, true, false}
use mathlib.Core.List.{List, [], ◌++◌}
use native.Mathlib.Nat.{add-zero, min-eq_left}
use native.Mathlib.Omega.{arith}
use lib.ListN.{length, take}
use lib.Dec.{ltb}
use borrow.Author.Tests.{ltb-true, ltb-false}
use Rattle.wire_prefix.specs.Prefix.{bad_end}
use Rattle.wire_prefix.proofs.Ends.{end-good, end_short}
use Rattle.receiver.specs.declared.record.Record.{Record}
use Rattle.receiver.specs.Receive.{is_open, end_for, record_at, refused, accepted, received}
use Rattle.receiver_laws.specs.Laws.{Unchanged, EmptyScrap}
use Rattle.receiver.proofs.Counts.{Counts, prefix, payload, counts, length_both, end-new, end_known, no_end, at_prefix, at_payload, record_is}
use Rattle.receiver.proofs.Tests.{at_small_room, at_not_open, at_taken, put-empty}

module _ (r : Record) (room : List ℕ) where
  unchanged_refused : (n : ℕ) → refused n r room ≡ received r room [] → Unchanged r room
  unfolding refused
  unchanged_refused n d = record { after_is = rw (← d); room-is = rw (← d); taken_is = rw (← d); length-is = rw (← d) }

  module _ (l : 2052 ≤ length room) (o : is_open r ≡ true) where
    unchanged_at : (e : ℕ) → e ≡ end_for r room [] → r.have < e → bad_end e ≡ false → record_at r.have e ≡ r → Unchanged r room
    unfolding accepted
    unchanged_at e i h g q =
        let z : 0 ≡ min 0 (e - r.have) = sym (min-eq_left (omega arith)) in
        let d : accepted r room [] e 0 ≡ received r room [] = at_taken r room [] l o e i g 0 z in
        let n : r.have + 0 ≡ r.have = add-zero r.have in
        record {
          after_is = rw (← d, n) q;
          room-is = rw (← d) (put-empty room r.have);
          taken_is = rw (← d);
          length-is = rw (← d, n) (sym (no_end r.have e (λ x. omega arith)));
        }

    unchanged_open : Counts r → Unchanged r room
    unchanged_open (prefix a b c) =
        let s = length_both r.have room [] (omega arith) in
        unchanged_at 5 (end_short (take r.have room ++ []) (omega arith) ∙ end-new r room [] b) (omega arith) (end-good 5 (omega arith) (omega arith))
        (sym (at_prefix r.have 5 (λ x. omega arith) c) ∙ record_is r r.have 0 0 refl (sym b) (sym a))
    unchanged_open (payload a b c d) =
        unchanged_at r.need (end_known r room [] (λ x. omega arith)) c (end-good r.need (omega arith) d)
        (sym (at_payload r.have r.need (λ x. omega arith) b) ∙ record_is r r.have r.need 0 refl refl (sym a))

pub empty_scrap : EmptyScrap
empty_scrap r room = go (ltb (length room) 2052) refl (is_open r) refl
  where
    go : (a : Bool) → ltb (length room) 2052 ≡ a → (b : Bool) → is_open r ≡ b → Unchanged r room
    go true e b f = unchanged_refused r room 15 (at_small_room r room [] (ltb-true (length room) 2052 e))
    go false e false f = unchanged_refused r room 1 (at_not_open r room [] (ltb-false (length room) 2052 e) f)
    go false e true f = unchanged_open r room (ltb-false (length room) 2052 e) f (counts r f)
