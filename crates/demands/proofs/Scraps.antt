-- A scrap taken (L1): the call has the number of the first test that holds, and a refusal changes nothing, save the record that a bad length closes.
use mathlib.Core.Path.{◌≡◌, refl, sym, ◌∙◌}
use mathlib.Core.Logic.{◌≢◌}
use mathlib.Core.Bool.{Bool, true, false, cond, not, ◌&&◌}
use mathlib.Core.List.{List, [], ◌∷◌, ◌++◌}
use Prim.Native.Nat.{ℕ, zero, suc, ◌+◌, ◌≤◌}
use native.Mathlib.Decide.{dec_lt}
use native.Mathlib.Omega.{arith}
use lib.Dec.{leb, ltb}
use lib.ListN.{length, take}
use lib.Seq.{sets, set-get_or}
use borrow.Author.Tests.{ltb-false, lt-ltb, le-ltb, le-leb, lt-leb, ne_eqb}
use Rattle.wire_bytes.specs.Bytes.{number_at}
use Rattle.wire_prefix.specs.Prefix.{end_of, bad_end}
use Rattle.wire_prefix.proofs.Ends.{end-good, end_short, end_read}
use Rattle.refusals.specs.Refusals.{first_of}
use Rattle.device_store.specs.Zones.{any}
use Rattle.receiver.specs.declared.record.Record.{Record}
use Rattle.receiver.specs.Receive.{shut, is_open, end_for, refused, accepted, received, Done}
use Rattle.receiver.specs.Words.{record_in, record_words, answer_words}
use Rattle.receiver.proofs.Counts.{Counts, prefix, payload, counts, fits, length_both, end-new, end_known}
use Rattle.demands.specs.Later.{small_room, bad_length, fourth_bad, receive_tests, closes, Receives, ReceivesWords}
use Rattle.demands.proofs.Lists.{never}
use Rattle.demands.proofs.FirstTests.{by_tests}

-- an end is bad exactly where the length before it is
bad-length : (n : ℕ) → bad_end (4 + n) ≡ bad_length n
unfolding bad_end
bad-length zero = refl
bad-length (suc n) = rw (lt-leb (4 + suc n) 4 (omega arith), ne_eqb (suc n) 0 (λ e. omega arith)) above
  where
    above : ltb 2052 (4 + suc n) ≡ ltb 2048 (suc n)
    above =
        elim (dec_lt 2048 (suc n)) [
          | yes h ↦ lt-ltb 2052 (4 + suc n) (omega arith) ∙ sym (lt-ltb 2048 (suc n) h)
          | no h ↦ le-ltb 2052 (4 + suc n) (omega arith) ∙ sym (le-ltb 2048 (suc n) (omega arith))
        ]

module _ (r : Record) (room scrap : List ℕ) where
  -- of open counts, the end in hand is bad exactly at the fourth byte of a bad length
  fourth-bad : is_open r ≡ true → 2052 ≤ length room → bad_end (end_for r room scrap) ≡ fourth_bad r room scrap
  unfolding fourth_bad
  fourth-bad o l = go (counts r o)
    where
      s : List ℕ
      s = take r.have room ++ scrap

      go : Counts r → bad_end (end_for r room scrap) ≡ (ltb r.have 4 && (leb 4 (r.have + length scrap) && bad_length (number_at s 0 4)))
      go (payload a b c d) =
          rw (← end_known r room scrap (λ q. omega arith), le-ltb r.have 4 b) (end-good r.need (omega arith) d)
      go (prefix a b c) = rw (← end-new r room scrap b, lt-ltb r.have 4 c) whole
        where
          both : length s ≡ r.have + length scrap
          both = length_both r.have room scrap (omega (arith, fits r o))

          whole : bad_end (end_of s) ≡ (leb 4 (r.have + length scrap) && bad_length (number_at s 0 4))
          whole =
              elim (dec_lt (r.have + length scrap) 4) [
                | yes h ↦ rw (← end_short s (omega (arith, both)), lt-leb 4 (r.have + length scrap) h) (unfold bad_end in refl)
                | no h ↦ rw (← end_read s (omega (arith, both)), le-leb 4 (r.have + length scrap) (omega arith)) (bad-length (number_at s 0 4))
              ]

  -- a call by its three tests, whatever an accepted one does
  record By (small good bad : Bool) (d : Done) : Type 0 where
    first : d.answer.number ≡ first_of ((small, 15) ∷ (not good, 1) ∷ (bad, 1) ∷ [])
    none-taken : d.answer.number ≢ 0 → (d.answer.taken ≡ 0) × (d.answer.length ≡ 0)
    shuts : (not small && (good && bad)) ≡ true → (d.after ≡ shut) × (d.room ≡ room)
    stays : d.answer.number ≢ 0 → (not small && (good && bad)) ≡ false → (d.after ≡ r) × (d.room ≡ room)

  by : (a b c : Bool) (x : Done) → x.answer.number ≡ 0 → By a b c (cond a (refused 15 r room) (cond b (cond c (refused 1 shut room) x) (refused 1 r room)))
  unfolding first_of refused
  by true b c x e = record { first = refl; none-taken = λ p. (refl, refl); shuts = λ q. never q; stays = λ p q. (refl, refl) }
  by false false c x e = record { first = refl; none-taken = λ p. (refl, refl); shuts = λ q. never q; stays = λ p q. (refl, refl) }
  by false true true x e = record { first = refl; none-taken = λ p. (refl, refl); shuts = λ q. (refl, refl); stays = λ p q. never (sym q) }
  by false true false x e = record { first = e; none-taken = λ p. absurd (p e); shuts = λ q. never q; stays = λ p q. absurd (p e) }

  -- the definition's tests are these
  tested : (x : Done) (a b : Bool) → small_room room ≡ a → is_open r ≡ b
      → cond a (refused 15 r room) (cond b (cond (bad_end (end_for r room scrap)) (refused 1 shut room) x) (refused 1 r room))
      ≡ cond a (refused 15 r room) (cond b (cond (fourth_bad r room scrap) (refused 1 shut room) x) (refused 1 r room))
  tested x true b ea eb = refl
  tested x false false ea eb = refl
  tested x false true ea eb = rw (fourth-bad eb (ltb-false (length room) 2052 ea))

  done-by : By (small_room room) (is_open r) (fourth_bad r room scrap) (received r room scrap)
  unfolding received
  done-by = rw (tested _ (small_room room) (is_open r) refl refl) (by (small_room room) (is_open r) (fourth_bad r room scrap) _ (unfold accepted in refl))

  pub receives : Receives r room scrap (received r room scrap)
  receives =
      record {
        numbered = by_tests _ (receive_tests r room scrap) (unfold receive_tests in done-by.first) (unfold receive_tests any in refl);
        counts = done-by.none-taken;
        closing = unfold closes in done-by.shuts;
        others = unfold closes in done-by.stays;
      }

-- a record stored over its own words changes none
own_words : (ws : List ℕ) → sets ws 0 (record_words (record_in ws)) ≡ ws
unfolding record_words record_in
own_words ws = rw (set-get_or ws 0 0, set-get_or ws 1 0, set-get_or ws 2 0)

pub receives_words : (ws cs room scrap : List ℕ) → ReceivesWords ws cs room scrap (received (record_in ws) room scrap).answer.number
receives_words ws cs room scrap =
    let d = receives (record_in ws) room scrap in
    record {
      counts = λ p. let e = d.counts p in unfold answer_words in rw (e.0, e.1);
      closing = λ q. rw (d.closing q).0;
      others = λ p q. rw (d.others p q).0 (own_words ws);
    }
