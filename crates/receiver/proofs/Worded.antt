-- A call over words is the call over the record that they say. Assumes nothing.
use Prim.Native.Nat.{ℕ}
use mathlib.Core.Path.{◌≡◌, ap, ◌∙◌}
use mathlib.Core.List.{List}
use lib.Seq.{sets}
use Rattle.receiver.specs.declared.record.Record.{Record}
use Rattle.receiver.specs.declared.record.Answer.{Answer}
use Rattle.receiver.specs.declared.record.Decision.{Decision}
use Rattle.receiver.specs.Receive.{received, Done, Does}
use Rattle.receiver.specs.Words.{record_in, record_words, answer_words}

module _ (ws room scrap cs : List ℕ) where
  abbrev done : Done
  done = received (record_in ws) room scrap

  pub worded : (r : Record) (x : Decision) (us t vs : List ℕ) → r ≡ record_in ws → Does (received r room scrap) x.answer x.after t
      → us ≡ sets ws 0 (record_words x.after) → vs ≡ sets cs 0 (answer_words x.answer)
      → (x.answer.number ≡ done.answer.number) × (us ≡ sets ws 0 (record_words done.after)) × (t ≡ done.room) × (vs ≡ sets cs 0 (answer_words done.answer))
  worded r x us t vs e d u v =
      let a : x.answer ≡ done.answer = d.0 ∙ ap (λ (q : Record). (received q room scrap).answer) e in
      let b : x.after ≡ done.after = d.1 ∙ ap (λ (q : Record). (received q room scrap).after) e in (
        ap (λ (z : Answer). z.number) a,
        u ∙ ap (λ (z : Record). sets ws 0 (record_words z)) b,
        d.2 ∙ ap (λ (q : Record). (received q room scrap).room) e,
        v ∙ ap (λ (z : Answer). sets cs 0 (answer_words z)) a,
      )
