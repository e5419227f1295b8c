-- A record is there, its answer has room, and it can be told: each return stands under the tests before it.
use mathlib.Core.Path.{sym, ◌∙◌}
use borrow.Author.Tests.{le-ltb}
use Rattle.bench_stream.proofs.Stops.{not_so, ready_ended, ready_full, ready_last, ready_told}
use Rattle.bench_stream.proofs.pieces.is_ready.Goals as goal
use Rattle.bench_stream.proofs.pieces.is_ready.Goals.{then-p-s, else-p-s}

pub returns-then-last : goal.returns-then-last
returns-then-last c =
    elim c.if-p-s.branch [
      | then-p-s w ↦ c.if-last.true
          ∙ sym (ready_last c.args.s.now c.args.last c.args.page c.args.p w.if-p-s.true (sym w.has_page.ensures ∙ sym w.value-is ∙ c.if-has_page.true) c.if-last.true)
      | else-p-s w ↦ absurd (not_so (sym (le-ltb _ _ w.if-p-s.false) ∙ sym w.value-is ∙ c.if-has_page.true))
    ]

pub returns-else-last : goal.returns-else-last
returns-else-last c =
    elim c.if-p-s.branch [
      | then-p-s w ↦ c.is_told.ensures
          ∙ sym (ready_told c.args.s.now c.args.last c.args.page c.args.p w.if-p-s.true (sym w.has_page.ensures ∙ sym w.value-is ∙ c.if-has_page.true) c.if-last.false)
      | else-p-s w ↦ absurd (not_so (sym (le-ltb _ _ w.if-p-s.false) ∙ sym w.value-is ∙ c.if-has_page.true))
    ]

pub returns-else-has_page : goal.returns-else-has_page
returns-else-has_page c =
    elim c.if-p-s.branch [
      | then-p-s w ↦ c.if-has_page.false
          ∙ sym (ready_full c.args.s.now c.args.last c.args.page c.args.p w.if-p-s.true (sym w.has_page.ensures ∙ sym w.value-is ∙ c.if-has_page.false))
      | else-p-s w ↦ c.if-has_page.false ∙ sym (ready_ended c.args.s.now c.args.last c.args.page c.args.p w.if-p-s.false)
    ]
