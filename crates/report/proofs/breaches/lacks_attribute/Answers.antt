-- A row's condition is that of its number, and the list is searched for that number.
use mathlib.Core.Path.{sym, ap, ◌∙◌}
use mathlib.Core.Bool.{not, false≢true}
use borrow.Author.Tests.{eq-eqb}
use Rattle.report.specs.Lists.{flagged}
use Rattle.report.proofs.Candidates.{row_met}
use Rattle.report.proofs.breaches.lacks_attribute.Goals as goal
use Rattle.report.proofs.breaches.lacks_attribute.Goals.{then-i-ne-DEVICE_ROOT, else-i-ne-DEVICE_ROOT}

pub returns-then-meets : goal.returns-then-meets
returns-then-meets c =
    elim c.if-i-ne-DEVICE_ROOT.branch [
      | then-i-ne-DEVICE_ROOT w ↦
          row_met _ _ c.args.k c.requires _ c.row_at-number.ensures w.if-i-ne-DEVICE_ROOT.true w.value-is w.meets.ensures c.if-meets.true
          (c.flag.ensures ∙ ap (flagged c.args.listed.now) c.from.ensures)
      | else-i-ne-DEVICE_ROOT w ↦ absurd (false≢true (sym (w.value-is ∙ ap not (eq-eqb c.args.i.endpoint 0 w.if-i-ne-DEVICE_ROOT.false)) ∙ c.if-meets.true))
    ]
