-- By the form that the additional information has.
use mathlib.Core.Path.{sym, ◌∙◌}
use Rattle.wire_heads.specs.declared.reading.Form.{Form}
use Rattle.wire_bytes.proofs.NumberLaws.{all_bytes}
use Rattle.wire_heads.proofs.HeadSteps.{form_width, arg_is}
use Rattle.wire_heads.proofs.reading.argument_of.Goals as goal

pub held-requires : goal.held-requires
held-requires c = (c.requires, form_width c.args.info _ _ (sym c.in-Behind.ensures))

pub returns-in-Itself : goal.returns-in-Itself
returns-in-Itself c =
    arg_is c.args.s.now (all_bytes _ c.type_inv.s) c.args.at c.args.info Form.Itself c.in-Itself.ensures

pub returns-in-Behind : goal.returns-in-Behind
returns-in-Behind c =
    c.held.ensures ∙ arg_is c.args.s.now (all_bytes _ c.type_inv.s) c.args.at c.args.info (Form.Behind _ _) c.in-Behind.ensures

pub returns-in-Nowhere : goal.returns-in-Nowhere
returns-in-Nowhere c =
    arg_is c.args.s.now (all_bytes _ c.type_inv.s) c.args.at c.args.info Form.Nowhere c.in-Nowhere.ensures
