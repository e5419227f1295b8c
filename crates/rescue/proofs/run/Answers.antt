-- The rooms are always enough, so what `rescue` leaves in them is what the program's text says.
use Rattle.rescue_walk.proofs.Programs.{does, says}
use Rattle.rescue.proofs.run.Goals as goal

pub returns : goal.returns
returns c =
    let done = does c.args.input.now c.args.out.now c.args.report.now _ _ _ (c.rescue-x.ensures.value, (c.rescue-x.ensures.out_after, c.rescue-x.ensures.report_after)) c.requires.0 c.requires.1
    in
    let said = says c.args.input.now c.args.out.now c.args.report.now _ _ _ (c.rescue-x.ensures.value, (c.rescue-x.ensures.out_after, c.rescue-x.ensures.report_after)) in
    record {
      kept_value = done.0;
      said_value = said done.1 _ _ _ c.requires.2 (c.put_text.ensures.value, c.put_text.ensures.out_after);
    }
