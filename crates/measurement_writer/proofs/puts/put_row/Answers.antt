-- One number, or a map of phases.
use Rattle.measurement_writer.proofs.FitWalk.{three_places}
use Rattle.measurement_writer.proofs.Walk.{key_low}
use Rattle.measurement_writer.proofs.Cases.{item_one}
use Rattle.measurement_writer.proofs.Short.{one_put}
use Rattle.measurement_writer.proofs.puts.put_row.Goals as goal

pub returns-then-row-eq1 : goal.returns-then-row-eq1
returns-then-row-eq1 c =
    one_put _ (key_low _ c.requires.1) _ _ (item_one _ _ _ c.if-row-eq1.true) _ c.if-row-eq1.true _ c.cell_key_head-a.ensures c.put_key_head.ensures

pub put_three-requires : goal.put_three-requires
put_three-requires c = (c.requires.0, c.requires.1, three_places _ c.requires.1 c.if-row-eq1.false)
