-- A sum past the largest word lies past the end of time, as that word does.
use mathlib.Core.Path.{◌∙◌}
use native.Mathlib.Omega.{arith}
use Rattle.device_table.proofs.Ends.{nearer-same}
use Rattle.device_table.proofs.leaves.failsafe_end.Goals as goal

pub returns : goal.returns
returns c = c.nearer.ensures ∙ nearer-same _ _ _ _ (λ h. omega arith) (λ h. omega arith)
