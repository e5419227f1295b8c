-- The smaller of two numbers is the smallest of the failsafe limit and the claim: where there is no claim, its number is the largest word.
use Prim.Native.Nat.{ℕ}
use mathlib.Core.Path.{◌∙◌, ap}
use native.Mathlib.Omega.{arith}
use Rattle.device_store.specs.Smaller.{lesser}
use Rattle.device_table.proofs.Filled.{low_safe}
use Rattle.device_table.proofs.rows.safe_low.Goals as goal

pub returns : goal.returns
returns c a e = c.least.ensures ∙ ap (λ (n : ℕ). lesser c.args.safe n) e ∙ low_safe c.args.safe a (omega arith)
