-- Both steps stop at the largest word.
use mathlib.Core.Path.{◌≡◌, ◌∙◌}
use Prim.Native.Nat.{min, ◌+◌, ◌*◌, ◌%◌}
use native.Mathlib.Omega.{arith}
use Rattle.console_words.proofs.Digits.{capped}
use Rattle.console_words.proofs.numbers.with_digit.Goals as goal

pub returns : goal.returns
returns c =
    let h : c.saturating_add.result ≡ min (10 * c.args.value + c.args.b % 16) 18446744073709551615 = omega arith in
    h ∙ capped _
