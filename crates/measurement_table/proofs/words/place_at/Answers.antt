-- Past the last place both words are past the end, as all the words are WORDS many.
use mathlib.Core.Path.{◌≡◌, ap}
use native.Mathlib.Omega.{arith}
use lib.ListN.{length}
use borrow.Author.Rules.{rules}
use Rattle.measurement_table.proofs.Held.{get_past}
use Rattle.measurement_table.proofs.words.place_at.Goals as goal

pub returns : goal.returns
returns c =
    let l : length c.all-a.result ≡ 72 = search rules in
    get_past _ _ (omega (arith, ap length c.all-a.ensures))
