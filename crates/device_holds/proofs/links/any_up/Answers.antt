-- The places that the search goes over are those of the slots.
use Prim.Native.Nat.{ℕ}
use mathlib.Core.Bool.{Bool}
use mathlib.Core.Path.{refl, ◌∙◌}
use lib.ListN.{get_or}
use Rattle.std.proofs.Common.{rules, tests}
use Rattle.std.proofs.lemmas.Iterator.{YieldsList-from_range}
use Rattle.std.proofs.lemmas.Iterator.Search.{any_from_yields_List}
use Rattle.device_store.specs.Zones.{free_zone, is_up, any_up}
use Rattle.device_store.proofs.Ranges.{any-over}
use Rattle.device_holds.proofs.links.any_up.Goals as goal

pub returns : goal.returns
unfolding any_up
returns g c =
    let up : ℕ → Bool = λ i. is_up (get_or (g.S.ReadSlots.zones c.args.s.now) i free_zone) in
    any_from_yields_List up _ _ _ c.any.ensures.ran (YieldsList-from_range 0 8 8 refl refl) (λ x b q k. search (rules, tests))
    ∙ any-over is_up (g.S.ReadSlots.zones c.args.s.now) 8 free_zone (g.met.S.ReadSlots.all_slots c.args.s.now)
