-- The places that the search goes over are those of the slots.
use mathlib.Core.Path.{refl, ap, ◌∙◌}
use Prim.Native.Nat.{ℕ}
use mathlib.Core.Bool.{Bool}
use lib.Dec.{eqb}
use lib.ListN.{get_or}
use Rattle.std.proofs.Common.{rules, tests}
use Rattle.std.specs.Option.{unwrap_or}
use Rattle.std.specs.List.{range_with_len}
use Rattle.std.proofs.lemmas.Iterator.{YieldsList-from_range}
use Rattle.std.proofs.lemmas.Iterator.Search.{position_from_yields_List}
use Rattle.device_store.specs.Zones.{slot_of, id_of, free_zone}
use Rattle.device_store.specs.Words.{zones_of}
use Rattle.device_store.proofs.Lens.{zones_length}
use Rattle.device_store.proofs.Ranges.{first-over, place}
use Rattle.device_store.proofs.lenses.slot_of.Goals as goal

pub returns : goal.returns
unfolding slot_of
returns c =
    let has : ℕ → Bool = λ i. eqb (id_of (get_or (zones_of c.args.d.now) i free_zone)) c.args.id in
    let found = position_from_yields_List has _ _ c.position.result c.position.ensures.ran (YieldsList-from_range 0 8 8 refl refl) (λ x b q k. search (rules, tests)) in
    c.unwrap_or.ensures ∙ ap (λ r. unwrap_or r 8) found ∙ place has (range_with_len 0 8)
    ∙ first-over (λ x. eqb (id_of x) c.args.id) (zones_of c.args.d.now) 8 free_zone (zones_length c.args.d.now)
