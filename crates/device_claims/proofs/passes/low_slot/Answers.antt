-- A free slot claims nothing; each turn reads one limit of a joined zone.
use Prim.Native.Nat.{◌≤◌}
use mathlib.Core.Bool.{true}
use mathlib.Core.Path.{◌≡◌, refl, sym, ◌∙◌}
use native.Mathlib.Omega.{arith}
use borrow.Author.Tests.{eq-eqb, ne_eqb}
use lib.ListN.{get_or}
use Rattle.device_store.specs.Quantities.{lowest_values, low_at}
use Rattle.device_store.specs.Sizes.{most}
use Rattle.device_store.specs.Zones.{free_zone, is_joined, held_of}
use Rattle.device_store.specs.declared.Zone.{Zone}
use Rattle.device_claims.specs.Pass.{turns, lowest_values_with}
use Rattle.device_claims.proofs.Claims.{free-lowest_values, lowest_values-add, lowest_values-end, lowest_values-turn, below_turn}
use Rattle.device_claims.proofs.passes.low_slot.Goals as goal

pub returns-then-id-eq0 : goal.returns-then-id-eq0
unfolding is_joined
returns-then-id-eq0 g c =
    let both =
    free-lowest_values _ _ (rw (eq-eqb _ _ (sym c.id.ensures ∙ c.if-id-eq0.true))) _ in
    record { adds = both.0; next_value = both.1 }

pub loop-k-init : goal.loop-k-init
unfolding turns
loop-k-init g c = (refl, λ j h. absurd (omega arith))

pub loop-k-preserved : goal.loop-k-preserved
loop-k-preserved g c =
    let x : Zone = get_or (g.S.ReadSlots.zones c.args.s.now) c.args.i free_zone in
    let held : c.held.result ≡ held_of x (low_at c.loop-k.k) = rw c.low_at.ensures at c.held.ensures in (
      lowest_values-turn c.args.t x c.loop-k.k c.args.start c.loop-k.g c.low_with-g.result c.held.result c.loop-k.invariant.0 held c.low_with-g.ensures.value,
      below_turn (λ j. (held_of x (low_at j)).value ≤ most) c.loop-k.k c.loop-k.invariant.1 (rw held at c.low_with-g.ensures.value_le_most),
    )

pub returns : goal.returns
unfolding is_joined
returns g c =
    let x : Zone = get_or (g.S.ReadSlots.zones c.args.s.now) c.args.i free_zone in
    let e : c.loop-k.k ≡ lowest_values = omega arith in
    let joined : is_joined x ≡ true = rw (ne_eqb _ _ (λ z. c.if-id-eq0.false (c.id.ensures ∙ z))) in
    let is : c.loop-k.g ≡ lowest_values_with c.args.t x lowest_values c.args.start = rw e at c.loop-k.invariant.0 in
    rw is
    (record {
      adds = lowest_values-add c.args.t x joined c.args.start (rw e at c.loop-k.invariant.1);
      next_value = lowest_values-end c.args.t x joined c.args.start;
    })
