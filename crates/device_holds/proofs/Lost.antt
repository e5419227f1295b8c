-- Losing links loosens no limit: the zone that held it with a link up is joined without one, and holds it still.
use Rattle.std.specs.Prelude.{None, Some as Is}
use Prim.Native.Nat.{ℕ, zero, suc, ◌<◌, ◌≤◌}
use mathlib.Core.Bool.{Bool, true, false, ◌||◌}
use mathlib.Core.Logic.{◌⊎◌, inl, inr, ⊎_elim}
use mathlib.Core.Path.{◌≡◌, refl}
use mathlib.Core.List.{List, [], ◌∷◌}
use native.Mathlib.Nat.{le_of_suc-le-suc, not-suc-le-zero}
use native.Mathlib.Omega.{arith}
use borrow.Author.Tests.{le-leb, ltb-false}
use lib.ListN.{length, get_or}
use Rattle.device_store.specs.Zones.{free_zone, any, id_of, is_joined, any_joined, held_of}
use Rattle.device_store.specs.Quantities.{is_limit, is_setpoint, is_current, direction_of, supports}
use Rattle.wire_messages.specs.Options.{Amount}
use Rattle.device_holds.specs.Holds.{value_at}
use Rattle.device_holds.specs.Table.{Unexpired, Some, SmallestSource, Failsafe, LosingLinks}
use Rattle.device_store.specs.declared.Zone.{Zone}
use Rattle.device_holds.proofs.Rows.{value_there, smallest_limit, none-up}

-- a joined zone in a slot: some zone is joined
some-joined : (zs : List Zone) (i : ℕ) → i < length zs → is_joined (get_or zs i free_zone) ≡ true → any_joined zs ≡ true
unfolding any_joined any
some-joined [] i h e = absurd (not-suc-le-zero h)
some-joined (x ∷ zs) zero h e = rw e
some-joined (x ∷ zs) (suc i) h e = rw (some-joined zs i (le_of_suc-le-suc h) e) (go (is_joined x))
  where
    go : (b : Bool) → (b || true) ≡ true
    go true = refl
    go false = refl

-- an amount is there, or absent
there_or_absent : (a : Amount) → ((w : ℕ) × (a ≡ Is w)) ⊎ (a ≡ None)
there_or_absent None = inr refl
there_or_absent (Is w) = inl (w, refl)

-- what is neither a power limit nor a setpoint is a current limit
is-current : (q : ℕ) → is_setpoint q ≡ false → is_limit q ≡ false → is_current q ≡ true
is-current q e l = let h : 2 ≤ q = ltb-false q 2 l in le-leb 4 q (ltb-false q 4 (rw (le-leb 2 q h) at e))

pub losing_links : LosingLinks
unfolding is_joined id_of held_of
losing_links lost linked same down up t h q v l e =
    let from : Some t q linked.zones (λ x. (held_of x q).value ≡ v) = (smallest_limit linked t up q l v e).0 in
    let i : ℕ = from.0 in
    let here : i < length lost.zones = omega (arith, from.1, same.slots) in
    let still : Unexpired t q (get_or lost.zones i free_zone) = rw (same.precedences i, same.held i) from.2 in
    let value : (held_of (get_or lost.zones i free_zone) q).value ≡ v = rw (same.held i) from.3 in
    let supported : supports lost.settings.directions (direction_of q) ≡ true = rw same.settings (value_there linked t up q v e).0 in
    let row : Failsafe lost t = (none-up lost t down (some-joined lost.zones i here still.0)).before h in
    go i here still value supported row (is_limit q) refl
  where
    go : (i : ℕ) → i < length lost.zones → Unexpired t q (get_or lost.zones i free_zone) → (held_of (get_or lost.zones i free_zone) q).value ≡ v
        → supports lost.settings.directions (direction_of q) ≡ true → Failsafe lost t → (b : Bool) → is_limit q ≡ b → (w : ℕ) × (value_at lost t q ≡ Is w) × (w ≤ v)
    go i here still value supported row true k =
        let w : (w : ℕ) × (value_at lost t q ≡ Is w) × SmallestSource lost t q w = row.limit q supported k in
        (w.0, w.1, omega (arith, value, w.2.first i here still))
    go i here still value supported row false k =
        let current : is_current q ≡ true = is-current q l k in
        ⊎_elim
        (λ w. (w.0, w.1, omega (arith, value, (row.current q current w.0 w.1).1 i here still)))
        (λ n. absurd ((row.absent q current supported).0 n i here still))
        (there_or_absent (value_at lost t q))
