-- A map of fields holds each of them, and what holds well-formed fields is well formed. Assumes nothing.
use Prim.Native.Nat.{ℕ, ◌+◌, ◌^◌, ◌≤◌, ◌<◌}
use mathlib.Core.Path.{◌≡◌, refl, ◌∙◌}
use mathlib.Core.Bool.{true}
use mathlib.Core.List.{[], ◌∷◌}
use mathlib.Core.Option.{none}
use native.Mathlib.Omega.{arith}
use lib.Dec.{ltb}
use borrow.Author.Tests.{eq-eqb, ne_eqb, ltb-true}
use Rattle.wire_cbor.specs.Item.{Pairs, OkPairs}
use Rattle.wire_cbor.specs.Find.{value_of}
use Rattle.wire_fields.specs.Fields.{Fields, present}
use Rattle.wire_fields.specs.ByPhase.{keys_below}
use Rattle.wire_fields.proofs.Joined.{and_left, and_right}
use Rattle.wire_laws.proofs.Maps.{field_at, Ascending, values, Holds, OkFields}
use Rattle.wire_laws.proofs.PhaseTrips.{held-ok}

-- the fields behind a key below them
holds_behind : (j : ℕ) (all fs : Fields) (lo : ℕ) → Ascending fs (j + 1) → ((k : ℕ) → j < k → field_at all k ≡ field_at fs k) → Ascending all lo → Holds (present all) fs
holds_behind j all [] lo a h b = tt
holds_behind j all (f ∷ fs) lo a h b = (
  values all lo f.0 b ∙ h f.0 (omega (arith, a.0)) ∙ rw (eq-eqb f.0 f.0 refl) refl,
  holds_behind f.0 all fs lo a.1 (λ k l. h k (omega (arith, a.0)) ∙ rw (ne_eqb f.0 k (λ e. omega arith)) refl) b,
)

pub holds_present : (fs : Fields) (lo : ℕ) → Ascending fs lo → Holds (present fs) fs
holds_present [] lo a = tt
holds_present (f ∷ fs) lo a = (
  values (f ∷ fs) lo f.0 a ∙ rw (eq-eqb f.0 f.0 refl) refl,
  holds_behind f.0 (f ∷ fs) fs lo a.1 (λ k l. rw (ne_eqb f.0 k (λ e. omega arith)) refl) a,
)

-- keys of 64 bits
abbrev pub Narrow : Fields → Type 0
Narrow [] = Unit {0}
Narrow (f ∷ fs) = (f.0 < 2 ^ 64) × Narrow fs

-- fields are well formed, as the map that holds them is
pub ok_held : (ps : Pairs) (fs : Fields) (lo d : ℕ) → OkPairs ps lo d → Narrow fs → Holds ps fs → OkFields fs d
ok_held ps [] lo d o n h = tt
ok_held ps (f ∷ fs) lo d o n h = (n.0, held-ok ps lo d f.0 f.1 o h.0, ok_held ps fs lo d o n.1 h.1)

-- no key from w on
pub none_from : (ps : Pairs) (w k : ℕ) → keys_below w ps ≡ true → w ≤ k → value_of ps k ≡ none
unfolding keys_below value_of
none_from Pairs.empty w k e h = refl
none_from (Pairs.pair j i ps) w k e h =
    let l = ltb-true j w (and_left (ltb j w) (keys_below w ps) e) in
    rw (ne_eqb j k (λ z. omega arith)) (none_from ps w k (and_right (ltb j w) (keys_below w ps) e) h)
