-- What a zone that holds a value says, and what is shown of an amount.
use Rattle.std.specs.Prelude.{None, Some}
use Prim.Native.Nat.{ℕ}
use mathlib.Core.Bool.{Bool, true, false, cond, ◌&&◌}
use mathlib.Core.Logic.{◌⊎◌, inl, inr}
use mathlib.Core.Path.{◌≡◌, refl, sym}
use borrow.Author.Tests.{lt-ltb, ltb-true, eq-eqb, eqb-true}
use lib.Dec.{ltb, eqb}
use lib.IntN.{pos, negsuc}
use Rattle.wire_messages.specs.Options.{Amount}
use Rattle.device_store.specs.Sizes.{value_end}
use Rattle.device_store.specs.Zones.{is_joined, held_of}
use Rattle.device_store.specs.declared.Zone.{Zone}
use Rattle.device_store.proofs.Tests.{never}
use Rattle.device_holds.specs.Holds.{shown}
use Rattle.device_holds.specs.Table.{Unexpired}
use Rattle.device_holders.specs.Holders.{holds_value}

module _ (t q v : ℕ) (x : Zone) where
  pub holds_is : holds_value t q v x ≡ true → Unexpired t q x × ((held_of x q).value ≡ v)
  unfolding holds_value
  holds_is = go (is_joined x) (ltb t (held_of x q).until) (eqb (held_of x q).value v) refl refl refl
    where
      go : (a b c : Bool) → is_joined x ≡ a → ltb t (held_of x q).until ≡ b → eqb (held_of x q).value v ≡ c → (a && (b && c)) ≡ true
          → Unexpired t q x × ((held_of x q).value ≡ v)
      go true true true j l e h = ((j, ltb-true t (held_of x q).until l), eqb-true (held_of x q).value v e)
      go true true false j l e h = absurd (never (sym h))
      go true false c j l e h = absurd (never (sym h))
      go false b c j l e h = absurd (never (sym h))

  pub is_held : Unexpired t q x → (held_of x q).value ≡ v → holds_value t q v x ≡ true
  unfolding holds_value
  is_held u e = rw (u.0, lt-ltb t (held_of x q).until u.1, eq-eqb (held_of x q).value v e)

pub holds_joined : (t q v : ℕ) (x : Zone) → holds_value t q v x ≡ true → is_joined x ≡ true
holds_joined t q v x e = (holds_is t q v x e).0.0

-- an amount is shown as it is, or as none
pub shown-as : (a : Amount) → ((v : ℕ) × (a ≡ Some v) × (shown a ≡ pos v)) ⊎ (shown a ≡ negsuc 0)
unfolding shown
shown-as None = inr refl
shown-as (Some v) = go (ltb v value_end)
  where
    go : (b : Bool) → ((w : ℕ) × (Some v ≡ Some w) × (cond b (pos v) (negsuc 0) ≡ pos w)) ⊎ (cond b (pos v) (negsuc 0) ≡ negsuc 0)
    go true = inl (v, refl, refl)
    go false = inr refl
