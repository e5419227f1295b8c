-- What a log says of a zone is said by that zone's own calls since it last joined.
use mathlib.Core.Path.{◌≡◌, refl, ap}
use mathlib.Core.Logic.{◌⊎◌, inl, inr}
use mathlib.Core.Bool.{Bool, true, false, cond}
use mathlib.Core.List.Memᴰ
use mathlib.Core.List.{[], ◌∷◌}
use mathlib.Core.Option.{Option, none, some, get_or}
use Prim.Native.Nat.{ℕ}
use lib.Dec.{eqb}
use borrow.Author.Tests.{eqb-true}
use Rattle.wire_messages.specs.declared.Command.{Command}
use Rattle.device_store.specs.declared.Held.{Held}
use Rattle.device_store.specs.declared.Settings.{Settings}
use Rattle.command_effects.specs.declared.actions.Action.{Action}
use Rattle.device_store.specs.Sizes.{helds}
use Rattle.device_store.specs.Zones.{nothing, precedence_of}
use Rattle.command_effects.specs.Effects.{action, until_of}
use Rattle.command_effects.specs.Says.{duration_of}
use Rattle.demands.specs.History.{Told, joins, leaves, links, commands, overrides, passes, Entry, Log, about, newest, of, says_rank, says_up, said, says_held, up_by, held_by, record_by}
use Rattle.demands.specs.ReleasedSlot.{is_join, own_since, SetTogether}
use Rattle.device_store.proofs.Runs.{up_to-cong}
use Rattle.demands.proofs.Lists.{never}
use Rattle.demands.proofs.Says.{silent}

-- a question that only zone z's calls speak to, and every join of it does
record Own {A : Type 0} (z : ℕ) (says : ℕ → Told → Option A) : Type 0 where
  others : (t : ℕ) (e : Told) → about z e ≡ false → says t e ≡ none
  joined : (t : ℕ) (e : Told) → about z e ≡ true → is_join e ≡ true → (a : A) × (says t e ≡ some a)

own_newest : {A : Type 0} (z : ℕ) (says : ℕ → Told → Option A) (d : A) → Own z says → (h : Log) → newest says d (own_since z h) ≡ newest says d h
unfolding newest own_since
own_newest z says d o [] = refl
own_newest {A} z says d o (e ∷ h) = go (about z e.1) refl (is_join e.1) refl (own_newest z says d o h)
  where
    go : (b : Bool) → about z e.1 ≡ b → (j : Bool) → is_join e.1 ≡ j → newest says d (own_since z h) ≡ newest says d h
        → newest says d (cond b (e ∷ cond j [] (own_since z h)) (own_since z h)) ≡ get_or (says e.0 e.1) (newest says d h)
    go true p true q ih = let r = o.joined e.0 e.1 p q in rw r.1
    go true p false q ih = ap (get_or (says e.0 e.1)) ih
    go false p j q ih = rw (o.others e.0 e.1 p) ih

-- a join of zone z speaks to every question about it
record Opens (z t : ℕ) (e : Told) : Type 0 where
  rank : (a : ℕ) × (says_rank z t e ≡ some a)
  up : (a : Bool) × (says_up z t e ≡ some a)
  held : (s : Settings) (q : ℕ) → (a : Held) × (says_held s z q t e ≡ some a)

opens : (z t : ℕ) (e : Told) → about z e ≡ true → is_join e ≡ true → Opens z t e
unfolding about is_join says_rank says_up says_held of
opens z t (joins y k) p j = record { rank = (k, rw p); up = (true, rw p); held = λ s q. (nothing, rw p) }
opens z t (leaves y) p j = never j
opens z t (links y u) p j = never j
opens z t (commands y c) p j = never j
opens z t (overrides o) p j = never j
opens z t passes p j = never j

own_rank : (z : ℕ) → Own z (says_rank z)
own_rank z = record { others = λ t e p. (silent z t e p).rank; joined = λ t e p j. (opens z t e p j).rank }

own_up : (z : ℕ) → Own z (says_up z)
own_up z = record { others = λ t e p. (silent z t e p).up; joined = λ t e p j. (opens z t e p j).up }

own_held : (s : Settings) (z q : ℕ) → Own z (says_held s z q)
own_held s z q = record { others = λ t e p. (silent z t e p).held s q; joined = λ t e p j. (opens z t e p j).held s q }

pub record_own : (s : Settings) (h : Log) (z : ℕ) → record_by s (own_since z h) z ≡ record_by s h z
unfolding record_by up_by held_by
record_own s h z =
    let l = up_to-cong (λ q. newest (says_held s z q) nothing (own_since z h)) (λ q. newest (says_held s z q) nothing h) helds (λ q k. own_newest z (says_held s z q) nothing (own_held s z q) h) in
    λ i. record { precedence = precedence_of z (own_newest z (says_rank z) 0 (own_rank z) h i); up = own_newest z (says_up z) false (own_up z) h i; held = l i }

-- a value and its end are of one command, or nothing is held
pub set-together : (s : Settings) (h : Log) (z q : ℕ) → (held_by s h z q ≡ nothing) ⊎ SetTogether s h z q (held_by s h z q)
unfolding held_by newest
set-together s [] z q = inl refl
set-together s (e ∷ h) z q = go e.0 e.1 (set-together s h z q)
  where
    old : Held
    old = newest (says_held s z q) nothing h

    older : (x : Entry) → (old ≡ nothing) ⊎ SetTogether s h z q old → (old ≡ nothing) ⊎ SetTogether s (x ∷ h) z q old
    older x (inl n) = inl n
    older x (inr r) =
        inr (record { time = r.time; command = r.command; value = r.value; accepted = Memᴰ.tail r.accepted; sets = r.sets; both = r.both })

    joining : (b : Bool) (x : Entry) → (old ≡ nothing) ⊎ SetTogether s h z q old
        → (get_or (cond b (some nothing) none) old ≡ nothing) ⊎ SetTogether s (x ∷ h) z q (get_or (cond b (some nothing) none) old)
    joining true x ih = inl refl
    joining false x ih = older x ih

    told : (t : ℕ) (c : Command) (a : Action) → action s c q ≡ a → (old ≡ nothing) ⊎ SetTogether s h z q old
        → (get_or (said a (until_of t (duration_of c))) old ≡ nothing) ⊎ SetTogether s ((t, commands z c) ∷ h) z q (get_or (said a (until_of t (duration_of c))) old)
    told t c Action.Keep p ih = unfold said in older (t, commands z c) ih
    told t c Action.Remove p ih = unfold said in inl refl
    told t c (Action.Put v) p ih = unfold said in inr (record { time = t; command = c; value = v; accepted = Memᴰ.head refl; sets = p; both = refl })

    commanding : (t y : ℕ) (c : Command) (b : Bool) → eqb y z ≡ b → (old ≡ nothing) ⊎ SetTogether s h z q old
        → (get_or (cond b (said (action s c q) (until_of t (duration_of c))) none) old ≡ nothing)
        ⊎ SetTogether s ((t, commands y c) ∷ h) z q (get_or (cond b (said (action s c q) (until_of t (duration_of c))) none) old)
    commanding t y c true p ih = rw (eqb-true y z p) (told t c (action s c q) refl ih)
    commanding t y c false p ih = older (t, commands y c) ih

    go : (t : ℕ) (x : Told) → (old ≡ nothing) ⊎ SetTogether s h z q old
        → (get_or (says_held s z q t x) old ≡ nothing) ⊎ SetTogether s ((t, x) ∷ h) z q (get_or (says_held s z q t x) old)
    go t (joins y k) ih = unfold says_held of in joining (eqb y z) (t, joins y k) ih
    go t (leaves y) ih = unfold says_held in older (t, leaves y) ih
    go t (links y u) ih = unfold says_held in older (t, links y u) ih
    go t (commands y c) ih = unfold says_held of in commanding t y c (eqb y z) refl ih
    go t (overrides o) ih = unfold says_held in older (t, overrides o) ih
    go t passes ih = unfold says_held in older (t, passes) ih
