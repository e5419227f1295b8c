-- What one accepted call more says of a zone: nothing unless it is of that zone.
use mathlib.Core.Path.{◌≡◌, refl, sym, ap, ◌∙◌}
use mathlib.Core.Bool.{Bool, true, false}
use mathlib.Core.List.{◌∷◌}
use mathlib.Core.Option.{Option, none, get_or}
use Prim.Native.Nat.{ℕ, ◌<◌}
use lib.ListN.{length}
use borrow.Author.Tests.{eq-eqb}
use Rattle.wire_messages.specs.declared.Command.{Command}
use Rattle.device_store.specs.declared.Held.{Held}
use Rattle.device_store.specs.declared.Settings.{Settings}
use Rattle.command_effects.specs.declared.actions.Action.{Action}
use Rattle.device_store.specs.Sizes.{helds}
use Rattle.device_store.specs.Zones.{up_to, nothing, precedence_of, new_zone, linked, held_of}
use Rattle.command_effects.specs.Effects.{action, until_of, done, obeyed}
use Rattle.command_effects.specs.Says.{duration_of}
use Rattle.demands.specs.History.{Told, joins, leaves, links, commands, overrides, passes, Log, newest, of, says_joined, says_rank, says_up, said, says_held, joined_by, up_by, held_by, record_by, about}
use Rattle.device_store.proofs.Runs.{length-up_to, get_d-up_to, up_to-cong}

-- a call that is not of zone z says nothing of it
pub record Silent (z t : ℕ) (e : Told) : Type 0 where
  pub joined : says_joined z t e ≡ none
  pub rank : says_rank z t e ≡ none
  pub up : says_up z t e ≡ none
  pub held : (s : Settings) (q : ℕ) → says_held s z q t e ≡ none

pub silent : (z t : ℕ) (e : Told) → about z e ≡ false → Silent z t e
unfolding about of says_joined says_rank says_up says_held
silent z t (joins y k) p = record { joined = rw p; rank = rw p; up = rw p; held = λ s q. rw p }
silent z t (leaves y) p = record { joined = rw p; rank = refl; up = refl; held = λ s q. refl }
silent z t (links y u) p = record { joined = refl; rank = refl; up = rw p; held = λ s q. refl }
silent z t (commands y c) p = record { joined = refl; rank = refl; up = refl; held = λ s q. rw p }
silent z t (overrides o) p = record { joined = refl; rank = refl; up = refl; held = λ s q. refl }
silent z t passes p = record { joined = refl; rank = refl; up = refl; held = λ s q. refl }

passed_over : {A : Type 0} (says : ℕ → Told → Option A) (d : A) (h : Log) (t : ℕ) (e : Told) → says t e ≡ none → newest says d ((t, e) ∷ h) ≡ newest says d h
unfolding newest
passed_over says d h t e p = rw p

pub joined-other : (h : Log) (z t : ℕ) (e : Told) → about z e ≡ false → joined_by ((t, e) ∷ h) z ≡ joined_by h z
unfolding joined_by
joined-other h z t e p = passed_over (says_joined z) false h t e (silent z t e p).joined

pub record_other : (s : Settings) (h : Log) (z t : ℕ) (e : Told) → about z e ≡ false → record_by s ((t, e) ∷ h) z ≡ record_by s h z
unfolding record_by up_by held_by
record_other s h z t e p =
    let n = silent z t e p in
    let r = passed_over (says_rank z) 0 h t e n.rank in
    let u = passed_over (says_up z) false h t e n.up in
    let l = up_to-cong (λ q. newest (says_held s z q) nothing ((t, e) ∷ h)) (λ q. newest (says_held s z q) nothing h) helds (λ q k. passed_over (says_held s z q) nothing h t e (n.held s q)) in
    λ i. record { precedence = precedence_of z (r i); up = u i; held = l i }

-- a call of zone z
pub joined-join : (h : Log) (z t k : ℕ) → joined_by ((t, joins z k) ∷ h) z ≡ true
unfolding joined_by newest of says_joined
joined-join h z t k = rw (eq-eqb z z refl)

pub record_join : (s : Settings) (h : Log) (z t k : ℕ) → record_by s ((t, joins z k) ∷ h) z ≡ new_zone z k
unfolding record_by up_by held_by newest of says_rank says_up says_held up_to
record_join s h z t k = rw (eq-eqb z z refl)

pub joined-leave : (h : Log) (z t : ℕ) → joined_by ((t, leaves z) ∷ h) z ≡ false
unfolding joined_by newest of says_joined
joined-leave h z t = rw (eq-eqb z z refl)

pub joined-link : (h : Log) (z t : ℕ) (u : Bool) → joined_by ((t, links z u) ∷ h) z ≡ joined_by h z
unfolding joined_by newest says_joined
joined-link h z t u = refl

pub record_link : (s : Settings) (h : Log) (z t : ℕ) (u : Bool) → record_by s ((t, links z u) ∷ h) z ≡ linked (record_by s h z) u
unfolding record_by up_by held_by newest of says_rank says_up says_held up_to
record_link s h z t u = rw (eq-eqb z z refl)

pub joined-command : (h : Log) (z t : ℕ) (c : Command) → joined_by ((t, commands z c) ∷ h) z ≡ joined_by h z
unfolding joined_by newest says_joined
joined-command h z t c = refl

said-done : (a : Action) (end : ℕ) (h : Held) → get_or (said a end) h ≡ done a end h
unfolding said done
said-done Action.Keep end h = refl
said-done Action.Remove end h = refl
said-done (Action.Put v) end h = refl

held-command : (s : Settings) (h : Log) (z t q : ℕ) (c : Command) → held_by s ((t, commands z c) ∷ h) z q ≡ done (action s c q) (until_of t (duration_of c)) (held_by s h z q)
unfolding held_by newest of says_held
held-command s h z t q c = rw (eq-eqb z z refl) (said-done (action s c q) (until_of t (duration_of c)) (newest (says_held s z q) nothing h))

pub held-of : (s : Settings) (h : Log) (z q : ℕ) → q < helds → held_of (record_by s h z) q ≡ held_by s h z q
unfolding held_of record_by
held-of s h z q k = get_d-up_to (held_by s h z) helds q nothing k

pub record_command : (s : Settings) (h : Log) (z t : ℕ) (c : Command) → record_by s ((t, commands z c) ∷ h) z ≡ obeyed s c t (record_by s h z)
unfolding record_by up_by newest of says_rank says_up obeyed
record_command s h z t c =
    let l = up_to-cong (held_by s ((t, commands z c) ∷ h) z) (λ q. done (action s c q) (until_of t (duration_of c)) (held_of (record_by s h z) q)) helds
    (λ q k. held-command s h z t q c ∙ ap (done (action s c q) (until_of t (duration_of c))) (sym (held-of s h z q k))) in
    λ i. record { precedence = precedence_of z (newest (says_rank z) 0 h); up = newest (says_up z) false h; held = l i }

pub record_size : (s : Settings) (h : Log) (z : ℕ) → length (record_by s h z).held ≡ helds
unfolding record_by
record_size s h z = length-up_to (held_by s h z) helds
