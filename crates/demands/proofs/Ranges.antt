-- No history stores a number of 2^63 or more, so each value is shown as it is.
use Rattle.std.specs.Prelude.{None, Some}
use mathlib.Core.Path.{◌≡◌, refl, sym, ap, ◌∙◌, subst}
use mathlib.Core.Logic.{⊎_elim}
use mathlib.Core.Bool.{Bool, true, false, cond, ◌&&◌, ◌||◌}
use mathlib.Core.List.Memᴰ
use mathlib.Core.List.{List, [], ◌∷◌, Memᴰ}
use Prim.Native.Nat.{ℕ, zero, suc, ◌<◌}
use native.Mathlib.Nat.{le_of_suc-le-suc, not-suc-le-zero}
use native.Mathlib.Omega.{arith}
use lib.Dec.{ltb, leb, eqb}
use lib.ListN.{get_or}
use borrow.Author.Tests.{leb-false, ltb-true}
use Rattle.wire_messages.specs.declared.Command.{Command}
use Rattle.wire_requests.specs.Requests.{read_request}
use Rattle.wire_requests.specs.declared.reading.Reading.{Reading}
use Rattle.device_store.specs.declared.Held.{Held}
use Rattle.device_store.specs.declared.Zone.{Zone}
use Rattle.device_store.specs.declared.Settings.{Settings}
use Rattle.device_store.specs.Quantities.{is_limit, is_setpoint, direction_of, supports}
use Rattle.device_store.specs.Sizes.{helds, value_end}
use Rattle.device_store.specs.Zones.{id_of, held_of, any_up}
use Rattle.device_holds.specs.Holds.{Claim, winner, amount_of, in_failsafe, smallest_with, failsafe_value, value_at}
use Rattle.device_rules.specs.Rules.{bad_maximum, bad_settings}
use Rattle.device_calls.specs.Start.{refused_settings}
use Rattle.device_holds.proofs.Winner.{claim_there}
use Rattle.demands.specs.Run.{Call, join, leave, lost, back, override, clear, move, frame}
use Rattle.demands.specs.History.{commands, Entry, Log, held_by, zones_by, situation_by}
use Rattle.demands.specs.Accepted.{number_by, kept, tells, entry, log, started_with}
use Rattle.demands.proofs.Small.{SmallCommand, SmallReading, small_reading, small_action}
use Rattle.demands.proofs.Says.{held-of}
use Rattle.demands.proofs.Own.{set-together}
use Rattle.demands.proofs.Claims.{standing}
use Rattle.demands.proofs.Same.{mem-listed}

-- THE LOG: every command in it was read from a frame
Small : Log → Type 0
Small h = (t z : ℕ) (c : Command) → Memᴰ (t, commands z c) h → SmallCommand c

tells-small : (z y : ℕ) (c : Command) (r : Reading) → SmallReading r → commands z c ≡ tells y r → SmallCommand c
unfolding tells
tells-small z y c (Reading.Is r) h e = let q : r.command ≡ c = cc in subst SmallCommand q h
tells-small z y c (Reading.Unserved i) h e = absurd (let w : ◌≡◌ {A = ℕ} 0 1 = cc in omega arith)
tells-small z y c (Reading.Refused n) h e = absurd (let w : ◌≡◌ {A = ℕ} 0 1 = cc in omega arith)

entry-small : (z : ℕ) (c : Command) (call : Call) → commands z c ≡ (entry call).1 → SmallCommand c
unfolding entry
entry-small z c (join y k t) e = absurd (let w : ◌≡◌ {A = ℕ} 0 1 = cc in omega arith)
entry-small z c (leave y t) e = absurd (let w : ◌≡◌ {A = ℕ} 0 1 = cc in omega arith)
entry-small z c (lost y t) e = absurd (let w : ◌≡◌ {A = ℕ} 0 1 = cc in omega arith)
entry-small z c (back y t) e = absurd (let w : ◌≡◌ {A = ℕ} 0 1 = cc in omega arith)
entry-small z c (override r d t) e = absurd (let w : ◌≡◌ {A = ℕ} 0 1 = cc in omega arith)
entry-small z c (clear t) e = absurd (let w : ◌≡◌ {A = ℕ} 0 1 = cc in omega arith)
entry-small z c (move t) e = absurd (let w : ◌≡◌ {A = ℕ} 0 1 = cc in omega arith)
entry-small z c (frame y t bytes room) e = tells-small z y c (read_request bytes) (small_reading bytes) e

log-small : (s : Settings) (calls : List Call) → Small (log s calls)
unfolding Small log kept
log-small s [] t z c m = absurd (Memᴰ.not-nil m)
log-small s (call ∷ calls) t z c m = go (eqb (number_by s (log s calls) call) 0) m (log-small s calls t z c)
  where
    go : (b : Bool) → Memᴰ (t, commands z c) (cond b (entry call ∷ log s calls) (log s calls)) → (Memᴰ (t, commands z c) (log s calls) → SmallCommand c) → SmallCommand c
    go true m ih = ⊎_elim (λ e. entry-small z c call (ap (λ (x : Entry). x.1) e)) ih (Memᴰ.cases_cons m)
    go false m ih = ih m

-- THE ZONES
held_small : (s : Settings) (h : Log) → Small h → (z q : ℕ) → (held_by s h z q).value < value_end
unfolding Small
held_small s h k z q =
    ⊎_elim (λ e. let v : (held_by s h z q).value ≡ 0 = ap (λ (x : Held). x.value) e in omega arith)
    (λ r. let v : (held_by s h z q).value ≡ r.value = ap (λ (x : Held). x.value) r.both in
    let n = small_action s r.command q r.value (k r.time z r.command r.accepted) r.sets in omega arith)
    (set-together s h z q)

zone_small : (s : Settings) (h : Log) → Small h → (q : ℕ) → q < helds → (x : Zone) → Memᴰ x (zones_by s h) → (held_of x q).value < value_end
zone_small s h k q l x m =
    let e = (mem-listed s h 255 (omega arith) x m).whole in
    let v : (held_of x q).value ≡ (held_by s h (id_of x) q).value = ap (λ (y : Held). y.value) (ap (λ (y : Zone). held_of y q) e ∙ held-of s h (id_of x) q l) in
    let n = held_small s h k (id_of x) q in
    omega arith

-- THE SETTINGS
or_false : (a b : Bool) → (a || b) ≡ false → (a ≡ false) × (b ≡ false)
or_false true b e = absurd (let w : ◌≡◌ {A = ℕ} 0 1 = cc in omega arith)
or_false false b e = (refl, e)

-- the fifth and sixth of tests of which none holds
fifth : (a b c d f g r : Bool) → (a || (b || (c || (d || (f || (g || r)))))) ≡ false → (f ≡ false) × (g ≡ false)
fifth a b c d f g r e =
    let p = or_false d (f || (g || r)) (or_false c (d || (f || (g || r))) (or_false b (c || (d || (f || (g || r)))) (or_false a (b || (c || (d || (f || (g || r))))) e).1).1).1 in
    ((or_false f (g || r) p.1).0, (or_false g r (or_false f (g || r) p.1).1).0)

good-failsafe : (s : Settings) → bad_settings s ≡ false → (q : ℕ) → q < 2 → get_or s.failsafe q 0 < value_end
unfolding bad_settings
good-failsafe s e q l =
    let r = fifth (ltb 2 s.directions) (leb value_end s.minimum) (bad_maximum (get_or s.maxima 0 0)) (bad_maximum (get_or s.maxima 1 0)) _ _ _ e in
    each q l (leb-false value_end (get_or s.failsafe 0 0) r.0) (leb-false value_end (get_or s.failsafe 1 0) r.1)
  where
    each : (q : ℕ) → q < 2 → get_or s.failsafe 0 0 < value_end → get_or s.failsafe 1 0 < value_end → get_or s.failsafe q 0 < value_end
    each zero l x y = x
    each (suc zero) l x y = y
    each (suc (suc q)) l x y = absurd (not-suc-le-zero (le_of_suc-le-suc (le_of_suc-le-suc l)))

failsafe_small : (s : Settings) (q : ℕ) → q < 2 → get_or (started_with s).failsafe q 0 < value_end
unfolding started_with
failsafe_small s q l = go (bad_settings s) refl
  where
    refused : (q : ℕ) → q < 2 → get_or refused_settings.failsafe q 0 < value_end
    refused zero l = omega arith
    refused (suc zero) l = omega arith
    refused (suc (suc q)) l = absurd (not-suc-le-zero (le_of_suc-le-suc (le_of_suc-le-suc l)))

    go : (b : Bool) → bad_settings s ≡ b → get_or (cond b refused_settings s).failsafe q 0 < value_end
    go true e = refused q l
    go false e = good-failsafe s e q l

-- THE VALUES
winner-small : (s : Settings) (h : Log) → Small h → (t q v : ℕ) → q < helds → amount_of (winner t q (zones_by s h)) ≡ Some v → v < value_end
winner-small s h k t q v l e = go (winner t q (zones_by s h)).there refl e
  where
    c : Claim
    c = winner t q (zones_by s h)

    go : (b : Bool) → c.there ≡ b → cond b (Some c.value) None ≡ Some v → v < value_end
    go true p e =
        let r = standing t q (zones_by s h) p in
        let w : c.value ≡ v = cc in
        let u : c.value ≡ (held_of r.0 q).value = ap (λ (x : Claim). x.value) (sym r.3 ∙ claim_there t q r.0 r.2) in
        omega (arith, zone_small s h k q l r.0 r.1)
    go false p e = absurd (let w : ◌≡◌ {A = ℕ} 0 1 = cc in omega arith)

pub value_small : (s : Settings) (calls : List Call) (t q v : ℕ) → q < helds → value_at (situation_by (started_with s) (log (started_with s) calls)) t q ≡ Some v → v < value_end
unfolding value_at failsafe_value smallest_with
value_small s calls t q v l e = go (supports u.directions (direction_of q)) (any_up (zones_by u h)) (in_failsafe (situation_by u h) t) (is_limit q) (is_setpoint q) refl e
  where
    u : Settings
    u = started_with s

    h : Log
    h = log u calls

    n : ℕ
    n = get_or u.failsafe q 0

    c₀ : Claim
    c₀ = winner t q (zones_by u h)

    -- no larger than the failsafe limit
    least-small : is_limit q ≡ true → smallest_with n c₀ < value_end
    least-small p = least c₀.there (ltb c₀.value n) refl
      where
        least : (a b : Bool) → ltb c₀.value n ≡ b → cond (a && b) c₀.value n < value_end
        least true true e = omega (arith, ltb-true c₀.value n e, failsafe_small s q (ltb-true q 2 p))
        least true false e = failsafe_small s q (ltb-true q 2 p)
        least false b e = failsafe_small s q (ltb-true q 2 p)

    go : (a b c d s : Bool) → is_limit q ≡ d
        → cond a (cond b (amount_of c₀) (cond c (cond d (Some (smallest_with n c₀)) (cond s None (amount_of c₀))) None)) None ≡ Some v → v < value_end
    go true true c d s p e = winner-small u h (log-small u calls) t q v l e
    go true false true true s p e = let w : smallest_with n c₀ ≡ v = cc in omega (arith, least-small p)
    go true false true false true p e = absurd (let w : ◌≡◌ {A = ℕ} 0 1 = cc in omega arith)
    go true false true false false p e = winner-small u h (log-small u calls) t q v l e
    go true false false d s p e = absurd (let w : ◌≡◌ {A = ℕ} 0 1 = cc in omega arith)
    go false b c d s p e = absurd (let w : ◌≡◌ {A = ℕ} 0 1 = cc in omega arith)
