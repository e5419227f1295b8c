-- No accepted call is past the end of time, so that the failsafe ends at a second that a word holds.
use Prim.Native.Nat.{ℕ, ◌+◌, ◌≤◌, ◌<◌}
use mathlib.Core.Path.{◌≡◌, refl}
use mathlib.Core.Bool.{Bool, true, false, cond, not, ◌&&◌, ◌||◌}
use mathlib.Core.List.{List, [], ◌∷◌}
use native.Mathlib.Omega.{arith}
use borrow.Author.Tests.{eqb-true, leb-false, ltb-false, le-ltb}
use lib.Dec.{ltb, leb, eqb}
use lib.ListN.{get_or}
use Rattle.refusals.specs.Refusals.{first_of}
use Rattle.wire_requests.specs.Requests.{read_request}
use Rattle.wire_requests.specs.declared.reading.Reading.{Reading}
use Rattle.device_store.specs.Sizes.{end, most, value_end}
use Rattle.device_store.specs.Zones.{any_up}
use Rattle.device_store.specs.declared.Settings.{Settings}
use Rattle.device_store.specs.Smaller.{lesser}
use Rattle.device_holds.specs.Links.{since_after}
use Rattle.device_rules.specs.Rules.{late, bad_maximum, outside, bad_settings}
use Rattle.command_effects.specs.Content.{is_unserved}
use Rattle.device_calls.specs.Start.{refused_settings}
use Rattle.demands.specs.Run.{Call, join, leave, lost, back, override, clear, move, frame}
use Rattle.demands.specs.History.{Log, clock_by, zones_by, since_by}
use Rattle.demands.specs.Accepted.{link_number_by, command_number_by, kept, number_from_by, number_by, entry, log, started_with, told}
use Rattle.demands.proofs.Readings.{writes, refuses}

-- a test that does not refuse
past : (b : Bool) (n r : ℕ) → 1 ≤ n → cond b n r ≡ 0 → (b ≡ false) × (r ≡ 0)
past true n r p e = absurd (omega arith)
past false n r p e = (refl, e)

or_false : (a b : Bool) → (a || b) ≡ false → (a ≡ false) × (b ≡ false)
or_false true b e = absurd (let w : ◌≡◌ {A = ℕ} 0 1 = cc in omega arith)
or_false false b e = (refl, e)

in_time : (clock t r : ℕ) → cond (late clock t) 5 r ≡ 0 → t < end
unfolding late
in_time clock t r e = leb-false end t (or_false (ltb t clock) (leb end t) (past (late clock t) 5 r (omega arith) e).0).1

module _ (s : Settings) (h : Log) where
  link_time : (z : ℕ) (u : Bool) (t : ℕ) → link_number_by h z u t ≡ 0 → t < end
  unfolding link_number_by first_of
  link_time z u t e = in_time (clock_by h) t _ e

  reading_time : (z t : ℕ) (r : Reading) (room : ℕ) → ((n : ℕ) → r ≡ Reading.Refused n → 1 ≤ n) → number_from_by s h z t r room ≡ 0 → t < end
  unfolding number_from_by command_number_by first_of
  reading_time z t (Reading.Refused n) room f e = absurd (omega (arith, f n refl))
  reading_time z t (Reading.Unserved i) room f e = absurd (omega arith)
  reading_time z t (Reading.Is r) room f e =
      let n : command_number_by s h z t r.command ≡ 0 = writes _ _ room e in
      in_time (clock_by h) t _ (past (is_unserved r.command) 4 _ (omega arith) n).1

  call-time : (c : Call) → number_by s h c ≡ 0 → (entry c).0 < end
  unfolding number_by entry first_of
  call-time (join z k t) e = in_time (clock_by h) t _ e
  call-time (leave z t) e = in_time (clock_by h) t _ e
  call-time (lost z t) e = link_time z false t e
  call-time (back z t) e = link_time z true t e
  call-time (override r d t) e = in_time (clock_by h) t _ e
  call-time (clear t) e = in_time (clock_by h) t _ e
  call-time (move t) e = in_time (clock_by h) t _ e
  call-time (frame z t bytes room) e = reading_time z t (read_request bytes) room (refuses bytes) e

since-step : (s : Settings) (h : Log) (c : Call) → since_by s h < end → since_by s (kept (number_by s h c) (entry c) h) < end
unfolding kept since_by since_after
since-step s h c before = go (eqb (number_by s h c) 0) refl
  where
    moved : (b : Bool) → number_by s h c ≡ 0 → cond b (entry c).0 (since_by s h) < end
    moved true e = call-time s h c e
    moved false e = before

    go : (b : Bool) → eqb (number_by s h c) 0 ≡ b → since_by s (cond b (entry c ∷ h) h) < end
    go true e = moved (any_up (zones_by s h) && not (any_up (zones_by s (entry c ∷ h)))) (eqb-true (number_by s h c) 0 e)
    go false e = before

since-time : (s : Settings) (calls : List Call) → since_by s (log s calls) < end
unfolding log since_by
since-time s [] = omega arith
since-time s (c ∷ calls) = since-step s (log s calls) c (since-time s calls)

-- the seventh of tests of which none holds
seventh : (a b c d e f g r : Bool) → (a || (b || (c || (d || (e || (f || (g || r))))))) ≡ false → g ≡ false
seventh false false false false false false g r p = (or_false g r p).0
seventh true b c d e f g r p = absurd (let w : ◌≡◌ {A = ℕ} 0 1 = cc in omega arith)
seventh false true c d e f g r p = absurd (let w : ◌≡◌ {A = ℕ} 0 1 = cc in omega arith)
seventh false false true d e f g r p = absurd (let w : ◌≡◌ {A = ℕ} 0 1 = cc in omega arith)
seventh false false false true e f g r p = absurd (let w : ◌≡◌ {A = ℕ} 0 1 = cc in omega arith)
seventh false false false false true f g r p = absurd (let w : ◌≡◌ {A = ℕ} 0 1 = cc in omega arith)
seventh false false false false false true g r p = absurd (let w : ◌≡◌ {A = ℕ} 0 1 = cc in omega arith)

good : (s : Settings) → bad_settings s ≡ false → s.duration ≤ 86400
unfolding bad_settings
good s e =
    let r : outside 7200 s.duration 86400 ≡ false =
    seventh (ltb 2 s.directions) (leb value_end s.minimum) (bad_maximum (get_or s.maxima 0 0)) (bad_maximum (get_or s.maxima 1 0)) (leb value_end (get_or s.failsafe 0 0))
    (leb value_end (get_or s.failsafe 1 0)) _ _ e
    in
    inside r
  where
    inside : outside 7200 s.duration 86400 ≡ false → s.duration ≤ 86400
    inside r = unfold outside in ltb-false 86400 s.duration (or_false (ltb s.duration 7200) (ltb 86400 s.duration) r).1

short : (s : Settings) → (started_with s).duration ≤ 86400
unfolding started_with
short s = go (bad_settings s) refl
  where
    go : (b : Bool) → bad_settings s ≡ b → (cond b refused_settings s).duration ≤ 86400
    go true e = omega arith
    go false e = good s e

pub whole-end : (s : Settings) (calls : List Call) → lesser most ((told s calls).since + (told s calls).settings.duration) ≡ (told s calls).since + (told s calls).settings.duration
unfolding lesser
whole-end s calls = rw (le-ltb most ((told s calls).since + (told s calls).settings.duration) (omega (arith, since-time (started_with s) calls, short s)))
