-- Each call has the number that the history gives it, and leaves words and log that agree.
use mathlib.Core.Path.{◌≡◌, refl, sym, ap, ◌∙◌, subst, fun_ext}
use mathlib.Core.Bool.{Bool, true, false, cond, not, ◌&&◌, ◌||◌}
use mathlib.Core.List.{List, [], ◌∷◌}
use Prim.Native.Nat.{ℕ, ◌≤◌}
use native.Mathlib.Omega.{arith}
use lib.Dec.{leb, eqb}
use lib.ListN.{length}
use borrow.Author.Tests.{eqb-true, ne_eqb, leb-true, leb-false, not-false}
use Rattle.wire_messages.specs.declared.Command.{Command}
use Rattle.device_store.specs.declared.Zone.{Zone}
use Rattle.device_store.specs.declared.Settings.{Settings}
use Rattle.device_store.specs.Sizes.{slots}
use Rattle.device_store.specs.Zones.{slot_of, joined, zone_of, new_zone, free_zone, linked}
use Rattle.device_store.specs.Words.{clock_of, override_of, settings_of, zones_of, applied}
use Rattle.device_calls.specs.Refusals.{first_of, late}
use Rattle.device_calls.specs.Calls.{zone_change, join_tests, join_number, join_after, leave_tests, leave_number, leave_after, same}
use Rattle.device_calls.specs.Calls.{link_number, link_after, override_number, override_after, override_word, clear_number, clear_after, move_number, move_after}
use Rattle.device_rules.specs.Rules.{ranks, bad_join}
use Rattle.device_store.specs.Words.{head_change}
use Rattle.command_effects.specs.Content.{is_unserved, content_tests}
use Rattle.command_effects.specs.Effects.{obeyed}
use Rattle.device_calls.specs.Commands.{command_number, command_after, command_answer}
use Rattle.plan.specs.Plan.{plan_of, rows_from, plan_number}
use Rattle.wire_requests.specs.Requests.{read_request}
use Rattle.wire_output.specs.Writing.{writing_number}
use Rattle.wire_requests.specs.declared.reading.Reading.{Reading}
use Rattle.kernel.specs.Frame.{response_to, response_frame, number_from, frame_number, obeyed_by, frame_after}
use Rattle.demands.specs.Run.{Call, join, leave, lost, back, override, clear, move, frame, number, next}
use Rattle.demands.specs.History.{joins, leaves, links, commands, overrides, passes, Log, clock_by, override_by, joined_by, up_by, record_by, zones_by}
use Rattle.demands.specs.Accepted.{rows_by, plan_number_by, link_number_by, command_number_by, kept, outcome_by, response_by, response_frame_by, number_from_by, number_by, tells, entry}
use Rattle.demands.proofs.Readings.{refuses, writes}
use Rattle.demands.proofs.Same.{found, joined_same}
use Rattle.demands.proofs.Count.{full_same}
use Rattle.demands.proofs.Agree.{Agree, agree_values, agree_override, agree_passes, agree_join, agree_leave, agree_link, agree_obey, agree_after}

-- a test that does not refuse: it fails, and the next decides
past : (b : Bool) (n r : ℕ) → 1 ≤ n → cond b n r ≡ 0 → (b ≡ false) × (r ≡ 0)
past true n r p e = absurd (omega arith)
past false n r p e = (refl, e)

-- the link of a zone is tested only where it is joined
unheard : (there u v : Bool) (n : ℕ) (l : List (Bool × ℕ)) → (there ≡ true → u ≡ v) → first_of ((not there, 9) ∷ (u, n) ∷ l) ≡ first_of ((not there, 9) ∷ (v, n) ∷ l)
unfolding first_of
unheard true u v n l e = rw (e refl)
unheard false u v n l e = refl

module _ (s : Settings) (ws : List ℕ) (h : Log) (a : Agree s ws h) where
  there : (z : ℕ) → joined (zones_of ws) z ≡ joined_by h z
  there z = joined_same s (zones_of ws) h a.zones z

  up : (z : ℕ) → joined_by h z ≡ true → (zone_of (zones_of ws) z).up ≡ up_by h z
  unfolding record_by
  up z j = ap (λ (x : Zone). x.up) (found s (zones_of ws) h a.zones z j).whole

  -- THE NUMBERS
  join-number : (z k t : ℕ) → join_number ws z k t ≡ first_of (join_tests (clock_by h) (joined_by h z) (leb slots (length (zones_by s h))) z k t)
  unfolding join_number
  join-number z k t = rw (a.clock, there z, full_same s (zones_of ws) h a.zones)

  leave-number : (z t : ℕ) → leave_number ws z t ≡ first_of (leave_tests (clock_by h) (joined_by h z) t)
  unfolding leave_number
  leave-number z t = rw (a.clock, there z)

  link-number : (z : ℕ) (u : Bool) (t : ℕ) → link_number ws z u t ≡ link_number_by h z u t
  unfolding link_number link_number_by first_of
  link-number z u t =
      rw (a.clock, there z)
      (ap (cond (late (clock_by h) t) 5) (unheard (joined_by h z) (same (zone_of (zones_of ws) z).up u) (same (up_by h z) u) 7 [] (λ j. ap (λ (b : Bool). same b u) (up z j))))

  command-number : (z t : ℕ) (c : Command) → command_number ws z t c ≡ command_number_by s h z t c
  unfolding command_number command_number_by first_of
  command-number z t c =
      rw (a.clock, there z, a.settings, a.override)
      (ap (λ (n : ℕ). cond (is_unserved c) 4 (cond (late (clock_by h) t) 5 n))
      (unheard (joined_by h z) (not (zone_of (zones_of ws) z).up) (not (up_by h z)) 10 (content_tests s (override_by h) c) (λ j. ap not (up z j))))

  -- THE CHANGES
  -- an accepted join has a good id, that is not joined, and a free slot
  agree_join_call : (z k t : ℕ) → join_number ws z k t ≡ 0 → Agree s (applied ws (zone_change ws t (slot_of (zones_of ws) 0) (new_zone z k))) ((t, joins z k) ∷ h)
  unfolding join_number first_of bad_join
  agree_join_call z k t e =
      let p = past (late (clock_of ws) t) 5 _ (omega arith) e in
      let q = past (not (leb 1 z && leb z 255) || not (leb 1 k && leb k ranks)) 6 _ (omega arith) p.1 in
      let r = past (joined (zones_of ws) z) 7 _ (omega arith) q.1 in
      let f = past (leb slots (slot_of (zones_of ws) 0)) 8 0 (omega arith) r.1 in
      let i = good (leb 1 z) refl (leb z 255) refl (not (leb 1 k && leb k ranks)) q.0 in
      agree_join s ws h z k t a i.0 i.1 (sym (there z) ∙ r.0) (leb-false slots (slot_of (zones_of ws) 0) f.0)
    where
      good : (x : Bool) → leb 1 z ≡ x → (y : Bool) → leb z 255 ≡ y → (r : Bool) → (not (x && y) || r) ≡ false → (1 ≤ z) × (z ≤ 255)
      good true p true q r e = (leb-true 1 z p, leb-true z 255 q)
      good true p false q r e = absurd (let w : ◌≡◌ {A = ℕ} 0 1 = cc in omega arith)
      good false p y q r e = absurd (let w : ◌≡◌ {A = ℕ} 0 1 = cc in omega arith)

  -- a call of zone z that is accepted: the zone is joined
  is_there : (z : ℕ) (r : ℕ) → cond (not (joined (zones_of ws) z)) 9 r ≡ 0 → joined_by h z ≡ true
  is_there z r e = sym (there z) ∙ not-false (joined (zones_of ws) z) (past (not (joined (zones_of ws) z)) 9 r (omega arith) e).0

  leave-there : (z t : ℕ) → leave_number ws z t ≡ 0 → joined_by h z ≡ true
  unfolding leave_number first_of
  leave-there z t e = is_there z 0 (past (late (clock_of ws) t) 5 _ (omega arith) e).1

  link_there : (z : ℕ) (u : Bool) (t : ℕ) → link_number ws z u t ≡ 0 → joined_by h z ≡ true
  unfolding link_number first_of
  link_there z u t e = is_there z _ (past (late (clock_of ws) t) 5 _ (omega arith) e).1

  command_there : (z t : ℕ) (c : Command) → command_number ws z t c ≡ 0 → joined_by h z ≡ true
  unfolding command_number first_of
  command_there z t c e = is_there z _ (past (late (clock_of ws) t) 5 _ (omega arith) (past (is_unserved c) 4 _ (omega arith) e).1).1

  agree_command : (z t : ℕ) (c : Command) → Agree s (command_after ws z t c) (kept (command_number ws z t c) (t, commands z c) h)
  unfolding command_after
  agree_command z t c =
      agree_after s ws h (command_number ws z t c) (zone_change ws t (slot_of (zones_of ws) z) (obeyed (settings_of ws) c t (zone_of (zones_of ws) z))) (t, commands z c) a
      (λ e. agree_obey s ws h z t a (command_there z t c e) c)

  agree_link_call : (z : ℕ) (u : Bool) (t : ℕ) → Agree s (link_after ws z u t) (kept (link_number ws z u t) (t, links z u) h)
  unfolding link_after
  agree_link_call z u t =
      agree_after s ws h (link_number ws z u t) (zone_change ws t (slot_of (zones_of ws) z) (linked (zone_of (zones_of ws) z) u)) (t, links z u) a
      (λ e. agree_link s ws h z t a (link_there z u t e) u)

  -- FRAMES
  -- the result in a command's response is the history's
  pub outcome_same : (z t : ℕ) (c : Command) → (command_answer ws z t c).outcome ≡ outcome_by s h z t c
  unfolding command_answer outcome_by
  outcome_same z t c =
      let n = command-number z t c in
      let v = agree_values s (command_after ws z t c) (kept (command_number ws z t c) (t, commands z c) h) (agree_command z t c) t in
      rw (v, n, a.settings)

  -- and so is the whole response frame
  pub response_same : (z t : ℕ) (r : Reading) → response_frame ws z t r ≡ response_frame_by s h z t r
  unfolding response_frame response_frame_by response_to response_by
  response_same z t (Reading.Refused n) = refl
  response_same z t (Reading.Unserved i) = refl
  response_same z t (Reading.Is r) = rw (command-number z t r.command, outcome_same z t r.command)

  reading-number : (z t : ℕ) (r : Reading) (room : ℕ) → number_from ws z t r room ≡ number_from_by s h z t r room
  unfolding number_from number_from_by
  reading-number z t (Reading.Refused n) room = refl
  reading-number z t (Reading.Unserved i) room = refl
  reading-number z t (Reading.Is r) room = rw (command-number z t r.command, response_same z t (Reading.Is r))

  agree_reading : (z t : ℕ) (r : Reading) (room : ℕ) → ((n : ℕ) → r ≡ Reading.Refused n → 1 ≤ n)
      → Agree s (cond (eqb (number_from ws z t r room) 0) (obeyed_by ws z t r) ws) (kept (number_from ws z t r room) (t, tells z r) h)
  unfolding number_from obeyed_by kept tells
  agree_reading z t (Reading.Refused n) room p = rw (ne_eqb n 0 (λ e. omega (arith, p n refl))) a
  agree_reading z t (Reading.Unserved i) room p = a
  agree_reading z t (Reading.Is r) room p = go (eqb m 0) refl
    where
      m : ℕ
      m = writing_number (command_number ws z t r.command) (response_frame ws z t (Reading.Is r)) room

      go : (b : Bool) → eqb m 0 ≡ b → Agree s (cond b (command_after ws z t r.command) ws) (cond b ((t, commands z r.command) ∷ h) h)
      go true e =
          let n : command_number ws z t r.command ≡ 0 = writes (command_number ws z t r.command) (response_frame ws z t (Reading.Is r)) room (eqb-true m 0 e) in
          rw n at (agree_command z t r.command)
      go false e = a

  -- EVERY CALL
  pub rows_same : rows_from ws ≡ rows_by s h
  unfolding rows_from rows_by plan_of
  rows_same = let v = fun_ext (agree_values s ws h a) in rw (a.clock, v)

  pub plan_number-same : (room : ℕ) → plan_number ws room ≡ plan_number_by s h room
  unfolding plan_number plan_number_by
  plan_number-same room = rw rows_same

  pub number_same : (c : Call) → number ws c ≡ number_by s h c
  unfolding number number_by override_number clear_number move_number frame_number
  number_same (join z k t) = join-number z k t
  number_same (leave z t) = leave-number z t
  number_same (lost z t) = link-number z false t
  number_same (back z t) = link-number z true t
  number_same (override r d t) = rw (a.clock, a.settings)
  number_same (clear t) = rw (a.clock, a.override)
  number_same (move t) = rw a.clock
  number_same (frame z t bytes room) = reading-number z t (read_request bytes) room

  agree_call : (c : Call) → Agree s (next ws c) (kept (number ws c) (entry c) h)
  unfolding number next entry join_after leave_after override_after clear_after move_after frame_number frame_after
  agree_call (join z k t) = agree_after s ws h (join_number ws z k t) (zone_change ws t (slot_of (zones_of ws) 0) (new_zone z k)) (t, joins z k) a (agree_join_call z k t)
  agree_call (leave z t) = agree_after s ws h (leave_number ws z t) (zone_change ws t (slot_of (zones_of ws) z) free_zone) (t, leaves z) a (λ e. agree_leave s ws h z t a (leave-there z t e))
  agree_call (lost z t) = agree_link_call z false t
  agree_call (back z t) = agree_link_call z true t
  agree_call (override r d t) =
      agree_after s ws h (override_number ws r d t) (head_change ws t (override_word r d)) (t, overrides (override_word r d)) a
      (λ e. agree_override s ws h t (override_word r d) a)
  agree_call (clear t) = agree_after s ws h (clear_number ws t) (head_change ws t 0) (t, overrides 0) a (λ e. agree_override s ws h t 0 a)
  agree_call (move t) = agree_after s ws h (move_number ws t) (head_change ws t (override_of ws)) (t, passes) a (λ e. agree_passes s ws h t a)
  agree_call (frame z t bytes room) = agree_reading z t (read_request bytes) room (refuses bytes)

  pub agree_next : (c : Call) → Agree s (next ws c) (kept (number_by s h c) (entry c) h)
  agree_next c = subst (λ (n : ℕ). Agree s (next ws c) (kept n (entry c) h)) (number_same c) (agree_call c)
