-- A request, from its parts. Assumes nothing.
use Rattle.std.specs.Prelude
use Rattle.std.specs.Prelude.{None, Some}
use Prim.Native.Nat.{ℕ}
use mathlib.Core.Path.{◌≡◌, refl, sym, ap, ◌∙◌}
use mathlib.Core.Bool.{Bool, true, false, cond, ◌&&◌}
use mathlib.Core.List.{List}
use mathlib.Core.Option
use mathlib.Core.Option.{Option, some, none, bind}
use native.Mathlib.Omega.{arith}
use lib.Dec.{eqb}
use borrow.Author.Tests.{eqb-true, ne_eqb}
use Rattle.wire_cbor.specs.Item.{Item, Pairs, payload_of, is_some}
use Rattle.wire_cbor.specs.Find.{value_of}
use Rattle.wire_cbor.specs.Scan.{pairs_in, followed, map_at, key_heads_of, words_of, key_head_at}
use Rattle.wire_messages.specs.Options.{Aim}
use Rattle.wire_messages.specs.declared.set_parameters.Setting.{Setting}
use Rattle.wire_messages.specs.declared.CurrentLimits.{CurrentLimits}
use Rattle.wire_messages.specs.declared.Command.{Command}
use Rattle.wire_messages.specs.Numbers.{served_at, served_command}
use Rattle.wire_prefix.specs.Prefix.{framed, payload_in}
use Rattle.wire_fields.specs.Fields.{map_in, needed, most32, aim_in, amount_in}
use Rattle.wire_fields.specs.KeyHeads.{found, given, and_then, Reads, UintReads, MapReads, Shown, Inside}
use Rattle.wire_fields.specs.Seen.{uint_seen, amount_read, map_seen}
use Rattle.wire_requests.specs.Settings.{setting_in, limits_from, setpoints_from, current_limits_in}
use Rattle.wire_requests.specs.Requests.{with_command, envelope_in, command_in, from_envelope, from_payload, read_request}
use Rattle.wire_requests.specs.KeyHeads.{EnvelopeReads, CurrentLimitsRead, CommandReads, ClearReads, MessageReads, parameters_from, parameters_path, clear_of}
use Rattle.wire_requests.specs.KeyHeads.{envelope_of}
use Rattle.wire_requests.specs.Seen.{envelope_seen, setting_seen, current_limits_seen, clear_seen, command_seen, request_seen, message_seen}
use Rattle.wire_requests.specs.declared.reading.Reading.{Reading}
use Rattle.wire_fields.proofs.Joined.{is-some, is_none, via}
use Rattle.wire_fields.proofs.ByKeyHead.{uint_reads, map-reads}
use Rattle.wire_fields.proofs.BySeen.{bind_given, value_at, uint_at, amount_at, phases_at}
use Rattle.wire_fields.proofs.Parts.{shown, top, then, last}

-- an answer kept as F makes it
map_given : {X Y : Type 0} (F : X → Y) (r : Prelude.Option X) → Option.map F (given r) ≡ given (and_then r (λ x. Some (F x)))
map_given F (Some x) = refl
map_given F None = refl

given_again : (r : Prelude.Option Command) → r ≡ parameters_from (given r)
given_again (Some c) = refl
given_again None = refl

-- a command, from its parameters
module _ (c : ℕ) (m : Pairs) (s t : Prelude.Option Setting) (l : Prelude.Option CurrentLimits) (a : Prelude.Option Aim)
    (se : setting_in true m ≡ given s) (te : setting_in false m ≡ given t) (le : current_limits_in m ≡ given l) (ae : aim_in (value_of m 1) ≡ given a) where
  abbrev made : Prelude.Option Command
  made =
      cond (eqb c 1) (and_then s (λ x. Some (Command.SetLimit (limits_from x))))
      (cond (eqb c 3) (and_then t (λ x. Some (Command.SetSetpoint (setpoints_from x))))
      (cond (eqb c 5) (and_then l (λ x. Some (Command.SetCurrentLimits x))) (and_then a (λ x. Some (clear_of c x)))))

  command_made : command_in c m ≡ given made
  unfolding command_in
  command_made = go (eqb c 1) (eqb c 2) (eqb c 3) (eqb c 4) (eqb c 5) refl refl refl refl refl where
    go : (p q r u v : Bool) → eqb c 1 ≡ p → eqb c 2 ≡ q → eqb c 3 ≡ r → eqb c 4 ≡ u → eqb c 5 ≡ v → command_in c m ≡ given made
    go true q r u v pe qe re ue ve = rw (pe, se) (map_given _ s)
    go false true r u v pe qe re ue ve = let e = eqb-true c 2 qe in rw (pe, qe, ne_eqb c 3 (λ z. omega arith), ne_eqb c 5 (λ z. omega arith), ae) (map_given _ a)
    go false false true u v pe qe re ue ve = rw (pe, qe, re, te) (map_given _ t)
    go false false false true v pe qe re ue ve = let e = eqb-true c 4 ue in rw (pe, qe, re, ue, ne_eqb c 5 (λ z. omega arith), ae) (map_given _ a)
    go false false false false true pe qe re ue ve = rw (pe, qe, re, ue, ve, le) (map_given _ l)
    go false false false false false pe qe re ue ve = rw (pe, qe, re, ue, ve, ae) (map_given _ a)

-- BY WHAT IS SEEN: each reader is that of the definition
module _ (ws : List ℕ) where
  pub envelope_reads : EnvelopeReads ws (envelope_seen ws)
  unfolding EnvelopeReads envelope_in envelope_seen uint_seen map_seen UintReads Reads MapReads
  envelope_reads path ps h =
      then (key_head_at ws 0 1).arg _ _ _ _ (uint_reads true most32 (key_head_at ws 0 1) _ refl _ (top ws path ps h 1 (omega arith)))
      (then (key_head_at ws 0 2).arg _ _ _ _ (uint_reads true 255 (key_head_at ws 0 2) _ refl _ (top ws path ps h 2 (omega arith)))
      (then (key_head_at ws 0 3).arg _ _ _ _ (uint_reads true 65535 (key_head_at ws 0 3) _ refl _ (top ws path ps h 3 (omega arith)))
      (then (key_head_at ws 0 4).arg _ _ _ _ (uint_reads true 65535 (key_head_at ws 0 4) _ refl _ (top ws path ps h 4 (omega arith)))
      (last (pairs_in (value_of ps 5)) _ _ (map-reads (key_head_at ws 0 5) _ (top ws path ps h 5 (omega arith)))))))

  pub setting_reads : (null : Bool) → Inside ws 1 (setting_in null) (setting_seen null ws)
  unfolding Inside setting_in setting_seen
  setting_reads null path ps h =
      rw (
        shown ws path ps h 1 1 (omega arith) (omega arith),
        shown ws path ps h 1 2 (omega arith) (omega arith),
        shown ws path ps h 1 3 (omega arith) (omega arith),
        shown ws path ps h 1 4 (omega arith) (omega arith),
      )
      (bind_given _ _ _ (value_at null _) (λ c. bind_given _ _ _ (value_at null _) (λ p. bind_given _ _ _ (amount_at most32 _) (λ d. bind_given _ _ _ (uint_at 255 _) (λ k. refl)))))

  -- the phases stand at the second level of the path
  pub current_limits_read : CurrentLimitsRead ws (current_limits_seen ws)
  unfolding CurrentLimitsRead current_limits_in current_limits_seen map_at followed
  current_limits_read ps h =
      let at = shown ws parameters_path ps h in
      rw (
        at 1 1 (omega arith) (omega arith),
        at 2 0 (omega arith) (omega arith),
        at 2 1 (omega arith) (omega arith),
        at 2 2 (omega arith) (omega arith),
        at 1 2 (omega arith) (omega arith),
        at 1 3 (omega arith) (omega arith),
        at 1 4 (omega arith) (omega arith),
      )
      (bind_given _ _ _ (phases_at true _) (λ f. bind_given _ _ _ (uint_at 1 _) (λ x. bind_given _ _ _ (amount_at most32 _) (λ d. bind_given _ _ _ (uint_at 255 _) (λ k. refl)))))

  -- a clear, along any path
  pub clear_reads : (c : ℕ) → ClearReads ws c (clear_seen ws c)
  unfolding ClearReads clear_seen aim_in amount_in
  clear_reads c path ps h =
      let r = amount_read 1 (key_head_at ws 1 1) in
      let a : aim_in (value_of (map_at 1 path ps) 1) ≡ given r = rw (shown ws path ps h 1 1 (omega arith) (omega arith)) (amount_at 1 _) in
      rw a (given_again (and_then r (λ x. Some (clear_of c x))) ∙ ap parameters_from (sym (map_given (clear_of c) r)))

  module _ (c : ℕ) (ps : Pairs) (h : Shown ws parameters_path ps) where
    command_given : command_in c (map_at 1 parameters_path ps) ≡ given (command_seen ws c)
    unfolding command_seen clear_seen Inside CurrentLimitsRead aim_in amount_in
    command_given =
        command_made c (map_at 1 parameters_path ps) _ _ _ _ (setting_reads true parameters_path ps h) (setting_reads false parameters_path ps h) (current_limits_read ps h)
        (rw (shown ws parameters_path ps h 1 1 (omega arith) (omega arith)) (amount_at 1 _))

  pub command_reads : (c : ℕ) → CommandReads ws c (command_seen ws c)
  unfolding CommandReads
  command_reads c ps h = rw (command_given c ps h) (given_again _)

  with_given : (m : Pairs) (r : Prelude.Option Command) → request_seen ws r ≡ with_command (envelope_of ws m) (given r)
  with_given m (Some c) = refl
  with_given m None = refl

  pub message_reads : MessageReads ws (message_seen ws)
  unfolding MessageReads EnvelopeReads message_seen from_envelope map_at followed
  message_reads ps h = rw (envelope_reads parameters_path ps h) (go (envelope_seen ws)) where
    m : Pairs
    m = pairs_in (value_of ps 5)

    n : ℕ
    n = (key_head_at ws 0 4).arg

    t : Bool
    t = served_at (key_head_at ws 0 2).arg (key_head_at ws 0 3).arg && served_command n

    served : (b : Bool) → cond b (request_seen ws (command_seen ws n)) (Reading.Unserved (key_head_at ws 0 1).arg)
        ≡ cond b (with_command (envelope_of ws m) (command_in n m)) (Reading.Unserved (key_head_at ws 0 1).arg)
    served true = rw (command_given n ps h) (with_given m _)
    served false = refl

    go : (b : Bool) → cond b (cond t (request_seen ws (command_seen ws n)) (Reading.Unserved (key_head_at ws 0 1).arg)) (Reading.Refused 3)
        ≡ from_envelope (found b (envelope_of ws m))
    go true = served t
    go false = refl

-- FRAMES
-- a frame by its map
pub read_map_of : (frame : List ℕ) (i : Item) (m : Pairs) → framed frame ≡ true → payload_of (payload_in frame) ≡ some i → map_in i ≡ some m → read_request frame ≡ from_envelope (envelope_in m)
unfolding read_request from_payload bind
read_map_of frame i m a b c = rw (a, b, c) refl

-- what is no map has no small key
no_map : (i : Item) → from_envelope (envelope_in (pairs_in (some i))) ≡ from_envelope (bind (map_in i) envelope_in)
unfolding map_in bind envelope_in needed from_envelope value_of
no_map (Item.uint v) = refl
no_map (Item.nint v) = refl
no_map (Item.bytes b) = refl
no_map (Item.text b) = refl
no_map (Item.array is) = refl
no_map (Item.map m) = refl
no_map (Item.simple v) = refl

module _ (p : List ℕ) (t : Bool) (te : t ≡ is_some (payload_of p)) where
  pub not-item : t ≡ false → Reading.Refused 2 ≡ from_payload (payload_of p)
  unfolding from_payload
  not-item z = rw (is_none (payload_of p) (via te z)) refl

  -- the payload is one item, of which the heads are seen
  module _ (ws : List ℕ) (e : ws ≡ words_of (key_heads_of parameters_path (payload_of p))) (r : Reading) (h : MessageReads ws r) where
    seen : (i : Item) → payload_of p ≡ some i → r ≡ from_payload (payload_of p)
    unfolding from_payload MessageReads Shown key_heads_of
    seen i x = h (pairs_in (some i)) (e ∙ ap (λ (o : Option Item). words_of (key_heads_of parameters_path o)) x) ∙ no_map i ∙ rw x refl

    pub is_item : t ≡ true → r ≡ from_payload (payload_of p)
    is_item z = let x = is-some (payload_of p) (via te z) in seen x.0 x.1

module _ (frame : List ℕ) (b : Bool) (be : b ≡ framed frame) where
  pub not-framed : b ≡ false → Reading.Refused 1 ≡ read_request frame
  unfolding read_request
  not-framed y = rw (via be y) refl

  pub is_framed : b ≡ true → from_payload (payload_of (payload_in frame)) ≡ read_request frame
  unfolding read_request
  is_framed y = rw (via be y) refl
