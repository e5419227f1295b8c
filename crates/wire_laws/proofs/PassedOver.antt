-- Unknown keys and the zero of "duration 0 or omitted" are passed over: a reader looks up known keys alone, and takes that zero for nothing. Assumes nothing.
use Prim.Native.Nat.{ℕ}
use mathlib.Core.Path.{◌≡◌, refl, sym, ap, subst, ◌∙◌}
use mathlib.Core.Bool.{Bool, true, false, cond, not, ◌&&◌, ◌||◌}
use mathlib.Core.List.{List}
use mathlib.Core.Option
use mathlib.Core.Option.{Option, some, none, bind}
use native.Mathlib.Omega.{arith}
use lib.ListN.{length, length-drop}
use lib.Dec.{leb, eqb}
use borrow.Author.Tests.{eqb-true}
use Rattle.wire_bytes.specs.Bytes.{Bytes}
use Rattle.wire_cbor.specs.Item.{Item, Pairs, is_some}
use Rattle.wire_cbor.specs.Find.{value_of}
use Rattle.wire_messages.specs.Numbers.{served_at, served_command}
use Rattle.wire_messages.specs.declared.Command.{Command}
use Rattle.wire_messages.specs.declared.Response.{Response}
use Rattle.wire_messages.specs.declared.set_parameters.Setting.{Setting}
use Rattle.wire_fields.specs.Fields.{number_up_to, map_in, needed, optional, most32, value_in, amount_in}
use Rattle.wire_fields.proofs.Joined.{no_both, is-some}
use Rattle.wire_requests.specs.Settings.{setting_in, limits_from, current_limits_in}
use Rattle.wire_requests.specs.Requests.{Envelope, envelope_in, command_in, with_command, from_envelope, read_request}
use Rattle.wire_requests.specs.declared.reading.Reading.{Reading}
use Rattle.wire_requests.proofs.Requested.{read_map_of}
use Rattle.wire_responses.specs.Responses.{limit_result_in, setpoint_result_in, current_result_in, outcome_in, no_result, stands, status_in, result_in, response_in, answer_of, read_response}
use Rattle.wire_responses.specs.declared.reading.Answer.{Answer}
use Rattle.wire_responses.proofs.Answered.{answer-map_of}
use Rattle.wire_output.specs.Writing.{item_frame}
use Rattle.wire_laws.specs.RoundTrips.{parameter_keys, result_keys, omits_zero}
use Rattle.wire_laws.specs.PassedOver.{kept, in_map, under, known, or_zero, command_of, request_known, response_known, zero_omitted, duration_omitted}
use Rattle.wire_laws.specs.PassedOver.{Carries, Fits, PassedOver, RequestUnknownPassed, ResponseUnknownPassed, ZeroDurationPassed}
use Rattle.wire_laws.proofs.FieldsAgain.{uint_again}
use Rattle.wire_laws.proofs.Trips.{framed-parts, frame-framed, frame-payload, item_in}
use Rattle.wire_laws.proofs.Shorter.{Less, same-less, less_less, less_kept, less_under, map-some, less_fits}

-- WHAT IS FOUND
pub kept-value : (those : ℕ → Bool) (ps : Pairs) (k : ℕ) → value_of (kept those ps) k ≡ cond (those k) (value_of ps k) none
unfolding kept value_of
kept-value those Pairs.empty k = go (those k)
  where
    go : (b : Bool) → ◌≡◌ {A = Option Item} none (cond b none none)
    go true = refl
    go false = refl
kept-value those (Pairs.pair j i ps) k = go (those j) (eqb j k) refl refl (kept-value those ps k)
  where
    -- the same key is kept or not
    here : {b : Bool} → eqb j k ≡ true → those j ≡ b → those k ≡ b
    here y x = ap those (sym (eqb-true j k y)) ∙ x

    go : (b e : Bool) → those j ≡ b → eqb j k ≡ e → value_of (kept those ps) k ≡ cond (those k) (value_of ps k) none
        → value_of (cond b (Pairs.pair j i (kept those ps)) (kept those ps)) k ≡ cond (those k) (cond e (some i) (value_of ps k)) none
    go true true x y r = rw (y, here y x) refl
    go true false x y r = rw y r
    go false true x y r = r ∙ rw (here y x) refl
    go false false x y r = r

pub known-exact : (n : ℕ) (ps : Pairs) (k : ℕ) → value_of (known n ps) k ≡ cond (leb 1 k && leb k n) (value_of ps k) none
known-exact n ps k = kept-value (λ j. leb 1 j && leb j n) ps k

module _ (key : ℕ) (f : Pairs → Pairs) where
  pub under-here : (ps : Pairs) → value_of (under key f ps) key ≡ Option.map (in_map f) (value_of ps key)
  unfolding under value_of
  under-here Pairs.empty = refl
  under-here (Pairs.pair k i ps) = go (eqb k key) (under-here ps)
    where
      go : (b : Bool) → value_of (under key f ps) key ≡ Option.map (in_map f) (value_of ps key)
          → cond b (some (cond b (in_map f i) i)) (value_of (under key f ps) key) ≡ Option.map (in_map f) (cond b (some i) (value_of ps key))
      go true r = refl
      go false r = r

  pub under-other : (ps : Pairs) (j : ℕ) → eqb key j ≡ false → value_of (under key f ps) j ≡ value_of ps j
  unfolding under value_of
  under-other Pairs.empty j e = refl
  under-other (Pairs.pair k i ps) j e = go (eqb k key) (eqb k j) refl refl (under-other ps j e)
    where
      go : (b c : Bool) → eqb k key ≡ b → eqb k j ≡ c → value_of (under key f ps) j ≡ value_of ps j
          → cond c (some (cond b (in_map f i) i)) (value_of (under key f ps) j) ≡ cond c (some i) (value_of ps j)
      go true true x y r = absurd (no_both (sym y ∙ ap (λ (n : ℕ). eqb n j) (eqb-true k key x) ∙ e))
      go false true x y r = refl
      go true false x y r = r
      go false false x y r = r

  -- the map that stands there
  map-under : (o : Option Item) → needed map_in (Option.map (in_map f) o) ≡ Option.map f (needed map_in o)
  unfolding needed map_in in_map
  map-under none = refl
  map-under (some (Item.uint v)) = refl
  map-under (some (Item.nint v)) = refl
  map-under (some (Item.bytes b)) = refl
  map-under (some (Item.text b)) = refl
  map-under (some (Item.array is)) = refl
  map-under (some (Item.map ps)) = refl
  map-under (some (Item.simple v)) = refl

-- THE PARAMETERS
module _ (ps : Pairs) where
  known-set : (null : Bool) → setting_in null (known 4 ps) ≡ setting_in null ps
  unfolding setting_in
  known-set null = rw (known-exact 4 ps 1, known-exact 4 ps 2, known-exact 4 ps 3, known-exact 4 ps 4) refl

  known-currents : current_limits_in (known 4 ps) ≡ current_limits_in ps
  unfolding current_limits_in
  known-currents = rw (known-exact 4 ps 1, known-exact 4 ps 2, known-exact 4 ps 3, known-exact 4 ps 4) refl

  known-command : (c : ℕ) → command_in c (known (parameter_keys c) ps) ≡ command_in c ps
  unfolding command_in
  known-command c = go (eqb c 1) (eqb c 3) (eqb c 5) refl refl refl
    where
      go : (x y z : Bool) → eqb c 1 ≡ x → eqb c 3 ≡ y → eqb c 5 ≡ z → command_in c (known (parameter_keys c) ps) ≡ command_in c ps
      go true y z a b d = rw (eqb-true c 1 a, known-set true) refl
      go false true z a b d = rw (eqb-true c 3 b, known-set false) refl
      go false false true a b d = rw (eqb-true c 5 d, known-currents) refl
      go false false false a b d = rw (a, b, d, known-exact 1 ps 1) refl

-- two readings that go on alike from each value that a field can have are alike
chain : {X Y Z : Type 0} (h : Option Y → Z) (o : Option X) (f g : X → Option Y) → ((x : X) → o ≡ some x → h (f x) ≡ h (g x)) → h (bind o f) ≡ h (bind o g)
unfolding bind
chain h (some x) f g e = e x refl
chain h none f g e = refl

-- a written zero is read as an omitted duration is, by what makes 0 of both
module _ (ps : Pairs) (z : value_of ps 3 ≡ some (Item.uint 0)) where
  abbrev less : Pairs
  less = kept (λ k. not (eqb k 3)) ps

  found : (k : ℕ) → value_of less k ≡ cond (not (eqb k 3)) (value_of ps k) none
  found = kept-value (λ k. not (eqb k 3)) ps

  limit-less : Option.map (λ s. Command.SetLimit (limits_from s)) (setting_in true less) ≡ Option.map (λ s. Command.SetLimit (limits_from s)) (setting_in true ps)
  unfolding setting_in amount_in optional number_up_to bind limits_from
  limit-less =
      let h : Option Setting → Option Command = Option.map (λ s. Command.SetLimit (limits_from s)) in
      rw (found 1, found 2, found 3, found 4, z)
      (chain h (value_in true (value_of ps 1)) _ _ (λ c x. chain h (value_in true (value_of ps 2)) _ _ (λ p y. chain h (needed (number_up_to 255) (value_of ps 4)) _ _ (λ k w. refl))))

  currents-less : current_limits_in less ≡ current_limits_in ps
  unfolding current_limits_in amount_in optional number_up_to bind
  currents-less = rw (found 1, found 2, found 3, found 4, z) refl

zero-there : (o : Option Item) → is_some (needed (number_up_to 0) o) ≡ true → o ≡ some (Item.uint 0)
zero-there o e =
    let x = is-some (needed (number_up_to 0) o) e in
    let u = uint_again 0 o x.0 x.1 in
    u.0 ∙ ap (λ (n : ℕ). some (Item.uint n)) (omega (arith, u.1))

zero-command : (c : ℕ) (ps : Pairs) → omits_zero c ≡ true → command_in c (zero_omitted ps) ≡ command_in c ps
unfolding zero_omitted command_in
zero-command c ps o = go (is_some (needed (number_up_to 0) (value_of ps 3))) refl
  where
    by : (z : value_of ps 3 ≡ some (Item.uint 0)) (b : Bool) → eqb c 1 ≡ b → (b || eqb c 5) ≡ true → command_in c (kept (λ k. not (eqb k 3)) ps) ≡ command_in c ps
    by z true x e = rw (eqb-true c 1 x, limit-less ps z) refl
    by z false x e = rw (eqb-true c 5 e, currents-less ps z) refl

    go : (b : Bool) → is_some (needed (number_up_to 0) (value_of ps 3)) ≡ b → command_in c (cond b (kept (λ k. not (eqb k 3)) ps) ps) ≡ command_in c ps
    go true x = by (zero-there (value_of ps 3) x) (eqb c 1) refl o
    go false x = refl

-- REQUESTS
-- a request whose parameters are read alike
module _ (i p q c : ℕ) where
  abbrev enveloped : Pairs → Envelope
  enveloped m = record { id = i; endpoint = p; feature = q; command = c; parameters = m }

  command_alike : (m n : Pairs) (o : Option Command) → with_command (enveloped m) o ≡ with_command (enveloped n) o
  command_alike m n (some x) = refl
  command_alike m n none = refl

  parameters_alike : (f : Pairs → Pairs) → ((m : Pairs) → command_in c (f m) ≡ command_in c m) → (o : Option Pairs)
      → from_envelope (bind (Option.map f o) (λ m. some (enveloped m))) ≡ from_envelope (bind o (λ m. some (enveloped m)))
  unfolding bind from_envelope
  parameters_alike f h none = refl
  parameters_alike f h (some m) =
      rw (h m) (ap (λ (r : Reading). cond (served_at p q && served_command c) r (Reading.Unserved i)) (command_alike (f m) m (command_in c m)))

module _ (ps : Pairs) where
  request_under : (f : Pairs → Pairs) → ((m : Pairs) → command_in (command_of ps) (f m) ≡ command_in (command_of ps) m)
      → from_envelope (envelope_in (under 5 f ps)) ≡ from_envelope (envelope_in ps)
  unfolding envelope_in command_of
  request_under f h =
      rw (under-other 5 f ps 1 refl, under-other 5 f ps 2 refl, under-other 5 f ps 3 refl, under-other 5 f ps 4 refl, under-here 5 f ps, map-under 5 f (value_of ps 5))
      (chain from_envelope (needed (number_up_to most32) (value_of ps 1)) _ _ (λ i x.
      chain from_envelope (needed (number_up_to 255) (value_of ps 2)) _ _ (λ p y.
      chain from_envelope (needed (number_up_to 65535) (value_of ps 3)) _ _ (λ q z.
      chain from_envelope (needed (number_up_to 65535) (value_of ps 4)) _ _ (λ c w.
      parameters_alike i p q c f (λ m. subst (λ (o : Option ℕ). command_in (or_zero o) (f m) ≡ command_in (or_zero o) m) w (h m)) (needed map_in (value_of ps 5)))))))

  envelope_known : envelope_in (known 5 ps) ≡ envelope_in ps
  unfolding envelope_in
  envelope_known = rw (known-exact 5 ps 1, known-exact 5 ps 2, known-exact 5 ps 3, known-exact 5 ps 4, known-exact 5 ps 5) refl

request-known : (ps : Pairs) → from_envelope (envelope_in (request_known ps)) ≡ from_envelope (envelope_in ps)
unfolding request_known
request-known ps =
    let c = command_of ps in
    ap from_envelope (envelope_known (under 5 (known (parameter_keys c)) ps)) ∙ request_under ps (known (parameter_keys c)) (λ m. known-command m c)

request_omitted : (ps : Pairs) → from_envelope (envelope_in (duration_omitted ps)) ≡ from_envelope (envelope_in ps)
unfolding duration_omitted
request_omitted ps = go (omits_zero (command_of ps)) refl
  where
    go : (b : Bool) → omits_zero (command_of ps) ≡ b → from_envelope (envelope_in (cond b (under 5 zero_omitted ps) ps)) ≡ from_envelope (envelope_in ps)
    go true x = request_under ps zero_omitted (λ m. zero-command (command_of ps) m x)
    go false x = refl

-- RESPONSES
module _ (ps : Pairs) where
  known-limit : limit_result_in (known 5 ps) ≡ limit_result_in ps
  unfolding limit_result_in
  known-limit = rw (known-exact 5 ps 1, known-exact 5 ps 2, known-exact 5 ps 3, known-exact 5 ps 4, known-exact 5 ps 5) refl

  known-setpoint : setpoint_result_in (known 3 ps) ≡ setpoint_result_in ps
  unfolding setpoint_result_in
  known-setpoint = rw (known-exact 3 ps 1, known-exact 3 ps 2, known-exact 3 ps 3) refl

  known-current : current_result_in (known 2 ps) ≡ current_result_in ps
  unfolding current_result_in
  known-current = rw (known-exact 2 ps 1, known-exact 2 ps 2) refl

  known-outcome : (c : ℕ) → outcome_in c (known (result_keys c) ps) ≡ outcome_in c ps
  unfolding outcome_in
  known-outcome c = go (eqb c 1) (eqb c 3) (eqb c 5) refl refl refl
    where
      go : (x y z : Bool) → eqb c 1 ≡ x → eqb c 3 ≡ y → eqb c 5 ≡ z → outcome_in c (known (result_keys c) ps) ≡ outcome_in c ps
      go true y z a b d = rw (eqb-true c 1 a, known-limit) refl
      go false true z a b d = rw (eqb-true c 3 b, known-setpoint) refl
      go false false true a b d = rw (eqb-true c 5 d, known-current) refl
      go false false false a b d = rw (a, b, d, known-exact 1 ps 1) refl

-- a result without unknown keys, or none, is read alike
result_known : (c s : ℕ) (o : Option Item) → result_in c s (Option.map (in_map (known (result_keys c))) o) ≡ result_in c s o
unfolding result_in bind
result_known c s o = go (stands c s) o
  where
    made : (m : Option Pairs) → bind (Option.map (known (result_keys c)) m) (outcome_in c) ≡ bind m (outcome_in c)
    made (some m) = known-outcome m c
    made none = refl

    gone : (o : Option Item) → no_result (Option.map (in_map (known (result_keys c))) o) ≡ no_result o
    gone (some i) = refl
    gone none = refl

    go : (b : Bool) (o : Option Item) → cond b (bind (needed map_in (Option.map (in_map (known (result_keys c))) o)) (outcome_in c)) (no_result (Option.map (in_map (known (result_keys c))) o))
        ≡ cond b (bind (needed map_in o) (outcome_in c)) (no_result o)
    go true o = rw (map-under 3 (known (result_keys c)) o) (made (needed map_in o))
    go false o = gone o

response-known : (c : ℕ) (ps : Pairs) → response_in c (response_known c ps) ≡ response_in c ps
unfolding response_known response_in
response-known c ps =
    let f = known (result_keys c) in
    let qs = under 3 f ps in
    rw (known-exact 3 qs 1, known-exact 3 qs 2, known-exact 3 qs 3, under-other 3 f ps 1 refl, under-other 3 f ps 2 refl, under-here 3 f ps)
    (chain (λ o. o) (needed (number_up_to most32) (value_of ps 1)) _ _ (λ i x. chain (λ o. o) (status_in (value_of ps 2)) _ _ (λ s y. rw (result_known c s (value_of ps 3)) refl)))

-- FRAMES
pub fits-carries : (ps : Pairs) → Fits ps → Carries (item_frame (Item.map ps)) ps
fits-carries ps f = record { prefix = frame-framed (Item.map ps) (map-some ps) f.short; payload = frame-payload (Item.map ps) f.formed }

pub carries_fits : (frame : List ℕ) → Bytes frame → (ps : Pairs) → Carries frame ps → Fits ps
carries_fits frame ok ps h =
    let x = item_in frame ok (Item.map ps) h.payload in
    record { formed = x.0; short = omega (arith, (framed-parts frame h.prefix).1, length-drop 4 frame, ap length x.1) }

-- what is read of a map is all that a reader of frames goes by: then what makes no difference to that is passed over
module _ {X : Type 0} (read : List ℕ → X) (of : Pairs → X) (reads : (frame : List ℕ) (ps : Pairs) → Carries frame ps → read frame ≡ of ps)
    (less : Pairs → Pairs) (same : (ps : Pairs) → of (less ps) ≡ of ps) (shrinks : (ps : Pairs) → Less ps (less ps)) where
  alike : (frame other : List ℕ) (ps qs : Pairs) → Carries frame ps → Carries other qs → less ps ≡ less qs → read frame ≡ read other
  alike frame other ps qs h g e = reads frame ps h ∙ sym (same ps) ∙ ap of e ∙ same qs ∙ sym (reads other qs g)

  pub passed_over : PassedOver X read less
  passed_over = record {
    alike = alike;
    encoded = λ ps qs a b e. alike (item_frame (Item.map ps)) (item_frame (Item.map qs)) ps qs (fits-carries ps a) (fits-carries qs b) e;
    without = λ frame ok ps h.
        let l = fits-carries (less ps) (less_fits ps (less ps) (shrinks ps) (carries_fits frame ok ps h)) in
        (l, reads (item_frame (Item.map (less ps))) (less ps) l ∙ same ps ∙ sym (reads frame ps h));
  }

request-of : (frame : List ℕ) (ps : Pairs) → Carries frame ps → read_request frame ≡ from_envelope (envelope_in ps)
unfolding map_in
request-of frame ps h = read_map_of frame (Item.map ps) ps h.prefix h.payload refl

abbrev answered : ℕ → Pairs → Answer
answered c ps = cond (served_command c) (answer_of (response_in c ps)) (Answer.Refused 4)

response-of : (c : ℕ) (frame : List ℕ) (ps : Pairs) → Carries frame ps → read_response c frame ≡ answered c ps
unfolding read_response map_in
response-of c frame ps h = rw (answer-map_of c frame (Item.map ps) ps h.prefix h.payload refl) refl

request_less : (ps : Pairs) → Less ps (request_known ps)
unfolding request_known
request_less ps = less_less (less_under _ (λ m. less_kept _ m) 5 ps) (less_kept _ _)

response_less : (c : ℕ) (ps : Pairs) → Less ps (response_known c ps)
unfolding response_known
response_less c ps = less_less (less_under _ (λ m. less_kept _ m) 3 ps) (less_kept _ _)

zero-less : (ps : Pairs) → Less ps (zero_omitted ps)
unfolding zero_omitted
zero-less ps = go (is_some (needed (number_up_to 0) (value_of ps 3)))
  where
    go : (b : Bool) → Less ps (cond b (kept (λ k. not (eqb k 3)) ps) ps)
    go true = less_kept _ ps
    go false = same-less ps

omitted_less : (ps : Pairs) → Less ps (duration_omitted ps)
unfolding duration_omitted
omitted_less ps = go (omits_zero (command_of ps))
  where
    go : (b : Bool) → Less ps (cond b (under 5 zero_omitted ps) ps)
    go true = less_under zero_omitted zero-less 5 ps
    go false = same-less ps

pub request_unknown_passed : RequestUnknownPassed
request_unknown_passed = passed_over read_request (λ ps. from_envelope (envelope_in ps)) request-of request_known request-known request_less

pub response_unknown_passed : ResponseUnknownPassed
response_unknown_passed c =
    passed_over (read_response c) (answered c) (response-of c) (response_known c)
    (λ ps. ap (λ (o : Option Response). cond (served_command c) (answer_of o) (Answer.Refused 4)) (response-known c ps)) (response_less c)

pub zero-duration_passed : ZeroDurationPassed
zero-duration_passed = passed_over read_request (λ ps. from_envelope (envelope_in ps)) request-of duration_omitted request_omitted omitted_less
