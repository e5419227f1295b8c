-- What a driver has is what the uncut stream leads to, for every cutting. Assumes nothing.
use Prim.Native.Nat.{ℕ, zero, suc, ◌≤◌, ◌<◌}
use mathlib.Core.Path.{◌≡◌, refl, sym, ap, ◌∙◌}
use mathlib.Core.Bool.{Bool, true, false, cond}
use mathlib.Core.List.{List, [], ◌∷◌, ◌++◌, append-nil, append_assoc}
use native.Mathlib.Omega.{arith}
use lib.ListN.{length, take, drop, length-append, length-drop}
use lib.Seq.{take-append-le, drop-append-le, drop-append-add, drop-length}
use lib.Dec.{ltb, eqb}
use borrow.Author.Tests.{ltb-true, ltb-false, lt-ltb, le-ltb, eq-eqb, ne_eqb}
use Rattle.wire_prefix.specs.Prefix.{end_of, bad_end}
use Rattle.wire_prefix.proofs.Ends.{good-end, end_stays, bad_four}
use Rattle.receiver.specs.declared.record.Record.{Record}
use Rattle.receiver_laws.specs.Stream.{Cut, stop, halt, give, cut_in, cut}
use Rattle.receiver.specs.Receive.{fresh, shut, refused, received, Done}
use Rattle.receiver_laws.specs.Driver.{Effect, applied, Driven, still, behind, given, goes_on, feed_in, feed, drive, joined, collect, record_of}
use Rattle.receiver_laws.specs.Laws.{LedTo, EveryCutting, FramesOfStream}
use Rattle.receiver.proofs.Counts.{is_closed, record_open}
use Rattle.receiver.proofs.Tests.{at_small_room, at_not_open}
use Rattle.receiver_laws.proofs.Kept.{Holds, holds_none, holds_part, holds_record, Called, closes, takes, ends, called}

-- ---- the uncut stream, without a bound

pub data Cuts : List ℕ → Cut → Type 0 where
  halts : {s : List ℕ} → bad_end (end_of s) ≡ true → Cuts s halt
  stops : {s : List ℕ} → bad_end (end_of s) ≡ false → length s < end_of s → Cuts s (stop s)
  gives : {s : List ℕ} {c : Cut} → bad_end (end_of s) ≡ false → end_of s ≤ length s → Cuts (drop (end_of s) s) c
      → Cuts s (give (take (end_of s) s) c)

-- any bound above the length gives it
cuts_in : {s : List ℕ} {c : Cut} → Cuts s c → (n : ℕ) → length s < n → cut_in n s ≡ c
unfolding cut_in
cuts_in k zero l = absurd (omega arith)
cuts_in (halts b) (suc n) l = rw b
cuts_in {s} (stops b m) (suc n) l = rw (b, lt-ltb (length s) (end_of s) m)
cuts_in {s} (gives b m k) (suc n) l =
    let g = good-end (end_of s) b in
    let d = length-drop (end_of s) s in
    rw (b, le-ltb (length s) (end_of s) m) (ap (give (take (end_of s) s)) (cuts_in {s = drop (end_of s) s} k n (omega (arith, g.0))))

pub cuts_cut : {s : List ℕ} {c : Cut} → Cuts s c → c ≡ cut s
unfolding cut
cuts_cut {s} k = sym (cuts_in k (suc (length s)) (omega arith))

-- frames in front of a cut
abbrev fronts : List (List ℕ) → Cut → Cut
fronts fs c = record { frames = fs ++ c.frames; closed = c.closed; left = c.left }

-- ---- frames applied one by one
module _ {S O : Type 0} (apply : S → List ℕ → Effect S O) where
  pub applied-append : (s : S) (fs gs : List (List ℕ))
      → ((applied apply s (fs ++ gs)).state ≡ (applied apply (applied apply s fs).state gs).state)
      × ((applied apply s (fs ++ gs)).outputs ≡ (applied apply s fs).outputs ++ (applied apply (applied apply s fs).state gs).outputs)
  unfolding applied
  applied-append s [] gs = (refl, refl)
  applied-append s (f ∷ fs) gs =
      let x = applied-append (apply s f).state fs gs in
      (x.0, ap (λ (os : List O). (apply s f).output ∷ os) x.1)

  -- the driver's state and outputs are those of these frames
  record Made (s : S) (fs : List (List ℕ)) (d : Driven S O) : Type 0 where
    state_is : d.state ≡ (applied apply s fs).state
    outputs_are : d.outputs ≡ (applied apply s fs).outputs

  made_none : (s : S) (r : Record) (room : List ℕ) → Made s [] (still s r room)
  unfolding applied
  made_none s r room = record { state_is = refl; outputs_are = refl }

  -- frames before a driver's
  made_behind : (s : S) (fs gs : List (List ℕ)) (s' : S) (os : List O) (d : Driven S O)
      → s' ≡ (applied apply s fs).state → os ≡ (applied apply s fs).outputs → Made s' gs d → Made s (fs ++ gs) (behind os d)
  made_behind s fs gs s' os d es eo m =
      let x = applied-append s fs gs in
      record {
        state_is = m.state_is ∙ ap (λ (z : S). (applied apply z gs).state) es ∙ sym x.0;
        outputs_are =
            ap (λ (z : List O). z ++ d.outputs) eo ∙ ap (λ (z : List O). (applied apply s fs).outputs ++ z) m.outputs_are
            ∙ ap (λ (z : S). (applied apply s fs).outputs ++ (applied apply z gs).outputs) es ∙ sym x.1;
      }

  -- ---- what a driver's state leads to: the stream that has str behind it, and then t
  data LeadingSetpoints (s : S) (str : List ℕ) (d : Driven S O) : Type 0 where
    on : (fs : List (List ℕ)) → Made s fs d → (p : List ℕ) → Holds d.after d.room p
        → ((t : List ℕ) (c : Cut) → Cuts (p ++ t) c → Cuts (str ++ t) (fronts fs c)) → LeadingSetpoints s str d
    off : (fs : List (List ℕ)) → Made s fs d → d.after ≡ shut → ((t : List ℕ) → Cuts (str ++ t) (fronts fs halt)) → LeadingSetpoints s str d

  -- a bad length stays one
  leading_setpoints-bad : (s : S) (str room : List ℕ) → bad_end (end_of str) ≡ true → LeadingSetpoints s str (still s shut room)
  leading_setpoints-bad s str room b = off [] (made_none s shut room) refl (λ t. halts {s = str ++ t} (rw (end_stays str t (bad_four str b)) b))

  -- an unfinished frame stays where it is
  leading_setpoints-more : (s : S) (str : List ℕ) (r : Record) (room : List ℕ) → Holds r room str → LeadingSetpoints s str (still s r room)
  leading_setpoints-more s str r room h = on [] (made_none s r room) str h (λ t c k. k)

-- a whole frame is the first of what the stream has
module _ (s : List ℕ) (b : bad_end (end_of s) ≡ false) (l : end_of s ≤ length s) where
  gives_on : (t : List ℕ) (c : Cut) → Cuts (drop (end_of s) s ++ t) c → Cuts (s ++ t) (give (take (end_of s) s) c)
  gives_on t c k =
      let g = good-end (end_of s) b in
      let e : end_of (s ++ t) ≡ end_of s = end_stays s t (omega (arith, g.0)) in
      let x : take (end_of (s ++ t)) (s ++ t) ≡ take (end_of s) s = rw e (take-append-le (end_of s) s t l) in
      let y : drop (end_of (s ++ t)) (s ++ t) ≡ drop (end_of s) s ++ t = rw e (drop-append-le (end_of s) s t l) in
      let z : Cuts (s ++ t) (give (take (end_of (s ++ t)) (s ++ t)) c) =
      gives {s = s ++ t} {c = c} (rw e b) (rw e (omega (arith, length-append s t))) (rw y k) in
      rw x at z

-- ---- one call, and the driver's loop

module _ (d : Done) where
  given-none : d.answer.length ≡ 0 → given d ≡ []
  unfolding given
  given-none z = rw (eq-eqb d.answer.length 0 z)

  given-one : (e : ℕ) → d.answer.length ≡ e → 0 < e → given d ≡ take e d.room ∷ []
  unfolding given
  given-one e z l = rw (ne_eqb d.answer.length 0 (λ q. omega arith), z)

  goes_on_lem : (scrap : List ℕ) (b : Bool) → d.answer.number ≡ 0 → ltb d.answer.taken (length scrap) ≡ b → goes_on d scrap ≡ b
  unfolding goes_on
  goes_on_lem scrap b z e = rw (eq-eqb d.answer.number 0 z, e)

module _ {S O : Type 0} (apply : S → List ℕ → Effect S O) where
  -- the driver behind one call
  abbrev next : ℕ → S → List ℕ → Done → Driven S O
  next n s scrap d =
      let x = applied apply s (given d) in
      behind x.outputs
      (cond (goes_on d scrap) (feed_in apply n x.state d.after d.room (drop d.answer.taken scrap))
      (still x.state d.after d.room))

  -- behind a frame
  leading_setpoints-whole : (s : S) (str : List ℕ) → bad_end (end_of str) ≡ false → end_of str ≤ length str → (fs : List (List ℕ))
      → fs ≡ take (end_of str) str ∷ [] → (d : Driven S O) → LeadingSetpoints apply (applied apply s fs).state (drop (end_of str) str) d
      → LeadingSetpoints apply s str (behind (applied apply s fs).outputs d)
  leading_setpoints-whole s str b l fs one d (on gs m p h f) =
      on (fs ++ gs) (made_behind apply s fs gs _ _ d refl refl m) p h
      (λ t c k. rw one (gives_on str b l t (fronts gs c) (f t c k)))
  leading_setpoints-whole s str b l fs one d (off gs m e f) =
      off (fs ++ gs) (made_behind apply s fs gs _ _ d refl refl m) e
      (λ t. rw one (gives_on str b l t (fronts gs halt) (f t)))

  abbrev Fed : ℕ → Type 0
  Fed n =
      (s : S) (r : Record) (room p scrap : List ℕ) → Holds r room p → length scrap < n
      → LeadingSetpoints apply s (p ++ scrap) (feed_in apply n s r room scrap)

  after : (n : ℕ) → Fed n → (s : S) (room p scrap : List ℕ) (d : Done) → length scrap < suc n → Called room p scrap d
      → LeadingSetpoints apply s (p ++ scrap) (next n s scrap d)
  unfolding refused given goes_on applied
  after n fed s room p scrap d k (closes b e) = rw e (leading_setpoints-bad apply s (p ++ scrap) room b)
  after n fed s room p scrap d k (takes g l num tak len h) =
      rw (given-none d len, goes_on_lem d scrap false num (le-ltb d.answer.taken (length scrap) (omega arith)))
      (leading_setpoints-more apply s (p ++ scrap) d.after d.room h)
  after n fed s room p scrap d k (ends g l num tot pos len fr h) = go (ltb d.answer.taken (length scrap)) refl
    where
      rest : drop (end_of (p ++ scrap)) (p ++ scrap) ≡ drop d.answer.taken scrap
      rest = ap (λ (i : ℕ). drop i (p ++ scrap)) (sym tot) ∙ drop-append-add p scrap d.answer.taken

      one : given d ≡ take (end_of (p ++ scrap)) (p ++ scrap) ∷ []
      one = given-one d (end_of (p ++ scrap)) len (omega arith) ∙ ap (λ (f : List ℕ). f ∷ []) fr

      s' : S
      s' = (applied apply s (given d)).state

      go : (b : Bool) → ltb d.answer.taken (length scrap) ≡ b → LeadingSetpoints apply s (p ++ scrap) (next n s scrap d)
      go true e =
          let m = length-drop d.answer.taken scrap in
          let i : LeadingSetpoints apply s' (drop d.answer.taken scrap) (feed_in apply n s' d.after d.room (drop d.answer.taken scrap)) =
          fed s' d.after d.room [] (drop d.answer.taken scrap) h (omega (arith, ltb-true d.answer.taken (length scrap) e)) in
          rw (goes_on_lem d scrap true num e) (leading_setpoints-whole s (p ++ scrap) g l (given d) one _ (rw rest i))
      go false e =
          let m = length-append p scrap in
          let t : d.answer.taken ≡ length scrap = omega (arith, ltb-false d.answer.taken (length scrap) e) in
          let x : drop (end_of (p ++ scrap)) (p ++ scrap) ≡ [] = rest ∙ ap (λ (i : ℕ). drop i scrap) t ∙ drop-length scrap in
          rw (goes_on_lem d scrap false num e) (leading_setpoints-whole s (p ++ scrap) g l (given d) one _ (rw x (leading_setpoints-more apply s' [] d.after d.room h)))

  fed : (n : ℕ) → Fed n
  unfolding feed_in
  fed zero s r room p scrap h k = absurd (omega arith)
  fed (suc n) s r room p scrap h k = after n (fed n) s room p scrap (received r room scrap) k (called r room p h scrap)

-- ---- scrap after scrap

-- a closed receiver gives nothing more
shut-call : (room scrap : List ℕ)
    → ((received shut room scrap).after ≡ shut) × (given (received shut room scrap) ≡ []) × (goes_on (received shut room scrap) scrap ≡ false)
unfolding refused given goes_on
shut-call room scrap = go (ltb (length room) 2052) refl
  where
    go : (b : Bool) → ltb (length room) 2052 ≡ b
        → ((received shut room scrap).after ≡ shut) × (given (received shut room scrap) ≡ []) × (goes_on (received shut room scrap) scrap ≡ false)
    go true e = rw (← at_small_room shut room scrap (ltb-true (length room) 2052 e)) (refl, refl, refl)
    go false e =
        rw (← at_not_open shut room scrap (ltb-false (length room) 2052 e) (sym (is_closed shut (λ z. omega arith)))) (refl, refl, refl)

module _ {S O : Type 0} (apply : S → List ℕ → Effect S O) where
  shut-drive : (s : S) (r : Record) (room : List ℕ) (ss : List (List ℕ)) → r ≡ shut
      → Made apply s [] (drive apply s r room ss) × ((drive apply s r room ss).after ≡ shut)
  unfolding drive feed feed_in applied
  shut-drive s r room [] e = (made_none apply s r room, e)
  shut-drive s r room (x ∷ ss) e =
      let c = shut-call room x in
      rw (e, c.1, c.2) (shut-drive s (received shut room x).after (received shut room x).room ss c.0)

  -- what a driver has reached, of a stream
  abbrev Reached : S → List ℕ → Driven S O → Type 0
  Reached s str d = (c : Cut) × Cuts str c × LedTo apply s c d

  -- frames before it
  led_behind : (s : S) (fs : List (List ℕ)) (c : Cut) (d e : Driven S O) → Made apply s fs d → LedTo apply d.state c e
      → LedTo apply s (fronts fs c) (behind d.outputs e)
  unfolding record_of
  led_behind s fs c d e m k =
      let n = made_behind apply s fs c.frames d.state d.outputs e m.state_is m.outputs_are
      (record { state_is = k.state_is; outputs_are = k.outputs_are }) in
      record { state_is = n.state_is; outputs_are = n.outputs_are; after_is = k.after_is; left_is = k.left_is }

  -- one scrap more in front
  module _ (s : S) (x : List ℕ) (d : Driven S O) (ss : List (List ℕ)) where
    abbrev rest : Driven S O
    rest = drive apply d.state d.after d.room ss

    after-scrap : (p : List ℕ) → LeadingSetpoints apply s (p ++ x) d
        → ((p' : List ℕ) → Holds d.after d.room p' → Reached d.state (p' ++ joined ss) rest)
        → Reached s (p ++ (x ++ joined ss)) (behind d.outputs rest)
    unfolding record_of
    after-scrap p (on fs m p' h f) more =
        let k = more p' h in
        (fronts fs k.0, rw (append_assoc p x (joined ss)) at (f (joined ss) k.0 k.1), led_behind s fs k.0 d rest m k.2)
    after-scrap p (off fs m e f) more =
        let k = shut-drive d.state d.after d.room ss e in
        let led : LedTo apply d.state halt rest =
        record { state_is = k.0.state_is; outputs_are = k.0.outputs_are; after_is = k.1; left_is = ap (λ (r : Record). take r.have rest.room) k.1 } in
        (fronts fs halt, rw (append_assoc p x (joined ss)) at (f (joined ss)), led_behind s fs halt d rest m led)

  driven : (ss : List (List ℕ)) (s : S) (r : Record) (room p : List ℕ) → Holds r room p
      → Reached s (p ++ joined ss) (drive apply s r room ss)
  unfolding drive feed joined record_of applied
  driven [] s r room p h =
      let k = holds_part r room p h in (
        stop p,
        rw (append-nil p) (stops k.0 k.1),
        record { state_is = refl; outputs_are = refl; after_is = holds_record r room p h; left_is = h.bytes },
      )
  driven (x ∷ ss) s r room p h =
      after-scrap s x (feed apply s r room x) ss p (fed apply (suc (length x)) s r room p x h (omega arith))
      (λ p' h'. driven ss (feed apply s r room x).state (feed apply s r room x).after (feed apply s r room x).room p' h')

pub every_cutting : EveryCutting
every_cutting S O apply s room ss l =
    let k = driven apply ss s fresh room [] (holds_none room l) in
    rw (cuts_cut k.1) at k.2

-- ---- the frames alone

collected : (s : Unit {0}) (fs : List (List ℕ)) → (applied collect s fs).outputs ≡ fs
unfolding applied
collected s [] = refl
collected s (f ∷ fs) = ap (λ (gs : List (List ℕ)). f ∷ gs) (collected s fs)

cut-is : (c : Cut) (fs : List (List ℕ)) (b : Bool) (l : List ℕ) → fs ≡ c.frames → b ≡ c.closed → l ≡ c.left
    → record { frames = fs; closed = b; left = l } ≡ c
cut-is c fs b l x y z = rw (x, y, z)

-- the record tells whether the stream is closed
closed_tells : (c : Cut) → eqb (record_of c).closed 1 ≡ c.closed
unfolding record_of
closed_tells c = go c.closed refl
  where
    go : (b : Bool) → c.closed ≡ b → eqb (record_of c).closed 1 ≡ c.closed
    go true e = rw e
    go false e = rw e (ap (λ (n : ℕ). eqb n 1) (record_open (length c.left) (end_of c.left)))

pub frames_of_stream : FramesOfStream
frames_of_stream room ss l =
    let k = every_cutting (Unit {0}) (List ℕ) collect tt room ss l in
    let c : Cut = cut (joined ss) in
    cut-is c _ _ _ (k.outputs_are ∙ collected tt c.frames) (ap (λ (r : Record). eqb r.closed 1) k.after_is ∙ closed_tells c) k.left_is
