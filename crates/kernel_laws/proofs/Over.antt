-- Readings one after the other, at true times and at any. Assumes nothing.
use Prim.Native.Nat.{ℕ, zero, suc, ◌+◌, ◌-◌, ◌/◌, ◌%◌, ◌^◌, ◌≤◌, ◌<◌}
use mathlib.Core.Path.{◌≡◌, refl, sym, ap, ◌∙◌}
use mathlib.Core.Bool.{Bool, true, false}
use mathlib.Core.List.{List, [], ◌∷◌}
use native.Mathlib.Omega.{arith}
use lib.ListN.{length, get_or}
use lib.Dec.{ltb}
use borrow.Author.Tests.{ltb-true, ltb-false}
use Rattle.ticks.specs.declared.front.Front.{Front}
use Rattle.ticks.specs.declared.front.Reading.{Reading}
use Rattle.ticks.specs.declared.words.Answer.{Answer}
use Rattle.ticks.specs.Ticks.{END, step_of, refused, accepted, reading_of}
use Rattle.ticks.specs.Words.{answer}
use Rattle.kernel_laws.specs.TickLaws.{refusal, at, answers, after, shown, since, truly}
use Rattle.kernel_laws.specs.TickLaws.{Gaps, last, gap, Within, done, more, TrueSeconds, AsLongAs}
use Rattle.kernel_laws.specs.TickLaws.{Rising, empty, refuses, gives, NeverFalls, NeverFallsFrom, RefusedLeaves}
use Rattle.ticks.proofs.Steps.{at_first, at_back, at_past, at_good}

-- TRUE TIMES

-- the front at the true time t
record Holds (offset t₀ t : ℕ) (f : Front) : Type 0 where
  on : f.begun ≡ true
  tick : f.last ≡ (offset + t) % 2 ^ 32
  secs : f.seconds ≡ (t - t₀) / 1000
  rest : f.remainder ≡ (t - t₀) % 1000
  later : t₀ ≤ t

-- the difference of what the counter shows is that of the times, rollover or not
shown-step : (offset t u : ℕ) → t ≤ u → u - t < 2 ^ 31 → u - t ≡ step_of ((offset + t) % 2 ^ 32) ((offset + u) % 2 ^ 32)
unfolding step_of
shown-step offset t u l g = omega arith

-- the milliseconds left over are carried on
carried : (a d : ℕ) → (a / 1000 + (a % 1000 + d) / 1000 ≡ (a + d) / 1000) × ((a % 1000 + d) % 1000 ≡ (a + d) % 1000)
carried a d = (omega arith, omega arith)

-- what a reading at u makes of the front at t
module _ (offset t₀ t u : ℕ) (f : Front) (h : Holds offset t₀ t f) (l : t ≤ u) (g : u - t < 2 ^ 31) (e : since t₀ u ≤ END) where
  abbrev tick : ℕ
  tick = (offset + u) % 2 ^ 32

  exactly : accepted tick (since t₀ u) ((u - t₀) % 1000) ≡ reading_of f tick
  exactly =
      let c = carried (t - t₀) (u - t) in
      let s : u - t ≡ step_of f.last tick = rw h.tick (shown-step offset t u l g) in
      let sum : (t - t₀) + (u - t) ≡ u - t₀ = omega (arith, h.later) in
      let a : f.seconds + (f.remainder + (u - t)) / 1000 ≡ since t₀ u = rw (h.secs, h.rest, ← sum) c.0 in
      let b : (f.remainder + (u - t)) % 1000 ≡ (u - t₀) % 1000 = rw (h.rest, ← sum) c.1 in
      let k = at_good f tick h.on (u - t) s g (omega arith) in
      rw (a, b) at k

  says : answer (reading_of f tick) ≡ at (since t₀ u)
  unfolding accepted
  says = ap answer (sym exactly)

  stays : Holds offset t₀ u (reading_of f tick).front
  unfolding accepted
  stays = rw (← exactly) (record { on = refl; tick = refl; secs = refl; rest = refl; later = omega (arith, h.later) })

-- the first reading
module _ (f : Front) (off : f.begun ≡ false) (offset t₀ : ℕ) where
  first_says : answer (reading_of f ((offset + t₀) % 2 ^ 32)) ≡ at (since t₀ t₀)
  unfolding accepted
  first_says =
      let z : (t₀ - t₀) / 1000 ≡ 0 = omega arith in
      rw z (ap answer (sym (at_first f ((offset + t₀) % 2 ^ 32) off)))

  first_holds : Holds offset t₀ t₀ (reading_of f ((offset + t₀) % 2 ^ 32)).front
  unfolding accepted
  first_holds = rw (← at_first f ((offset + t₀) % 2 ^ 32) off) (record { on = refl; tick = refl; secs = omega arith; rest = omega arith; later = omega arith })

run-true : (offset t₀ t : ℕ) (f : Front) (ts : List ℕ) → Holds offset t₀ t f → Gaps t ts → Within t₀ ts → answers f (shown offset ts) ≡ truly t₀ ts
unfolding answers shown truly
run-true offset t₀ t f [] h last done = refl
run-true offset t₀ t f (u ∷ us) h (gap l g gs) (more e w) =
    rw (says offset t₀ t u f h l g e) (ap (λ (zs : List Answer). at (since t₀ u) ∷ zs) (run-true offset t₀ u _ us (stays offset t₀ t u f h l g e) gs w))

pub true-seconds : TrueSeconds
unfolding answers shown truly
true-seconds f off offset t₀ ts gs w =
    rw (first_says f off offset t₀) (ap (λ (zs : List Answer). at (since t₀ t₀) ∷ zs) (run-true offset t₀ t₀ _ ts (first_holds f off offset t₀) gs w))

-- times do not fall
no_earlier : (t : ℕ) (ts : List ℕ) → Gaps t ts → (i : ℕ) → i < length ts → t ≤ get_or ts i 0
no_earlier t [] gs i l = absurd (omega arith)
no_earlier t (u ∷ us) (gap a b gs) zero l = a
no_earlier t (u ∷ us) (gap a b gs) (suc i) l = let k = no_earlier u us gs i (omega arith) in omega arith

run_at : (offset t₀ t : ℕ) (f : Front) (ts : List ℕ) → Holds offset t₀ t f → Gaps t ts → (i : ℕ) → i < length ts → since t₀ (get_or ts i 0) ≤ END
    → get_or (answers f (shown offset ts)) i refusal ≡ at (since t₀ (get_or ts i 0))
unfolding answers shown
run_at offset t₀ t f [] h gs i l e = absurd (omega arith)
run_at offset t₀ t f (u ∷ us) h (gap a g gs) zero l e = says offset t₀ t u f h a g e
run_at offset t₀ t f (u ∷ us) h (gap a g gs) (suc i) l e =
    let k = no_earlier u us gs i (omega arith) in
    let b : since t₀ u ≤ END = omega arith in
    run_at offset t₀ u _ us (stays offset t₀ t u f h a g b) gs i (omega arith) e

pub as_long_as : AsLongAs
unfolding answers shown
as_long_as f off offset t₀ ts gs zero l e = first_says f off offset t₀
as_long_as f off offset t₀ ts gs (suc i) l e = run_at offset t₀ t₀ _ ts (first_holds f off offset t₀) gs i (omega arith) e

-- ANY READINGS

-- what a reading can do
pub data Does (f : Front) (k : ℕ) (r : Reading) : Type 0 where
  starts : f.begun ≡ false → r ≡ accepted k 0 0 → Does f k r
  refusing : f.begun ≡ true → r ≡ refused f → Does f k r
  moving : (s rest : ℕ) → f.begun ≡ true → f.seconds ≤ s → s ≤ END → rest < 1000 → r ≡ accepted k s rest → Does f k r

pub does : (f : Front) (k : ℕ) → Does f k (reading_of f k)
does f k = go f.begun refl (ltb (step_of f.last k) (2 ^ 31)) refl (ltb END (f.seconds + (f.remainder + step_of f.last k) / 1000)) refl
  where
    go : (a : Bool) → f.begun ≡ a → (b : Bool) → ltb (step_of f.last k) (2 ^ 31) ≡ b → (c : Bool) → ltb END (f.seconds + (f.remainder + step_of f.last k) / 1000) ≡ c
        → Does f k (reading_of f k)
    go false ea b eb c ec = starts ea (sym (at_first f k ea))
    go true ea false eb c ec = refusing ea (sym (at_back f k ea (ltb-false (step_of f.last k) (2 ^ 31) eb)))
    go true ea true eb true ec = refusing ea (sym (at_past f k ea (step_of f.last k) refl (ltb-true (step_of f.last k) (2 ^ 31) eb) (ltb-true END _ ec)))
    go true ea true eb false ec =
        let z = ltb-false END (f.seconds + (f.remainder + step_of f.last k) / 1000) ec in
        moving (f.seconds + (f.remainder + step_of f.last k) / 1000) ((f.remainder + step_of f.last k) % 1000) ea (omega arith) z (omega arith)
        (sym (at_good f k ea (step_of f.last k) refl (ltb-true (step_of f.last k) (2 ^ 31) eb) z))

no_both : {A : Type 0} {b : Bool} → b ≡ true → b ≡ false → A
no_both p q = let z : true ≡ false = sym p ∙ q in absurd (let w : ◌≡◌ {A = ℕ} 0 1 = cc in omega arith)

abbrev From : Front → List ℕ → Type 0
From f ks = (Rising f.seconds (answers f ks)) × (f.seconds ≤ (after f ks).seconds)

pub never_falls_from : NeverFallsFrom
unfolding answers after refused accepted
never_falls_from f on [] = (empty, omega arith)
never_falls_from f on (k ∷ ks) = go (λ g z. never_falls_from g z ks) (reading_of f k) (does f k)
  where
    go : ((g : Front) → g.begun ≡ true → From g ks) → (r : Reading) → Does f k r → (Rising f.seconds (answer r ∷ answers r.front ks)) × (f.seconds ≤ (after r.front ks).seconds)
    go next r (starts z e) = no_both on z
    go next r (refusing z e) = rw e (let i = next f on in (refuses i.0, i.1))
    go next r (moving s rest z l m n e) = rw e (let i = next (accepted k s rest).front refl in (gives l m i.0, omega (arith, i.1)))

lower : (a b : ℕ) (zs : List Answer) → a ≤ b → Rising b zs → Rising a zs
lower a b [] l empty = empty
lower a b (z ∷ zs) l (refuses r) = refuses (lower a b zs l r)
lower a b (z ∷ zs) l (gives {u = u} m n r) = gives {s = a} {u = u} (omega arith) n r

pub never_falls : NeverFalls
unfolding answers accepted
never_falls f [] = empty
never_falls f (k ∷ ks) = go f.begun refl
  where
    go : (b : Bool) → f.begun ≡ b → Rising 0 (answers f (k ∷ ks))
    go true z = lower 0 f.seconds (answers f (k ∷ ks)) (omega arith) (never_falls_from f z (k ∷ ks)).0
    go false z = rw (← at_first f k z) (gives {s = 0} {u = 0} (omega arith) (omega arith) (never_falls_from (accepted k 0 0).front refl ks).0)

pub refused-leaves : RefusedLeaves
unfolding refused accepted
refused-leaves f k n = go (reading_of f k) (does f k) n
  where
    go : (r : Reading) → Does f k r → (r.number ≡ 0 → ⊥) → (r.front ≡ f) × (answer r ≡ refusal)
    go r (starts z e) n = absurd (n (ap (λ (q : Reading). q.number) e))
    go r (refusing z e) n = rw e (refl, refl)
    go r (moving s rest z l m h e) n = absurd (n (ap (λ (q : Reading). q.number) e))
