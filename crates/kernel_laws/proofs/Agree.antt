-- The plain planner's rows are a plan, and there is only one: the first planner's walk is not looked at.
use Prim.Native.Nat.{ℕ, zero, suc, ◌+◌, ◌*◌, ◌-◌, ◌<◌, ◌≤◌}
use mathlib.Core.Bool.{Bool, true, false, cond, ◌&&◌}
use mathlib.Core.Path.{◌≡◌, refl, sym, ap, ◌∙◌, subst}
use mathlib.Core.Logic.{⊎_elim}
use mathlib.Core.List.Memᴰ
use mathlib.Core.List.{List, [], ◌∷◌, Memᴰ}
use native.Mathlib.Decide.{ℕ_discrete, dec_lt}
use native.Mathlib.Omega.{arith}
use lib.Dec.{ltb, eqb}
use lib.IntN.{ℤ, pos}
use lib.ListN.{length}
use borrow.Author.Tests.{lt-ltb, le-ltb}
use Rattle.refusals.specs.Refusals.{first_of}
use Rattle.device_store.specs.Sizes.{end, slots}
use Rattle.device_store.specs.Zones.{up_to}
use Rattle.device_store.specs.Words.{clock_of}
use Rattle.device_store.proofs.Lens.{zones_length}
use Rattle.device_store.proofs.Tests.{never}
use Rattle.device_holds.specs.Holds.{Situation, situation_of, values_at}
use Rattle.device_holds.proofs.Steady.{values-steady}
use Rattle.plan.specs.Rows.{last, rows_of, plan, Changes, Ascending, IsPlan}
use Rattle.plan.specs.Plan.{plan_of, row_size, numbers_of, rows_from, plan_number, plan_answer}
use Rattle.plan.proofs.IsPlan.{plan_of-only}
use Rattle.plan.proofs.Answers.{numbers_length}
use Rattle.device_holds.specs.Alike.{alike}
use Rattle.plan_plain.specs.Candidates.{candidates_of}
use Rattle.plan_plain.specs.Plain.{is_one_of, stands, seconds_of, plain_seconds, rows_at, plain_rows}
use Rattle.plan_plain.specs.Records.{row_of, records_of, rows_now, plain_number, plain_answer}
use Rattle.device_holds.proofs.SameValues.{alike_same, same_alike}
use Rattle.kernel_laws.specs.Agree.{SameRows, fields_of, all_fields, SameFields, SameAnswer}
use Rattle.kernel_laws.proofs.Due.{due_one}

abbrev Line : Type 0
Line = ℕ × List ℤ

module _ (s : Situation) (p : ℕ → Bool) where
  abbrev f : ℕ → List ℤ
  f = values_at s

  lines_ascending : (n now : ℕ) → Ascending now (rows_at s (seconds_of p now n))
  unfolding Ascending seconds_of rows_at
  lines_ascending zero now = tt
  lines_ascending (suc n) now = go (p (suc now)) (lines_ascending n (suc now))
    where
      lower : (rs : List Line) → Ascending (suc now) rs → Ascending now rs
      lower [] o = tt
      lower (x ∷ rs) o = (omega (arith, o.0), o.1)

      go : (b : Bool) → Ascending (suc now) (rows_at s (seconds_of p (suc now) n)) → Ascending now (rows_at s (cond b (suc now ∷ seconds_of p (suc now) n) (seconds_of p (suc now) n)))
      go true o = (omega arith, o)
      go false o = lower (rows_at s (seconds_of p (suc now) n)) o

  -- what a line that passes the test is
  abbrev Stands : ℕ → ℕ → Line → Type 0
  Stands a b r = (a < r.0) × (r.0 ≤ b) × (p r.0 ≡ true) × (r.1 ≡ f r.0)

  lines_sound : (n now : ℕ) (r : Line) → Memᴰ r (rows_at s (seconds_of p now n)) → Stands now (now + n) r
  unfolding seconds_of rows_at
  lines_sound zero now r m = absurd (Memᴰ.not-nil m)
  lines_sound (suc n) now r m = go (p (suc now)) refl m (λ k. let h = lines_sound n (suc now) r k in (omega (arith, h.0), omega (arith, h.1), h.2, h.3))
    where
      go : (b : Bool) → p (suc now) ≡ b → Memᴰ r (rows_at s (cond b (suc now ∷ seconds_of p (suc now) n) (seconds_of p (suc now) n)))
          → (Memᴰ r (rows_at s (seconds_of p (suc now) n)) → Stands now (now + suc n) r) → Stands now (now + suc n) r
      go true e k later = ⊎_elim (λ q. subst (Stands now (now + suc n)) (sym q) (omega arith, omega arith, e, refl)) later (Memᴰ.cases_cons k)
      go false e k later = later k

  lines_whole : (n now t : ℕ) → now < t → t ≤ now + n → p t ≡ true → Memᴰ (t, f t) (rows_at s (seconds_of p now n))
  unfolding seconds_of rows_at
  lines_whole zero now t h g e = absurd (omega arith)
  lines_whole (suc n) now t h g e = go (p (suc now)) refl (ℕ_discrete t (suc now)) (λ q. lines_whole n (suc now) t (omega arith) (omega arith) e)
    where
      go : (b : Bool) → p (suc now) ≡ b → Dec (t ≡ suc now) → ((t ≡ suc now → ⊥) → Memᴰ (t, f t) (rows_at s (seconds_of p (suc now) n)))
          → Memᴰ (t, f t) (rows_at s (cond b (suc now ∷ seconds_of p (suc now) n) (seconds_of p (suc now) n)))
      go true c (yes q) later = Memᴰ.head (ap (λ (y : ℕ). (y, f y)) q)
      go true c (no q) later = Memᴰ.tail (later q)
      go false c (yes q) later = absurd (never (sym (subst (λ (y : ℕ). p y ≡ true) q e) ∙ c))
      go false c (no q) later = later q

module _ (s : Situation) (few : length s.zones ≤ slots) where
  -- a row stands exactly where the values change
  stands-changes : (t : ℕ) → 0 < t → stands s t ≡ true → Changes (values_at s) t
  unfolding stands Changes
  stands-changes zero h e = absurd (omega arith)
  stands-changes (suc t) h e =
      λ q.
      let a : suc t - 1 ≡ t = omega arith in
      let k : alike (values_at s (suc t)) (values_at s t) ≡ true = subst (λ (v : List ℤ). alike (values_at s (suc t)) v ≡ true) q (alike_same (values_at s (suc t))) in
      go (is_one_of (suc t) (candidates_of s)) (rw (a, k) at e)
    where
      go : (b : Bool) → (b && false) ≡ true → ⊥
      go true g = never (sym g)
      go false g = never (sym g)

  changes_stands : (t : ℕ) → t < end → Changes (values_at s) t → stands s t ≡ true
  unfolding stands Changes
  changes_stands zero h c = absurd c
  changes_stands (suc t) h c = let a : suc t - 1 ≡ t = omega arith in rw (a, differ (alike (values_at s (suc t)) (values_at s t)) refl, one (is_one_of (suc t) (candidates_of s)) refl)
    where
      differ : (b : Bool) → alike (values_at s (suc t)) (values_at s t) ≡ b → b ≡ false
      differ true e = absurd (c (same_alike (values_at s (suc t)) (values_at s t) e))
      differ false e = refl

      one : (b : Bool) → is_one_of (suc t) (candidates_of s) ≡ b → b ≡ true
      one true e = refl
      one false e = absurd (c (values-steady s t (λ m. never (sym (due_one s few (suc t) h m) ∙ e))))

  -- IN ORDER, SOUND AND WHOLE
  plain-is : (now : ℕ) → now ≤ last → IsPlan (values_at s) now (plain_rows s now)
  unfolding plain_rows plain_seconds
  plain-is now h =
      record {
        ascending = lines_ascending s (stands s) (end - 1 - now) now;
        sound = λ r m.
            let k = lines_sound s (stands s) (end - 1 - now) now r m in
            (omega (arith, k.1), stands-changes r.0 (omega (arith, k.0)) k.2, k.3);
        whole = λ t a b c. lines_whole s (stands s) (end - 1 - now) now t a (omega arith) (changes_stands t (omega arith) c);
      }

  plain_over : (now : ℕ) → last < now → plain_rows s now ≡ plan_of s now
  unfolding plain_rows plain_seconds seconds_of rows_at plan_of plan rows_of
  plain_over now h = let z : last - now ≡ 0 = omega arith in rw z

  pub plain-plan : (now : ℕ) → plain_rows s now ≡ plan_of s now
  plain-plan now =
      elim (dec_lt last now) [
        | yes h ↦ plain_over now h
        | no h ↦ plan_of-only s now (plain_rows s now) (plain-is now (omega arith))
      ]

-- THE LAWS
plain_rows_lem : (ws : List ℕ) → rows_now ws ≡ plan_of (situation_of ws) (clock_of ws)
plain_rows_lem ws = plain-plan (situation_of ws) (omega (arith, zones_length ws)) (clock_of ws)

pub same_rows : SameRows
unfolding rows_from
same_rows ws = plain_rows_lem ws

-- a record's fields are the row's numbers
fields_values : (s : Situation) (t : ℕ) → fields_of (row_of t (values_at s t)) ≡ pos t ∷ values_at s t
unfolding fields_of row_of values_at up_to
fields_values s t = refl

fields_rows : (s : Situation) (ns : List ℕ) → all_fields (records_of (rows_at s ns)) ≡ numbers_of (rows_at s ns)
unfolding all_fields records_of rows_at numbers_of
fields_rows s [] = refl
fields_rows s (n ∷ ns) = rw (fields_values s n, fields_rows s ns)

pub same-fields : SameFields
unfolding plain_rows
same-fields ws = fields_rows (situation_of ws) (plain_seconds (situation_of ws) (clock_of ws)) ∙ ap numbers_of (same_rows ws)

-- the first planner's clock is not late, and its rows are longer than the room where they are more than the records
same_test : (room n : ℕ) → ltb (room * row_size) (n * row_size) ≡ ltb room n
same_test room n =
    elim (dec_lt room n) [
      | yes h ↦ lt-ltb (room * row_size) (n * row_size) (omega arith) ∙ sym (lt-ltb room n h)
      | no h ↦ le-ltb (room * row_size) (n * row_size) (omega arith) ∙ sym (le-ltb room n (omega arith))
    ]

number_is : (ws : List ℕ) (room : ℕ) → plan_number ws (room * row_size) ≡ cond (ltb room (length (rows_now ws))) 15 0
unfolding plan_number first_of rows_from
number_is ws room = rw (numbers_length (situation_of ws) (clock_of ws), same_test room (length (plan_of (situation_of ws) (clock_of ws))), plain_rows_lem ws)

pub same_answer : SameAnswer
unfolding plain_number plain_answer plan_answer rows_from
same_answer ws room = (sym (number_is ws room), rw (number_is ws room, plain_rows_lem ws) (go (ltb room (length (plan_of (situation_of ws) (clock_of ws))))))
  where
    go : (b : Bool) → cond b 0 (length (plan_of (situation_of ws) (clock_of ws))) ≡ cond (eqb (cond b 15 0) 0) (length (plan_of (situation_of ws) (clock_of ws))) 0
    go true = refl
    go false = refl
