-- What the functions of `device_store` leave, as the definitions say it: single words of a record, and the stores of a whole one.
use Prim.Native.Nat.{ℕ, zero, suc, ◌+◌, ◌<◌, ◌≤◌}
use mathlib.Core.Bool.{cond}
use mathlib.Core.Path.{◌≡◌, refl, sym, ap}
use mathlib.Core.List.{List}
use native.Mathlib.Decide.{dec_lt}
use native.Mathlib.Numerals.{add-one}
use native.Mathlib.Omega.{arith}
use borrow.Author.Tests.{lt-ltb, le-ltb}
use lib.Dec.{ltb}
use lib.ListN.{get_or, set, drop, length, replicate, drop_of_length-le, get_or-eq_default}
use lib.Seq.{sets, set-get_or, drop-cons}
use Rattle.device_store.specs.Sizes.{helds, slots}
use Rattle.device_store.specs.Zones.{nothing, free_zone, held_of}
use Rattle.device_store.specs.Words.{base, held_in, zone_at, zones_of, bit, held_words, put_zone, applied}
use Rattle.device_store.specs.Words.{head_change}
use Rattle.device_store.specs.declared.Zone.{Zone}
use Rattle.device_store.proofs.Runs.{length-up_to, get_d-up_to}
use Rattle.device_store.proofs.Lens.{zones_at, zones_past}

-- word k of slot i, 0 past the last slot
abbrev pub part_of : List ℕ → ℕ → ℕ → ℕ
part_of ws i k = cond (ltb i slots) (get_or ws (base i + k) 0) 0

-- a part of a record: by its own word, and of a free slot past the last
module _ {A : Type 0} (ws : List ℕ) (i : ℕ) (get : Zone → A) (f : ℕ → A) (k : ℕ) where
  pub part_is : get (zone_at ws i) ≡ f (get_or ws (base i + k) 0) → get free_zone ≡ f 0 → f (part_of ws i k) ≡ get (get_or (zones_of ws) i free_zone)
  part_is here past =
      elim (dec_lt i slots) [
        | yes h ↦ rw (lt-ltb i slots h, zones_at ws i free_zone h) (sym here)
        | no h ↦ let l : slots ≤ i = omega arith in rw (le-ltb i slots l, zones_past ws i l) (sym past)
      ]

-- a held value by its own words; nothing past the last quantity, or the last slot
same-all : {A : Type 0} (n q : ℕ) (a : A) → a ≡ get_or (replicate n a) q a
same-all zero q a = refl
same-all (suc n) zero a = refl
same-all (suc n) (suc q) a = same-all n q a

module _ (ws : List ℕ) (i q : ℕ) where
  pub held-here : i < slots → q < helds → held_in ws (base i + 2) q ≡ held_of (get_or (zones_of ws) i free_zone) q
  unfolding held_of zone_at
  held-here h k = rw (zones_at ws i free_zone h) (sym (get_d-up_to (held_in ws (base i + 2)) helds q nothing k))

  pub held-past : i < slots → helds ≤ q → nothing ≡ held_of (get_or (zones_of ws) i free_zone) q
  unfolding held_of zone_at
  held-past h k =
      rw (zones_at ws i free_zone h)
      (sym (get_or-eq_default (zone_at ws i).held nothing {n = q} (rw (length-up_to (held_in ws (base i + 2)) helds) k)))

  pub held-free : slots ≤ i → nothing ≡ held_of (get_or (zones_of ws) i free_zone) q
  unfolding held_of
  held-free h = rw (zones_past ws i h) (same-all helds q nothing)

-- what the stores of a record leave
pub stored : (ws s₁ s₂ s₃ : List ℕ) (i b : ℕ) (x : Zone) → i < slots → s₁ ≡ set ws (base i) x.precedence → b ≡ bit x.up → s₂ ≡ set s₁ (base i + 1) b
    → s₃ ≡ sets s₂ (base i + 2) (held_words x.held) → s₃ ≡ put_zone ws i x
unfolding put_zone
stored ws s₁ s₂ s₃ i b x h e₁ eb e₂ e₃ =
    let two : base i + 2 ≡ suc (suc (base i)) = omega arith in
    rw (e₃, e₂, eb, e₁, lt-ltb i slots h, add-one (base i), two)

pub not-stored : (ws : List ℕ) (i : ℕ) (x : Zone) → slots ≤ i → ws ≡ put_zone ws i x
unfolding put_zone
not-stored ws i x h = rw (le-ltb i slots h)

-- a change of the head alone stores two words
pub head-stored : (ws : List ℕ) (t o : ℕ) → set (set ws 2 o) 0 t ≡ applied ws (head_change ws t o)
unfolding applied head_change put_zone
head-stored ws t o = ap (λ (us : List ℕ). set (set us 2 o) 0 t) (sym (set-get_or ws 1 0))

-- the loop that stores a run: what is left to store leads to the whole
module _ (r vs : List ℕ) (p : ℕ) where
  pub run-turn : (s s' : List ℕ) (q d : ℕ) → q < length vs → sets s (p + q) (drop q vs) ≡ r → s' ≡ set s (p + q) (get_or vs q d) → sets s' (p + (q + 1)) (drop (q + 1) vs) ≡ r
  run-turn s s' q d h inv e =
      let next : p + (q + 1) ≡ suc (p + q) = omega arith in
      rw (e, next, add-one q) (rw (drop-cons vs q d) at inv)

  pub run_end : (s : List ℕ) (q : ℕ) → length vs ≤ q → sets s (p + q) (drop q vs) ≡ r → s ≡ r
  run_end s q h inv = rw (drop_of_length-le vs h) at inv
