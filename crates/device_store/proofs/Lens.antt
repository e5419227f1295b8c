-- The lens laws: a record that was put is got, and nothing else has moved.
use Prim.Native.Nat.{ℕ, suc, ◌+◌, ◌*◌, ◌<◌, ◌≤◌}
use mathlib.Core.Bool.{Bool, true, false, cond}
use mathlib.Core.Logic.{◌≢◌}
use mathlib.Core.Path.{◌≡◌, refl, sym, ◌∙◌}
use mathlib.Core.List.{List}
use native.Mathlib.Decide.{dec_lt, ℕ_discrete}
use native.Mathlib.Omega.{arith}
use borrow.Author.Tests.{lt-ltb, le-ltb}
use lib.Dec.{ltb}
use lib.ListN.{length, get_or, set, length-set, get_or-eq_default}
use lib.Seq.{sets, length-sets, get_or-set_same, get_or-set_other}
use Rattle.device_store.specs.Sizes.{helds, slots, zone_size, head_size, words}
use Rattle.device_store.specs.Zones.{nothing, free_zone}
pub use Rattle.device_store.specs.Counts.{zones_length}
use Rattle.device_store.specs.Words.{base, held_in, zone_at, zones_of, zone_words, put_zone}
use Rattle.device_store.specs.declared.Zone.{Zone}
use Rattle.device_store.proofs.Runs.{sets-before, sets-after, sets-in, set-sets_before, sets-sets, get_d-up_to, up_to-list, up_to-cong}
use Rattle.device_store.proofs.HeldWords.{zone_length, held-value, held-until, bit-back}

-- the slots of a device
pub zones_at : (ws : List ℕ) (i : ℕ) (d : Zone) → i < slots → get_or (zones_of ws) i d ≡ zone_at ws i
unfolding zones_of
zones_at ws i d h = get_d-up_to (zone_at ws) slots i d h

pub zones_past : (ws : List ℕ) (i : ℕ) → slots ≤ i → get_or (zones_of ws) i free_zone ≡ free_zone
zones_past ws i h = get_or-eq_default (zones_of ws) free_zone {n = i} (rw (zones_length ws) h)

-- a record hangs on its own words alone
zone_cong : (vs ws : List ℕ) (j : ℕ) → ((m : ℕ) → base j ≤ m → m < base j + zone_size → get_or vs m 0 ≡ get_or ws m 0) → zone_at vs j ≡ zone_at ws j
unfolding zone_at held_in
zone_cong vs ws j same =
    rw (
      same (base j) (omega arith) (omega arith),
      same (base j + 1) (omega arith) (omega arith),
      up_to-cong (held_in vs (base j + 2)) (held_in ws (base j + 2)) helds
          (λ q h. rw (same (base j + 2 + 2 * q) (omega arith) (omega arith), same (base j + 2 + 2 * q + 1) (omega arith) (omega arith))),
    )

pub put-length : (ws : List ℕ) (i : ℕ) (x : Zone) → length (put_zone ws i x) ≡ length ws
unfolding put_zone
put-length ws i x = go (ltb i slots)
  where
    go : (b : Bool) → length (cond b (sets ws (base i) (zone_words x)) ws) ≡ length ws
    go true = length-sets ws (base i) (zone_words x)
    go false = refl

-- the head and the slots do not touch
pub head-kept : (ws : List ℕ) (i : ℕ) (x : Zone) (k : ℕ) → k < head_size → get_or (put_zone ws i x) k 0 ≡ get_or ws k 0
unfolding put_zone
head-kept ws i x k h = go (ltb i slots)
  where
    go : (b : Bool) → get_or (cond b (sets ws (base i) (zone_words x)) ws) k 0 ≡ get_or ws k 0
    go true = sets-before (zone_words x) ws (base i) k 0 (omega arith)
    go false = refl

pub zones_kept : (ws : List ℕ) (k v : ℕ) → k < head_size → zones_of (set ws k v) ≡ zones_of ws
unfolding zones_of
zones_kept ws k v h =
    up_to-cong (zone_at (set ws k v)) (zone_at ws) slots
    (λ j b. zone_cong (set ws k v) ws j (λ m lo hi. get_or-set_other ws k m v 0 (λ e. omega arith)))

pub head-commutes : (ws : List ℕ) (k v i : ℕ) (x : Zone) → k < head_size → put_zone (set ws k v) i x ≡ set (put_zone ws i x) k v
unfolding put_zone
head-commutes ws k v i x h = go (ltb i slots)
  where
    go : (b : Bool) → cond b (sets (set ws k v) (base i) (zone_words x)) (set ws k v) ≡ set (cond b (sets ws (base i) (zone_words x)) ws) k v
    go true = sym (set-sets_before (zone_words x) ws (base i) k v (omega arith))
    go false = refl

-- put, then get
module _ (ws : List ℕ) (i : ℕ) (x : Zone) (n : length ws ≡ words) (full : length x.held ≡ helds) where
  read_same : i < slots → zone_at (sets ws (base i) (zone_words x)) i ≡ x
  unfolding zone_at held_in
  read_same h =
      let e : length (zone_words x) ≡ zone_size = zone_length x full in
      rw (
        sets-in (zone_words x) ws (base i) 0 (base i) 0 (omega arith) (omega arith) (omega arith),
        sets-in (zone_words x) ws (base i) 1 (base i + 1) 0 (omega arith) (omega arith) (omega arith),
        bit-back x.up,
        up_to-list (held_in (sets ws (base i) (zone_words x)) (base i + 2)) helds x.held nothing full
            (λ q k.
            rw (
              sets-in (zone_words x) ws (base i) (suc (suc (2 * q))) (base i + 2 + 2 * q) 0 (omega arith) (omega arith) (omega arith),
              sets-in (zone_words x) ws (base i) (suc (suc (2 * q + 1))) (base i + 2 + 2 * q + 1) 0 (omega arith) (omega arith) (omega arith),
              held-value x.held q (2 * q) refl,
              held-until x.held q (2 * q + 1) refl,
            )),
      )

  read_other : (j : ℕ) → j ≢ i → zone_at (sets ws (base i) (zone_words x)) j ≡ zone_at ws j
  read_other j a =
      let e : length (zone_words x) ≡ zone_size = zone_length x full in
      zone_cong (sets ws (base i) (zone_words x)) ws j
      (λ m lo hi.
      elim (dec_lt i j) [
        | yes h ↦ sets-after (zone_words x) ws (base i) m 0 (omega arith)
        | no h ↦ sets-before (zone_words x) ws (base i) m 0 (let b : j < i = elim (dec_lt j i) [ yes b ↦ b | no b ↦ absurd (a (omega arith)) ] in omega arith)
      ])

  pub put_same : i < slots → zone_at (put_zone ws i x) i ≡ x
  unfolding put_zone
  put_same h = rw (lt-ltb i slots h) (read_same h)

  pub put_other : (j : ℕ) → j ≢ i → zone_at (put_zone ws i x) j ≡ zone_at ws j
  unfolding put_zone
  put_other j a = elim (dec_lt i slots) [ yes h ↦ rw (lt-ltb i slots h) (read_other j a) | no h ↦ rw (le-ltb i slots (omega arith)) ]

  -- all slots at once: so a law about a list of zones is a law about words
  pub zones_put : zones_of (put_zone ws i x) ≡ set (zones_of ws) i x
  unfolding zones_of
  zones_put =
      up_to-list (zone_at (put_zone ws i x)) slots (set (zones_of ws) i x) free_zone (length-set (zones_of ws) i x ∙ zones_length ws)
      (λ j k.
      elim (ℕ_discrete j i) [
        | yes e ↦ rw e (put_same (rw e at k) ∙ sym (get_or-set_same (zones_of ws) i x free_zone (rw (zones_length ws, ← e) k)))
        | no a ↦ put_other j a ∙ sym (get_or-set_other (zones_of ws) i j x free_zone a ∙ zones_at ws j free_zone k)
      ])

-- puts of two slots commute
runs-commute : (ws : List ℕ) (i j : ℕ) (x y : Zone) → length x.held ≡ helds → i < j
    → sets (sets ws (base i) (zone_words x)) (base j) (zone_words y) ≡ sets (sets ws (base j) (zone_words y)) (base i) (zone_words x)
runs-commute ws i j x y full h =
    let e : length (zone_words x) ≡ zone_size = zone_length x full in
    sets-sets (zone_words y) (zone_words x) ws (base i) (base j) (omega arith)

pub puts_commute : (ws : List ℕ) (i j : ℕ) (x y : Zone) → length x.held ≡ helds → length y.held ≡ helds → i ≢ j → put_zone (put_zone ws i x) j y ≡ put_zone (put_zone ws j y) i x
unfolding put_zone
puts_commute ws i j x y f g a = go (ltb i slots) (ltb j slots)
  where
    go : (b c : Bool) → cond c (sets (cond b (sets ws (base i) (zone_words x)) ws) (base j) (zone_words y)) (cond b (sets ws (base i) (zone_words x)) ws)
        ≡ cond b (sets (cond c (sets ws (base j) (zone_words y)) ws) (base i) (zone_words x)) (cond c (sets ws (base j) (zone_words y)) ws)
    go true true =
        elim (dec_lt i j) [
          | yes h ↦ runs-commute ws i j x y f h
          | no h ↦ sym (runs-commute ws j i y x g (elim (dec_lt j i) [ yes b ↦ b | no b ↦ absurd (a (omega arith)) ]))
        ]
    go true false = refl
    go false true = refl
    go false false = refl
