-- A zone's words, read back and stored.
use Prim.Native.Nat.{ℕ, zero, suc, ◌+◌, ◌*◌, ◌<◌, ◌≤◌}
use mathlib.Core.Bool.{Bool, true, false}
use mathlib.Core.Path.{◌≡◌, refl, ap}
use mathlib.Core.List.{List, [], ◌∷◌}
use native.Mathlib.Nat.{add-zero}
use native.Mathlib.Numerals.{add-one}
use native.Mathlib.Omega.{arith}
use mir.Val.{bool_byte}
use lib.Dec.{ltb}
use lib.ListN.{length, get_or, set, drop, drop_of_length-le}
use lib.Seq.{sets, drop-cons}
use Rattle.device_store.specs.Sizes.{helds, zone_size}
use Rattle.device_store.specs.Zones.{nothing}
use Rattle.device_store.specs.Words.{bit, held_words, zone_words}
use Rattle.device_store.specs.declared.Held.{Held}
use Rattle.device_store.specs.declared.Zone.{Zone}

held-length : (hs : List Held) → length (held_words hs) ≡ 2 * length hs
unfolding held_words
held-length [] = refl
held-length (h ∷ hs) = let e : length (held_words hs) ≡ 2 * length hs = held-length hs in omega arith

pub zone_length : (x : Zone) → length x.held ≡ helds → length (zone_words x) ≡ zone_size
zone_length x full = let e : length (held_words x.held) ≡ 2 * length x.held = held-length x.held in omega arith

pub held-value : (hs : List Held) (q m : ℕ) → m ≡ 2 * q → get_or (held_words hs) m 0 ≡ (get_or hs q nothing).value
unfolding held_words
held-value [] q m e = refl
held-value (h ∷ hs) zero m e = let p : m ≡ 0 = omega arith in rw p
held-value (h ∷ hs) (suc q) m e = let p : m ≡ suc (suc (2 * q)) = omega arith in rw p (held-value hs q (2 * q) refl)

pub held-until : (hs : List Held) (q m : ℕ) → m ≡ 2 * q + 1 → get_or (held_words hs) m 0 ≡ (get_or hs q nothing).until
unfolding held_words
held-until [] q m e = refl
held-until (h ∷ hs) zero m e = let p : m ≡ 1 = omega arith in rw p
held-until (h ∷ hs) (suc q) m e = let p : m ≡ suc (suc (2 * q + 1)) = omega arith in rw p (held-until hs q (2 * q + 1) refl)

pub bit-byte : (b : Bool) → bool_byte b ≡ bit b
unfolding bit
bit-byte true = refl
bit-byte false = refl

pub bit-back : (b : Bool) → ltb 0 (bit b) ≡ b
unfolding bit
bit-back true = refl
bit-back false = refl

-- the loop that stores held values: what is left to store leads to the whole
pub store-start : (s : List ℕ) (p : ℕ) (hs : List Held) → sets s (p + 2 * 0) (held_words (drop 0 hs)) ≡ sets s p (held_words hs)
store-start s p hs = ap (λ (x : ℕ). sets s x (held_words hs)) (add-zero p)

pub store-turn : (s s' r : List ℕ) (p q : ℕ) (hs : List Held) (d : Held) → q < length hs → sets s (p + 2 * q) (held_words (drop q hs)) ≡ r
    → s' ≡ set (set s (p + 2 * q) (get_or hs q d).value) (p + 2 * q + 1) (get_or hs q d).until
    → sets s' (p + 2 * (q + 1)) (held_words (drop (q + 1) hs)) ≡ r
unfolding held_words
store-turn s s' r p q hs d h inv e =
    let two : p + 2 * (q + 1) ≡ suc (suc (p + 2 * q)) = omega arith in
    rw (e, two, add-one (p + 2 * q), add-one q) (rw (drop-cons hs q d) at inv)

pub store-end : (s r : List ℕ) (p q : ℕ) (hs : List Held) → length hs ≤ q → sets s (p + 2 * q) (held_words (drop q hs)) ≡ r → s ≡ r
unfolding held_words
store-end s r p q hs h inv = rw (drop_of_length-le hs h) at inv
