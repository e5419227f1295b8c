-- A reading by its tests, and the words at a refusal. Assumes nothing.
use Rattle.std.proofs.Common.{◌≡◌, ℕ, ◌+◌, ◌/◌, ◌%◌, ◌^◌, ◌<◌, ◌≤◌, true, false, List, refl, le-ltb, lt-ltb, ne_eqb}
use Rattle.ticks.specs.declared.front.Front.{Front}
use Rattle.ticks.specs.declared.front.Reading.{Reading}
use Rattle.ticks.specs.Ticks.{END, step_of, refused, accepted, moved, reading_of}
use Rattle.ticks.specs.Words.{kept}

module _ (f : Front) (tick : ℕ) where
  pub at_first : f.begun ≡ false → accepted tick 0 0 ≡ reading_of f tick
  unfolding reading_of
  at_first z = rw z

  module _ (on : f.begun ≡ true) where
    pub at_back : 2 ^ 31 ≤ step_of f.last tick → refused f ≡ reading_of f tick
    unfolding reading_of
    at_back l = rw (on, le-ltb (step_of f.last tick) (2 ^ 31) l)

    module _ (s : ℕ) (is : s ≡ step_of f.last tick) (l : s < 2 ^ 31) where
      pub at_moved : moved f tick (f.remainder + s) ≡ reading_of f tick
      unfolding reading_of
      at_moved = rw (on, ← is, lt-ltb s (2 ^ 31) l)

      pub at_past : END < f.seconds + (f.remainder + s) / 1000 → refused f ≡ reading_of f tick
      unfolding moved
      at_past p = rw (lt-ltb END (f.seconds + (f.remainder + s) / 1000) p) at at_moved

      pub at_good : f.seconds + (f.remainder + s) / 1000 ≤ END → accepted tick (f.seconds + (f.remainder + s) / 1000) ((f.remainder + s) % 1000) ≡ reading_of f tick
      unfolding moved
      at_good p = rw (le-ltb END (f.seconds + (f.remainder + s) / 1000) p) at at_moved

-- at a refusal the words stay
pub kept-old : (ws : List ℕ) (r : Reading) → (r.number ≡ 0 → ⊥) → ws ≡ kept ws r
unfolding kept
kept-old ws r e = rw (ne_eqb r.number 0 e) refl
