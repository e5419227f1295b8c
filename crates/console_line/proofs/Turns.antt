-- One number of a line more: what is left to read says the same.
use Prim.Native.Nat.{ℕ, suc, ◌+◌, ◌<◌, ◌≤◌}
use mathlib.Core.Path.{◌≡◌, ap, ◌∙◌}
use mathlib.Core.Bool.{Bool, true, false, cond}
use mathlib.Core.List.{List}
use native.Mathlib.Numerals.{add-one}
use lib.ListN.{length, get_or, drop, set, drop_of_length-le}
use lib.Seq.{drop-cons}
use Rattle.std.specs.Prelude.{Some, None}
use Rattle.std.specs.Option.{is_some}
use Rattle.console_words.specs.declared.numbers.Number.{Number}
use Rattle.console_line.specs.Fields.{field_at, value_of, all_good, stored_from}
use Rattle.console_line.specs.declared.fields.Kind.{Kind}

module _ (s ends : List ℕ) (kinds : List Kind) (k : ℕ) (good : Bool) (fs left : List ℕ)
    (g : all_good s ends k (drop k kinds) ≡ good) (f : stored_from s ends k (drop k kinds) fs ≡ left) where
  good-here : k < length kinds → cond (is_some (field_at s ends (get_or kinds k Kind.Any) k)) (all_good s ends (k + 1) (drop (suc k) kinds)) false ≡ good
  unfolding all_good
  good-here h = rw (drop-cons kinds k Kind.Any h) at g

  stored_here : k < length kinds
      → cond (is_some (field_at s ends (get_or kinds k Kind.Any) k)) (stored_from s ends (k + 1) (drop (suc k) kinds) (set fs k (value_of (field_at s ends (get_or kinds k Kind.Any) k)))) fs ≡ left
  unfolding stored_from
  stored_here h = rw (drop-cons kinds k Kind.Any h) at f

  -- the k-th is good: it is stored, and the rest is left
  pub good_turn : k < length kinds → (n : Number) → field_at s ends (get_or kinds k Kind.Any) k ≡ Some n → all_good s ends (k + 1) (drop (k + 1) kinds) ≡ good
  good_turn h n e = ap (λ (j : ℕ). all_good s ends (k + 1) (drop j kinds)) (add-one k) ∙ rw e at (good-here h)

  pub stored_turn : k < length kinds → (n : Number) → field_at s ends (get_or kinds k Kind.Any) k ≡ Some n → (gs : List ℕ) → gs ≡ set fs k n.value
      → stored_from s ends (k + 1) (drop (k + 1) kinds) gs ≡ left
  stored_turn h n e gs q =
      ap (λ (j : ℕ). stored_from s ends (k + 1) (drop j kinds) gs) (add-one k)
      ∙ ap (stored_from s ends (k + 1) (drop (suc k) kinds)) q
      ∙ rw e at (stored_here h)

  -- it is not: nothing more is
  pub bad_here : k < length kinds → field_at s ends (get_or kinds k Kind.Any) k ≡ None → (false ≡ good) × (fs ≡ left)
  bad_here h e = (rw e at (good-here h), rw e at (stored_here h))

  -- none is left
  pub all_read : length kinds ≤ k → (true ≡ good) × (fs ≡ left)
  unfolding all_good stored_from
  all_read h = (rw (drop_of_length-le kinds h) at g, rw (drop_of_length-le kinds h) at f)
