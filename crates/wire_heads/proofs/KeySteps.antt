-- A key, case by case, as its reader finds it. Assumes nothing.
use Prim.Native.Nat.{ℕ, ◌+◌, ◌/◌, ◌%◌, ◌<◌, ◌≤◌}
use mathlib.Core.Path.{◌≡◌, refl, sym, ap, ◌∙◌}
use mathlib.Core.Bool.{Bool, true, false, cond}
use mathlib.Core.List.{List}
use native.Mathlib.Omega.{arith}
use lib.ListN.{length, get_or}
use borrow.Author.Tests.{lt-leb, ne_eqb}
use Rattle.std.specs.Prelude.{Some, None}
use Rattle.wire_heads.specs.Head.{ArgumentRead, arg_at, allowed, with_major, head_at}
use Rattle.wire_heads.specs.Key.{KeyRead, key_is, key_of, key_at}
use Rattle.wire_heads.specs.declared.keys.Key.{Key}
use Rattle.wire_heads.proofs.HeadSteps.{head-end, head-low}

-- of two keys that are equal the parts are
pub key_parts : (k e l f : ℕ) → key_is k e ≡ key_is l f → (k ≡ l) × (e ≡ f)
key_parts k e l f h =
    let r : ◌≡◌ {A = Key} (record { key = k; next = e }) (record { key = l; next = f }) = cc in
    (ap (λ (a : Key). a.key) r, ap (λ (a : Key). a.next) r)

pub key_end : (s : List ℕ) (p lo : ℕ) → length s ≤ p → None ≡ key_at s lo p
unfolding key_at
key_end s p lo h = ap (key_of lo) (head-end s p h)

module _ (s : List ℕ) (p b lo : ℕ) (lt : p < length s) (e : b ≡ get_or s p 0) where
  -- of major type 0
  pub key_zero : b < 32 → (r : KeyRead) → (a : ArgumentRead) → a ≡ arg_at s (p + 1) b → r ≡ key_of lo (with_major 0 a) → r ≡ key_at s lo p
  unfolding key_at
  key_zero h r a g f =
      let m : b / 32 ≡ 0 = omega arith in
      let i : b % 32 ≡ b = omega arith in
      f ∙ ap (key_of lo) (rw m at (head-low s p b lt e (omega arith) a (rw i (sym g))))

  pub key_other : 32 ≤ b → None ≡ key_at s lo p
  unfolding key_at head_at
  key_other h = rw (lt-leb (length s) p lt, ← e) (go (allowed (b / 32) (b % 32)) (arg_at s (p + 1) (b % 32)) (omega arith))
    where
      go : (t : Bool) (a : ArgumentRead) → 1 ≤ b / 32 → None ≡ key_of lo (cond t (with_major (b / 32) a) None)
      go true (Some a) g = rw (ne_eqb (b / 32) 0 (λ z. omega arith))
      go true None g = refl
      go false a g = refl
