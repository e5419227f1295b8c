-- The five widths of an argument, taken together. Assumes nothing.
use Prim.Native.Nat.{ℕ, ◌+◌, ◌^◌, ◌<◌, ◌≤◌}
use mathlib.Core.Path.{◌≡◌, sym}
use mathlib.Core.Logic.{⊎_elim}
use native.Mathlib.Omega.{arith}
use borrow.Author.Tests.{lt-ltb, le-ltb, ne_eqb}
use mathlib.Core.Bool.{Bool, true, false, cond}
use lib.Dec.{eqb}
use Rattle.wire_heads.specs.Head.{info_of, width_of, head_len, head_bytes}
use Rattle.wire_heads.specs.Laws.{HeadLength, HeadShort}
use Rattle.wire_bytes.proofs.Order.{below}
use Rattle.wire_bytes.proofs.NumberLaws.{bytes-length}

pub info_low : (v : ℕ) → v < 24 → info_of v ≡ v
unfolding info_of
info_low v h = rw (lt-ltb v 24 h)

pub width_low : (i : ℕ) → i < 24 → width_of i ≡ 0
unfolding width_of
width_low i h = rw (ne_eqb i 24 (λ e. omega arith), ne_eqb i 25 (λ e. omega arith), ne_eqb i 26 (λ e. omega arith), ne_eqb i 27 (λ e. omega arith))

module _ (i : ℕ) where
  pub width_24 : i ≡ 24 → 1 ≡ width_of i
  unfolding width_of
  width_24 e = rw e

  pub width_25 : i ≡ 25 → 2 ≡ width_of i
  unfolding width_of
  width_25 e = rw e

  pub width_26 : i ≡ 26 → 4 ≡ width_of i
  unfolding width_of
  width_26 e = rw e

  pub width_27 : i ≡ 27 → 8 ≡ width_of i
  unfolding width_of
  width_27 e = rw e

pub width_small : (i : ℕ) → width_of i ≤ 8
unfolding width_of
width_small i = go (eqb i 24) (eqb i 25) (eqb i 26) (eqb i 27)
  where
    go : (a b c d : Bool) → cond a 1 (cond b 2 (cond c 4 (cond d 8 0))) ≤ 8
    go true b c d = omega arith
    go false true c d = omega arith
    go false false true d = omega arith
    go false false false true = omega arith
    go false false false false = omega arith

-- what holds for each width holds of an argument's own
pub by_width : (P : ℕ → ℕ → Type 0) (v : ℕ) → (v < 24 → P v 0) → (24 ≤ v → v < 256 → P 24 1) → (256 ≤ v → v < 65536 → P 25 2) → (65536 ≤ v → v < 4294967296 → P 26 4) → (4294967296 ≤ v → P 27 8)
    → P (info_of v) (width_of (info_of v))
unfolding info_of width_of
by_width P v a b c d e = ⊎_elim
    (λ h. rw (info_low v h, width_low v h) (a h))
    (λ g. ⊎_elim
    (λ h. rw (le-ltb v 24 g, lt-ltb v 256 h) (b g h))
    (λ g2. ⊎_elim
    (λ h. rw (le-ltb v 24 g, le-ltb v 256 g2, lt-ltb v 65536 h) (c g2 h))
    (λ g3. ⊎_elim
    (λ h. rw (le-ltb v 24 g, le-ltb v 256 g2, le-ltb v 65536 g3, lt-ltb v 4294967296 h) (d g3 h))
    (λ g4. rw (le-ltb v 24 g, le-ltb v 256 g2, le-ltb v 65536 g3, le-ltb v 4294967296 g4) (e g4))
    (below v 4294967296))
    (below v 65536))
    (below v 256))
    (below v 24)

pub info_small : (v : ℕ) → info_of v < 28
info_small v = by_width (λ i w. i < 28) v (λ h. omega arith) (λ g h. omega arith) (λ g h. omega arith) (λ g h. omega arith) (λ g. omega arith)

pub info_high : (v : ℕ) → 24 ≤ v → 24 ≤ info_of v
info_high v k = by_width (λ i w. 24 ≤ i) v (λ h. omega arith) (λ g h. omega arith) (λ g h. omega arith) (λ g h. omega arith) (λ g. omega arith)

-- an argument that a width holds is in shortest form from a least one on
abbrev pub From : ℕ → ℕ → ℕ → Type 0
From least v i = (v < least → info_of v ≡ i → ⊥) × (least ≤ v → info_of v ≡ i)

pub from-24 : (v : ℕ) → v < 256 → From 24 v 24
from-24 v b = by_width (λ i w. (v < 24 → i ≡ 24 → ⊥) × (24 ≤ v → i ≡ 24)) v (λ h. (λ l e. omega arith, λ l. omega arith)) (λ g h. (
  λ l e. omega arith,
  λ l. omega arith,
)) (λ g h. (λ l e. omega arith, λ l. omega arith)) (λ g h. (λ l e. omega arith, λ l. omega arith)) (λ g. (λ l e. omega arith, λ l. omega arith))

pub from-25 : (v : ℕ) → v < 65536 → From 256 v 25
from-25 v b = by_width (λ i w. (v < 256 → i ≡ 25 → ⊥) × (256 ≤ v → i ≡ 25)) v (λ h. (λ l e. omega arith, λ l. omega arith)) (λ g h. (
  λ l e. omega arith,
  λ l. omega arith,
)) (λ g h. (λ l e. omega arith, λ l. omega arith)) (λ g h. (λ l e. omega arith, λ l. omega arith)) (λ g. (λ l e. omega arith, λ l. omega arith))

pub from-26 : (v : ℕ) → v < 4294967296 → From 65536 v 26
from-26 v b = by_width (λ i w. (v < 65536 → i ≡ 26 → ⊥) × (65536 ≤ v → i ≡ 26)) v (λ h. (λ l e. omega arith, λ l. omega arith)) (λ g h. (
  λ l e. omega arith,
  λ l. omega arith,
)) (λ g h. (λ l e. omega arith, λ l. omega arith)) (λ g h. (λ l e. omega arith, λ l. omega arith)) (λ g. (λ l e. omega arith, λ l. omega arith))

pub from-27 : (v : ℕ) → From 4294967296 v 27
from-27 v = by_width (λ i w. (v < 4294967296 → i ≡ 27 → ⊥) × (4294967296 ≤ v → i ≡ 27)) v (λ h. (λ l e. omega arith, λ l. omega arith)) (λ g h. (
  λ l e. omega arith,
  λ l. omega arith,
)) (λ g h. (λ l e. omega arith, λ l. omega arith)) (λ g h. (λ l e. omega arith, λ l. omega arith)) (λ g. (λ l e. omega arith, λ l. omega arith))

-- the width of an argument, by its size
pub arg_width_0 : (v : ℕ) → v < 24 → 0 ≡ width_of (info_of v)
arg_width_0 v h = sym (rw (info_low v h) (width_low v h))

pub arg_width_1 : (v : ℕ) → 24 ≤ v → v < 256 → 1 ≡ width_of (info_of v)
arg_width_1 v g h = width_24 (info_of v) ((from-24 v h).1 g)

pub arg_width_2 : (v : ℕ) → 256 ≤ v → v < 65536 → 2 ≡ width_of (info_of v)
arg_width_2 v g h = width_25 (info_of v) ((from-25 v h).1 g)

pub arg_width_4 : (v : ℕ) → 65536 ≤ v → v < 4294967296 → 4 ≡ width_of (info_of v)
arg_width_4 v g h = width_26 (info_of v) ((from-26 v h).1 g)

pub arg_width_8 : (v : ℕ) → 4294967296 ≤ v → 8 ≡ width_of (info_of v)
arg_width_8 v g = width_27 (info_of v) ((from-27 v).1 g)

-- an argument fits its width
pub width_enough : (v : ℕ) → 24 ≤ v → v < 2 ^ 64 → v < 256 ^ width_of (info_of v)
width_enough v k l = by_width (λ i w. v < 256 ^ w) v (λ h. omega arith) (λ g h. omega arith) (λ g h. omega arith) (λ g h. omega arith) (λ g. omega arith)

pub head-short : HeadShort
unfolding head_len
head-short v = by_width (λ i w. 1 + w ≤ 9) v (λ h. omega arith) (λ g h. omega arith) (λ g h. omega arith) (λ g h. omega arith) (λ g. omega arith)

pub head-length : HeadLength
unfolding head_len head_bytes
head-length m v = rw (bytes-length (width_of (info_of v)) v) (omega arith)

pub len_positive : (v : ℕ) → 1 ≤ head_len v
unfolding head_len
len_positive v = omega arith
