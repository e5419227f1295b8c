-- Where frames end. Assumes nothing.
use Prim.Native.Nat.{ℕ, ◌+◌, ◌-◌, ◌*◌, ◌≤◌, ◌<◌}
use mathlib.Core.Path.{◌≡◌, refl, sym, ap, ◌∙◌}
use mathlib.Core.Bool.{Bool, true, false, ◌&&◌}
use mathlib.Core.List.{List, ◌++◌}
use native.Mathlib.Omega.{arith}
use lib.ListN.{length, get_or, length-append, get_or-append}
use lib.Dec.{leb, ltb, eqb}
use borrow.Author.Tests.{ltb-true, ltb-false, leb-true, leb-false, eqb-true, lt-ltb, le-ltb, le-leb, lt-leb}
use Rattle.wire_bytes.specs.Bytes.{number_at}
use Rattle.wire_prefix.specs.Prefix.{framed, end_of, bad_end}

pub no_both : {A : Type 0} {b : Bool} → b ≡ true → b ≡ false → A
no_both p q = let z : true ≡ false = sym p ∙ q in absurd (let w : ◌≡◌ {A = ℕ} 0 1 = cc in omega arith)

module _ (e : ℕ) where
  pub bad_small : e ≤ 4 → true ≡ bad_end e
  unfolding bad_end
  bad_small l = rw (le-leb e 4 l)

  pub bad_large : 4 < e → ltb 2052 e ≡ bad_end e
  unfolding bad_end
  bad_large l = rw (lt-leb e 4 l)

  pub good-end : bad_end e ≡ false → (5 ≤ e) × (e ≤ 2052)
  good-end g = go (leb e 4) refl
    where
      go : (a : Bool) → leb e 4 ≡ a → (5 ≤ e) × (e ≤ 2052)
      go true ea = no_both (sym (bad_small (leb-true e 4 ea))) g
      go false ea = let h = leb-false e 4 ea in (omega arith, ltb-false 2052 e (bad_large h ∙ g))

  pub end-good : 5 ≤ e → e ≤ 2052 → bad_end e ≡ false
  end-good l m = sym (bad_large (omega arith)) ∙ le-ltb 2052 e m

module _ (s : List ℕ) where
  pub end_short : length s < 4 → 5 ≡ end_of s
  unfolding end_of
  end_short l = rw (lt-ltb (length s) 4 l)

  pub end_read : 4 ≤ length s → 4 + number_at s 0 4 ≡ end_of s
  unfolding end_of
  end_read l = rw (le-ltb (length s) 4 l)

  -- the prefix byte by byte
  pub four : number_at s 0 4 ≡ ((get_or s 0 0 * 256 + get_or s 1 0) * 256 + get_or s 2 0) * 256 + get_or s 3 0
  unfolding number_at
  four = omega arith

  pub end-told : (a b c d : ℕ) → 4 ≤ length s → a ≡ get_or s 0 0 → b ≡ get_or s 1 0 → c ≡ get_or s 2 0 → d ≡ get_or s 3 0
      → 4 + (((a * 256 + b) * 256 + c) * 256 + d) ≡ end_of s
  end-told a b c d l ea eb ec ed = rw (ea, eb, ec, ed) (ap (λ (n : ℕ). 4 + n) (sym four) ∙ end_read l)

-- four bytes tell the end, whatever follows
pub end_stays : (s t : List ℕ) → 4 ≤ length s → end_of (s ++ t) ≡ end_of s
end_stays s t l =
    let a = get_or-append s t 0 0 (omega arith) in
    let b = get_or-append s t 0 1 (omega arith) in
    let c = get_or-append s t 0 2 (omega arith) in
    let d = get_or-append s t 0 3 (omega arith) in
    sym (end-told (s ++ t) (get_or s 0 0) (get_or s 1 0) (get_or s 2 0) (get_or s 3 0) (omega (arith, length-append s t)) (sym a) (sym b) (sym c) (sym d))
    ∙ end-told s _ _ _ _ l refl refl refl refl

-- a bad length is told by four bytes
pub bad_four : (s : List ℕ) → bad_end (end_of s) ≡ true → 4 ≤ length s
bad_four s b = go (ltb (length s) 4) refl
  where
    go : (t : Bool) → ltb (length s) 4 ≡ t → 4 ≤ length s
    go false e = ltb-false (length s) 4 e
    go true e =
        let f : 5 ≡ end_of s = end_short s (ltb-true (length s) 4 e) in
        let g : bad_end 5 ≡ true = rw f b in
        no_both g (sym (bad_large 5 (omega arith)))

pub both : (a b : Bool) → a && b ≡ true → (a ≡ true) × (b ≡ true)
both true b e = (refl, e)
both false b e = no_both e refl

-- a frame ends where its prefix says
pub framed-ends : (f : List ℕ) → framed f ≡ true → (bad_end (end_of f) ≡ false) × (end_of f ≡ length f) × (5 ≤ length f)
unfolding framed
framed-ends f e =
    let x = both (ltb 4 (length f) && leb (length f - 4) 2048) (eqb (number_at f 0 4) (length f - 4)) e in
    let y = both (ltb 4 (length f)) (leb (length f - 4) 2048) x.0 in
    let a = ltb-true 4 (length f) y.0 in
    let b = leb-true (length f - 4) 2048 y.1 in
    let c = eqb-true (number_at f 0 4) (length f - 4) x.1 in
    let d = end_read f (omega arith) in
    (end-good (end_of f) (omega arith) (omega arith), omega arith, omega arith)
