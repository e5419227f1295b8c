-- The pieces of an answer, one after the other. Assumes nothing.
use Prim.Native.Nat.{ℕ, zero, suc, ◌+◌, ◌-◌, ◌*◌, ◌/◌, ◌≤◌, ◌<◌, min}
use mathlib.Core.Path.{◌≡◌, refl, ap}
use mathlib.Core.Bool.{Bool, true, false, cond}
use mathlib.Core.Logic.{⊎_elim}
use Rattle.wire_bytes.proofs.Order.{below}
use mathlib.Core.List.{List, [], ◌∷◌, ◌++◌}
use native.Mathlib.Numerals.{add-one}
use native.Mathlib.Omega.{arith}
use lib.Dec.{leb}
use lib.IntN.{ℤ, pos}
use lib.ListN.{length, get_or, drop, take, length-drop, length-take, drop_of_length-le}
use lib.Seq.{drop-cons, get_or-take}
use borrow.Author.Tests.{le-leb, lt-leb, eq-eqb, ne_eqb}
use Rattle.wire_bytes.specs.Bytes.{put, put_whole, past_whole}
use Rattle.text.specs.Text.{signed, hex}
use Rattle.std.specs.Simd.{first_chunks}
use Rattle.console_words.proofs.Pairs.{one_of}
use Rattle.console_words.specs.Answers.{hex_or_none, list_pieces, pair_pieces, pairs_in, report_pieces}

-- bytes or none
module _ (s : List ℕ) (n : ℕ) where
  pub hex-none : n ≡ 0 → 45 ∷ [] ≡ hex_or_none s n
  unfolding hex_or_none
  hex-none e = rw (eq-eqb n 0 e) refl

  pub hex-some : (n ≡ 0 → ⊥) → n ≤ length s → hex (take n s) ≡ hex_or_none s n
  unfolding hex_or_none
  hex-some e h = rw (ne_eqb n 0 e, le-leb n (length s) h) refl

  pub hex-past : (n ≡ 0 → ⊥) → length s < n → [] ≡ hex_or_none s n
  unfolding hex_or_none
  hex-past e h = rw (ne_eqb n 0 e, lt-leb n (length s) h) refl

-- nothing put
pub put-nothing : (s : List ℕ) (p : ℕ) → (p ≡ past_whole s p []) × (s ≡ put_whole s p [])
unfolding put put_whole past_whole
put-nothing s p = go (leb (p + 0) (length s))
  where
    go : (b : Bool) → (p ≡ cond b (p + 0) p) × (s ≡ cond b s s)
    go true = (omega arith, refl)
    go false = (refl, refl)

-- a list's numbers: those that are shown, all of them
abbrev pub all_pieces : List ℤ → List (List ℕ)
all_pieces l = list_pieces (length l) l

pub list_shown : (l : List ℤ) (n m : ℕ) → m ≡ min (length l) n → list_pieces n l ≡ all_pieces (take m l)
unfolding list_pieces
list_shown l zero m e = let z : m ≡ 0 = omega arith in rw z refl
list_shown [] (suc n) m e = let z : m ≡ 0 = omega arith in rw z refl
list_shown (x ∷ l) (suc n) m e =
    let s : m ≡ suc (min (length l) n) = omega arith in
    rw s (ap (λ ps. (32 ∷ []) ∷ signed x ∷ ps) (list_shown l n (min (length l) n) refl))

pub list_next : (l : List ℤ) (i : ℕ) → i < length l → all_pieces (drop i l) ≡ (32 ∷ []) ∷ signed (get_or l i (pos 0)) ∷ all_pieces (drop (i + 1) l)
unfolding list_pieces
list_next l i h = rw (add-one i, drop-cons l i (pos 0) h) refl

pub list_over : (l : List ℤ) (i : ℕ) → length l ≤ i → all_pieces (drop i l) ≡ []
unfolding list_pieces
list_over l i h = rw (drop_of_length-le l h) refl

-- a report's pairs
pub report_none : (l : List ℕ) (n : ℕ) → n ≡ 0 → (32 ∷ 45 ∷ []) ∷ [] ≡ report_pieces n l
unfolding report_pieces
report_none l n e = rw e refl

pub report_some : (l : List ℕ) (n : ℕ) → (n ≡ 0 → ⊥) → pairs_in n l ≡ report_pieces n l
unfolding report_pieces
report_some l zero e = absurd (e refl)
report_some l (suc n) e = refl

pair_next : (l : List ℕ) (n i k m : ℕ) → k ≡ 2 * i → m ≡ k + 2 → k + 1 < length l → i < n
    → pairs_in (n - i) (drop k l) ≡ pair_pieces (get_or l k 0) (get_or l (k + 1) 0) ++ pairs_in (n - (i + 1)) (drop m l)
unfolding pairs_in
pair_next l n i k m d c h g =
    let e : n - i ≡ suc (n - suc i) = omega arith in
    let f : m ≡ suc (suc k) = omega arith in
    let h₀ : k < length l = omega arith in
    let h₁ : suc k < length l = omega arith in
    rw (f, add-one i, add-one k, e, drop-cons l k 0 h₀, drop-cons l (suc k) 0 h₁) refl

pair_full : (l : List ℕ) (n i k : ℕ) → n ≤ i → pairs_in (n - i) (drop k l) ≡ []
unfolding pairs_in
pair_full l n i k h = let e : n - i ≡ 0 = omega arith in rw e refl

pairs-short : (n : ℕ) (l : List ℕ) → length l < 2 → pairs_in n l ≡ []
unfolding pairs_in
pairs-short zero l h = refl
pairs-short (suc n) [] h = refl
pairs-short (suc n) (g ∷ []) h = refl
pairs-short (suc n) (g ∷ k ∷ l) h = absurd (omega arith)

pair_over : (l : List ℕ) (n i k : ℕ) → length l < k + 2 → pairs_in (n - i) (drop k l) ≡ []
pair_over l n i k h = pairs-short (n - i) (drop k l) (omega (arith, length-drop k l))

pair_past : (l : List ℕ) (n i k : ℕ) → k ≡ 2 * i → min (length l / 2) n ≤ i → pairs_in (n - i) (drop k l) ≡ []
pair_past l n i k d h = ⊎_elim (λ lt. pair_over l n i k (omega arith)) (λ le. pair_full l n i k le) (below i n)

-- the pairs as they are lent, two numbers each
module _ (l : List ℕ) (cs : List (List ℕ)) (is : cs ≡ first_chunks 2 (length l / 2) l) where
  pub pair_turn : (n m i : ℕ) → m ≡ min (length l / 2) n → i < length (take m cs)
      → pairs_in (n - i) (drop (2 * i) l)
      ≡ pair_pieces (get_or (get_or (take m cs) i []) 0 0) (get_or (get_or (take m cs) i []) 1 0) ++ pairs_in (n - (i + 1)) (drop (2 * (i + 1)) l)
  pair_turn n m i e g =
      let h : i < m = omega (arith, length-take m cs) in
      let z : 2 * i + 0 ≡ 2 * i = omega arith in
      rw (get_or-take m cs i [] h, one_of l cs is i 0 (omega arith) (omega arith), one_of l cs is i 1 (omega arith) (omega arith), z)
      (pair_next l n i (2 * i) (2 * (i + 1)) refl (omega arith) (omega arith) (omega arith))

  pub pairs_over : (n m i : ℕ) → length cs ≡ length l / 2 → m ≡ min (length l / 2) n → length (take m cs) ≤ i → pairs_in (n - i) (drop (2 * i) l) ≡ []
  pairs_over n m i k e h = pair_past l n i (2 * i) refl (omega (arith, length-take m cs))
