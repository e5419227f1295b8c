-- A front kept in words is the front by value. Assumes nothing.
use Prim.Native.Nat.{ℕ, ◌%◌, ◌^◌, ◌<◌}
use mathlib.Core.Path.{◌≡◌, refl, ap}
use mathlib.Core.List.{List, [], ◌∷◌}
use native.Mathlib.Omega.{arith}
use lib.ListN.{length}
use Rattle.ticks.specs.declared.front.Reading.{Reading}
use Rattle.ticks.specs.declared.words.Answer.{Answer}
use Rattle.ticks.specs.Ticks.{refused, accepted}
use Rattle.ticks.specs.Words.{front_in, front_words, kept, answer, reading_in, words_left}
use Rattle.kernel_laws.specs.TickLaws.{answers, word_answers, KernelsEnd, InWords}
use Rattle.kernel_laws.proofs.Over.{Does, starts, refusing, moving, does}

pub kernels_end : KernelsEnd
kernels_end = refl

module _ (a b c d : ℕ) where
  abbrev ws : List ℕ
  ws = a ∷ b ∷ c ∷ d ∷ []

  -- the words say the front, and are four
  abbrev Says : Reading → Type 0
  Says r = (front_in (kept ws r) ≡ r.front) × (length (kept ws r) ≡ 4)

  says-accepted : (tick s rest : ℕ) → tick < 2 ^ 32 → rest < 1000 → Says (accepted tick s rest)
  unfolding front_in kept front_words accepted
  says-accepted tick s rest l m =
      let t : tick % 2 ^ 32 ≡ tick = omega arith in
      let r : rest % 2 ^ 32 ≡ rest = omega arith in
      (rw (t, r) refl, refl)

  next_of : (k : ℕ) (r : Reading) → k < 2 ^ 32 → Does (front_in ws) k r → Says r
  unfolding refused kept
  next_of k r l (starts z e) = rw e (says-accepted k 0 0 l (omega arith))
  next_of k r l (refusing z e) = rw e (refl, refl)
  next_of k r l (moving s rest z i m n e) = rw e (says-accepted k s rest l n)

  next : (k : ℕ) → Says (reading_in ws k)
  next k = next_of (k % 2 ^ 32) (reading_in ws k) (omega arith) (does (front_in ws) (k % 2 ^ 32))

pub in_words : InWords
unfolding word_answers answers
in_words ws n [] = refl
in_words [] n (k ∷ ks) = absurd (omega arith)
in_words (a ∷ []) n (k ∷ ks) = absurd (omega arith)
in_words (a ∷ b ∷ []) n (k ∷ ks) = absurd (omega arith)
in_words (a ∷ b ∷ c ∷ []) n (k ∷ ks) = absurd (omega arith)
in_words (a ∷ b ∷ c ∷ d ∷ []) n (k ∷ ks) =
    let x = next a b c d k in
    let i = in_words (words_left (a ∷ b ∷ c ∷ d ∷ []) k) x.1 ks in
    ap (λ (zs : List Answer). answer (reading_in (a ∷ b ∷ c ∷ d ∷ []) k) ∷ zs) (rw x.0 at i)
in_words (a ∷ b ∷ c ∷ d ∷ e ∷ ws) n (k ∷ ks) = absurd (omega arith)
