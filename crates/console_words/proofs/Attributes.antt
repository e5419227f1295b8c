-- A list's attributes, one after the other. Assumes nothing.
use Prim.Native.Nat.{ℕ, suc, ◌+◌, ◌-◌, ◌≤◌, ◌<◌}
use mathlib.Core.Path.{◌≡◌, refl, sym, ap, ◌∙◌}
use mathlib.Core.Bool.{Bool, true, false, ◌&&◌}
use mathlib.Core.Logic.{⊎_elim}
use Rattle.std.specs.Prelude.{Option, Some, None}
use mathlib.Core.List.{List, [], ◌∷◌}
use native.Mathlib.Numerals.{add-one}
use native.Mathlib.Omega.{arith}
use lib.Dec.{leb, eqb}
use lib.ListN.{length, take, drop, set, length-drop, length-set}
use lib.Seq.{sets, drop-drop}
use borrow.Author.Tests.{le-leb, lt-leb, eq-eqb, ne_eqb}
use Rattle.wire_bytes.proofs.Order.{below}
use Rattle.console_words.specs.Numbers.{number_in}
use Rattle.console_words.specs.Spans.{next_of, ends_from}
use Rattle.console_words.specs.Hex.{is_none}
use Rattle.console_words.specs.Lists.{is_attribute, numbers_to, listed_from, listed, attributes_of, list_read, list_after}
use Rattle.console_words.specs.declared.numbers.Number.{Number}
use Rattle.console_words.proofs.Ends.{ends_last, ends_more, ends_some, take_none}

-- with n attributes stored, the word from `at` on still gives what the whole word does
pub record Unread (word out₀ out : List ℕ) (n at : ℕ) : Type 0 where
  pub within : at ≤ length word
  pub len : length out ≡ length out₀
  pub count : n + length (listed_from word at (drop at word)) ≡ length (listed word)
  pub goods : n + length (attributes_of (listed_from word at (drop at word))) ≡ length (attributes_of (listed word))
  pub list : sets out n (take (length out₀ - n) (attributes_of (listed_from word at (drop at word)))) ≡ sets out₀ 0 (take (length out₀) (attributes_of (listed word)))

numbers_some : (s : List ℕ) (p : ℕ) (es : List ℕ) → 0 < length es → 0 < length (numbers_to s p es)
unfolding numbers_to
numbers_some s p [] h = absurd (omega arith)
numbers_some s p (e ∷ es) h = omega arith

-- the answers
abbrev Answers : List ℕ → List ℕ → Option ℕ → List ℕ → Type 0
Answers word out₀ r out = (r ≡ list_read word (length out₀)) × (out ≡ list_after word out₀)

pub list_none : (word out : List ℕ) (b : Bool) → b ≡ is_none word → b ≡ true → Answers word out (Some 0) out
unfolding list_read list_after
list_none word out b e t = rw (sym e ∙ t) (refl, refl)

module _ (word out₀ : List ℕ) (b : Bool) (dash : b ≡ is_none word) (other : b ≡ false) where
  list_bad : (out : List ℕ) (r : Option ℕ) → r ≡ None
      → (eqb (length (attributes_of (listed word))) (length (listed word)) && leb (length (listed word)) (length out₀)) ≡ false
      → out ≡ sets out₀ 0 (take (length out₀) (attributes_of (listed word))) → Answers word out₀ r out
  unfolding list_read list_after
  list_bad out r z g k = rw (sym dash ∙ other, g) (z, k)

  list_good : (out : List ℕ) (m : ℕ) → m ≡ length (listed word) → m ≡ length (attributes_of (listed word)) → m ≤ length out₀
      → out ≡ sets out₀ 0 (take (length out₀) (attributes_of (listed word))) → Answers word out₀ (Some m) out
  unfolding list_read list_after
  list_good out m c g h k =
      rw (sym dash ∙ other, eq-eqb (length (attributes_of (listed word))) (length (listed word)) (sym g ∙ c), le-leb (length (listed word)) (length out₀) (omega arith), ← c) (refl, k)

  module _ (out : List ℕ) (n at : ℕ) (inv : Unread word out₀ out n at) where
    listed-some : 0 < length (listed_from word at (drop at word))
    unfolding listed_from
    listed-some = numbers_some word at (ends_from 44 at (drop at word)) (ends_some 44 at (drop at word))

    -- the slice is full
    pub list_full : (r : Option ℕ) → r ≡ None → length out₀ ≤ n → Answers word out₀ r out
    list_full r z h =
        let m : length out₀ - n ≡ 0 = omega arith in
        let l = lt-leb (length (listed word)) (length out₀) (omega (arith, inv.count, listed-some)) in
        list_bad out r z (go (eqb (length (attributes_of (listed word))) (length (listed word))) (leb (length (listed word)) (length out₀)) l) (rw m at inv.list)
      where
        go : (p q : Bool) → q ≡ false → (p && q) ≡ false
        go true q h = h
        go false q h = refl

    module _ (e : ℕ) (v : Option Number) (here : e ≡ next_of 44 at (drop at word)) (is : v ≡ number_in word at e) where
      listed-last : e ≡ length word → listed_from word at (drop at word) ≡ v ∷ []
      unfolding listed_from numbers_to
      listed-last z =
          let f : ends_from 44 at (drop at word) ≡ e ∷ [] = rw here (ends_last 44 at (drop at word) (omega (arith, length-drop at word, inv.within))) in
          rw (f, is) refl

      listed_more : at ≤ e → e < length word → listed_from word at (drop at word) ≡ v ∷ listed_from word (suc e) (drop (suc e) word)
      unfolding listed_from numbers_to
      listed_more g l =
          let f₀ = ends_more 44 at (drop at word) (e - at) (omega (arith, length-drop at word)) (omega arith) in
          let j : at + suc (e - at) ≡ suc e = omega arith in
          let d : drop (suc (e - at)) (drop at word) ≡ drop (suc e) word = drop-drop (suc (e - at)) at word ∙ ap (λ (k : ℕ). drop k word) j in
          let f : ends_from 44 at (drop at word) ≡ e ∷ ends_from 44 (suc e) (drop (suc e) word) = rw here (rw (d, here) at f₀) in
          rw (f, is) refl

      -- a part that is no number, or no attribute
      bad_number : (rest : List (Option Number)) → listed_from word at (drop at word) ≡ v ∷ rest → ((rest : List (Option Number)) → attributes_of (v ∷ rest) ≡ [])
          → Answers word out₀ None out
      bad_number rest f q =
          let a : attributes_of (listed_from word at (drop at word)) ≡ [] = rw f (q rest) in
          let c = rw f at inv.count in
          let g = rw a at inv.goods in
          let m : (length (attributes_of (listed word)) ≡ length (listed word) → ⊥) = λ k. absurd (omega (arith, c, g)) in
          list_bad out None refl (rw (ne_eqb (length (attributes_of (listed word))) (length (listed word)) m) refl) (rw (a, take_none (length out₀ - n)) at inv.list)

      broken : at ≤ e → e ≤ length word → ((rest : List (Option Number)) → attributes_of (v ∷ rest) ≡ []) → Answers word out₀ None out
      broken g l q = ⊎_elim
          (λ lt. bad_number _ (listed_more g lt) q)
          (λ le. bad_number _ (listed-last (omega arith)) q)
          (below e (length word))

      pub list_gap : at ≤ e → e ≤ length word → v ≡ None → Answers word out₀ None out
      unfolding attributes_of
      list_gap g l q = broken g l (λ rest. rw q refl)

      module _ (w : Number) (some : v ≡ Some w) where
        pub list_broken : at ≤ e → e ≤ length word → is_attribute w ≡ false → Answers word out₀ None out
        unfolding attributes_of
        list_broken g l q = broken g l (λ rest. rw (some, q) refl)

        module _ (h : n < length out₀) (q : is_attribute w ≡ true) where
          abbrev x : ℕ
          x = w.value

          room : length out₀ - n ≡ suc (length out₀ - suc n)
          room = omega arith

          -- the last number
          pub last-read : e ≡ length word → Answers word out₀ (Some (n + 1)) (set out n x)
          unfolding attributes_of
          last-read z =
              let f = listed-last z in
              let a : attributes_of (listed_from word at (drop at word)) ≡ x ∷ [] = rw (f, some, q) refl in
              let t : take (length out₀ - n) (attributes_of (listed_from word at (drop at word))) ≡ x ∷ [] = rw (a, room) (ap (λ (l : List ℕ). x ∷ l) (take_none (length out₀ - suc n))) in
              list_good (set out n x) (n + 1) (rw f at inv.count) (rw a at inv.goods) (omega arith) (rw t at inv.list)

          -- one number more
          pub one_read : at ≤ e → e < length word → Unread word out₀ (set out n x) (n + 1) (e + 1)
          unfolding attributes_of
          one_read g l =
              let f = listed_more g l in
              let a : attributes_of (listed_from word at (drop at word)) ≡ x ∷ attributes_of (listed_from word (suc e) (drop (suc e) word)) = rw (f, some, q) refl in
              record {
                within = omega arith;
                len = length-set out n x ∙ inv.len;
                count = rw (add-one e) (omega (arith, rw f at inv.count));
                goods = rw (add-one e) (omega (arith, rw a at inv.goods));
                list = rw (add-one n, add-one e) (rw (a, room) at inv.list);
              }
