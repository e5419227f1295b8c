-- In a map whose keys ascend, as many pairs as phases are named exactly where every key is below 3. Assumes nothing.
use Prim.Native.Nat.{ℕ, suc, ◌+◌, ◌≤◌, ◌<◌}
use mathlib.Core.Path.{◌≡◌, refl, ◌∙◌}
use mathlib.Core.Bool.{Bool, true, false, ◌&&◌}
use mathlib.Core.Option.{none}
use native.Mathlib.Omega.{arith}
use lib.Dec.{ltb, eqb}
use borrow.Author.Tests.{eqb-true, eqb-false, ltb-true, ltb-false, eq-eqb, ne_eqb}
use Rattle.wire_cbor.specs.Item.{Item, Pairs, count_pairs, OkPairs}
use Rattle.wire_cbor.specs.Find.{value_of}
use Rattle.wire_fields.specs.Puts.{pairs_of}
use Rattle.wire_fields.specs.ByPhase.{phases_named, only_phases, keys_below}
use Rattle.wire_fields.specs.Laws.{OnlyPhases}

-- no key is below the least
absent : (ps : Pairs) (lo d k : ℕ) → OkPairs ps lo d → k < lo → value_of ps k ≡ none
unfolding OkPairs value_of
absent Pairs.empty lo d k h l = refl
absent (Pairs.pair j i ps) lo d k h l = rw (ne_eqb j k (λ e. omega (arith, h.0))) (absent ps (j + 1) d k h.3 (omega (arith, h.0)))

eqb-next : (a b : ℕ) → eqb (suc a) (suc b) ≡ eqb a b
eqb-next a b = go (eqb a b) refl where
  go : (t : Bool) → eqb a b ≡ t → eqb (suc a) (suc b) ≡ t
  go true e = eq-eqb (suc a) (suc b) (let q = eqb-true a b e in omega arith)
  go false e = ne_eqb (suc a) (suc b) (λ q. eqb-false a b e (omega arith))

-- one pair more: a phase is counted on both sides, anything else on one
module _ (j : ℕ) (i : Item) (ps : Pairs) (d : ℕ) (h : OkPairs ps (j + 1) d) where
  none_named : (k : ℕ) → k < j + 1 → pairs_of (value_of ps k) ≡ 0
  none_named k l = rw (absent ps (j + 1) d k h l) refl

  named_more : j < 3 → phases_named (Pairs.pair j i ps) ≡ suc (phases_named ps)
  unfolding phases_named value_of
  named_more l = go (eqb j 0) (eqb j 1) refl refl where
    go : (x y : Bool) → eqb j 0 ≡ x → eqb j 1 ≡ y
        → pairs_of (value_of (Pairs.pair j i ps) 0) + (pairs_of (value_of (Pairs.pair j i ps) 1) + pairs_of (value_of (Pairs.pair j i ps) 2))
        ≡ suc (pairs_of (value_of ps 0) + (pairs_of (value_of ps 1) + pairs_of (value_of ps 2)))
    go true y e f = let q = eqb-true j 0 e in rw (e, ne_eqb j 1 (λ z. omega arith), ne_eqb j 2 (λ z. omega arith)) (omega (arith, none_named 0 (omega arith)))
    go false true e f = let q = eqb-true j 1 f in rw (e, f, ne_eqb j 2 (λ z. omega arith)) (omega (arith, none_named 1 (omega arith)))
    go false false e f = let q = eqb-false j 0 e in let r = eqb-false j 1 f in rw (e, f, eq-eqb j 2 (omega (arith, q, r))) (omega (arith, none_named 2 (omega (arith, q, r))))

  named_none : 3 ≤ j → phases_named (Pairs.pair j i ps) ≡ 0
  unfolding phases_named value_of
  named_none l =
      rw (ne_eqb j 0 (λ z. omega arith), ne_eqb j 1 (λ z. omega arith), ne_eqb j 2 (λ z. omega arith))
      (omega (arith, none_named 0 (omega arith), none_named 1 (omega arith), none_named 2 (omega arith)))

only-from : (ps : Pairs) (lo d : ℕ) → OkPairs ps lo d → only_phases ps ≡ keys_below 3 ps
unfolding OkPairs only_phases keys_below count_pairs phases_named value_of
only-from Pairs.empty lo d h = refl
only-from (Pairs.pair j i ps) lo d h = go (only-from ps (j + 1) d h.3) (ltb j 3) refl where
  go : only_phases ps ≡ keys_below 3 ps → (t : Bool) → ltb j 3 ≡ t → eqb (suc (count_pairs ps)) (phases_named (Pairs.pair j i ps)) ≡ (ltb j 3 && keys_below 3 ps)
  go r true e = rw (e, named_more j i ps d h.3 (ltb-true j 3 e)) (eqb-next (count_pairs ps) (phases_named ps) ∙ r)
  go r false e = rw (e, named_none j i ps d h.3 (ltb-false j 3 e)) (ne_eqb (suc (count_pairs ps)) 0 (λ z. omega arith))

pub only-phases : OnlyPhases
only-phases ps d h = only-from ps 0 d h
