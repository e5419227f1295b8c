-- The counts that calls leave, and a closed receiver. Assumes nothing.
use Prim.Native.Nat.{ℕ, zero, suc, ◌+◌, ◌-◌, ◌/◌, ◌%◌, ◌≤◌, ◌<◌, min}
use mathlib.Core.Path.{◌≡◌, refl, sym, ◌∙◌}
use mathlib.Core.Bool.{Bool, true, false}
use mathlib.Core.List.{List, ◌∷◌}
use native.Mathlib.Nat.{min-eq_left}
use native.Mathlib.Omega.{arith}
use lib.ListN.{length, get_or, replicate, length-replicate}
use lib.Dec.{ltb, eqb}
use borrow.Author.Tests.{ltb-true, ltb-false, eqb-true, eqb-false, le-leb}
use Rattle.wire_bytes.specs.Bytes.{Bytes}
use Rattle.wire_prefix.specs.Prefix.{end_of, bad_end}
use Rattle.wire_prefix.proofs.Ends.{good-end, end-good, end_short, end_read, four}
use Rattle.receiver.specs.Receive.{fresh, shut, is_open, end_for, record_at, refused, accepted, received}
use Rattle.receiver_laws.specs.Laws.{CallsLeave, CallsReach, ClosedForGood}
use Rattle.receiver.proofs.Counts.{Counts, prefix, payload, counts, is_closed, in_prefix, in_payload, end-new, at_end, at_prefix, at_payload, record_is}
use Rattle.receiver.proofs.Tests.{at_small_room, at_not_open, at_bad, at_taken, taken_fits}

pub closed_for_good : ClosedForGood
closed_for_good room scrap l = sym (at_not_open shut room scrap l (sym (is_closed shut (λ z. omega arith))))

-- the counts at h bytes of a frame that ends at e
counts_open : (h e : ℕ) → h ≤ e → 5 ≤ e → e ≤ 2052 → is_open (record_at h e) ≡ true
counts_open h e l a b = go (eqb h e) refl (ltb h 4) refl
  where
    below : (z : Bool) → ltb h e ≡ z → (h ≡ e → ⊥) → h < e
    below true w n = ltb-true h e w
    below false w n = let v = ltb-false h e w in absurd (n (omega arith))

    go : (x : Bool) → eqb h e ≡ x → (y : Bool) → ltb h 4 ≡ y → is_open (record_at h e) ≡ true
    go true f y g = rw (← (at_end h e (eqb-true h e f)).0) (sym (in_prefix fresh refl refl))
    go false f true g =
        rw (← at_prefix h e (eqb-false h e f) (ltb-true h 4 g)) (sym (in_prefix (record { have = h; need = 0; closed = 0 }) refl refl) ∙ g)
    go false f false g =
        let n = eqb-false h e f in
        let m = ltb-false h 4 g in
        let k = in_payload (record { have = h; need = e; closed = 0 }) refl (λ q. omega arith) m (below (ltb h e) refl n) in
        rw (← at_payload h e n m) (sym k ∙ le-leb e 2052 b)

pub calls_leave : CallsLeave
unfolding refused accepted
calls_leave r room scrap o n = go (ltb (length room) 2052) refl (bad_end (end_for r room scrap)) refl
  where
    go : (a : Bool) → ltb (length room) 2052 ≡ a → (b : Bool) → bad_end (end_for r room scrap) ≡ b → is_open (received r room scrap).after ≡ true
    go true e b f = rw (← at_small_room r room scrap (ltb-true (length room) 2052 e)) o
    go false e true f = absurd (n (rw (← at_bad r room scrap (ltb-false (length room) 2052 e) o (end_for r room scrap) refl f)))
    go false e false f =
        let l = ltb-false (length room) 2052 e in
        let g = good-end (end_for r room scrap) f in
        let m = taken_fits r room scrap l o (end_for r room scrap) refl f _ refl in
        rw (← at_taken r room scrap l o (end_for r room scrap) refl f _ refl)
        (counts_open _ (end_for r room scrap) m.0 g.0 g.1)

-- one scrap from a fresh record
reach : (room scrap : List ℕ) (e : ℕ) → 2052 ≤ length room → e ≡ end_of scrap → bad_end e ≡ false → length scrap < e
    → (received fresh room scrap).after ≡ record_at (length scrap) e
unfolding accepted
reach room scrap e l i g k =
    let z : length scrap ≡ min (length scrap) (e - 0) = sym (min-eq_left (omega arith)) in
    let n : 0 + length scrap ≡ length scrap = omega arith in
    rw (← at_taken fresh room scrap l (sym (in_prefix fresh refl refl)) e (i ∙ end-new fresh room scrap refl) g (length scrap) z, n)

zeros-small : (n k : ℕ) → get_or (replicate n 0) k 0 < 256
zeros-small zero k = omega arith
zeros-small (suc n) zero = omega arith
zeros-small (suc n) (suc k) = zeros-small n k

-- a prefix that says m, and n bytes
some_bytes : ℕ → ℕ → List ℕ
some_bytes m n = 0 ∷ 0 ∷ (m / 256) ∷ (m % 256) ∷ replicate n 0

some-small : (m n : ℕ) → m ≤ 2048 → (k : ℕ) → get_or (some_bytes m n) k 0 < 256
unfolding some_bytes
some-small m n l zero = omega arith
some-small m n l (suc zero) = omega arith
some-small m n l (suc (suc zero)) = omega arith
some-small m n l (suc (suc (suc zero))) = omega arith
some-small m n l (suc (suc (suc (suc k)))) = zeros-small n k

some_end : (m n : ℕ) → (4 + m ≡ end_of (some_bytes m n)) × (length (some_bytes m n) ≡ 4 + n)
unfolding some_bytes
some_end m n =
    let k = length-replicate {A = ℕ} n 0 in
    let l : length (some_bytes m n) ≡ 4 + n = omega arith in
    (omega (arith, end_read (some_bytes m n) (omega arith), four (some_bytes m n)), l)

pub calls_reach : CallsReach
unfolding Bytes
calls_reach r room l o = go (counts r o)
  where
    go : Counts r → (scrap : List ℕ) × Bytes scrap × ((received fresh room scrap).after ≡ r)
    go (prefix a b c) =
        let s : List ℕ = replicate r.have 0 in
        let n : length s ≡ r.have = length-replicate r.have 0 in (
          s,
          zeros-small r.have,
          reach room s 5 l (end_short s (omega arith)) (end-good 5 (omega arith) (omega arith)) (omega arith)
              ∙ sym (at_prefix (length s) 5 (λ q. omega arith) (omega arith)) ∙ record_is r (length s) 0 0 n (sym b) (sym a),
        )
    go (payload a b c d) =
        let s : List ℕ = some_bytes (r.need - 4) (r.have - 4) in
        let x = some_end (r.need - 4) (r.have - 4) in
        let n : length s ≡ r.have = omega (arith, x.1) in
        let e : r.need ≡ end_of s = omega (arith, x.0) in (
          s,
          some-small (r.need - 4) (r.have - 4) (omega arith),
          reach room s r.need l e (end-good r.need (omega arith) d) (omega arith)
              ∙ sym (at_payload (length s) r.need (λ q. omega arith) (omega arith)) ∙ record_is r (length s) r.need 0 n refl (sym a),
        )
