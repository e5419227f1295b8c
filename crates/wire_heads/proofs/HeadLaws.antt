-- Heads: what stands at a position is read there, and what is read stands there. Assumes nothing.
use Prim.Native.Nat.{ℕ, ◌+◌, ◌-◌, ◌*◌, ◌/◌, ◌%◌, ◌^◌, ◌<◌, ◌≤◌}
use mathlib.Core.Path.{◌≡◌, refl, ap, ◌∙◌}
use mathlib.Core.Logic.{⊎_elim}
use mathlib.Core.Bool.{Bool, true, false, cond}
use mathlib.Core.List.{List, [], ◌∷◌, ◌++◌}
use native.Mathlib.Omega.{arith}
use lib.ListN.{length, get_or, drop}
use lib.Dec.{leb, ltb, eqb}
use borrow.Author.Tests.{lt-leb, le-leb, le-ltb, lt-ltb, ltb-true, leb-true, leb-false, eqb-true, eq-eqb}
use Rattle.wire_bytes.specs.Bytes.{number_at, bytes_of, Bytes, Stands}
use Rattle.std.specs.Prelude.{Some, None}
use Rattle.wire_heads.specs.Head.{ArgumentRead, argument_is, head_is, info_of, width_of, head_bytes, head_len, wide_at, arg_at, allowed, with_major, head_at, Within}
use Rattle.wire_heads.specs.Laws.{HeadReadsBack, HeadExact}
use Rattle.wire_heads.specs.declared.reading.Head.{Head}
use Rattle.wire_heads.specs.declared.reading.Argument.{Argument}
use Rattle.wire_bytes.proofs.Order.{below}
use Rattle.wire_bytes.proofs.NumberLaws.{at_first, past, room, cons_at, bytes-length, number_of, number-there, number_fits}
use Rattle.wire_heads.proofs.Widths.{info_low, width_low, info_small, info_high, width_enough, width_small, head-length}

-- of two that are equal the parts are
pub argument_parts : (v e w f : ℕ) → argument_is v e ≡ argument_is w f → (v ≡ w) × (e ≡ f)
argument_parts v e w f h =
    let r : ◌≡◌ {A = Argument} (record { value = v; next = e }) (record { value = w; next = f }) = cc in
    (ap (λ (a : Argument). a.value) r, ap (λ (a : Argument). a.next) r)

pub head_parts : (m v e n w f : ℕ) → head_is m v e ≡ head_is n w f → (m ≡ n) × (v ≡ w) × (e ≡ f)
head_parts m v e n w f h =
    let r : ◌≡◌ {A = Head} (record { major = m; arg = v; next = e }) (record { major = n; arg = w; next = f }) = cc in
    (ap (λ (a : Head). a.major) r, ap (λ (a : Head). a.arg) r, ap (λ (a : Head). a.next) r)

never : {A : Type 0} (a b : Bool) → cond a (cond b false false) false ≡ true → A
never true true e = absurd (let z : ◌≡◌ {A = ℕ} 0 1 = cc in omega arith)
never true false e = absurd (let z : ◌≡◌ {A = ℕ} 0 1 = cc in omega arith)
never false b e = absurd (let z : ◌≡◌ {A = ℕ} 0 1 = cc in omega arith)

-- simple values are below 24, so of a wider argument all the subset allows or none
allowed-wide : (m i v : ℕ) → 24 ≤ i → allowed m i ≡ true → allowed m v ≡ true
allowed-wide m i v h e = go (leb m 5) refl
  where
    go : (t : Bool) → leb m 5 ≡ t → allowed m v ≡ true
    go true q = simp q
    go false q = never (eqb m 7) (leb 20 i) (simp (q, lt-leb i 22 (omega arith)) at e)

allowed-info : (m v : ℕ) → Within m v → allowed m (info_of v) ≡ true
allowed-info m v ok = ⊎_elim (λ h. rw (info_low v h) ok) (λ h. allowed-wide m v (info_of v) h ok) (below v 24)

allowed-arg : (m v : ℕ) → allowed m (info_of v) ≡ true → Within m v
allowed-arg m v ok = ⊎_elim (λ h. rw (info_low v h) at ok) (λ h. allowed-wide m (info_of v) v (info_high v h) ok) (below v 24)

-- an argument that stands behind the first byte is read
arg_reads : (s t : List ℕ) (q v : ℕ) → v < 2 ^ 64 → drop q s ≡ bytes_of (width_of (info_of v)) v ++ t → arg_at s q (info_of v) ≡ argument_is v (q + width_of (info_of v))
unfolding arg_at
arg_reads s t q v small e = ⊎_elim
    (λ h. rw (info_low v h, width_low v h, lt-ltb v 24 h) (ap (argument_is v) (omega arith)))
    (λ h.
    let w : ℕ = width_of (info_of v) in
    let n = number_of w s t q v (width_enough v h small) e in
    let r : w ≤ length s - q = omega (arith, room (bytes_of w v) t s q e, bytes-length w v) in
    rw (le-ltb (info_of v) 24 (info_high v h), le-leb w (length s - q) r, n, eq-eqb (info_of v) (info_of v) refl))
    (below v 24)

pub head-reads_back : HeadReadsBack
unfolding head_at head_bytes head_len
head-reads_back s t p m v ok small e =
    let w : ℕ = width_of (info_of v) in
    let i = info_small v in
    let r : 1 ≤ length s - p = room ((m * 32 + info_of v) ∷ []) (bytes_of w v ++ t) s p e in
    let b = at_first s (bytes_of w v ++ t) p (m * 32 + info_of v) e in
    let d : get_or s p 0 / 32 ≡ m = omega arith in
    let f : get_or s p 0 % 32 ≡ info_of v = omega arith in
    let a = arg_reads s t (p + 1) v small (past ((m * 32 + info_of v) ∷ []) (bytes_of w v ++ t) s p e) in
    rw (lt-leb (length s) p (omega arith), d, f, allowed-info m v ok, a) (ap (head_is m v) (omega arith))

-- an argument that was read behind a first byte with additional information i
record ArgFound (s : List ℕ) (q i v e : ℕ) : Type 0 where
  info : info_of v ≡ i
  bytes : drop q s ≡ bytes_of (width_of i) v ++ drop e s
  len : e ≡ q + width_of i
  fits : e ≤ length s
  small : v < 2 ^ 64

module _ (s : List ℕ) (ok : Bytes s) (q v e i : ℕ) (le : q ≤ length s) where
  wide_found : (w : ℕ) → w ≡ width_of i → wide_at s q i w (number_at s q w) ≡ argument_is v e → ArgFound s q i v e
  wide_found w wi = go (leb w (length s - q)) (eqb (info_of (number_at s q w)) i) refl refl
    where
      x : ℕ
      x = number_at s q w

      go : (a b : Bool) → leb w (length s - q) ≡ a → eqb (info_of x) i ≡ b → cond a (cond b (argument_is x (q + w)) None) None ≡ argument_is v e → ArgFound s q i v e
      go false b ha hb h = absurd (let z : ◌≡◌ {A = ℕ} 0 1 = cc in omega arith)
      go true false ha hb h = absurd (let z : ◌≡◌ {A = ℕ} 0 1 = cc in omega arith)
      go true true ha hb h =
          let r = leb-true w (length s - q) ha in
          let parts = argument_parts x (q + w) v e h in
          let n = parts.0 in
          let y = parts.1 in
          record {
            info = rw n at (eqb-true (info_of x) i hb);
            bytes = rw (← wi, ← n, ← y) (number-there s ok w q (omega arith));
            len = omega arith;
            fits = omega arith;
            small = omega (arith, number_fits s ok w q (rw wi (width_small i)));
          }

  arg_found : arg_at s q i ≡ argument_is v e → ArgFound s q i v e
  unfolding arg_at bytes_of
  arg_found = go (ltb i 24) refl
    where
      go : (a : Bool) → ltb i 24 ≡ a → cond a (argument_is i q) (wide_at s q i (width_of i) (number_at s q (width_of i))) ≡ argument_is v e → ArgFound s q i v e
      go true ha h =
          let parts = argument_parts i q v e h in
          let x = parts.0 in
          let y = parts.1 in
          let lt = ltb-true i 24 ha in
          let z = width_low i lt in
          record {
            info = rw (← x) (info_low i lt);
            bytes = rw (z, y);
            len = omega arith;
            fits = omega arith;
            small = omega arith;
          }
      go false ha h = wide_found (width_of i) refl h

-- a head that was read at p
pub record HeadFound (s : List ℕ) (p m v e : ℕ) : Type 0 where
  pub stands : Stands s p (head_bytes m v) e
  pub small : v < 2 ^ 64
  pub within : Within m v

with-major : (m m' v e : ℕ) (a : ArgumentRead) → with_major m a ≡ head_is m' v e → (m ≡ m') × (a ≡ argument_is v e)
with-major m m' v e (Some x) h = let p = head_parts m x.value x.next m' v e h in (p.0, rw (p.1, p.2))
with-major m m' v e None h = absurd (let z : ◌≡◌ {A = ℕ} 0 1 = cc in omega arith)

pub head-found : (s : List ℕ) → Bytes s → (p m v e : ℕ) → head_at s p ≡ head_is m v e → HeadFound s p m v e
unfolding head_at head_bytes
head-found s ok p m v e = go (leb (length s) p) (allowed (b / 32) (b % 32)) refl refl
  where
    b : ℕ
    b = get_or s p 0

    go : (x y : Bool) → leb (length s) p ≡ x → allowed (b / 32) (b % 32) ≡ y → cond x None (cond y (with_major (b / 32) (arg_at s (p + 1) (b % 32))) None) ≡ head_is m v e → HeadFound s p m v e
    go true y hx hy h = absurd (let z : ◌≡◌ {A = ℕ} 0 1 = cc in omega arith)
    go false false hx hy h = absurd (let z : ◌≡◌ {A = ℕ} 0 1 = cc in omega arith)
    go false true hx hy h =
        let lt = leb-false (length s) p hx in
        let k = with-major (b / 32) m v e (arg_at s (p + 1) (b % 32)) h in
        let f = arg_found s ok (p + 1) v e (b % 32) (omega arith) k.1 in
        let i = f.info in
        let c : b ≡ m * 32 + b % 32 = omega (arith, k.0) in
        record {
          stands = record {
            bytes = rw i (rw (← c) (cons_at s p lt ∙ ap (λ (l : List ℕ). b ∷ l) f.bytes));
            len = rw i (omega (arith, f.len, bytes-length (width_of (b % 32)) v));
            fits = f.fits;
          };
          small = f.small;
          within = allowed-arg m v (rw (i, ← k.0) hy);
        }

pub head-exact : HeadExact
head-exact s ok p m v e = (
  (λ h. let f = head-found s ok p m v e h in (f.within, f.small, f.stands)),
  (λ f. head-reads_back s (drop e s) p m v f.0 f.1 f.2.bytes ∙ ap (head_is m v) (omega (arith, f.2.len, head-length m v))),
)
