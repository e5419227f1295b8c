-- Bytes moved to the front of a buffer, and what a fill keeps there. Assumes nothing.
use Prim.Native.Nat.{ℕ, zero, suc, ◌+◌, ◌-◌, ◌≤◌}
use mathlib.Core.Path.{◌≡◌, sym, ap, ◌∙◌}
use mathlib.Core.Bool.{false, and-false}
use mathlib.Core.List.{List, [], ◌∷◌, ◌++◌}
use native.Mathlib.Omega.{arith}
use lib.Dec.{ltb}
use lib.ListN.{length, take, drop, length-drop, take-append-drop}
use lib.Seq.{paste, length-take-le, take_at, take-take, take-nil}
use Rattle.bench_records.specs.Kinds.{longest}
use Rattle.bench_stream.specs.Buffer.{bytes_in, shifted, is_short}
use Rattle.bench_stream.specs.Laws.{Fetches, Unrun}
use Rattle.bench_stream.proofs.Stops.{not_short}

module _ (buf : List ℕ) (from to : ℕ) (order : from ≤ to) (within : to ≤ length buf) where
  -- i bytes stand at the front, the buffer behind them as it was
  abbrev moved : ℕ → List ℕ
  moved i = paste buf 0 (drop from buf) i

  pub moved_all : moved (to - from) ≡ shifted buf from to
  unfolding bytes_in shifted
  moved_all = let z : 0 + (to - from) ≡ to - from = omega arith in rw z

  -- what stands at the front
  pub shifted-front : take (to - from) (shifted buf from to) ≡ bytes_in buf from to
  unfolding bytes_in shifted
  shifted-front =
      take_at (take (to - from) (drop from buf)) (drop (to - from) buf) (to - from) (length-take-le (to - from) (drop from buf) (omega (arith, length-drop from buf)))

-- a longer front that stays keeps a shorter one
pub front-stays : (a b : List ℕ) (n m : ℕ) → n ≤ m → take m a ≡ take m b → take n a ≡ take n b
front-stays a b n m h e = sym (take-take n m a h) ∙ ap (take n) e ∙ take-take n m b h

-- nothing more may be read, so nothing is short
pub not_more : (to : ℕ) → is_short to 0 ≡ false
unfolding is_short
not_more to = and-false (ltb to longest)

-- WHAT A FILL MAKES
front_bytes : (buf : List ℕ) (n : ℕ) → bytes_in buf 0 n ≡ take n buf
unfolding bytes_in
front_bytes buf n = let e : n - 0 ≡ n = omega arith in rw e

pub fetches : Fetches
fetches buf x buf' y l f =
    let n = x.to - x.from in
    let p : bytes_in buf' y.from y.to ≡ take y.to buf' = ap (λ (k : ℕ). bytes_in buf' k y.to) f.first ∙ front_bytes buf' y.to in
    let k : take n (take y.to buf') ≡ bytes_in buf x.from x.to = take-take n y.to buf' f.more ∙ f.kept in
    let m = length-take-le y.to buf' (omega (arith, f.within)) in
    rw p (record {
      bytes = drop n (take y.to buf');
      is = sym (take-append-drop n (take y.to buf')) ∙ ap (λ (h : List ℕ). h ++ drop n (take y.to buf')) k;
      enough = λ b. omega (arith, not_short y.to y.left f.enough b, m);
    })

take_behind : (buf : List ℕ) (from to : ℕ) → from ≤ to → take (to - from) (drop from buf) ≡ drop from (take to buf)
take_behind buf zero to h = let e : to - 0 ≡ to = omega arith in rw e
take_behind [] (suc from) to h = take-nil (to - suc from) ∙ sym (ap (drop (suc from)) (take-nil to))
take_behind (b ∷ buf) (suc from) zero h = absurd (omega arith)
take_behind (b ∷ buf) (suc from) (suc to) h =
    let e : suc to - suc from ≡ to - from = omega arith in
    ap (λ (n : ℕ). take n (drop from buf)) e ∙ take_behind buf from to (omega arith)

pub unrun : Unrun
unfolding bytes_in
unrun buf from to h = take_behind buf from to h ∙ ap (drop from) (sym (front_bytes buf to))
