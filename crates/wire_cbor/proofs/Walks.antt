-- Walks over the pairs of a map: what they find is what the map holds. Assumes nothing.
use Prim.Native.Nat.{ℕ, zero, suc, ◌+◌, ◌≤◌, ◌<◌}
use mathlib.Core.Path.{◌≡◌, refl, sym, ap, ◌∙◌}
use mathlib.Core.Logic.{⊎_elim}
use mathlib.Core.List.{List}
use mathlib.Core.Option.{some, none}
use native.Mathlib.Omega.{arith}
use borrow.Author.Tests.{le-leb, lt-ltb, le-ltb, eq-eqb, ne_eqb}
use Rattle.wire_heads.specs.Head.{head_is, head_at, head_len}
use Rattle.wire_cbor.specs.Item.{Item, Pairs, Got, got, pairs_at, from_head, item_at, count_pairs}
use Rattle.wire_heads.specs.Key.{key_is, key_at}
use Rattle.wire_cbor.specs.Find.{value_of, step_at, seek_at}
use Rattle.wire_cbor.specs.Encodings.{Sought, WalkStarts, SeekExact}
use Rattle.wire_bytes.proofs.Order.{below}
use Rattle.wire_cbor.proofs.Sound.{then_inv}
use Rattle.wire_cbor.proofs.Seen.{read_head_of, value_here, value_there, pairs-step}

pub walk-starts : WalkStarts
unfolding item_at from_head
walk-starts s ok d p e ps h =
    let hd = read_head_of s ok (suc d) p e (Item.map ps) h in
    let q : ℕ = p + head_len (count_pairs ps) in
    let u = then_inv (pairs_at s (item_at s d) (count_pairs ps) 0 q) _ (Item.map ps) e (rw hd at h) in
    let m : u.0 ≡ ps = cc in
    (count_pairs ps, q, hd, record { rest = u.0; end = u.1; reads = u.2; same = λ k le. ap (λ (x : Pairs). value_of x k) m })

key_again : (s : List ℕ) (lo p k q : ℕ) → head_at s p ≡ head_is 0 k q → lo ≤ k → key_at s lo p ≡ key_is k q
unfolding key_at
key_again s lo p k q h le = rw (h, le-leb lo k le)

-- pairs that were read from lo on hold nothing below
none_below : (s : List ℕ) (f : ℕ → Got Item) (n lo p e k : ℕ) (ps : Pairs) → pairs_at s f n lo p ≡ got ps e → k < lo → value_of ps k ≡ none
unfolding pairs_at value_of
none_below s f zero lo p e k ps h lt = let a : ps ≡ Pairs.empty = cc in rw a
none_below s f (suc n) lo p e k ps h lt =
    let t = pairs-step s f n lo p e ps h in
    let o = t.order in
    rw t.whole (value_there t.key k t.item t.rest (λ z. omega arith) ∙ none_below s f n (t.key + 1) t.next e k t.rest t.behind (omega arith))

module _ (s : List ℕ) (d key : ℕ) (all : Pairs) where
  sought : (n lo p end : ℕ) (rest : Pairs) → pairs_at s (item_at s d) n lo p ≡ got rest end → ((k : ℕ) → lo ≤ k → value_of rest k ≡ value_of all k) → lo ≤ key
      → Sought s d all key (value_of all key) (seek_at s d key n p)
  unfolding pairs_at seek_at step_at value_of
  sought zero lo p end rest h same le =
      let a : rest ≡ Pairs.empty = cc in
      let v : value_of all key ≡ none = sym (same key le) ∙ ap (λ (x : Pairs). value_of x key) a in
      rw v (refl, record { rest = Pairs.empty; end = p; reads = refl; same = λ k g. sym (ap (λ (x : Pairs). value_of x k) a) ∙ same k (omega arith) })
  sought (suc n) lo p end rest h same le =
      let t = pairs-step s (item_at s d) n lo p end rest h in
      let o = t.order in
      let a = key_again s 0 p t.key t.at t.head (omega arith) in
      let w : value_of all key ≡ value_of (Pairs.pair t.key t.item t.rest) key = sym (same key le) ∙ ap (λ (x : Pairs). value_of x key) t.whole in
      let behind : ((k : ℕ) → t.key + 1 ≤ k → value_of t.rest k ≡ value_of all k) = λ k g. sym (value_there t.key k t.item t.rest (λ z. omega arith))
      ∙ ap (λ (x : Pairs). value_of x k) (sym t.whole) ∙ same k (omega arith) in
      ⊎_elim
      (λ (lt : t.key < key). rw (
        a,
        ne_eqb t.key key (λ z. omega arith),
        le-ltb key t.key (omega arith),
        t.value,
      ) (sought n (t.key + 1) t.next end t.rest t.behind behind (omega arith)))
      (λ (ge : key ≤ t.key). ⊎_elim
      (λ (gt : key < t.key).
      let v : value_of all key ≡ none = w ∙ value_there t.key key t.item t.rest (λ z. omega arith)
      ∙ none_below s (item_at s d) n (t.key + 1) t.next end key t.rest t.behind (omega arith) in
      let again : pairs_at s (item_at s d) (suc n) (key + 1) p ≡ got rest end = rw (
        key_again s (key + 1) p t.key t.at t.head (omega arith),
        t.value,
        t.behind,
      ) (ap (λ (x : Pairs). got x end) (sym t.whole)) in
      rw (v, a, ne_eqb t.key key (λ z. omega arith), lt-ltb key t.key gt) (refl, record { rest = rest; end = end; reads = again; same = λ k g. same k (omega arith) }))
      (λ (eq : t.key ≤ key).
      let z : t.key ≡ key = omega arith in
      let v : value_of all key ≡ some t.item = w ∙ value_here t.key key t.item t.rest z in
      rw (v, a, eq-eqb t.key key z) (
        refl,
        t.next,
        t.value,
        record { rest = t.rest; end = end; reads = ap (λ (j : ℕ). pairs_at s (item_at s d) n (j + 1) t.next) (sym z) ∙ t.behind; same = λ k g. behind k (omega arith) },
      ))
      (below key t.key))
      (below t.key key)

pub seek_exact : SeekExact
seek_exact s d lo p n key all w le = sought s d key all n lo p w.end w.rest w.reads w.same le
