-- The walk to a key, pair by pair, as its functions find it. Assumes nothing.
use Prim.Native.Nat.{ℕ, ◌-◌, ◌<◌, ◌≤◌}
use mathlib.Core.Path.{◌≡◌, sym, ap, ◌∙◌}
use mathlib.Core.Bool.{true, false}
use mathlib.Core.List.{List}
use borrow.Author.Tests.{lt-ltb, le-ltb, eq-eqb, ne_eqb}
use Rattle.std.specs.Prelude.{Some, None}
use Rattle.wire_cbor.specs.Item.{EndRead, item_at, end_of}
use Rattle.wire_heads.specs.Key.{KeyRead, key_at}
use Rattle.wire_cbor.specs.Find.{passed, step_at, stopped, onward, seek_at}
use Rattle.wire_heads.specs.declared.keys.Key.{Key}
use Rattle.wire_cbor.specs.declared.pairs.Step.{Step}
use Rattle.wire_bytes.proofs.Order.{one_more}

-- a look at a pair
module _ (s : List ℕ) (d key p : ℕ) (h : KeyRead) (e : h ≡ key_at s 0 p) where
  pub no-pair : h ≡ None → Step.Halt ≡ step_at s d key p
  unfolding step_at
  no-pair w = rw (sym e ∙ w)

  module _ (x : Key) (w : h ≡ Some x) where
    pub pair_there : x.key ≡ key → Step.There x.next ≡ step_at s d key p
    unfolding step_at
    pair_there z = rw (sym e ∙ w, eq-eqb x.key key z)

    module _ (ne : x.key ≡ key → ⊥) where
      pub pair_larger : key < x.key → Step.Halt ≡ step_at s d key p
      unfolding step_at
      pair_larger lt = rw (sym e ∙ w, ne_eqb x.key key ne, lt-ltb key x.key lt)

      module _ (le : x.key ≤ key) (r : EndRead) (v : r ≡ end_of (item_at s d x.next)) where
        pub pair_smaller : passed r ≡ step_at s d key p
        unfolding step_at
        pair_smaller = rw (sym e ∙ w, ne_eqb x.key key ne, le-ltb key x.key le, v)

-- the walk, pair by pair
module _ (s : List ℕ) (d key p n : ℕ) where
  pub walk_end : n ≡ 0 → stopped false p 0 ≡ seek_at s d key n p
  unfolding seek_at
  walk_end z = rw z

  module _ (nz : n ≡ 0 → ⊥) (t : Step) (e : t ≡ step_at s d key p) where
    next : seek_at s d key n p ≡ onward t p (n - 1) (seek_at s d key (n - 1))
    unfolding seek_at
    next = rw e (ap (λ (k : ℕ). seek_at s d key k p) (one_more n nz))

    pub walk-halt : t ≡ Step.Halt → stopped false p n ≡ seek_at s d key n p
    walk-halt w = ap (stopped false p) (one_more n nz) ∙ sym (next ∙ rw w)

    pub walk-there : (q : ℕ) → t ≡ Step.There q → stopped true q (n - 1) ≡ seek_at s d key n p
    walk-there q w = sym (next ∙ rw w)

    pub walk-past : (e' : ℕ) → t ≡ Step.Past e' → seek_at s d key (n - 1) e' ≡ seek_at s d key n p
    walk-past e' w = sym (next ∙ rw w)
