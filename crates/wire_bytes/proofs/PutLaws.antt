-- Bytes stored in a list, one run behind the other. Assumes nothing.
use Prim.Native.Nat.{ℕ, zero, suc, ◌+◌, ◌/◌, ◌%◌, ◌^◌, ◌≤◌, ◌<◌, min}
use mathlib.Core.Path.{◌≡◌, refl, sym, ap, ◌∙◌}
use mathlib.Core.List.{List, [], ◌∷◌, ◌++◌, append_assoc, append-nil}
use mathlib.Core.Bool.{Bool, true, false}
use mathlib.Core.Logic.{⊎_elim}
use native.Mathlib.Nat.{add-zero, add-suc, mul_comm, pow-suc, div-one, div-div-eq-div-mul, min-eq_left, min-eq_right}
use native.Mathlib.Numerals.{add-one}
use native.Mathlib.Omega.{arith}
use lib.ListN.{length, set, take, drop, length-append, length-take}
use lib.Seq.{sets, set_comm, sets-eq, length-sets, length-take-le, drop_at, paste, take_all, take-length}
use lib.Dec.{leb}
use borrow.Author.Tests.{le-leb, lt-leb, leb-true, leb-false}
use Rattle.wire_bytes.specs.Bytes.{bytes_of, put, put_whole, past_whole}
use Rattle.wire_bytes.specs.Laws.{PutsJoin, PutStands}
use Rattle.wire_bytes.proofs.Order.{below}
use Rattle.wire_bytes.proofs.NumberLaws.{bytes-length, past}

pub sets-append : (a b l : List ℕ) (i : ℕ) → sets l i (a ++ b) ≡ sets (sets l i a) (i + length a) b
sets-append [] b l i = rw (add-zero i)
sets-append (x ∷ a) b l i =
    let e : suc i + length a ≡ i + suc (length a) = omega arith in
    sets-append a b (set l i x) (suc i) ∙ ap (λ (k : ℕ). sets (sets (set l i x) (suc i) a) k b) e

pub put-put : (s a b : List ℕ) (p : ℕ) → put (put s p a) (p + length a) b ≡ put s p (a ++ b)
unfolding put
put-put s a b p = sym (sets-append a b s p)

pub length-put : (s bs : List ℕ) (p : ℕ) → length (put s p bs) ≡ length s
unfolding put
length-put s bs p = length-sets s p bs

-- the low bytes of a number are its first ones, then the others
bytes-join : (a b v : ℕ) → bytes_of (a + b) v ≡ bytes_of a (v / 256 ^ b) ++ bytes_of b v
unfolding bytes_of
bytes-join a zero v = ap (λ (k : ℕ). bytes_of k v) (add-zero a) ∙ sym (append-nil (bytes_of a (v / 256 ^ zero)) ∙ ap (bytes_of a) (div-one v))
bytes-join a (suc b) v =
    let d : v / 256 / 256 ^ b ≡ v / 256 ^ suc b = div-div-eq-div-mul v 256 (256 ^ b) ∙ ap (λ (k : ℕ). v / k) (mul_comm 256 (256 ^ b) ∙ sym (pow-suc 256 b)) in
    ap (λ (k : ℕ). bytes_of k v) (add-suc a b)
    ∙ ap (λ (l : List ℕ). l ++ (v % 256 ∷ [])) (bytes-join a b (v / 256) ∙ ap (λ (k : ℕ). bytes_of a k ++ bytes_of b (v / 256)) d)
    ∙ append_assoc (bytes_of a (v / 256 ^ suc b)) (bytes_of b (v / 256)) (v % 256 ∷ [])

-- a width by another name
pub put-width : (s t : List ℕ) (p v w n : ℕ) → w ≡ n → t ≡ put s p (bytes_of w v) → t ≡ put s p (bytes_of n v)
put-width s t p v w n e h = rw (← e) h

-- two halves of one width, each stored for itself
pub put-halves : (s t u : List ℕ) (p w v : ℕ) → t ≡ put s p (bytes_of w (v / 256 ^ w)) → u ≡ put t (p + w) (bytes_of w v) → u ≡ put s p (bytes_of (w + w) v)
put-halves s t u p w v e f =
    f ∙ rw (e, bytes-join w w v) (ap (λ (k : ℕ). put (put s p (bytes_of w (v / 256 ^ w))) (p + k) (bytes_of w v)) (sym (bytes-length w (v / 256 ^ w)))
    ∙ put-put s (bytes_of w (v / 256 ^ w)) (bytes_of w v) p)

pub put-nothing : (s : List ℕ) (p v : ℕ) → s ≡ put s p (bytes_of 0 v)
unfolding put bytes_of
put-nothing s p v = refl

pub put_one : (s : List ℕ) (p v : ℕ) → set s p (v % 256) ≡ put s p (bytes_of 1 v)
unfolding put bytes_of
put_one s p v = refl

pub put_two : (s : List ℕ) (p v : ℕ) → set (set s p (v / 256 % 256)) (p + 1) (v % 256) ≡ put s p (bytes_of 2 v)
unfolding put bytes_of
put_two s p v = ap (λ (k : ℕ). set (set s p (v / 256 % 256)) k (v % 256)) (add-one p)

-- a store behind a run of stores may come first
set_first : (a s : List ℕ) (p k x : ℕ) → p + length a ≤ k → sets (set s k x) p a ≡ set (sets s p a) k x
set_first [] s p k x h = refl
set_first (y ∷ a) s p k x h =
    ap (λ (l : List ℕ). sets l (suc p) a) (set_comm s k p x y (λ e. omega arith))
    ∙ set_first a (set s p y) (suc p) k x (omega arith)

-- the last of a run stored first, and then the others
pub put-last : (s a : List ℕ) (p w x : ℕ) → length a ≡ w → put (set s (p + w) x) p a ≡ put s p (a ++ (x ∷ []))
unfolding put
put-last s a p w x e =
    set_first a s p (p + w) x (omega arith) ∙ ap (λ (k : ℕ). set (sets s p a) (p + k) x) (sym e) ∙ sym (sets-append a (x ∷ []) s p)

-- a number's last byte stored first, and then the others
pub put_last-byte : (s : List ℕ) (p i j v : ℕ) → i ≡ suc j → put (set s (p + j) (v % 256)) p (bytes_of j (v / 256)) ≡ put s p (bytes_of i v)
unfolding bytes_of
put_last-byte s p i j v e = rw e (put-last s (bytes_of j (v / 256)) p j (v % 256) (bytes-length j (v / 256)))

pub has_room : (p n len : ℕ) (b : Bool) → b ≡ leb (p + n) len → b ≡ true → p + n ≤ len
has_room p n len b e y = leb-true (p + n) len (sym e ∙ y)

-- where there is room, and where not
module _ (s bs : List ℕ) (p : ℕ) where
  pub put_whole_lem : p + length bs ≤ length s → (put_whole s p bs ≡ put s p bs) × (past_whole s p bs ≡ p + length bs)
  unfolding put_whole past_whole
  put_whole_lem h = rw (le-leb (p + length bs) (length s) h) (refl, refl)

  pub put-none : length s < p + length bs → (put_whole s p bs ≡ s) × (past_whole s p bs ≡ p)
  unfolding put_whole past_whole
  put-none h = rw (lt-leb (p + length bs) (length s) h) (refl, refl)

  -- the answers of a writer that tests for room for n bytes
  module _ (n : ℕ) (len : n ≡ length bs) (b : Bool) (room : b ≡ leb (p + n) (length s)) where
    pub stored : (t : List ℕ) → b ≡ true → t ≡ put s p bs → (p + n ≡ past_whole s p bs) × (t ≡ put_whole s p bs)
    stored t y h =
        let w = put_whole_lem (omega (arith, leb-true (p + n) (length s) (sym room ∙ y))) in
        (omega (arith, w.1), h ∙ sym w.0)

    pub not-stored : b ≡ false → (p ≡ past_whole s p bs) × (s ≡ put_whole s p bs)
    not-stored y =
        let w = put-none (omega (arith, leb-false (p + n) (length s) (sym room ∙ y))) in
        (sym w.1, sym w.0)

  pub put-there : p + length bs ≤ length s → drop p (put s p bs) ≡ bs ++ drop (p + length bs) s
  unfolding put
  put-there h =
      ap (drop p) (sets-eq bs s p h ∙ append_assoc (take p s) bs (drop (p + length bs) s))
      ∙ drop_at (take p s) (bs ++ drop (p + length bs) s) p (length-take-le p s (omega arith))

pub puts_join : PutsJoin
puts_join s a b p h =
    let n = length-append a b in
    let x = put_whole_lem s a p (omega arith) in
    let y = put_whole_lem (put s p a) b (p + length a) (omega (arith, length-put s a p)) in
    let z = put_whole_lem s (a ++ b) p h in
    rw (x.0, x.1, y.0, y.1, z.0, z.1) (put-put s a b p, omega arith)

pub put-stands : PutStands
put-stands s bs p h =
    let w = put_whole_lem s bs p h in
    let t = put-there s bs p h in
    let n = length-put s bs p in
    rw (w.0, w.1) (record {
      bytes = t ∙ ap (λ (l : List ℕ). bs ++ l) (sym (past bs (drop (p + length bs) s) (put s p bs) p t));
      len = refl;
      fits = omega arith;
    })

-- a run of writes: t is s with bs stored from p on, up to q
pub record Wrote (s : List ℕ) (p : ℕ) (bs t : List ℕ) (q : ℕ) : Type 0 where
  pub list : t ≡ put s p bs
  pub end : q ≡ p + length bs

pub wrote_none : (s : List ℕ) (p : ℕ) → Wrote s p [] s p
unfolding put
wrote_none s p = record { list = refl; end = omega arith }

-- one write more, which fits, as the writers' contracts say it
pub wrote_more : (s bs cs t t' : List ℕ) (p q q' : ℕ) → p + length (bs ++ cs) ≤ length s → Wrote s p bs t q → (q' ≡ past_whole t q cs) × (t' ≡ put_whole t q cs) → Wrote s p (bs ++ cs) t' q'
wrote_more s bs cs t t' p q q' h w x =
    let n = length-append bs cs in
    let l : length t ≡ length s = ap length w.list ∙ length-put s bs p in
    let y = put_whole_lem t cs q (omega (arith, w.end)) in
    record {
      list = x.1 ∙ y.0 ∙ rw (w.list, w.end) (put-put s bs cs p);
      end = omega (arith, x.0, y.1, w.end);
    }

-- the first n bytes of a list, or all of it where it is shorter, copied into another
module _ (d s : List ℕ) (p n k : ℕ) (least : k ≡ min n (length s)) where
  pub taken_length : k ≡ length (take n s)
  taken_length = least ∙ sym (length-take n s)

  take-least : take k s ≡ take n s
  take-least = ⊎_elim
      (λ lt. let e : k ≡ length s = least ∙ min-eq_right (omega arith) in rw (e, take-length s) (sym (take_all n s (omega arith))))
      (λ le. let e : k ≡ n = least ∙ min-eq_left le in rw e)
      (below (length s) n)

  pub copied : (t : List ℕ) → p + k ≤ length d → t ≡ paste d p s k → t ≡ put d p (take n s)
  unfolding put
  copied t h e =
      e ∙ ap (λ (l : List ℕ). take p d ++ l ++ drop (p + k) d) take-least
      ∙ ap (λ (m : ℕ). take p d ++ take n s ++ drop (p + m) d) taken_length
      ∙ sym (sets-eq (take n s) d p (omega (arith, taken_length)))
