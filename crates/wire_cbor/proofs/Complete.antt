-- A well-formed item is read where its encoding stands. Assumes nothing.
use Prim.Native.Nat.{ℕ, zero, suc, ◌+◌, ◌-◌, ◌^◌, ◌<◌}
use mathlib.Core.Path.{◌≡◌, refl, sym, ap, ◌∙◌}
use mathlib.Core.List.{List, ◌++◌, append_assoc}
use native.Mathlib.Omega.{arith}
use lib.ListN.{length, drop, length-append}
use lib.Seq.{take-append_seam}
use borrow.Author.Tests.{le-leb}
use Rattle.wire_heads.specs.Head.{head_is, head_bytes, head_at, Within}
use Rattle.wire_cbor.specs.Item.{Item, Items, Pairs, Got, got, bad, items_at, pairs_at, from_head, item_at, encode, encode_items, encode_pairs, count, count_pairs, Ok, OkItems, OkPairs}
use Rattle.wire_heads.specs.Key.{key_at}
use Rattle.wire_cbor.specs.Encodings.{ItemReadsBack}
use Rattle.wire_bytes.proofs.NumberLaws.{past, room}
use Rattle.wire_heads.proofs.Widths.{head-length}
use Rattle.wire_heads.proofs.HeadLaws.{head-reads_back}

alone : (s t : List ℕ) (p m v : ℕ) → Within m v → v < 2 ^ 64 → drop p s ≡ head_bytes m v ++ t → head_at s p ≡ head_is m v (p + length (head_bytes m v))
alone s t p m v ok small e = head-reads_back s t p m v ok small e ∙ ap (λ (n : ℕ). head_is m v (p + n)) (sym (head-length m v))

-- the head of a longer run of bytes, and what is behind it
module _ (s bs t : List ℕ) (p m v : ℕ) (ok : Within m v) (small : v < 2 ^ 64) (e : drop p s ≡ (head_bytes m v ++ bs) ++ t) where
  e' : drop p s ≡ head_bytes m v ++ (bs ++ t)
  e' = e ∙ append_assoc (head_bytes m v) bs t

  first : head_at s p ≡ head_is m v (p + length (head_bytes m v))
  first = alone s (bs ++ t) p m v ok small e'

  behind : drop (p + length (head_bytes m v)) s ≡ bs ++ t
  behind = past (head_bytes m v) (bs ++ t) s p e'

whole : (a b : List ℕ) (p : ℕ) → p + length a + length b ≡ p + length (a ++ b)
whole a b p = omega (arith, length-append a b)

-- what a reader of items within d levels has to show
unfoldable Complete : List ℕ → ℕ → (ℕ → Got Item) → Type 0
Complete s d f = (i : Item) (p : ℕ) (t : List ℕ) → Ok i d → drop p s ≡ encode i ++ t → f p ≡ got i (p + length (encode i))

items_complete : (s : List ℕ) (d : ℕ) (f : ℕ → Got Item) → Complete s d f → (is : Items) (p : ℕ) (t : List ℕ) → OkItems is d → drop p s ≡ encode_items is ++ t
    → items_at f (count is) p ≡ got is (p + length (encode_items is))
unfolding items_at Complete encode count Ok
items_complete s d f hf Items.none p t ok e = ap (got Items.none) (omega arith)
items_complete s d f hf (Items.more i is) p t ok e =
    let e1 = e ∙ append_assoc (encode i) (encode_items is) t in
    let x = hf i p (encode_items is ++ t) ok.0 e1 in
    let y = items_complete s d f hf is (p + length (encode i)) t ok.1 (past (encode i) (encode_items is ++ t) s p e1) in
    rw (x, y) (ap (got (Items.more i is)) (whole (encode i) (encode_items is) p))

pairs-complete : (s : List ℕ) (d : ℕ) (f : ℕ → Got Item) → Complete s d f → (ps : Pairs) (lo p : ℕ) (t : List ℕ) → OkPairs ps lo d → drop p s ≡ encode_pairs ps ++ t
    → pairs_at s f (count_pairs ps) lo p ≡ got ps (p + length (encode_pairs ps))
unfolding pairs_at key_at Complete encode count_pairs Ok
pairs-complete s d f hf Pairs.empty lo p t ok e = ap (got Pairs.empty) (omega arith)
pairs-complete s d f hf (Pairs.pair k i ps) lo p t ok e =
    let h = first s (encode i ++ encode_pairs ps) t p 0 k refl ok.1 e in
    let q : ℕ = p + length (head_bytes 0 k) in
    let e1 : drop q s ≡ encode i ++ (encode_pairs ps ++ t) = behind s (encode i ++ encode_pairs ps) t p 0 k refl ok.1 e ∙ append_assoc (encode i) (encode_pairs ps) t in
    let x = hf i q (encode_pairs ps ++ t) ok.2 e1 in
    let y = pairs-complete s d f hf ps (k + 1) (q + length (encode i)) t ok.3 (past (encode i) (encode_pairs ps ++ t) s q e1) in
    rw (h, le-leb lo k ok.0, x, y) (ap (got (Pairs.pair k i ps)) (omega (arith, length-append (head_bytes 0 k) (encode i ++ encode_pairs ps), length-append (encode i) (encode_pairs ps))))

-- an item by its head, given that its items and pairs are complete
module _ (s : List ℕ) (D : ℕ) (is : ℕ → ℕ → Got Items) (ps : ℕ → ℕ → Got Pairs)
    (his : (xs : Items) (p : ℕ) (t : List ℕ) → Ok (Item.array xs) D → drop p s ≡ encode_items xs ++ t → is (count xs) p ≡ got xs (p + length (encode_items xs)))
    (hps : (xs : Pairs) (p : ℕ) (t : List ℕ) → Ok (Item.map xs) D → drop p s ≡ encode_pairs xs ++ t → ps (count_pairs xs) p ≡ got xs (p + length (encode_pairs xs)))
    (nis : (xs : Items) → Ok (Item.array xs) D → count xs < 2 ^ 64)
    (nps : (xs : Pairs) → Ok (Item.map xs) D → count_pairs xs < 2 ^ 64)
  where
    from-complete : (i : Item) (p : ℕ) (t : List ℕ) → Ok i D → drop p s ≡ encode i ++ t → from_head s is ps (head_at s p) ≡ got i (p + length (encode i))
    unfolding from_head encode Ok
    from-complete (Item.uint v) p t ok e = rw (alone s t p 0 v refl ok e)
    from-complete (Item.nint v) p t ok e = rw (alone s t p 1 v refl ok e)
    from-complete (Item.bytes b) p t ok e =
        let q : ℕ = p + length (head_bytes 2 (length b)) in
        let r = behind s b t p 2 (length b) refl ok.0 e in
        rw (first s b t p 2 (length b) refl ok.0 e, le-leb (length b) (length s - q) (room b t s q r), r, take-append_seam b t)
        (ap (got (Item.bytes b)) (whole (head_bytes 2 (length b)) b p))
    from-complete (Item.text b) p t ok e =
        let q : ℕ = p + length (head_bytes 3 (length b)) in
        let r = behind s b t p 3 (length b) refl ok.0 e in
        rw (first s b t p 3 (length b) refl ok.0 e, le-leb (length b) (length s - q) (room b t s q r), r, take-append_seam b t)
        (ap (got (Item.text b)) (whole (head_bytes 3 (length b)) b p))
    from-complete (Item.array xs) p t ok e =
        let q : ℕ = p + length (head_bytes 4 (count xs)) in
        rw (first s (encode_items xs) t p 4 (count xs) refl (nis xs ok) e, his xs q t ok (behind s (encode_items xs) t p 4 (count xs) refl (nis xs ok) e))
        (ap (got (Item.array xs)) (whole (head_bytes 4 (count xs)) (encode_items xs) p))
    from-complete (Item.map xs) p t ok e =
        let q : ℕ = p + length (head_bytes 5 (count_pairs xs)) in
        rw (first s (encode_pairs xs) t p 5 (count_pairs xs) refl (nps xs ok) e, hps xs q t ok (behind s (encode_pairs xs) t p 5 (count_pairs xs) refl (nps xs ok) e))
        (ap (got (Item.map xs)) (whole (head_bytes 5 (count_pairs xs)) (encode_pairs xs) p))
    from-complete (Item.simple v) p t ok e = let small : v < 2 ^ 64 = omega (arith, ok.1) in rw (alone s t p 7 v (simp (le-leb 20 v ok.0, le-leb v 22 ok.1)) small e)

complete : (s : List ℕ) (d : ℕ) → Complete s d (item_at s d)
unfolding Complete item_at Ok
complete s zero = from-complete s zero (λ n q. bad) (λ n q. bad) (λ xs p t no e. absurd no) (λ xs p t no e. absurd no) (λ xs no. absurd no) (λ xs no. absurd no)
complete s (suc d) =
    from-complete s (suc d) (items_at (item_at s d)) (λ n q. pairs_at s (item_at s d) n 0 q)
    (λ xs p t ok e. items_complete s d (item_at s d) (complete s d) xs p t ok.1 e)
    (λ xs p t ok e. pairs-complete s d (item_at s d) (complete s d) xs 0 p t ok.1 e)
    (λ xs ok. ok.0)
    (λ xs ok. ok.0)

pub item_reads_back : ItemReadsBack
unfolding Complete
item_reads_back s t d p i ok e = complete s d i p t ok e
