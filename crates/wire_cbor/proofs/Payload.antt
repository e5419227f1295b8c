-- Items against their encodings: exactly these are read, and no two share one. Assumes nothing.
use Prim.Native.Nat.{ℕ, ◌+◌}
use mathlib.Core.Path.{◌≡◌, refl, sym, ap, ◌∙◌}
use mathlib.Core.Bool.{Bool, true, false, cond}
use mathlib.Core.Option.{some, none}
use mathlib.Core.List.{List, [], ◌++◌, append-nil}
use native.Mathlib.Omega.{arith}
use lib.ListN.{length, drop}
use lib.Seq.{drop-length}
use lib.Dec.{eqb}
use borrow.Author.Tests.{eqb-true, eq-eqb}
use Rattle.wire_heads.specs.Head.{head_bytes}
use Rattle.wire_cbor.specs.Item.{Item, Got, got, bad, item_at, encode, Ok, levels, ends_at, payload_of}
use Rattle.wire_cbor.specs.Encodings.{ItemExact, PayloadExact, NoneBeginsAnother, OneItem, HeadWritten, ItemWritten}
use Rattle.wire_heads.proofs.Widths.{head-length}
use Rattle.wire_bytes.proofs.PutLaws.{put-stands}
use Rattle.wire_heads.proofs.HeadLaws.{head-reads_back}
use Rattle.wire_cbor.proofs.Sound.{Sound, item_sound}
use Rattle.wire_cbor.proofs.Complete.{item_reads_back}

pub item_exact : ItemExact
unfolding Sound
item_exact s ok d p e i = (
  (λ h. let x = item_sound s ok d p e i h in (x.1, x.0)),
  (λ x. item_reads_back s (drop e s) d p i x.0 x.1.bytes ∙ ap (got i) (sym x.1.len)),
)

ends-at : (n : ℕ) (g : Got Item) (i : Item) → ends_at n g ≡ some i → g ≡ got i n
ends-at n (got j e) i = go (eqb e n) refl
  where
    go : (b : Bool) → eqb e n ≡ b → cond b (some j) none ≡ some i → got j e ≡ got i n
    go true hb h = let x : j ≡ i = cc in let y = eqb-true e n hb in cc
    go false hb h = absurd (let z : ◌≡◌ {A = ℕ} 0 1 = cc in omega arith)
ends-at n bad i = λ h. absurd (let z : ◌≡◌ {A = ℕ} 0 1 = cc in omega arith)

pub payload_exact : PayloadExact
unfolding payload_of
payload_exact s ok i = (
  (λ h.
      let x = (item_exact s ok levels 0 (length s) i).0 (ends-at (length s) (item_at s levels 0) i h) in
      (x.0, sym (x.1.bytes ∙ ap (λ (l : List ℕ). encode i ++ l) (drop-length s) ∙ append-nil (encode i)))),
  (λ x.
      let r = item_reads_back s [] levels 0 i x.0 (sym (append-nil (encode i) ∙ x.1)) in
      rw (r, eq-eqb (0 + length (encode i)) (length s) (omega (arith, ap length x.1)))),
)

-- the same for an item at the front
pub item_front : (t : List ℕ) (d : ℕ) (i : Item) → Ok i d → item_at (encode i ++ t) d 0 ≡ got i (length (encode i))
item_front t d i ok = item_reads_back (encode i ++ t) t d 0 i ok refl ∙ ap (got i) (omega arith)

pub none-begins_another : NoneBeginsAnother
none-begins_another d i j t u oi oj e =
    let a = item_reads_back (encode i ++ t) t d 0 i oi refl in
    let b = item_reads_back (encode i ++ t) u d 0 j oj e in
    cc

pub one_item : OneItem
one_item d i j oi oj e = none-begins_another d i j [] [] oi oj (ap (λ (l : List ℕ). l ++ []) e)

pub head-written : HeadWritten
head-written s p m v ok small h =
    let x = put-stands s (head_bytes m v) p (omega (arith, head-length m v)) in
    head-reads_back _ _ p m v ok small x.bytes

pub item_written : ItemWritten
item_written s d p i ok h = item_reads_back _ _ d p i ok (put-stands s (encode i) p h).bytes
