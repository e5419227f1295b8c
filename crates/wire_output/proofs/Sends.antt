-- A writer's answer, and a payload at the front of a lent buffer, alone or behind its length. Assumes nothing.
use Prim.Native.Nat.{ℕ, ◌+◌, ◌≤◌, ◌<◌}
use mathlib.Core.Path.{◌≡◌, refl, sym, ap, subst, ◌∙◌}
use mathlib.Core.Bool.{Bool, true, false}
use mathlib.Core.List.{List}
use native.Mathlib.Omega.{arith}
use lib.Dec.{leb}
use lib.ListN.{length, take, length-append}
use lib.Seq.{take-length, length-take-le}
use borrow.Author.Tests.{le-leb, lt-leb, ne_eqb, leb-true, leb-false}
use Rattle.wire_bytes.specs.Bytes.{bytes_of, put, put_whole}
use Rattle.wire_bytes.proofs.NumberLaws.{bytes-length}
use Rattle.wire_bytes.proofs.PutLaws.{put_whole_lem, put-put, length-put}
use Rattle.wire_cbor.specs.Item.{Item, encode}
use Rattle.wire_fields.specs.Puts.{Puts}
use Rattle.wire_fields.proofs.Added.{puts_fit}
use Rattle.refusals.specs.Refusals.{first_of}
use Rattle.wire_prefix.specs.Prefix.{frame_of}
use Rattle.wire_output.specs.Writing.{item_frame, writing_number, refused_with, written_of, left_by}
use Rattle.wire_output.specs.declared.Written.{Written}

-- what a writer answers and leaves, as its contract says it
abbrev pub Writes : ℕ → List ℕ → List ℕ → Written → List ℕ → Type 0
Writes n bytes out w left = (w ≡ written_of n bytes (length out)) × (left ≡ left_by n bytes out)

module _ (bytes out : List ℕ) where
  pub writes_refused : (n : ℕ) → (n ≡ 0 → ⊥) → (w : Written) → w ≡ refused_with n → Writes n bytes out w out
  unfolding written_of left_by writing_number
  writes_refused n z w e = rw (ne_eqb n 0 z, ne_eqb n 0 z) (e, refl)

  writes_long : length out < length bytes → (w : Written) → w ≡ refused_with 15 → Writes 0 bytes out w out
  unfolding written_of left_by writing_number first_of
  writes_long h w e = rw (lt-leb (length bytes) (length out) h) (e, refl)

  writes_whole : length bytes ≤ length out → (w : Written) → w ≡ record { number = 0; length = length bytes } → (left : List ℕ) → left ≡ put out 0 bytes → Writes 0 bytes out w left
  unfolding written_of left_by writing_number first_of
  writes_whole h w e left f = rw (le-leb (length bytes) (length out) h) (e, f)

module _ (pl out : List ℕ) (b : Bool) (w : Written) where
  pub deliver_refused : b ≡ leb (0 + length pl) (length out) → b ≡ false → w ≡ refused_with 15 → Writes 0 pl out w out
  deliver_refused r z x = writes_long pl out (omega (arith, leb-false (0 + length pl) (length out) (sym r ∙ z))) w x

  pub deliver_whole : b ≡ leb (0 + length pl) (length out) → b ≡ true → (left : List ℕ) → left ≡ put_whole out 0 (take (length pl) pl)
      → w ≡ record { number = 0; length = length pl } → Writes 0 pl out w left
  deliver_whole r z left f x =
      let h = leb-true (0 + length pl) (length out) (sym r ∙ z) in
      writes_whole pl out (omega arith) w x left (f ∙ ap (put_whole out 0) (take-length pl) ∙ (put_whole_lem out pl 0 h).0)

  frame-length : length (frame_of pl) ≡ 4 + length pl
  unfolding frame_of
  frame-length = length-append (bytes_of 4 (length pl)) pl ∙ rw (bytes-length 4 (length pl)) refl

  pub send_refused : b ≡ leb (4 + length pl) (length out) → b ≡ false → w ≡ refused_with 15 → Writes 0 (frame_of pl) out w out
  send_refused r z x = writes_long (frame_of pl) out (omega (arith, leb-false (4 + length pl) (length out) (sym r ∙ z), frame-length)) w x

  pub send_whole : b ≡ leb (4 + length pl) (length out) → b ≡ true → (t left : List ℕ) → t ≡ put_whole out 0 (bytes_of 4 (length pl)) → left ≡ put_whole t 4 (take (length pl) pl)
      → w ≡ record { number = 0; length = 4 + length pl } → Writes 0 (frame_of pl) out w left
  unfolding frame_of
  send_whole r z t left e f x =
      let h = leb-true (4 + length pl) (length out) (sym r ∙ z) in
      let l = bytes-length 4 (length pl) in
      let head = bytes_of 4 (length pl) in
      let p = put_whole_lem out head 0 (omega arith) in
      let k = length-put out head 0 in
      writes_whole (frame_of pl) out (omega (arith, frame-length)) w (x ∙ ap (λ (q : ℕ). record { number = 0; length = q }) (sym frame-length)) left
      (f ∙ ap (λ (q : List ℕ). put_whole q 4 (take (length pl) pl)) (e ∙ p.0) ∙ ap (put_whole (put out 0 head) 4) (take-length pl)
      ∙ (put_whole_lem (put out 0 head) pl 4 (omega arith)).0 ∙ ap (λ (q : ℕ). put (put out 0 head) q pl) (omega arith) ∙ put-put out head pl 0)

pub no_refusal : (m n : ℕ) (bytes out left : List ℕ) (w : Written) → m ≡ n → m ≡ 0 → Writes 0 bytes out w left → Writes n bytes out w left
no_refusal m n bytes out left w e z h = subst (λ (k : ℕ). Writes k bytes out w left) (sym z ∙ e) h

pub a_refusal : (m n : ℕ) (bytes out : List ℕ) (w : Written) → m ≡ n → (m ≡ 0 → ⊥) → w ≡ refused_with m → Writes n bytes out w out
a_refusal m n bytes out w e z h = writes_refused bytes out n (λ q. z (e ∙ q)) w (h ∙ ap refused_with e)

-- A PAYLOAD THAT WAS WRITTEN FROM THE FRONT OF A LOCAL BUFFER with room for it
module _ {buf local bytes : List ℕ} {room n : ℕ} (h : room ≤ length buf) (p : Puts buf 0 bytes room local n) where
  pub sent_within : n ≤ length local
  sent_within = let a = puts_fit h p in omega (arith, a.moved, a.short, a.kept)

  pub sent_length : n ≡ length (take n local)
  sent_length = sym (length-take-le n local sent_within)

pub send_item : (i : Item) (out : List ℕ) {room n : ℕ} {buf local left : List ℕ} {w : Written} → room ≤ length buf → Puts buf 0 (encode i) room local n
    → Writes 0 (frame_of (take n local)) out w left → Writes 0 (item_frame i) out w left
unfolding item_frame
send_item i out h p x = rw (← (puts_fit h p).grows) x
