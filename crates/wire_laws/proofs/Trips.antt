-- Frames: the prefix, the payload behind it, and what a buffer holds once a frame is written. Assumes nothing.
use Prim.Native.Nat.{ℕ, suc, ◌+◌, ◌-◌, ◌^◌, ◌≤◌, ◌<◌}
use mathlib.Core.Path.{◌≡◌, refl, sym, ap, subst, ◌∙◌}
use mathlib.Core.Bool.{Bool, true, false, cond, not, ◌&&◌}
use mathlib.Core.List.{List, [], ◌∷◌, ◌++◌, append-nil}
use mathlib.Core.Option.{some}
use native.Mathlib.Omega.{arith}
use lib.ListN.{length, drop, length-drop, length-append}
use lib.Seq.{drop_at, take_at, sets-eq, get_or-drop}
use lib.Dec.{leb, eqb}
use borrow.Author.Tests.{leb-true, eqb-true, le-leb, eq-eqb}
use Rattle.wire_bytes.specs.Bytes.{number_at, bytes_of, Bytes, put}
use Rattle.wire_cbor.specs.Item.{Item, Pairs, payload_of, encode, Ok, OkPairs, levels}
use Rattle.wire_bytes.proofs.NumberLaws.{bytes-length, number_of, number-there}
use Rattle.wire_cbor.specs.Find.{value_of}
use Rattle.wire_cbor.proofs.Payload.{payload_exact}
use Rattle.wire_cbor.proofs.Complete.{item_reads_back}
use Rattle.refusals.specs.Refusals.{first_of}
use Rattle.wire_prefix.specs.Prefix.{frame_of, framed, payload_in, most_payload}
use Rattle.wire_output.specs.Writing.{writing_number, left_by, item_frame}
use Rattle.wire_laws.specs.RoundTrips.{FramedExact, FrameStands}
use Rattle.wire_fields.proofs.Joined.{no_both, and_left, and_right}
use Rattle.wire_laws.proofs.FieldsAgain.{no_value}

-- THE PREFIX
module _ (p : List ℕ) where
  behind : payload_in (frame_of p) ≡ p
  unfolding frame_of
  behind = drop_at (bytes_of 4 (length p)) p 4 (bytes-length 4 (length p))

  frame-long : length (frame_of p) ≡ 4 + length p
  unfolding frame_of
  frame-long = length-append (bytes_of 4 (length p)) p ∙ ap (λ (n : ℕ). n + length p) (bytes-length 4 (length p))

  says-length : length p < 256 ^ 4 → number_at (frame_of p) 0 4 ≡ length p
  unfolding frame_of
  says-length h = number_of 4 (bytes_of 4 (length p) ++ p) p 0 (length p) h refl

  pub framed_of : 1 ≤ length p → length p ≤ most_payload → framed (frame_of p) ≡ true
  unfolding framed
  framed_of h g =
      let l = frame-long in
      rw (le-leb 5 (length (frame_of p)) (omega arith), le-leb (length (frame_of p) - 4) 2048 (omega arith), says-length (omega arith), eq-eqb (length p) (length (frame_of p) - 4) (omega arith))

pub framed-parts : (frame : List ℕ) → framed frame ≡ true → (5 ≤ length frame) × (length frame - 4 ≤ most_payload) × (number_at frame 0 4 ≡ length frame - 4)
unfolding framed
framed-parts frame e = (
  leb-true 5 (length frame) (and_left _ _ (and_left _ _ e)),
  leb-true (length frame - 4) 2048 (and_right (leb 5 (length frame)) _ (and_left _ _ e)),
  eqb-true _ _ (and_right (leb 5 (length frame) && leb (length frame - 4) 2048) _ e),
)

module _ (frame : List ℕ) (ok : Bytes frame) where
  pub frame_of-payload : framed frame ≡ true → frame_of (payload_in frame) ≡ frame
  unfolding frame_of
  frame_of-payload e =
      let x = framed-parts frame e in
      let n : length (payload_in frame) ≡ number_at frame 0 4 = length-drop 4 frame ∙ sym x.2 in
      rw n (sym (number-there frame ok 4 0 (omega (arith, x.0))))

pub framed-exact : FramedExact
framed-exact frame ok = (
  (λ e.
      let x = framed-parts frame e in
      (frame_of-payload frame ok e, omega (arith, x.0, length-drop 4 frame), omega (arith, x.1, length-drop 4 frame))),
  (λ h. subst (λ (l : List ℕ). framed l ≡ true) h.0 (framed_of (payload_in frame) h.1 h.2)),
)

-- A WRITTEN ITEM
module _ (i : Item) (ok : Ok i levels) where
  pub payload_back : payload_of (encode i) ≡ some i
  unfolding payload_of
  payload_back = rw (item_reads_back (encode i) [] levels 0 i ok (sym (append-nil (encode i))), eq-eqb (0 + length (encode i)) (length (encode i)) (omega arith))

  pub frame-payload : payload_of (payload_in (item_frame i)) ≡ some i
  unfolding item_frame
  frame-payload = ap payload_of (behind (encode i)) ∙ payload_back

pub frame-framed : (i : Item) → 1 ≤ length (encode i) → length (encode i) ≤ most_payload → framed (item_frame i) ≡ true
unfolding item_frame
frame-framed i h g = framed_of (encode i) h g

-- A BUFFER
fits-room : (n : ℕ) (frame : List ℕ) (room : ℕ) → writing_number n frame room ≡ 0 → length frame ≤ room
unfolding writing_number first_of
fits-room n frame room e = go (eqb n 0) refl e
  where
    go : (b : Bool) → eqb n 0 ≡ b → ◌≡◌ {A = ℕ} (cond b (first_of ((not (leb (length frame) room), 15) ∷ [])) n) 0 → length frame ≤ room
    go true x e = roomy (leb (length frame) room) refl e
      where
        roomy : (b : Bool) → leb (length frame) room ≡ b → ◌≡◌ {A = ℕ} (cond (not b) 15 0) 0 → length frame ≤ room
        roomy true y e = leb-true (length frame) room y
        roomy false y e = absurd (omega arith)
    go false x e = absurd (no_both (sym (eq-eqb n 0 e) ∙ x))

pub frame-stands : FrameStands
unfolding left_by put
frame-stands n frame out e =
    let h = fits-room n frame (length out) e in
    let z : 0 + length frame ≡ length frame = omega arith in
    rw (eq-eqb (writing_number n frame (length out)) 0 e, sets-eq frame out 0 (omega arith))
    (take_at frame (drop (0 + length frame) out) (length frame) refl, drop_at frame (drop (0 + length frame) out) (length frame) refl ∙ ap (λ (k : ℕ). drop k out) z)

-- A FRAME THAT WAS READ
rest_bytes : (s : List ℕ) → Bytes s → Bytes (payload_in s)
unfolding Bytes
rest_bytes s h k = rw (get_or-drop 4 s k 0) (h (4 + k))

module _ (frame : List ℕ) (ok : Bytes frame) (i : Item) (it : payload_of (payload_in frame) ≡ some i) where
  pub item_in : Ok i levels × (encode i ≡ payload_in frame)
  item_in = (payload_exact (payload_in frame) (rest_bytes frame ok) i).0 it

  pub frame-again : framed frame ≡ true → item_frame i ≡ frame
  unfolding item_frame
  frame-again f = ap frame_of item_in.1 ∙ frame_of-payload frame ok f

-- a value of well-formed pairs is well formed
pub value_ok : (ps : Pairs) (lo d k : ℕ) (i : Item) → OkPairs ps lo d → value_of ps k ≡ some i → Ok i d
unfolding OkPairs value_of
value_ok Pairs.empty lo d k i o e = absurd (no_value e)
value_ok (Pairs.pair j x ps) lo d k i o e = go (eqb j k) e (λ f. value_ok ps (j + 1) d k i o.3 f)
  where
    go : (b : Bool) → cond b (some x) (value_of ps k) ≡ some i → (value_of ps k ≡ some i → Ok i d) → Ok i d
    go true f rest = subst (λ (y : Item). Ok y d) (same f) o.2
      where
        same : some x ≡ some i → x ≡ i
        same f = cc
    go false f rest = rest f

pub map-ok : (ps : Pairs) (d : ℕ) → Ok (Item.map ps) (suc d) → OkPairs ps 0 d
unfolding Ok
map-ok ps d h = h.1
