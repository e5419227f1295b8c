-- The pieces of an answer, one behind the other. Assumes nothing.
use Prim.Native.Nat.{ℕ}
use mathlib.Core.Path.{◌≡◌, refl, sym, ◌∙◌}
use mathlib.Core.Bool.{Bool, true, false}
use Rattle.std.specs.Prelude.{Option, Some, None}
use mathlib.Core.List.{List, [], ◌∷◌, ◌++◌}
use lib.ListN.{length, take}
use lib.Seq.{take-length}
use borrow.Author.Tests.{ne_eqb}
use Rattle.wire_bytes.specs.Bytes.{put_whole, past_whole}
use Rattle.wire_output.specs.Writing.{written_of, left_by}
use Rattle.wire_output.specs.declared.Written.{Written}
use Rattle.text.specs.Text.{decimal}
use Rattle.text.specs.Pieces.{put_all, past_all}
use Rattle.text.proofs.Pieces.{all_to_do, one_done, two-done, run-done, all_done}
use Rattle.console_words.specs.Answers.{hex_or_none, bad_line}
use Rattle.console_words.specs.Hex.{hex_read, hex_after}
use Rattle.measurement_table.specs.Words.{cell_of, held_at, held_from, held, range_number}
use Rattle.measurement_table.specs.Rows.{rows}
use Rattle.measurement_table.specs.Payload.{read_number, read_after}
use Rattle.measurement.specs.Flow.{flow_of, cell_for, ac_active_power, dc_power}
use Rattle.measurement.specs.declared.flow.Flow.{Flow}
use Rattle.console_other_lines.specs.Meas.{is_there, flow_pieces, flow_in, phase_in, some_flow, all_flows, flows_pieces, room, payload_in, again_text, unread, payload_pieces, RefusedShows, meas_pieces}

-- one piece, and pieces, written
abbrev pub One : List ℕ → ℕ → List ℕ → ℕ → List ℕ → Type 0
One s p x q t = (q ≡ past_whole s p x) × (t ≡ put_whole s p x)

abbrev pub All : List ℕ → ℕ → List (List ℕ) → ℕ → List ℕ → Type 0
All s p xs q t = (q ≡ past_all s p xs) × (t ≡ put_all s p xs)

pub named : (s : List ℕ) (p : ℕ) (name way t t' : List ℕ) (q q' : ℕ)
    → One s p (take (length name) name) q t → One t q (take (length way) way) q' t' → All s p (name ∷ way ∷ []) q' t'
named s p name way t t' q q' a b =
    let w = two-done _ _ _ _ _ _ _ _ _ _ _ _ (all_to_do s p (name ∷ way ∷ [])) (rw (take-length name) at a) (rw (take-length way) at b) in
    all_done _ _ _ _ _ _ w refl

module _ (s : List ℕ) (p : ℕ) (a b c d e : List (List ℕ)) where
  pub five : (q q₂ q₃ q₄ q₅ : ℕ) (t t₂ t₃ t₄ t₅ : List ℕ) → All s p a q t → All t q b q₂ t₂ → All t₂ q₂ c q₃ t₃ → All t₃ q₃ d q₄ t₄ → All t₄ q₄ e q₅ t₅
      → All s p (a ++ (b ++ (c ++ (d ++ (e ++ []))))) q₅ t₅
  five q q₂ q₃ q₄ q₅ t t₂ t₃ t₄ t₅ h h₂ h₃ h₄ h₅ =
      let w = run-done _ _ _ _ _ a (b ++ (c ++ (d ++ (e ++ [])))) _ _ (all_to_do s p (a ++ (b ++ (c ++ (d ++ (e ++ [])))))) h in
      let w₂ = run-done _ _ _ _ _ b (c ++ (d ++ (e ++ []))) _ _ w h₂ in
      let w₃ = run-done _ _ _ _ _ c (d ++ (e ++ [])) _ _ w₂ h₃ in
      let w₄ = run-done _ _ _ _ _ d (e ++ []) _ _ w₃ h₄ in
      all_done _ _ _ _ _ _ (run-done _ _ _ _ _ e [] _ _ w₄ h₅) refl

pub alone : (s : List ℕ) (p : ℕ) (x t : List ℕ) (q : ℕ) → One s p x q t → All s p (x ∷ []) q t
alone s p x t q h = all_done _ _ _ _ _ _ (one_done _ _ _ _ _ _ _ _ _ (all_to_do s p (x ∷ [])) h) refl

-- flows, where one is there and where none is
module _ (ws out : List ℕ) (at : ℕ) (b : Bool) (e : b ≡ some_flow ws) where
  pub flows_some : b ≡ true → (f f₂ f₃ f₄ f₅ : Flow) (q q₂ q₃ q₄ q₅ : ℕ) (t t₂ t₃ t₄ t₅ : List ℕ)
      → f ≡ flow_in ws ac_active_power 0 → f₂ ≡ flow_in ws dc_power 0 → f₃ ≡ phase_in ws 0 → f₄ ≡ phase_in ws 1 → f₅ ≡ phase_in ws 2
      → All out at (flow_pieces (32 ∷ 49 ∷ []) f) q t → All t q (flow_pieces (32 ∷ 52 ∷ 48 ∷ []) f₂) q₂ t₂ → All t₂ q₂ (flow_pieces (32 ∷ 49 ∷ 48 ∷ 46 ∷ 48 ∷ []) f₃) q₃ t₃
      → All t₃ q₃ (flow_pieces (32 ∷ 49 ∷ 48 ∷ 46 ∷ 49 ∷ []) f₄) q₄ t₄ → All t₄ q₄ (flow_pieces (32 ∷ 49 ∷ 48 ∷ 46 ∷ 50 ∷ []) f₅) q₅ t₅ → All out at (flows_pieces ws) q₅ t₅
  unfolding flows_pieces all_flows
  flows_some y f f₂ f₃ f₄ f₅ q q₂ q₃ q₄ q₅ t t₂ t₃ t₄ t₅ g g₂ g₃ g₄ g₅ h h₂ h₃ h₄ h₅ =
      rw (sym e ∙ y) (five _ _ _ _ _ _ _ _ _ _ _ _ _ _ _ _ _ (rw g at h) (rw g₂ at h₂) (rw g₃ at h₃) (rw g₄ at h₄) (rw g₅ at h₅))

  pub flows_none : b ≡ false → (q : ℕ) (t : List ℕ) → One out at (32 ∷ 45 ∷ []) q t → All out at (flows_pieces ws) q t
  unfolding flows_pieces
  flows_none y q t h = rw (sym e ∙ y) (alone out at (32 ∷ 45 ∷ []) t q h)

-- the payload again
pub again-written : (n : ℕ) (ws x : List ℕ) (w : Written) → n ≡ 0 → w ≡ written_of (range_number ws) (payload_in ws) (length room) → x ≡ left_by (range_number ws) (payload_in ws) room
    → again_text n ws ≡ hex_or_none x w.length
unfolding again_text
again-written n ws x w z e f = rw (z, e, f) refl

pub again-refused : (n : ℕ) (ws : List ℕ) → (n ≡ 0 → ⊥) → again_text n ws ≡ 45 ∷ []
unfolding again_text
again-refused n ws h = rw (ne_eqb n 0 h) refl

-- the whole answer for a payload
module _ (s out : List ℕ) (at n : ℕ) (ws : List ℕ) (number : n ≡ read_number s) (words : ws ≡ read_after s unread) where
  pub answered : (q q₂ q₃ q₄ q₅ : ℕ) (t t₂ t₃ t₄ t₅ : List ℕ)
      → One out at (decimal n) q t → One t q (32 ∷ []) q₂ t₂ → One t₂ q₂ (again_text n ws) q₃ t₃ → All t₃ q₃ (flows_pieces ws) q₄ t₄ → One t₄ q₄ (10 ∷ []) q₅ t₅
      → All out at (payload_pieces s) q₅ t₅
  unfolding payload_pieces
  answered q q₂ q₃ q₄ q₅ t t₂ t₃ t₄ t₅ h h₂ h₃ h₄ h₅ =
      let w = two-done _ _ _ _ _ _ _ _ _ _ _ _ (all_to_do out at (payload_pieces s)) (rw number at h) h₂ in
      let w₃ = one_done _ _ _ _ _ _ _ _ _ w (rw (number, words) at h₃) in
      let w₄ = run-done _ _ _ _ _ _ _ _ _ w₃ (rw words at h₄) in
      all_done _ _ _ _ _ _ (one_done _ _ _ _ _ _ _ _ _ w₄ h₅) refl

-- nothing is measured in words of zeros
unread-flows : flows_pieces unread ≡ (32 ∷ 45 ∷ []) ∷ []
unfolding flows_pieces some_flow is_there flow_of cell_for rows held held_from held_at cell_of
unread-flows = refl

pub refused-shows : RefusedShows
unfolding payload_pieces read_after
refused-shows s h =
    rw (ne_eqb (read_number s) 0 h, again-refused (read_number s) unread h, unread-flows) refl

-- the line, by what was read of its word
-- what a line answers and leaves
abbrev Line : List ℕ → List ℕ → List ℕ → List ℕ → ℕ → ℕ → List ℕ → Type 0
Line w bytes x out at q t = (q ≡ past_all out at (meas_pieces w bytes)) × ((t ≡ put_all out at (meas_pieces w bytes)) × (x ≡ hex_after w bytes))

module _ (w bytes x : List ℕ) (r : Option ℕ) (e : r ≡ hex_read w (length bytes)) (f : x ≡ hex_after w bytes) (out t : List ℕ) (at q : ℕ) where
  with_bytes : All out at (meas_pieces w bytes) q t → Line w bytes x out at q t
  with_bytes a = (a.0, (a.1, f))

  pub line-bad : r ≡ None → One out at bad_line q t → Line w bytes x out at q t
  unfolding meas_pieces
  line-bad b h = with_bytes (rw (← e, b) (alone out at bad_line t q h))

  pub line-good : (n : ℕ) → r ≡ Some n → All out at (payload_pieces (take n x)) q t → Line w bytes x out at q t
  unfolding meas_pieces
  line-good n b i = with_bytes (rw (← e, b) (rw f at i))
