-- The law of cuttings of the receiver, with the frame call as what a frame is applied by. Assumes nothing.
use Prim.Native.Nat.{ℕ}
use mathlib.Core.Path.{◌≡◌, sym, ap, ◌∙◌}
use Rattle.receiver_laws.specs.Stream.{Cut, cut}
use Rattle.receiver_laws.specs.Driver.{Driven, applied, joined, record_of}
use Rattle.receiver_laws.specs.Laws.{LedTo}
use Rattle.receiver_laws.proofs.Cuttings.{every_cutting}
use Rattle.kernel_laws.specs.Receiving.{Kept, Came, With, apply_frame, KernelEveryCutting, Alike, CuttingsAlike}

pub kernel_every_cutting : KernelEveryCutting
kernel_every_cutting goes k room scraps l = every_cutting Kept Came (apply_frame goes) k room scraps l

-- what one stream leads to is one thing
alike : (goes : ℕ → With) (k : Kept) (c c' : Cut) (d e : Driven Kept Came) → c ≡ c' → LedTo (apply_frame goes) k c d → LedTo (apply_frame goes) k c' e
    → Alike d e
alike goes k c c' d e same x y = record {
  state_is = x.state_is ∙ ap (λ (z : Cut). (applied (apply_frame goes) k z.frames).state) same ∙ sym y.state_is;
  outputs_are = x.outputs_are ∙ ap (λ (z : Cut). (applied (apply_frame goes) k z.frames).outputs) same ∙ sym y.outputs_are;
  after_is = x.after_is ∙ ap record_of same ∙ sym y.after_is;
  left_is = x.left_is ∙ ap (λ (z : Cut). z.left) same ∙ sym y.left_is;
}

pub cuttings_alike : CuttingsAlike
cuttings_alike goes k room room' scraps scraps' l l' same =
    alike goes k (cut (joined scraps)) (cut (joined scraps')) _ _ (ap cut same) (kernel_every_cutting goes k room scraps l)
    (kernel_every_cutting goes k room' scraps' l')
