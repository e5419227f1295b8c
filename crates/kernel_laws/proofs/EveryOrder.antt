-- Any number of frames, no two of one zone: every order is neighbours that change places, and two that do end alike.
use Prim.Native.Nat.{ℕ}
use mathlib.Core.Logic.{◌≢◌}
use mathlib.Core.Path.{◌≡◌, refl, sym, ap, ◌∙◌}
use mathlib.Core.List.{List, [], ◌∷◌, map}
use lib.ListN.{length}
use Rattle.device_store.specs.Sizes.{words}
use Rattle.device_calls.specs.Calls.{ask_answer}
use Rattle.plan.specs.Plan.{rows_from}
use Rattle.kernel_laws.specs.Sent.{Sent, sent_number, behind, end_of, numbers_of, Reordered, none, below, swapped, through, Roomy, Every, each, Different, beside}
use Rattle.kernel_laws.specs.SameSecond.{EveryOrder}
use Rattle.kernel_laws.proofs.EitherWay.{behind-length, number-left, any-two}

-- what is so of every frame is so in every order
every_again : {p : Sent → Type 0} {fs gs : List Sent} → Reordered fs gs → Every p fs → Every p gs
every_again none e = e
every_again (below f r) (each h e) = each h (every_again r e)
every_again (swapped f g fs) (each h (each k e)) = each k (each h e)
every_again (through r q) e = every_again q (every_again r e)

different_again : {fs gs : List Sent} → Reordered fs gs → Different fs → Different gs
different_again none d = d
different_again (below f r) (beside e d) = beside (every_again r e) (different_again r d)
different_again (swapped f g fs) (beside (each a e) (beside k d)) = beside (each (λ q. a (sym q)) k) (beside e d)
different_again (through r q) d = different_again q (different_again r d)

-- the device at the end
end-again : (ws : List ℕ) (t : ℕ) {fs gs : List Sent} → length ws ≡ words → Different fs → Every Roomy fs → Reordered fs gs → end_of ws t fs ≡ end_of ws t gs
unfolding end_of
end-again ws t size d e none = refl
end-again ws t size (beside a d) (each h e) (below f r) = end-again (behind ws t f) t (behind-length ws t f h ∙ size) d e r
end-again ws t size (beside (each a b) d) (each h (each k e)) (swapped f g fs) =
    ap (λ (l : List ℕ). end_of l t fs) (any-two ws t f g size a h k).states
end-again ws t size d e (through r q) = end-again ws t size d e r ∙ end-again ws t size (different_again r d) (every_again r e) q

-- the numbers: a frame before them leaves those of the others as they would be without it
numbers_left : (ws : List ℕ) (t : ℕ) (f : Sent) (fs : List Sent) → length ws ≡ words → Roomy f → Every (λ g. f.zone ≢ g.zone) fs → Every Roomy fs
    → map (sent_number (behind ws t f) t) fs ≡ map (sent_number ws t) fs
numbers_left ws t f [] size h a e = refl
numbers_left ws t f (g ∷ gs) size h (each a b) (each k e) =
    let n = number-left ws t g f size (λ q. a (sym q)) k h in
    let m = numbers_left ws t f gs size h b e in
    λ i. n i ∷ m i

pub numbers_alone : (ws : List ℕ) (t : ℕ) (fs : List Sent) → length ws ≡ words → Different fs → Every Roomy fs → numbers_of ws t fs ≡ map (sent_number ws t) fs
unfolding numbers_of
numbers_alone ws t [] size d e = refl
numbers_alone ws t (f ∷ fs) size (beside a d) (each h e) =
    ap (λ (ns : List ℕ). sent_number ws t f ∷ ns)
    (numbers_alone (behind ws t f) t fs (behind-length ws t f h ∙ size) d e ∙ numbers_left ws t f fs size h a e)

pub every_order : EveryOrder
every_order ws t fs gs size d e r =
    record {
      states = end-again ws t size d e r;
      numbers = numbers_alone ws t fs size d e;
      again = numbers_alone ws t gs size (different_again r d) (every_again r e);
      holds = ap ask_answer (end-again ws t size d e r);
      plan = ap rows_from (end-again ws t size d e r);
    }
