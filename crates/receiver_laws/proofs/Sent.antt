-- A stream is cut into the frames that it is made of. Assumes nothing.
use Prim.Native.Nat.{ℕ, zero, suc, ◌+◌, ◌-◌, ◌≤◌}
use mathlib.Core.Path.{◌≡◌, refl, sym, ap, ◌∙◌}
use mathlib.Core.Bool.{Bool, true, false}
use mathlib.Core.List.{List, [], ◌∷◌, ◌++◌, append-nil, append_assoc}
use native.Mathlib.Omega.{arith}
use lib.ListN.{length, take, drop, length-append, take-append-drop}
use lib.Seq.{take_at, drop_at, length-take-le}
use lib.Dec.{ltb}
use borrow.Author.Tests.{ltb-false, le-leb, lt-ltb, eq-eqb}
use Rattle.wire_bytes.specs.Bytes.{number_at}
use Rattle.wire_prefix.specs.Prefix.{framed, end_of, bad_end}
use Rattle.wire_prefix.proofs.Ends.{good-end, end-good, end_short, end_read, end_stays, framed-ends, both}
use Rattle.receiver_laws.specs.Stream.{Cut, give, cut_in, cut, all_framed}
use Rattle.receiver_laws.specs.Driver.{joined}
use Rattle.receiver_laws.specs.Laws.{CutsFrames, CutsBad, CutFramed, FramesArrive}
use Rattle.receiver_laws.proofs.Cuttings.{Cuts, halts, stops, gives, cuts_cut, frames_of_stream}

-- one frame more in front
cons_cuts : (f s : List ℕ) (c : Cut) → framed f ≡ true → Cuts s c → Cuts (f ++ s) (give f c)
cons_cuts f s c e k =
    let w = framed-ends f e in
    let a : 4 ≤ length f = omega (arith, w.2) in
    let n : end_of (f ++ s) ≡ length f = end_stays f s a ∙ w.1 in
    let x : take (end_of (f ++ s)) (f ++ s) ≡ f = take_at f s (end_of (f ++ s)) (sym n) in
    let y : drop (end_of (f ++ s)) (f ++ s) ≡ s = drop_at f s (end_of (f ++ s)) (sym n) in
    let z : Cuts (f ++ s) (give (take (end_of (f ++ s)) (f ++ s)) c) =
    gives {s = f ++ s} {c = c} (rw (end_stays f s a) w.0) (omega (arith, length-append f s)) (rw y k) in
    rw x at z

-- frames in front
before : (fs : List (List ℕ)) (s : List ℕ) (b : Bool) (l : List ℕ) → all_framed fs ≡ true
    → Cuts s (record { frames = []; closed = b; left = l }) → Cuts (joined fs ++ s) (record { frames = fs; closed = b; left = l })
unfolding all_framed joined
before [] s b l e k = k
before (f ∷ fs) s b l e k =
    let x = both (framed f) (all_framed fs) e in
    rw (append_assoc f (joined fs) s)
    (cons_cuts f (joined fs ++ s) (record { frames = fs; closed = b; left = l }) x.0 (before fs s b l x.1 k))

pub cuts_frames : CutsFrames
cuts_frames fs rest e b l = sym (cuts_cut (before fs rest false rest e (stops b l)))

pub cuts_bad : CutsBad
cuts_bad fs rest e b = sym (cuts_cut (before fs rest true [] e (halts b)))

pub frames_arrive : FramesArrive
frames_arrive room fs scraps l e j =
    let n : 5 ≡ end_of [] = end_short [] (omega arith) in
    frames_of_stream room scraps l ∙ ap cut (j ∙ sym (append-nil (joined fs)))
    ∙ cuts_frames fs [] e (rw (← n) (end-good 5 (omega arith) (omega arith))) (omega arith)

-- what is given out is a frame
given-framed : (s : List ℕ) → bad_end (end_of s) ≡ false → end_of s ≤ length s → framed (take (end_of s) s) ≡ true
unfolding framed
given-framed s b l =
    let f : List ℕ = take (end_of s) s in
    let g = good-end (end_of s) b in
    let n : length f ≡ end_of s = length-take-le (end_of s) s l in
    let e : end_of f ≡ end_of s = sym (end_stays f (drop (end_of s) s) (omega (arith, g.0))) ∙ ap end_of (take-append-drop (end_of s) s) in
    let r : 4 + number_at f 0 4 ≡ end_of f = end_read f (omega (arith, g.0)) in
    rw (lt-ltb 4 (length f) (omega (arith, g.0)), le-leb (length f - 4) 2048 (omega (arith, g.1)), eq-eqb (number_at f 0 4) (length f - 4) (omega arith))

cut_in-framed : (n : ℕ) (s : List ℕ) → all_framed (cut_in n s).frames ≡ true
unfolding cut_in all_framed
cut_in-framed zero s = refl
cut_in-framed (suc n) s = go (bad_end (end_of s)) refl (ltb (length s) (end_of s)) refl (cut_in-framed n (drop (end_of s) s))
  where
    go : (a : Bool) → bad_end (end_of s) ≡ a → (b : Bool) → ltb (length s) (end_of s) ≡ b
        → all_framed (cut_in n (drop (end_of s) s)).frames ≡ true → all_framed (cut_in (suc n) s).frames ≡ true
    go true ea b eb k = rw ea
    go false ea true eb k = rw (ea, eb)
    go false ea false eb k = rw (ea, eb, given-framed s ea (ltb-false (length s) (end_of s) eb)) k

pub cut-framed : CutFramed
unfolding cut
cut-framed s = cut_in-framed (suc (length s)) s
