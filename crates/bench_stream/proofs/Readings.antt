-- Turn after turn: each page and what is left come to what the whole script prints. Assumes nothing.
use Prim.Native.Nat.{ℕ}
use mathlib.Core.Path.{◌≡◌, refl, sym, ap, ◌∙◌}
use mathlib.Core.Bool.{Bool, true, false, cond}
use mathlib.Core.List.{List, [], ◌∷◌, ◌++◌, append_assoc}
use native.Mathlib.Omega.{arith}
use lib.ListN.{length, length-drop}
use Rattle.text.specs.Pieces.{joined}
use Rattle.bench_script.specs.Bench.{ended, played, script, stopped, remaining}
use Rattle.bench_stream.specs.declared.pieces.Place.{Place}
use Rattle.bench_stream.specs.Ready.{goes_on}
use Rattle.bench_stream.specs.Laws.{Turn, Driven, goes, ends, EveryReading}
use Rattle.bench_stream.proofs.Stops.{stuck, goes_good, goes_none}

-- a turn's page, then what is left to print
turn_text : {ws kept unread : List ℕ} {p : Place} {ws' written left rest : List ℕ} → Turn ws kept unread p ws' written left rest
    → written ++ joined (remaining p.good ws' (left ++ rest)).pieces ≡ joined (script ws (kept ++ unread)).pieces
turn_text {ws} {kept} {unread} {p} {ws'} {written} {left} {rest} t =
    let c = t.ran.comes rest t.all in
    let a : kept ++ unread ≡ (kept ++ t.bytes) ++ rest = ap (λ (l : List ℕ). kept ++ l) t.read ∙ sym (append_assoc kept t.bytes rest) in
    rw (t.writes, t.leaves, a) c.text

-- nothing is left: nothing more is printed
empty : (s : List ℕ) → length s ≡ 0 → s ≡ []
empty [] e = refl
empty (x ∷ s) e = absurd (omega arith)

nothing_left : (ws left rest : List ℕ) → length left ≡ 0 → rest ≡ [] → joined (script ws (left ++ rest)).pieces ≡ []
unfolding script played ended joined
nothing_left ws left rest l r = rw (empty left l, r)

module _ {ws kept unread : List ℕ} {p : Place} {ws' written left rest : List ℕ} (t : Turn ws kept unread p ws' written left rest) where
  abbrev Whole : List ℕ → Type 0
  Whole text = text ≡ joined (script ws (kept ++ unread)).pieces

  text_goes : goes_on p ≡ true → (text : List ℕ) → text ≡ joined (script ws' (left ++ rest)).pieces → Whole (written ++ text)
  unfolding remaining
  text_goes g text h = ap (λ (l : List ℕ). written ++ l) h ∙ rw (goes_good p g) at (turn_text t)

  text_ends : goes_on p ≡ false → (b : Bool) → p.good ≡ b → Whole (written ++ cond b [] (joined (stopped ws').pieces))
  unfolding remaining
  text_ends g false n = rw n at (turn_text t)
  text_ends g true y =
      let f = goes_none p g y in
      let x = stuck (kept ++ t.bytes) t.last (length t.page) p t.enough t.room f (t.ran.none f) t.ran.stops in
      let l : length left ≡ 0 = omega (arith, ap length t.leaves, length-drop p.from (kept ++ t.bytes), x.0) in
      let e = nothing_left ws' left rest l (t.all x.1) in
      rw (y, e) at (turn_text t)

every : {ws kept unread text : List ℕ} → Driven ws kept unread text → text ≡ joined (script ws (kept ++ unread)).pieces
every (goes {text = text} t g d) = text_goes t g text (every d)
every (ends {p = p} t g) = text_ends t g p.good refl

pub every_reading : EveryReading
every_reading ws s text d = every d
