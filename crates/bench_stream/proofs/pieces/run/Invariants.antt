-- Each turn keeps what the page and the records left come to; it ends where no record is ready, with that as its answer.
use Prim.Native.Nat.{ℕ, ◌≤◌, ◌-◌}
use mathlib.Core.Path.{◌≡◌}
use mathlib.Core.Bool.{true, false}
use mathlib.Core.List.{List, [], ◌++◌}
use lib.ListN.{length, drop}
use Rattle.bench_script.specs.Bench.{script, remaining, Comes}
use Rattle.bench_stream.proofs.pieces.run.Given as goal

abbrev pub invariant-loop-d : goal.invariant-loop-d
invariant-loop-d l =
    (l.p.from ≤ length l.s) × (length l.page ≡ length l.initial.page)
    × (l.p.good ≡ false → l.p.from ≡ length l.s) × (l.p.from ≡ 0 → l.p.at ≡ 0)
    × ((more : List ℕ) → (l.last ≡ true → more ≡ []) → Comes l.initial.page 0 (script l.initial.d (l.s ++ more)) l.page l.p.at
    (remaining l.p.good l.d (drop l.p.from l.s ++ more)))

abbrev pub decreases-loop-d : goal.decreases-loop-d
decreases-loop-d l = length l.s - l.p.from
