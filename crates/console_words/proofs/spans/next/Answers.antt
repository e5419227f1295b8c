-- The position in what is left, counted from the start of the text.
use mathlib.Core.Path.{◌≡◌, ap, ◌∙◌}
use Rattle.std.proofs.lemmas.Slice.{between_to_end}
use Prim.Native.Nat.{◌+◌}
use lib.Dec.{eqb}
use lib.ListN.{length, drop, length-drop}
use native.Mathlib.Omega.{arith}
use Rattle.std.proofs.Common.{rules}
use Rattle.std.specs.List.{position}
use Rattle.std.specs.Prelude.{MatchOption}
use Rattle.console_words.proofs.Ends.{next_from}
use Rattle.console_words.proofs.spans.next.Goals as goal

pub returns-clause-value : goal.returns-clause-value
returns-clause-value c =
    let h : c.first.result ≡ position (λ x. eqb x c.args.b) (drop c.args.from c.args.s.now) =
    c.first.ensures ∙ ap (λ t. position (λ x. eqb x c.args.b) t) (between_to_end c.args.s.now c.args.from (length c.args.s.now) (omega arith)) in
    let m : MatchOption c.first.result (c.map_or.result ≡ length c.args.s.now) (λ k. c.map_or.result ≡ c.args.from + k) = search rules in
    next_from c.args.b c.args.from _ _ _ _ h m (omega (arith, length-drop c.args.from c.args.s.now))
