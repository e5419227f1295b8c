-- What was stored and what is left from each pair on make the whole.
use Prim.Native.Nat.{◌+◌, ◌*◌}
use Rattle.console_words.proofs.Pairs.{store-turn, store-end, pair_said}
use borrow.Author.Rules.{rules}
use native.Mathlib.Omega.{arith}
use Rattle.console_words.proofs.hex.store.Goals as goal

pub loop-n-preserved : goal.loop-n-preserved
loop-n-preserved c = (
  search rules,
  store-turn c.args.word.now c.loop-n.out c.loop-n.n (2 * c.loop-n.n) _ c.loop-n.invariant.1
      (2 * (c.loop-n.n + 1)) _ (omega (arith, c.loop-n-test.true, c.as_chunks.ensures.front_len)) (omega arith)
      (pair_said c.args.word.now _ c.as_chunks.ensures.front c.loop-n.n _ c.requires.digits (omega (arith, c.loop-n-test.true, c.as_chunks.ensures.front_len)) c.pair.ensures),
)

pub returns : goal.returns
returns c =
    store-end c.args.word.now c.loop-n.out c.loop-n.n (2 * c.loop-n.n) _ c.loop-n.invariant.1 (omega (arith, c.loop-n-test.false, c.as_chunks.ensures.front_len))
