-- To store the values from q on now is to store them all in the words of the start.
use Rattle.device_store.specs.Sizes.{helds}
use Rattle.device_store.proofs.HeldWords.{store-turn, store-end}
use Rattle.device_store.proofs.Folds.{length-of}
use lib.ListN.{length}
use mathlib.Core.Path.{◌≡◌}
use native.Mathlib.Omega.{arith}
use Rattle.device_store.proofs.puts.put_helds.Goals as goal

pub loop-q-preserved : goal.loop-q-preserved
loop-q-preserved c = (
  omega arith,
  store-turn _ _ _ _ c.loop-q.q _ _ (let l : length c.args.hs ≡ helds = search length-of in omega arith) c.loop-q.invariant.1
      c.put_held.ensures,
)

pub returns : goal.returns
returns c =
    store-end _ _ _ c.loop-q.q _ (let l : length c.args.hs ≡ helds = search length-of in omega arith) c.loop-q.invariant.1
