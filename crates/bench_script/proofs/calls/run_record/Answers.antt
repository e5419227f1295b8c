-- The call is chosen by the record's kind, and its frame is the body.
use Prim.Native.Nat.{◌+◌, ◌-◌}
use mathlib.Core.Path.{◌≡◌}
use native.Mathlib.Omega.{arith}
use Rattle.bench_script.specs.Runs.{record_leaves, body_of}
use Rattle.bench_script.proofs.calls.run_record.Goals as goal

pub returns : goal.returns
unfolding record_leaves body_of
returns c =
    let n : (c.args.r.body + c.args.r.length) - c.args.r.body ≡ c.args.r.length = omega arith in
    rw (n, c.call_of-c.ensures, c.byte_at.ensures.value, c.byte_at-2.ensures.value) at c.run.ensures
