-- The bytes before i are read: n is their number. With one byte more it fits 64 bits.
use Prim.Native.Nat.{suc}
use mathlib.Core.Path.{refl}
use native.Mathlib.Omega.{arith}
use native.Mathlib.Numerals.{add-one}
use Rattle.wire_bytes.specs.Bytes.{number_at}
use Rattle.wire_bytes.proofs.NumberLaws.{all_bytes, number_fits}
use Rattle.wire_bytes.proofs.numbers.whole.Goals as goal

pub loop-i-init : goal.loop-i-init
unfolding number_at
loop-i-init g c = refl

pub overflow_mul-n : goal.overflow_mul-n
unfolding number_at
overflow_mul-n g c =
    let fits = number_fits c.args.s.now (all_bytes c.args.s.now c.type_inv.s) (suc c.loop-i.i) c.args.at (omega arith) in
    omega (arith, fits, c.loop-i.invariant)

pub overflow_add-n : goal.overflow_add-n
unfolding number_at
overflow_add-n g c =
    let fits = number_fits c.args.s.now (all_bytes c.args.s.now c.type_inv.s) (suc c.loop-i.i) c.args.at (omega arith) in
    omega (arith, fits, c.loop-i.invariant, c.from.ensures)

pub loop-i-preserved : goal.loop-i-preserved
unfolding number_at
loop-i-preserved g c = rw (add-one c.loop-i.i, c.loop-i.invariant, c.from.ensures)
