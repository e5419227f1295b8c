-- Four bytes say the end; with fewer it is the soonest.
use Prim.Native.Nat.{ℕ, suc, ◌+◌}
use mathlib.Core.Path.{◌≡◌, refl, ap, ◌∙◌}
use mathlib.Core.List.{◌++◌}
use native.Mathlib.Omega.{arith}
use native.Mathlib.Numerals.{add-one}
use lib.ListN.{take, get_or}
use Rattle.wire_bytes.specs.Bytes.{number_at}
use Rattle.wire_bytes.proofs.NumberLaws.{all_bytes}
use Rattle.wire_prefix.proofs.Ends.{end_short, end_read}
use Rattle.receiver.proofs.Counts.{length_both, payload_fits}
use Rattle.receiver.proofs.ends.end_of.Goals as goal

pub returns-then-scrap-have : goal.returns-then-scrap-have
returns-then-scrap-have c =
    end_short _ (omega (arith, length_both c.args.have c.args.room.now c.args.scrap.now (omega arith)))

pub loop-i-init : goal.loop-i-init
unfolding number_at
loop-i-init c = refl

pub overflow_mul-payload : goal.overflow_mul-payload
unfolding number_at
overflow_mul-payload c =
    let a = all_bytes c.args.room.now c.type_inv.room in
    let b = all_bytes c.args.scrap.now c.type_inv.scrap in
    let fits = payload_fits c.args.have c.args.room.now c.args.scrap.now (omega arith) a b (suc c.loop-i.i) (omega arith) in
    omega (arith, fits, c.loop-i.invariant)

pub overflow_add-payload : goal.overflow_add-payload
unfolding number_at
overflow_add-payload c =
    let a = all_bytes c.args.room.now c.type_inv.room in
    let b = all_bytes c.args.scrap.now c.type_inv.scrap in
    let fits = payload_fits c.args.have c.args.room.now c.args.scrap.now (omega arith) a b (suc c.loop-i.i) (omega arith) in
    let both = take c.args.have c.args.room.now ++ c.args.scrap.now in
    let e : c.loop-i.i ≡ 0 + c.loop-i.i = omega arith in
    let v = c.byte.ensures.value ∙ ap (λ (k : ℕ). get_or both k 0) e in
    omega (arith, fits, c.loop-i.invariant, v)

pub loop-i-preserved : goal.loop-i-preserved
unfolding number_at
loop-i-preserved c =
    let both = take c.args.have c.args.room.now ++ c.args.scrap.now in
    let e : c.loop-i.i ≡ 0 + c.loop-i.i = omega arith in
    let b = c.byte.ensures.value ∙ ap (λ (k : ℕ). get_or both k 0) e in
    rw (add-one c.loop-i.i) (omega (arith, c.loop-i.invariant, b))

pub overflow_add-result-2 : goal.overflow_add-result-2
overflow_add-result-2 c =
    let four : c.loop-i.i ≡ 4 = omega arith in
    let a = all_bytes c.args.room.now c.type_inv.room in
    let b = all_bytes c.args.scrap.now c.type_inv.scrap in
    let fits = payload_fits c.args.have c.args.room.now c.args.scrap.now (omega arith) a b c.loop-i.i (omega arith) in
    record { fits = omega (arith, fits, c.loop-i.invariant) }

pub returns : goal.returns
returns c =
    let both = take c.args.have c.args.room.now ++ c.args.scrap.now in
    let four : c.loop-i.i ≡ 4 = omega arith in
    ap (λ (n : ℕ). 4 + n) (c.loop-i.invariant ∙ ap (number_at both 0) four)
    ∙ end_read both (omega (arith, length_both c.args.have c.args.room.now c.args.scrap.now (omega arith)))
