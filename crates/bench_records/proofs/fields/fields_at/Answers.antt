-- Each field is what its reader says stands at its place; two bytes say a number below 65,536.
use Prim.Native.Nat.{◌+◌}
use native.Mathlib.Omega.{arith}
use Rattle.wire_bytes.proofs.NumberLaws.{all_bytes, number_small}
use Rattle.bench_records.specs.Records.{fields_at}
use Rattle.bench_records.proofs.Scans.{same-number, same-fields, in-front}
use Rattle.bench_records.proofs.fields.fields_at.Goals as goal

pub returns : goal.returns
unfolding fields_at
returns c =
    record {
      value = rw (
        c.get_u16.ensures,
        c.get_u32.ensures,
        c.byte_at-2.ensures.value,
        c.byte_at.ensures.value,
      ) (same-fields c.args.s.now _ c.args.at (in-front c.args.s.now c.args.at));
      length_bound =
          let same = same-number c.args.s.now _ c.args.at (in-front c.args.s.now c.args.at) 2 8 (omega arith) in
          omega (arith, c.get_u16.ensures, same, number_small c.args.s.now (all_bytes c.args.s.now c.type_inv.s) 2 (c.args.at + 8));
    }
