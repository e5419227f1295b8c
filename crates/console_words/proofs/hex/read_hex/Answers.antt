-- Each return stands under the tests of its choice in the definition.
use native.Mathlib.Omega.{arith}
use Rattle.console_words.proofs.Pairs.{read_none, read_pairs, read_bad, pairs-fit, pairs-digits}
use Rattle.console_words.proofs.hex.read_hex.Goals as goal

pub returns-then-is_none : goal.returns-then-is_none
returns-then-is_none c =
    let both =
    read_none _ _ _ c.is_none.ensures c.if-is_none.true in
    record { value = both.0; within = omega arith; out_after = both.1 }

pub store-requires : goal.store-requires
store-requires c =
    record {
      digits = pairs-digits _ _ _ c.is_pairs.ensures c.if-not-is_pairs.false;
      fits = pairs-fit _ _ _ c.is_pairs.ensures c.if-not-is_pairs.false;
    }

pub returns : goal.returns
returns c =
    let both =
    read_pairs _ _ _ c.is_none.ensures c.if-is_none.false _ c.is_pairs.ensures _ c.if-not-is_pairs.false c.store.ensures in
    record { value = both.0; within = pairs-fit _ _ _ c.is_pairs.ensures c.if-not-is_pairs.false; out_after = both.1 }

pub returns-then-not-is_pairs : goal.returns-then-not-is_pairs
returns-then-not-is_pairs c =
    let both =
    read_bad _ _ _ c.is_none.ensures c.if-is_none.false _ c.is_pairs.ensures c.if-not-is_pairs.true in
    record { value = both.0; within = tt; out_after = both.1 }
