-- A zone that holds the value goes before none, and before a larger precedence.
use mathlib.Core.Path.{◌∙◌, sym}
use native.Mathlib.Omega.{arith}
use borrow.Author.Tests.{lt-ltb, le-ltb}
use Rattle.device_store.specs.Sizes.{slots}
use Rattle.device_store.proofs.Tests.{via}
use Rattle.device_holders.proofs.Places.{placed_first, placed_better, placed_stays, placed_fails}
use Rattle.device_holders.proofs.Holding.{holds_joined}
use Rattle.device_holders.proofs.better_placed.Goals as goal

pub returns-then-precedence_at : goal.returns-then-precedence_at
returns-then-precedence_at c =
    record {
      placed = placed_better _ _ _ (via c.holds_value.ensures c.if-holds_value.true) (c.requires.best_joined ∙ lt-ltb _ _ c.if-best-lt-SLOTS.true)
          (omega (arith, c.precedence_at.ensures, c.precedence_at-then-best-lt-SLOTS.ensures, c.if-precedence_at.true));
      placed_joined = holds_joined _ _ _ _ (via c.holds_value.ensures c.if-holds_value.true) ∙ sym (lt-ltb _ _ c.requires.i_lt_slots);
    }

pub returns-then-best-lt-SLOTS : goal.returns-then-best-lt-SLOTS
returns-then-best-lt-SLOTS c =
    record {
      placed = placed_stays _ _ _ (c.requires.best_joined ∙ lt-ltb _ _ c.if-best-lt-SLOTS.true) (omega (
        arith,
        c.precedence_at.ensures,
        c.precedence_at-then-best-lt-SLOTS.ensures,
        c.if-precedence_at.false,
      ));
      placed_joined = c.requires.best_joined;
    }

pub returns-then-holds_value : goal.returns-then-holds_value
returns-then-holds_value c =
    record {
      placed = placed_first _ _ _ (via c.holds_value.ensures c.if-holds_value.true)
          (c.requires.best_joined ∙ le-ltb c.args.best slots (omega (arith, c.if-best-lt-SLOTS.false)));
      placed_joined = holds_joined _ _ _ _ (via c.holds_value.ensures c.if-holds_value.true) ∙ sym (lt-ltb _ _ c.requires.i_lt_slots);
    }

pub returns : goal.returns
returns c =
    record {
      placed = placed_fails _ _ _ (via c.holds_value.ensures c.if-holds_value.false);
      placed_joined = c.requires.best_joined;
    }
