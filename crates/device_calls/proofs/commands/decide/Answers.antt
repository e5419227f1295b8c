-- The number comes from the precedence that was found, and the record from the zone in it: Decisions says that these are the definition's.
use mathlib.Core.Path.{refl}
use Rattle.device_calls.proofs.Decisions.{decided, undecided, refused_number}
use Rattle.device_calls.proofs.commands.decide.Goals as goal

pub returns-in-Ok : goal.returns-in-Ok
returns-in-Ok c =
    rw (c.obeyed.ensures, c.settings_at-s.ensures, c.zone_at-x.ensures)
    (decided _ _ _ _ c.slot_of_joined-slot.result 0 c.slot_of_joined-slot.ensures
    (rw (c.in-Ok.is, c.overridden.ensures, c.clock.ensures, c.settings_at-s.ensures, c.zone_at-x.ensures) at c.check_command-checked.ensures) refl)

pub returns-in-Err : goal.returns-in-Err
returns-in-Err c =
    rw (c.free_zone.ensures, c.number.ensures) (undecided _ _ _ _ c.slot_of_joined-slot.result _ c.slot_of_joined-slot.ensures
    (rw (c.in-Err.is, c.overridden.ensures, c.clock.ensures, c.settings_at-s.ensures, c.zone_at-x.ensures) at c.check_command-checked.ensures)
    (refused_number c.in-Err.refusal))
