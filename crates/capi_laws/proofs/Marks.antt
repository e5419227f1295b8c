-- A yes or a no as a word tells it.
use mathlib.Core.Path.{◌≡◌, refl}
use mathlib.Core.Bool.{Bool, true, false, not}
use lib.Dec.{eqb}
use Rattle.capi_fields.specs.Words.{word}

pub mark_kept : (b : Bool) → not (eqb (word b) 0) ≡ b
mark_kept true = refl
mark_kept false = refl
