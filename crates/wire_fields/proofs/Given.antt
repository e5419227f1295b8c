-- What the code answers as an `Option` and the definitions as the logic's own. Assumes nothing.
use Rattle.std.specs.Prelude
use Rattle.std.specs.Prelude.{None, Some}
use mathlib.Core.Path.{◌≡◌, refl, ◌∙◌}
use mathlib.Core.Bool.{Bool, true, false}
use mathlib.Core.Option.{Option}
use Rattle.std.specs.Bool.{then_some}
use Rattle.wire_cbor.specs.Item.{Item}
use Rattle.wire_cbor.specs.declared.heads.KeyHead.{KeyHead}
use Rattle.wire_fields.specs.KeyHeads.{found, when_ok, given, Reads, Gives}

pub then_some_is : {X : Type 0} (ok : Bool) (x : X) → then_some ok x ≡ when_ok ok x
then_some_is true x = refl
then_some_is false x = refl

pub given_found : {X : Type 0} (ok : Bool) (x : X) → found ok x ≡ given (then_some ok x)
given_found true x = refl
given_found false x = refl

-- a test, and what is made of the head, answered together
module _ {X : Type 0} (k : KeyHead) (f : Option Item → Option X) (ok : Bool) (x : X) (h : Reads k f ok x) where
  pub gives : (r : Prelude.Option X) → r ≡ then_some ok x → Gives k f r
  unfolding Reads Gives
  gives r e o q = rw e (h o q ∙ given_found ok x)
