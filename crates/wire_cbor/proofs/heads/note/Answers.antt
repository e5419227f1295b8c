-- Two stores are the two that `note_at` makes.
use mathlib.Core.Path.{refl}
use Rattle.wire_cbor.specs.Pass.{note_at}
use Rattle.wire_cbor.proofs.heads.note.Goals as goal

pub returns : goal.returns
unfolding note_at
returns c = refl
