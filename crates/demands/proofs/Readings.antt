-- Two facts of frames: a reading that is refused has a number, and a response that is written answers a command that nothing refused.
use mathlib.Core.Path.{◌≡◌, refl, subst}
use mathlib.Core.Bool.{Bool, true, false, cond, ◌&&◌}
use mathlib.Core.List.{List}
use mathlib.Core.Option.{Option, some, none, bind}
use Prim.Native.Nat.{ℕ, ◌≤◌}
use native.Mathlib.Omega.{arith}
use lib.Dec.{eqb}
use borrow.Author.Tests.{eqb-true}
use Rattle.wire_cbor.specs.Item.{Item, payload_of}
use Rattle.wire_messages.specs.declared.Command.{Command}
use Rattle.wire_prefix.specs.Prefix.{framed, payload_in}
use Rattle.wire_fields.specs.Fields.{map_in}
use Rattle.wire_requests.specs.Requests.{Envelope, envelope_in, command_in, with_command, from_envelope, from_payload, read_request}
use Rattle.wire_messages.specs.Numbers.{served_at, served_command}
use Rattle.wire_output.specs.Writing.{writing_number}
use Rattle.wire_requests.specs.declared.reading.Reading.{Reading}

pub writes : (n : ℕ) (bytes : List ℕ) (room : ℕ) → writing_number n bytes room ≡ 0 → n ≡ 0
unfolding writing_number
writes n bytes room e = go (eqb n 0) refl _ e
  where
    go : (b : Bool) → eqb n 0 ≡ b → (r : ℕ) → cond b r n ≡ 0 → n ≡ 0
    go true p r e = eqb-true n 0 p
    go false p r e = e

-- the number is 1, 2 or 3
pub refused-with : (P : ℕ → Type 0) → P 1 → P 2 → P 3 → (bytes : List ℕ) (n : ℕ) → read_request bytes ≡ Reading.Refused n → P n
unfolding read_request from_payload from_envelope
refused-with P one two three bytes n e = go (framed bytes) (payload_of (payload_in bytes)) e
  where
    is : (k : ℕ) → P k → ◌≡◌ {A = Reading} (Reading.Refused k) (Reading.Refused n) → P n
    is k p e = let q : k ≡ n = cc in subst P q p

    parameters : (v : Envelope) (o : Option Command) → with_command v o ≡ Reading.Refused n → P n
    parameters v none e = is 3 three e
    parameters v (some c) e = absurd (let w : ◌≡◌ {A = ℕ} 0 1 = cc in omega arith)

    served : (v : Envelope) (b : Bool) → cond b (with_command v (command_in v.command v.parameters)) (Reading.Unserved v.id) ≡ Reading.Refused n → P n
    served v true e = parameters v (command_in v.command v.parameters) e
    served v false e = absurd (let w : ◌≡◌ {A = ℕ} 0 1 = cc in omega arith)

    envelope : (o : Option Envelope) → from_envelope o ≡ Reading.Refused n → P n
    envelope none e = is 3 three e
    envelope (some v) e = served v (served_at v.endpoint v.feature && served_command v.command) e

    go : (b : Bool) (o : Option Item) → cond b (from_payload o) (Reading.Refused 1) ≡ Reading.Refused n → P n
    go false o e = is 1 one e
    go true none e = is 2 two e
    go true (some i) e = envelope (bind (map_in i) envelope_in) e

pub refuses : (bytes : List ℕ) (n : ℕ) → read_request bytes ≡ Reading.Refused n → 1 ≤ n
refuses = refused-with (λ n. 1 ≤ n) (omega arith) (omega arith) (omega arith)
