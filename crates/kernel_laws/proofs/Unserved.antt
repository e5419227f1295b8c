-- The message id of a frame that is not served fits 32 bits, so status 4 can be answered.
use Prim.Native.Nat.{ℕ}
use mathlib.Core.Bool.{Bool, true, false, cond, ◌&&◌}
use mathlib.Core.Path.{◌≡◌, refl}
use mathlib.Core.List.{List}
use mathlib.Core.Option.{Option, some, none, bind}
use native.Mathlib.Omega.{arith}
use lib.Dec.{leb}
use Rattle.wire_cbor.specs.Item.{Item, Pairs, payload_of}
use Rattle.wire_cbor.specs.Find.{value_of}
use Rattle.wire_messages.specs.declared.Command.{Command}
use Rattle.wire_prefix.specs.Prefix.{framed, payload_in}
use Rattle.wire_fields.specs.Fields.{number_up_to, map_in, needed, most32}
use Rattle.wire_requests.specs.Requests.{Envelope, envelope_in, command_in, with_command, from_envelope, from_payload, read_request}
use Rattle.wire_messages.specs.Numbers.{served_at, served_command}
use Rattle.wire_requests.specs.declared.reading.Reading.{Reading}

never : {X : Type 0} → ◌≡◌ {A = ℕ} 0 1 → X
never z = absurd (omega arith)

number-kept : (most v : ℕ) (o : Option Item) → needed (number_up_to most) o ≡ some v → leb v most ≡ true
unfolding needed number_up_to
number-kept most v (some (Item.uint w)) e = go (leb w most) refl e
  where
    go : (b : Bool) → leb w most ≡ b → cond b (some w) none ≡ some v → leb v most ≡ true
    go true h e = let q : w ≡ v = cc in rw (← q) h
    go false h e = never (cc)
number-kept most v (some (Item.nint w)) e = never (cc)
number-kept most v (some (Item.bytes b)) e = never (cc)
number-kept most v (some (Item.text b)) e = never (cc)
number-kept most v (some (Item.array is)) e = never (cc)
number-kept most v (some (Item.map ps)) e = never (cc)
number-kept most v (some (Item.simple w)) e = never (cc)
number-kept most v none e = never (cc)

-- what is read on the way to a value was itself read
bound : {A B : Type 0} (o : Option A) (f : A → Option B) (b : B) → bind o f ≡ some b → (a : A) × (o ≡ some a) × (f a ≡ some b)
unfolding bind
bound (some a) f b e = (a, refl, e)
bound none f b e = never (cc)

id_kept : (ps : Pairs) (e : Envelope) → envelope_in ps ≡ some e → leb e.id most32 ≡ true
unfolding envelope_in
id_kept ps e h =
    let i = bound (needed (number_up_to most32) (value_of ps 1)) _ e h in
    let p = bound (needed (number_up_to 255) (value_of ps 2)) _ e i.2 in
    let f = bound (needed (number_up_to 65535) (value_of ps 3)) _ e p.2 in
    let c = bound (needed (number_up_to 65535) (value_of ps 4)) _ e f.2 in
    let m = bound (needed map_in (value_of ps 5)) _ e c.2 in
    let q : i.0 ≡ e.id = let w = m.2 in cc in
    rw (← q) (number-kept most32 i.0 (value_of ps 1) i.1)

from-envelope : (o : Option Envelope) (i : ℕ) → ((e : Envelope) → o ≡ some e → leb e.id most32 ≡ true) → from_envelope o ≡ Reading.Unserved i → leb i most32 ≡ true
unfolding from_envelope
from-envelope none i k h = never (cc)
from-envelope (some e) i k h = go (served_at e.endpoint e.feature && served_command e.command) (command_in e.command e.parameters) h
  where
    go : (b : Bool) (o : Option Command) → cond b (with_command e o) (Reading.Unserved e.id) ≡ Reading.Unserved i → leb i most32 ≡ true
    go true (some c) h = never (cc)
    go true none h = never (cc)
    go false o h = let q : e.id ≡ i = cc in rw (← q) (k e refl)

pub unserved-id : (frame : List ℕ) (i : ℕ) → read_request frame ≡ Reading.Unserved i → leb i most32 ≡ true
unfolding read_request from_payload
unserved-id frame i h = go (framed frame) (payload_of (payload_in frame)) h
  where
    go : (b : Bool) (o : Option Item) → cond b (from_payload o) (Reading.Refused 1) ≡ Reading.Unserved i → leb i most32 ≡ true
    go true (some x) h =
        from-envelope (bind (map_in x) envelope_in) i (λ e k. let m = bound (map_in x) envelope_in e k in id_kept m.0 e m.2) h
    go true none h = never (cc)
    go false o h = never (cc)
