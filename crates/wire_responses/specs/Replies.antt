-- The response that is made for a request. Assumes nothing: this is a definition.
use Rattle.std.specs.Prelude.{ℕ}
use Rattle.wire_messages.specs.declared.Outcome.{Outcome}
use Rattle.wire_messages.specs.declared.Request.{Request}
use Rattle.wire_messages.specs.declared.Response.{Response}

-- its message id, the number as status, and the result where one stands
abbrev pub reply_to : Request → ℕ → Outcome → Response
reply_to r number o = record { id = r.id; status = number; outcome = o }
