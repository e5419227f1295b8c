-- Each reading is a case of the definitions: `answer` for a request, status 4 alone for an unserved one, a bare number else.
use mathlib.Core.Path.{sym, ◌∙◌}
use Rattle.kernel.proofs.Framing.{as_read, unserved-answer, refused-reading}
use Rattle.kernel.proofs.frame_call.payload_call.Goals as goal

pub returns-in-Unserved : goal.returns-in-Unserved
returns-in-Unserved c =
    let both =
    as_read c.args.d.now c.args.zone c.args.t c.args.out.now _ _ _ _ _ (sym c.read_payload.ensures ∙ c.in-Unserved.is)
    (unserved-answer c.args.d.now c.args.zone c.args.t c.args.out.now _ c.unserved_reply.result c.frame_response-w.result _
    c.unserved_reply.ensures c.frame_response-w.ensures.value c.frame_response-w.ensures.out_after) in
    record { value = both.0; d_after = both.1.0; out_after = both.1.1 }

pub returns-in-Refused : goal.returns-in-Refused
returns-in-Refused c =
    let both =
    as_read c.args.d.now c.args.zone c.args.t c.args.out.now _ _ _ _ _ (sym c.read_payload.ensures ∙ c.in-Refused.is)
    (refused-reading c.args.d.now c.args.zone c.args.t c.args.out.now _) in
    record { value = both.0; d_after = both.1.0; out_after = both.1.1 }
