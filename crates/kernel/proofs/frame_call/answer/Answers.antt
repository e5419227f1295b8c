-- Decided and written before anything is stored: `ready` gives number, frame and output; only 0 with room is enacted.
use mathlib.Core.Path.{sym, ◌∙◌}
use Rattle.device_calls.proofs.Decisions.{decision_enacted}
use Rattle.kernel.proofs.Framing.{ready, refused-answer, accepted-answer, accepted-after, crowded_after}
use Rattle.kernel.proofs.frame_call.answer.Goals as goal

pub returns-then-n-ne0 : goal.returns-then-n-ne0
returns-then-n-ne0 c =
    let y = ready c.args.d.now c.args.zone c.args.t c.args.r c.decide-x.result c.outcome_of-outcome.result c.reply_to.result
    c.frame_response-w.result c.args.out.now _ c.told-d c.decide-x.ensures c.outcome_of-outcome.ensures
    c.reply_to.ensures c.frame_response-w.ensures.value c.frame_response-w.ensures.out_after in
    let a = refused-answer c.args.d.now c.args.zone c.args.t c.args.r c.args.out.now c.decide-x.result.number
    c.frame_response-w.result y.number c.if-n-ne0.true y.written in
    record { value = a.0; d_after = a.1; out_after = y.output }

pub returns-then-w-eq0 : goal.returns-then-w-eq0
returns-then-w-eq0 c =
    let y = ready c.args.d.now c.args.zone c.args.t c.args.r c.decide-x.result c.outcome_of-outcome.result c.reply_to.result
    c.frame_response-w.result c.args.out.now _ c.told-d c.decide-x.ensures c.outcome_of-outcome.ensures
    c.reply_to.ensures c.frame_response-w.ensures.value c.frame_response-w.ensures.out_after in
    let n = sym y.number ∙ c.if-n-ne0.false in
    record {
      value = accepted-answer c.args.d.now c.args.zone c.args.t c.args.r c.args.out.now c.frame_response-w.result n y.written;
      d_after = c.enact.ensures ∙ rw c.decide-x.ensures (decision_enacted _ _ _ _) ∙ accepted-after c.args.d.now c.args.zone c.args.t
          c.args.r c.args.out.now c.frame_response-w.result n y.written c.if-w-eq0.true;
      out_after = y.output;
    }

pub returns-else-w-eq0 : goal.returns-else-w-eq0
returns-else-w-eq0 c =
    let y = ready c.args.d.now c.args.zone c.args.t c.args.r c.decide-x.result c.outcome_of-outcome.result c.reply_to.result
    c.frame_response-w.result c.args.out.now _ c.told-d c.decide-x.ensures c.outcome_of-outcome.ensures
    c.reply_to.ensures c.frame_response-w.ensures.value c.frame_response-w.ensures.out_after in
    let n = sym y.number ∙ c.if-n-ne0.false in
    record {
      value = accepted-answer c.args.d.now c.args.zone c.args.t c.args.r c.args.out.now c.frame_response-w.result n y.written;
      d_after = crowded_after c.args.d.now c.args.zone c.args.t c.args.r c.args.out.now c.frame_response-w.result n y.written c.if-w-eq0.false;
      out_after = y.output;
    }
