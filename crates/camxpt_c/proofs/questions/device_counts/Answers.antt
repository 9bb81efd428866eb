use Rattle.std.proofs.Common.{length, ap, ◌∙◌, arith}
use Rattle.xpt_core.specs.Device.{device_state}
use Rattle.xpt_core.specs.Transport.{Transport}
use Rattle.xpt_core.specs.Words.{Device}
use Rattle.camxpt_c.proofs.CountLemmas.{counts_of, counts_by_state, few_held}
use Rattle.camxpt_c.proofs.questions.device_counts.Goals as goal

pub overflow_cast-result : goal.overflow_cast-result
overflow_cast-result c =
    let t = c.args.state.now in
    let at = c.queue-queue.ensures ∙ ap (λ (x : Transport). device_state x.config x.rules.stays x.events c.args.device) c.devices.ensures in
    omega (arith, c.queued.ensures, ap (λ (q : Device). length q.waiting) at, few_held t.config t.rules.stays t.events c.args.device, c.events-events.ensures.short, ap length c.events-events.ensures.same)

pub overflow_cast-result-2 : goal.overflow_cast-result-2
overflow_cast-result-2 c =
    let t = c.args.state.now in
    let at = c.queue-queue.ensures ∙ ap (λ (x : Transport). device_state x.config x.rules.stays x.events c.args.device) c.devices.ensures in
    omega (arith, c.requeued.ensures, ap (λ (q : Device). length q.later) at, few_held t.config t.rules.stays t.events c.args.device, c.events-events.ensures.short, ap length c.events-events.ensures.same)

pub returns : goal.returns
returns c =
    let t = c.args.state.now in
    let at = c.queue-queue.ensures ∙ ap (λ (x : Transport). device_state x.config x.rules.stays x.events c.args.device) c.devices.ensures in
    rw (c.queued.ensures, c.requeued.ensures, c.in_flight.ensures, c.openings.ensures, c.next_openings.ensures, c.callers.ensures.value, c.errors.ensures)
    (ap counts_of at ∙ counts_by_state t.config t.rules.stays t.events c.args.device)
