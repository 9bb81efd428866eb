use Rattle.std.proofs.Common.{ap, ◌∙◌}
use Rattle.event_rules.specs.Counts.{round}
use Rattle.xpt_core.specs.Transport.{Transport}
use Rattle.xpt_core.specs.StayRecord.{is_queued}
use Rattle.xpt_core.proofs.QuestionLemmas.{queued-by}
use Rattle.xpt_core.proofs.state.State.has_queued.Goals as goal

pub returns-in-Some : goal.returns-in-Some
returns-in-Some c =
    let now = c.round.ensures ∙ ap (λ (t : Transport). round t.events) (c.devices.ensures ∙ c.self.view_is) in
    c.is_queued.ensures ∙ ap (λ n. is_queued n c.in-Some.record) now
    ∙ (rw c.in-Some.is at (queued-by c.self.inside.queues c.self.inside.stays c.self.invariant.stays c.args.self.now c.self.view_is c.args.ccb c.latest.result c.latest.ensures))

pub returns-in-None : goal.returns-in-None
returns-in-None c = rw c.in-None.is at (queued-by c.self.inside.queues c.self.inside.stays c.self.invariant.stays c.args.self.now c.self.view_is c.args.ccb c.latest.result c.latest.ensures)
