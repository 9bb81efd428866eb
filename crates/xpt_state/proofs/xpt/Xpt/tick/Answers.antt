use Rattle.std.proofs.Common.{subst, ap, ◌∙◌}
use Rattle.xpt_state.specs.Words.{round, Tick, IsTaken, Transport}
use Rattle.event_rules.proofs.PushLaws.{round-push}
use Rattle.xpt_state.specs.declared.reply.Reply.TheVariants as replies
use Rattle.xpt_state.proofs.xpt.Xpt.tick.Goals as goal

pub returns : goal.returns
returns c =
    let taken : IsTaken c.args.self.now Tick c.take.new.self = subst (λ (t : Transport). IsTaken t Tick c.take.new.self) c.self.view_is c.in_ok-take.ensures in
    let opened = c.round.ensures ∙ ap (λ (t : Transport). round t.events) (c.devices.ensures ∙ taken.1) ∙ round-push c.args.self.now.events Tick in
    (taken, ap replies.Round opened)
