use Rattle.round_net.specs.Ends.{cause_at}
use Rattle.round_net.proofs.EndLemmas.{number_step}
use Rattle.round_net.proofs.round_ends.push_causes.Goals as goal

pub loop-device-preserved : goal.loop-device-preserved
loop-device-preserved c =
    number_step (cause_at c.args.replay.now.config c.args.replay.now.events) c.args.causes.now.items c.loop-device.causes.items c.push.new.self.items c.loop-device.device c.cause_at.result
    c.loop-device.invariant c.in_ok-push.ensures.items c.cause_at.ensures
