use Rattle.round_net.specs.Ends.{is_frozen_at}
use Rattle.round_net.proofs.EndLemmas.{number_step}
use Rattle.round_net.proofs.round_ends.push_flags.Goals as goal

pub loop-number-preserved : goal.loop-number-preserved
loop-number-preserved c =
    number_step (is_frozen_at c.args.kind c.args.replay.now.events) c.args.flags.now.items c.loop-number.flags.items c.push.new.self.items c.loop-number.number c.holds.result
    c.loop-number.invariant c.in_ok-push.ensures.items c.holds.ensures
