use Rattle.std.proofs.Common.{◌+◌, ◌/◌, ◌%◌}
use Rattle.round_net.specs.Rows.{instance_of_rows, live_of_rows}
use Rattle.wait_causes.specs.RecordedCauses.{recorded_cause}
use Rattle.wait_causes.proofs.OriginLemmas.{place_more}
use Rattle.wait_causes.proofs.recorded.causes_of.Goals as goal

pub loop-at-preserved : goal.loop-at-preserved
loop-at-preserved c =
    place_more (λ at. recorded_cause (instance_of_rows c.args.net.now) (live_of_rows c.args.net.now) (at / c.rounds-rounds.result) (at % c.rounds-rounds.result + 1))
    c.loop-at.at c.loop-at.causes.items c.push.new.self.items c.cause_in.result c.loop-at.invariant c.in_ok-push.ensures.items c.cause_in.ensures
