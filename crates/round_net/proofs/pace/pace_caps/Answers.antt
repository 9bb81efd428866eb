use Rattle.std.proofs.Common.{◌∙◌}
use Rattle.round_net.specs.Pace.{pace_cap}
use Rattle.round_net.specs.Rows.{instance_of_rows, live_of_rows}
use Rattle.round_net.proofs.RecordedLemmas.{cells_none, cells_more}
use Rattle.round_net.proofs.pace.pace_caps.Goals as goal

pub loop-at-init : goal.loop-at-init
loop-at-init c = cells_none c.rounds-rounds.result (pace_cap (instance_of_rows c.args.net.now) (live_of_rows c.args.net.now)) c.in_ok-caps.caps.items c.in_ok-caps.ensures.items

pub loop-at-preserved : goal.loop-at-preserved
loop-at-preserved c =
    c.in_ok-push.ensures.items
    ∙ cells_more c.rounds-rounds.result (pace_cap (instance_of_rows c.args.net.now) (live_of_rows c.args.net.now)) c.loop-at.caps.items c.loop-at.at c.pace_cap.result c.loop-at.invariant c.pace_cap.ensures
