use Rattle.std.proofs.Common.{refl}
use Rattle.xpt_core.proofs.CcbLemmas.{ccbs-open}
use Rattle.xpt_core.proofs.StaySoundLemmas.{sound-open}
use Rattle.xpt_core.proofs.state.State.open.Goals as goal

pub invariant_of-result : goal.invariant_of-result
invariant_of-result c = record {
  ccbs = ccbs-open c.in_ok-queues.queues c.in_ok-ccbs.ccbs c.args.rules c.args.config c.in_ok-ccbs.ensures.range c.in_ok-queues.ensures c.in_ok-ccbs.ensures.rows c.in_ok-ccbs.ensures.cases c.in_ok-ccbs.ensures.room;
  stays = sound-open c.in_ok-queues.queues c.in_ok-stays.stays c.args.config c.args.rules c.args.rules.stays refl c.in_ok-ccbs.ensures.range c.in_ok-queues.ensures c.in_ok-stays.ensures.records c.in_ok-stays.ensures.latest c.in_ok-stays.ensures.records_room c.in_ok-stays.ensures.latest_room;
}
