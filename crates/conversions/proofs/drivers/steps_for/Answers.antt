use Rattle.std.proofs.Common.{refl}
use Rattle.conversions.specs.Steps.{steps_for}
use Rattle.conversions.proofs.ArrivalLemmas.{steps_more, last_more}
use Rattle.conversions.proofs.drivers.steps_for.Goals as goal

pub loop-arrival-init : goal.loop-arrival-init
unfolding steps_for
loop-arrival-init c = record { steps = c.new-steps.ensures.items; now = refl }

pub loop-arrival-preserved : goal.loop-arrival-preserved
loop-arrival-preserved c = record {
  steps = steps_more c.args.own.now c.loop-arrival.arrival-index c.loop-arrival.now _ c.loop-arrival.steps.items c.add_steps.new.steps.items c.loop-arrival-test.true c.loop-arrival.invariant.steps c.loop-arrival.invariant.now c.in_ok-add_steps.ensures;
  now = last_more c.args.own.now c.loop-arrival.arrival-index _ c.loop-arrival-test.true;
}
