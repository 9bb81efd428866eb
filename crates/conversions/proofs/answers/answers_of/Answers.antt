use Rattle.std.proofs.Common.{map, ap, ◌∙◌, arith}
use Rattle.conversions.specs.Answers.{lane_answers}
use Rattle.conversions.proofs.ArrivalLemmas.{lists_more}
use Rattle.conversions.proofs.answers.answers_of.Goals as goal

pub overflow_cast-lane : goal.overflow_cast-lane
overflow_cast-lane c = omega (arith, c.loop-lane-test.true, c.requires)

pub loop-lane-preserved : goal.loop-lane-preserved
loop-lane-preserved c =
    ap (map (λ l. l.items)) c.in_ok-push.ensures.items
    ∙ lists_more (λ l. l.items) (lane_answers c.args.events.now) c.loop-lane.answers.items c.loop-lane.lane c.in_ok-lane_answers.field-0 c.loop-lane.invariant c.in_ok-lane_answers.ensures
