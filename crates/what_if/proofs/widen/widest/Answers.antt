use Rattle.std.proofs.Common.{refl, ◌∙◌}
use Rattle.what_if.specs.Caps.{widest}
use Rattle.what_if.proofs.CapLemmas.{widest_more}
use Rattle.what_if.proofs.widen.widest.Goals as goal

pub loop-change-init : goal.loop-change-init
unfolding widest
loop-change-init c = refl

pub loop-change-preserved : goal.loop-change-preserved
loop-change-preserved c =
    c.max-cap.ensures
    ∙ widest_more c.args.net.now.config c.args.own.now c.args.most c.loop-change.change-index c.loop-change.cap c.openings-openings.result c.widened.result _ c.loop-change-test.true c.loop-change.invariant (rw c.config.ensures.same at c.openings-openings.ensures) c.widened.ensures
