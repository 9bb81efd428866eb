use Rattle.std.proofs.Common.{refl, subst, sym, List, ◌∙◌}
use Rattle.wait_causes.specs.Origins.{cause_of}
use Rattle.wait_causes.specs.Waits.{AreBegun, Wait}
use Rattle.wait_causes.proofs.WaitLemmas.{begun_first}
use Rattle.wait_causes.proofs.wait.waits_in.Goals as goal

pub loop-more-init : goal.loop-more-init
loop-more-init c =
    subst (λ (ws : List Wait). AreBegun (cause_of c.args.origin.now c.args.device) c.args.arrival 1 ws c.begun-wait.result) (sym c.new-waits.ensures.items)
    (begun_first (cause_of c.args.origin.now c.args.device) c.args.arrival c.begun-wait.result (c.begun-wait.ensures ∙ rw c.cause.ensures refl))

pub loop-more-preserved : goal.loop-more-preserved
loop-more-preserved c =
    c.in_ok-wait.ensures (cause_of c.args.origin.now c.args.device) c.args.arrival c.loop-more.more c.cause-cause.ensures refl c.loop-more.invariant
