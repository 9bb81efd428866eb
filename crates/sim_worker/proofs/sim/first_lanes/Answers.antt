use Rattle.std.proofs.Common.{ℕ, ◌+◌, ◌∙◌, arith, ap, List, length, length-append, refl, subst, sym}
use Rattle.sim_worker.specs.Work.{AreFresh, Lane}
use Rattle.sim_worker.proofs.OpenLemmas.{fresh_more}
use Rattle.event_rules.proofs.LaneCount.{few_lanes}
use Rattle.sim_worker.proofs.sim.first_lanes.Goals as goal

pub overflow_cast-number : goal.overflow_cast-number
overflow_cast-number c = omega (arith, c.loop-at-test.true, few_lanes _ c.lanes-count.ensures.kept, ap (λ (ls : List ℕ). length ls) c.lanes-count.ensures.same)

pub loop-at-preserved : goal.loop-at-preserved
loop-at-preserved c =
    let more = c.in_ok-push.ensures.items in
    record {
      len = ap (λ (ls : List Lane). length ls) more ∙ length-append c.loop-at.lanes.items _ ∙ ap (λ n. n + 1) c.loop-at.invariant.len;
      fresh = subst (AreFresh c.args.script.now) (sym more) (fresh_more c.args.script.now c.loop-at.lanes.items _ (sym c.loop-at.invariant.len) c.in_ok-port.ensures.answers c.in_ok-port.ensures.served refl c.loop-at.invariant.fresh);
    }
