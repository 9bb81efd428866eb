use Rattle.std.proofs.Common.{Option, ℕ, sym, subst}
use Rattle.round_net.specs.Rows.{instance_of_rows}
use Rattle.cost_plan.specs.WorkingSchedule.{schedule_of}
use Rattle.cost_plan.specs.Raising.{Raises}
use Rattle.cost_plan.proofs.RaisingLemmas.{Raises-then}
use Rattle.cost_plan.proofs.relax.relax_all.Goals as goal

pub returns-clause-raises : goal.returns-clause-raises
returns-clause-raises c =
    let net = instance_of_rows c.args.net.now in
    let f = schedule_of c.args.working.now in
    let both = Raises-then net f c.args.potentials.now c.relax_stays-moved.new.potentials c.relax_resources.new.potentials c.relax_stays-moved.result c.relax_resources.result c.relax_stays-moved.ensures.raises c.relax_resources.ensures.raises in
    subst (λ (found : Option ℕ). Raises net f c.args.potentials.now c.relax_resources.new.potentials found) (sym c.or.ensures) both
