use Rattle.std.proofs.Common.{Option, ℕ, sym, subst}
use Rattle.round_net.specs.Rows.{instance_of_rows}
use Rattle.cost_plan.specs.WorkingSchedule.{schedule_of}
use Rattle.cost_plan.specs.Raising.{Raises}
use Rattle.cost_plan.proofs.RaisingLemmas.{Raises-then}
use Rattle.cost_plan.proofs.relax.relax_cell.Goals as goal

pub returns-clause-raises : goal.returns-clause-raises
returns-clause-raises c =
    let net = instance_of_rows c.args.net.now in
    let f = schedule_of c.args.working.now in
    let both = Raises-then net f c.args.potentials.now c.relax_take-taken.new.potentials c.relax_give.new.potentials c.relax_take-taken.result c.relax_give.result c.relax_take-taken.ensures.raises c.relax_give.ensures.raises in
    subst (λ (found : Option ℕ). Raises net f c.args.potentials.now c.relax_give.new.potentials found) (sym c.or.ensures) both
