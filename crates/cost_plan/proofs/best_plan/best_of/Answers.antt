use Rattle.std.proofs.Common.{ℕ, ◌∙◌, List, sym, subst}
use Rattle.cost_plan.specs.Words.{potential_of, instance_of_rows, live_of_rows, ProvesBest, pricing_of_rows}
use Rattle.cost_plan.specs.Cells.{rounds_of}
use Rattle.cost_plan.specs.WorkingSchedule.{schedule_of}
use Rattle.cost_plan.proofs.PriceLemmas.{ProvesBest-from_potentials}
use Rattle.cost_plan.proofs.PricedLemmas.{ProvesBest-priced}
use Rattle.cost_plan.proofs.best_plan.best_of.Goals as goal

pub returns-clause-proved : goal.returns-clause-proved
returns-clause-proved c =
    let net = instance_of_rows c.args.net.now in
    let live = live_of_rows c.args.net.now in
    let f = schedule_of c.args.best.now.working in
    let potential = potential_of c.args.best.now.potentials in
    let proof = ProvesBest-priced net live f potential (pricing_of_rows c.in_ok-prices_of.field-0) c.requires.sound c.in_ok-prices_of.ensures.priced
    (ProvesBest-from_potentials net live f potential c.requires.sound c.requires.admissible c.requires.settled) in
    subst (λ (rounds : List ℕ). ProvesBest net (rounds_of rounds) (pricing_of_rows c.in_ok-prices_of.field-0)) (sym (c.in_ok-new.ensures ∙ c.deref.ensures.value)) proof
