use Rattle.std.proofs.Common.{ℕ, ◌∙◌, ◌<◌, List, drop, sym, ap, subst, arith}
use Rattle.std.proofs.lemmas.List.{take_rest}
use Rattle.cost_plan.specs.Words.{instance_of_rows, live_of_rows, IsAdmissible, cost}
use Rattle.cost_plan.specs.Cells.{rounds_of}
use Rattle.cost_plan.specs.Residual.{changed_all}
use Rattle.cost_plan.proofs.CycleChangeLemmas.{IsAdmissible-changed_all, cost-changed_all}
use Rattle.cost_plan.proofs.best_plan.improve.Goals as goal

pub returns-clause-admissible : goal.returns-clause-admissible
returns-clause-admissible c =
    let net = instance_of_rows c.args.net.now in
    let rounds = c.args.working.now.rounds.items in
    let arcs = drop c.args.place c.args.path.now in
    let after = IsAdmissible-changed_all net (live_of_rows c.args.net.now) rounds arcs c.requires.sound c.requires.admissible (omega (arith, c.requires.working.long)) c.requires.residual c.requires.gains in
    subst (λ (rs : List ℕ). IsAdmissible net (rounds_of rs)) (sym (c.change_all.ensures.rounds ∙ ap (changed_all net rounds) (take_rest c.args.path.now c.args.place))) after

pub returns-clause-cheaper : goal.returns-clause-cheaper
returns-clause-cheaper c =
    let net = instance_of_rows c.args.net.now in
    let rounds = c.args.working.now.rounds.items in
    let arcs = drop c.args.place c.args.path.now in
    let after = cost-changed_all net (live_of_rows c.args.net.now) rounds arcs c.requires.sound c.requires.admissible (omega (arith, c.requires.working.long)) c.requires.residual c.requires.gains in
    subst (λ (rs : List ℕ). cost net (rounds_of rs) < cost net (rounds_of rounds)) (sym (c.change_all.ensures.rounds ∙ ap (changed_all net rounds) (take_rest c.args.path.now c.args.place))) after
