use Rattle.std.proofs.Common.{ℕ, ◌≡◌, ◌<◌, ◌≤◌, ◌*◌, ◌/◌, sym, subst, arith, length, get_or}
use Rattle.std.proofs.lemmas.List.{get_or_read}
use Rattle.cost_plan.specs.Words.{instance_of_rows, live_of_rows}
use Rattle.cost_plan.specs.Cells.{node_count}
use Rattle.cost_plan.specs.WorkingSchedule.{schedule_of}
use Rattle.cost_plan.proofs.NodeLemmas.{up-le}
use Rattle.cost_plan.proofs.arcs.moving.Goals as goal

pub returns-clause-up : goal.returns-clause-up
returns-clause-up c =
    let net = instance_of_rows c.args.net.now in
    let rounds = c.args.working.now.rounds.items in
    let inside : c.args.stay < length rounds = omega (arith, c.requires.working.long) in
    let now : c.index-now.result.now ≡ get_or rounds c.args.stay 0 = get_or_read rounds _ _ inside c.index-now.ensures 0 in
    let few = up-le net (live_of_rows c.args.net.now) c.args.stay (schedule_of c.args.working.now c.args.stay) c.node.ensures.sound c.requires.stay (c.requires.working.within c.args.stay c.requires.stay) in
    subst (λ (w : ℕ). w * c.index-now.result.now * node_count net ≤ net.max_price / 4) (sym c.weight-weight.ensures.same) (subst (λ (r : ℕ). net.weight c.args.stay * r * node_count net ≤ net.max_price / 4) (sym now) few)
