use Rattle.std.proofs.Common.{ℕ, ◌≡◌, ◌<◌, ◌+◌, ◌∙◌, ap, arith, length, get_or}
use Rattle.std.proofs.lemmas.List.{get_or_read}
use Rattle.round_net.specs.Rows.{instance_of_rows}
use Rattle.cost_plan.specs.Cells.{cell, stands, rounds_of}
use Rattle.round_net.proofs.SumLemmas.{term-le-sum_below}
use Rattle.cost_plan.proofs.LoadLemmas.{part_load-le, IsWorkingSchedule-put}
use Rattle.cost_plan.proofs.working_schedule.put.Goals as goal

pub remove-requires-clause-some : goal.remove-requires-clause-some
remove-requires-clause-some c = λ resource r inside low.
    let net = instance_of_rows c.args.net.now in
    let rounds = c.args.working.now.rounds.items in
    let known : c.args.stay < length rounds = omega (arith, c.requires.working.long, c.requires.stay) in
    let now : c.index.result.now ≡ get_or rounds c.args.stay 0 = get_or_read rounds _ _ known c.index.ensures 0 in
    let one = term-le-sum_below net.stays c.args.stay (λ s. stands net resource r s (rounds_of rounds s)) c.requires.stay in
    let is = ap (λ (q : ℕ). stands net resource r c.args.stay q) now in
    omega (arith, c.requires.working.loads_are.counts resource r inside low)

pub add-requires-clause-room : goal.add-requires-clause-room
add-requires-clause-room c = λ resource r inside low.
    let net = instance_of_rows c.args.net.now in
    let few = part_load-le net (rounds_of c.args.working.now.rounds.items) net.stays resource r in
    omega (arith, c.requires.working.loads_are.counts resource r inside low, c.remove.ensures.counts resource r inside low, c.remove.ensures.few)

pub returns-clause-working : goal.returns-clause-working
returns-clause-working c =
    let net = instance_of_rows c.args.net.now in
    let rounds = c.args.working.now.rounds.items in
    let known : c.args.stay < length rounds = omega (arith, c.requires.working.long, c.requires.stay) in
    let now : c.index.result.now ≡ get_or rounds c.args.stay 0 = get_or_read rounds _ _ known c.index.ensures 0 in
    IsWorkingSchedule-put net rounds c.args.working.now.loads.items c.remove.new.loads.items c.add.new.loads.items c.args.stay c.args.round c.requires.stay c.requires.round (c.add.ensures.size ∙ c.remove.ensures.size)
    (λ resource r inside low. c.remove.ensures.counts resource r inside low ∙ ap (λ (q : ℕ). get_or c.remove.new.loads.items (cell net resource r) 0 + stands net resource r c.args.stay q) now)
    c.add.ensures.counts c.requires.working
