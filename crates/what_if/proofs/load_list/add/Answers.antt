use Rattle.std.proofs.Common.{◌≡◌, ◌==◌, ◌+◌, ◌∙◌, cond, sym, arith, slice_index}
use Rattle.round_net.specs.Instance.{adapter, adapter_resource, link_resource}
use Rattle.round_net.specs.Rows.{cell, instance_of_rows}
use Rattle.round_net.proofs.LoadListLemmas.{one_at_most, cells_with, cells_without}
use Rattle.what_if.proofs.load_list.add.Goals as goal

pub count-requires-clause-few : goal.count-requires-clause-few
count-requires-clause-few c = λ at. omega (arith, c.requires.few at, c.requires.small)

pub count-requires-2-clause-few : goal.count-requires-2-clause-few
count-requires-2-clause-few c = λ at.
    let one = one_at_most (cell (instance_of_rows c.args.net.now).rounds c.device.result c.args.round == at) in
    omega (arith, c.requires.few at, c.count.ensures.counted at, c.requires.small)

pub count-requires-in-Some-clause-few : goal.count-requires-in-Some-clause-few
count-requires-in-Some-clause-few c = λ at.
    let one = one_at_most (cell (instance_of_rows c.args.net.now).rounds c.device.result c.args.round == at) in
    let other = one_at_most (cell (instance_of_rows c.args.net.now).rounds c.adapter_resource.result c.args.round == at) in
    omega (arith, c.requires.few at, c.count.ensures.counted at, c.count-2.ensures.counted at, c.requires.small)

pub returns-in-Some-clause-each : goal.returns-in-Some-clause-each
returns-in-Some-clause-each c = λ at.
    let net = instance_of_rows c.args.net.now in
    let s = c.args.stay in
    let first : slice_index c.count.new.counts at ≡ slice_index c.args.counts.now at + cond (cell net.rounds (net.device s) c.args.round == at) 1 0 = rw c.device.ensures.same at (c.count.ensures.counted at) in
    let second : slice_index c.count-2.new.counts at ≡ slice_index c.count.new.counts at + cond (cell net.rounds (adapter_resource net (adapter net s)) c.args.round == at) 1 0 = rw (c.adapter_resource.ensures.same, c.adapter.ensures.same) at (c.count-2.ensures.counted at) in
    let third : slice_index c.count-in-Some.new.counts at ≡ slice_index c.count-2.new.counts at + cond (cell net.rounds (link_resource net c.in-Some.link) c.args.round == at) 1 0 = rw c.link_resource.ensures.same at (c.count-in-Some.ensures.counted at) in
    let all = cells_with net s c.args.round at c.in-Some.link (sym c.link.ensures.same ∙ c.in-Some.is) in
    omega arith

pub returns-in-Some-clause-few : goal.returns-in-Some-clause-few
returns-in-Some-clause-few c = λ at.
    let net = instance_of_rows c.args.net.now in
    let one = one_at_most (cell net.rounds c.device.result c.args.round == at) in
    let other = one_at_most (cell net.rounds c.adapter_resource.result c.args.round == at) in
    let third = one_at_most (cell net.rounds c.link_resource.result c.args.round == at) in
    omega (arith, c.requires.few at, c.count.ensures.counted at, c.count-2.ensures.counted at, c.count-in-Some.ensures.counted at)

pub returns-in-None-clause-each : goal.returns-in-None-clause-each
returns-in-None-clause-each c = λ at.
    let net = instance_of_rows c.args.net.now in
    let s = c.args.stay in
    let first : slice_index c.count.new.counts at ≡ slice_index c.args.counts.now at + cond (cell net.rounds (net.device s) c.args.round == at) 1 0 = rw c.device.ensures.same at (c.count.ensures.counted at) in
    let second : slice_index c.count-2.new.counts at ≡ slice_index c.count.new.counts at + cond (cell net.rounds (adapter_resource net (adapter net s)) c.args.round == at) 1 0 = rw (c.adapter_resource.ensures.same, c.adapter.ensures.same) at (c.count-2.ensures.counted at) in
    let all = cells_without net s c.args.round at (sym c.link.ensures.same ∙ c.in-None.is) in
    omega arith

pub returns-in-None-clause-few : goal.returns-in-None-clause-few
returns-in-None-clause-few c = λ at.
    let net = instance_of_rows c.args.net.now in
    let one = one_at_most (cell net.rounds c.device.result c.args.round == at) in
    let other = one_at_most (cell net.rounds c.adapter_resource.result c.args.round == at) in
    omega (arith, c.requires.few at, c.count.ensures.counted at, c.count-2.ensures.counted at)
