use Rattle.std.proofs.Common.{◌≡◌, ◌<◌, ◌≤◌, ◌^◌, ◌==◌, ◌+◌, ◌∙◌, cond, sym, arith, slice_index}
use Rattle.round_net.specs.Instance.{adapter, adapter_resource, link_resource}
use Rattle.round_net.specs.Rows.{cell, instance_of_rows, live_of_rows}
use Rattle.round_net.proofs.LoadListLemmas.{one_at_most, cells_with, cells_without}
use Rattle.round_net.proofs.PathLemmas.{uses-device, uses-adapter, uses-link}
use Rattle.orders.proofs.RoomLemmas.{few_at, counted_once}
use Rattle.orders.proofs.loads.place.Goals as goal

pub count-requires-clause-few : goal.count-requires-clause-few
count-requires-clause-few c =
    let net = instance_of_rows c.args.net.now in
    let room = c.requires.room (omega (arith, c.rounds.ensures.same)) in
    let few : slice_index c.args.loads.now (cell net.rounds (net.device c.args.stay) c.args.round) < 2 ^ 31 = omega (arith, few_at net (live_of_rows c.args.net.now) c.args.loads.now c.args.stay c.args.round (net.device c.args.stay) c.rounds.ensures.sound room (uses-device net c.args.stay)) in
    rw c.device.ensures.same few

pub count-requires-2-clause-few : goal.count-requires-2-clause-few
count-requires-2-clause-few c =
    let net = instance_of_rows c.args.net.now in
    let s = c.args.stay in
    let row = adapter_resource net (adapter net s) in
    let at = cell net.rounds row c.args.round in
    let room = c.requires.room (omega (arith, c.rounds.ensures.same)) in
    let few = few_at net (live_of_rows c.args.net.now) c.args.loads.now s c.args.round row c.rounds.ensures.sound room (uses-adapter net s) in
    let one = one_at_most (cell net.rounds c.device.result c.args.round == at) in
    let small : slice_index c.count.new.loads at < 2 ^ 31 = omega (arith, few, c.count.ensures.counted at) in
    rw (c.adapter_resource.ensures.same, c.adapter.ensures.same) small

pub count-requires-in-Some-clause-few : goal.count-requires-in-Some-clause-few
count-requires-in-Some-clause-few c =
    let net = instance_of_rows c.args.net.now in
    let s = c.args.stay in
    let row = link_resource net c.in-Some.link in
    let at = cell net.rounds row c.args.round in
    let room = c.requires.room (omega (arith, c.rounds.ensures.same)) in
    let few = few_at net (live_of_rows c.args.net.now) c.args.loads.now s c.args.round row c.rounds.ensures.sound room (uses-link net s c.in-Some.link (sym c.link.ensures.same ∙ c.in-Some.is)) in
    let one = one_at_most (cell net.rounds c.device.result c.args.round == at) in
    let other = one_at_most (cell net.rounds c.adapter_resource.result c.args.round == at) in
    let small : slice_index c.count-2.new.loads at < 2 ^ 31 = omega (arith, few, c.count.ensures.counted at, c.count-2.ensures.counted at) in
    rw c.link_resource.ensures.same small

pub returns-in-Some-clause-each : goal.returns-in-Some-clause-each
returns-in-Some-clause-each c = λ row r within first last.
    let net = instance_of_rows c.args.net.now in
    let s = c.args.stay in
    let at = cell net.rounds row r in
    let inside : c.args.round ≤ net.rounds = omega (arith, c.rounds.ensures.same) in
    let one : slice_index c.count.new.loads at ≡ slice_index c.args.loads.now at + cond (cell net.rounds (net.device s) c.args.round == at) 1 0 = rw c.device.ensures.same at (c.count.ensures.counted at) in
    let two : slice_index c.count-2.new.loads at ≡ slice_index c.count.new.loads at + cond (cell net.rounds (adapter_resource net (adapter net s)) c.args.round == at) 1 0 = rw (c.adapter_resource.ensures.same, c.adapter.ensures.same) at (c.count-2.ensures.counted at) in
    let three : slice_index c.count-in-Some.new.loads at ≡ slice_index c.count-2.new.loads at + cond (cell net.rounds (link_resource net c.in-Some.link) c.args.round == at) 1 0 = rw c.link_resource.ensures.same at (c.count-in-Some.ensures.counted at) in
    let all = cells_with net s c.args.round at c.in-Some.link (sym c.link.ensures.same ∙ c.in-Some.is) in
    let once = counted_once net (live_of_rows c.args.net.now) s c.args.round row r c.rounds.ensures.sound c.requires.stay c.requires.first inside first last in
    omega arith

pub returns-in-None-clause-each : goal.returns-in-None-clause-each
returns-in-None-clause-each c = λ row r within first last.
    let net = instance_of_rows c.args.net.now in
    let s = c.args.stay in
    let at = cell net.rounds row r in
    let inside : c.args.round ≤ net.rounds = omega (arith, c.rounds.ensures.same) in
    let one : slice_index c.count.new.loads at ≡ slice_index c.args.loads.now at + cond (cell net.rounds (net.device s) c.args.round == at) 1 0 = rw c.device.ensures.same at (c.count.ensures.counted at) in
    let two : slice_index c.count-2.new.loads at ≡ slice_index c.count.new.loads at + cond (cell net.rounds (adapter_resource net (adapter net s)) c.args.round == at) 1 0 = rw (c.adapter_resource.ensures.same, c.adapter.ensures.same) at (c.count-2.ensures.counted at) in
    let all = cells_without net s c.args.round at (sym c.link.ensures.same ∙ c.in-None.is) in
    let once = counted_once net (live_of_rows c.args.net.now) s c.args.round row r c.rounds.ensures.sound c.requires.stay c.requires.first inside first last in
    omega arith
