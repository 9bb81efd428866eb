use Rattle.std.proofs.Common.{◌≡◌, arith}
use Rattle.round_net.specs.Instance.{rows}
use Rattle.round_net.specs.Rows.{instance_of_rows, live_of_rows}
use Rattle.what_if.specs.Tries.{tries_of}
use Rattle.what_if.proofs.TryLemmas.{flat_map-range, worth_trying-kept, worth_trying-done}
use Rattle.what_if.proofs.tries.worth_trying.Goals as goal

pub loop-row-preserved : goal.loop-row-preserved
loop-row-preserved c = flat_map-range (tries_of (instance_of_rows c.args.net.now) (live_of_rows c.args.net.now)) c.loop-row.row c.loop-row.tries.items c.push_tries.new.tries.items c.loop-row.invariant c.in_ok-push_tries.ensures

pub returns-clause-tries : goal.returns-clause-tries
returns-clause-tries c =
    let all : c.loop-row.row ≡ rows (instance_of_rows c.args.net.now) = omega (arith, c.rows-row-end.ensures.same) in
    worth_trying-done c.args.net.now c.loop-row.row c.loop-row.tries.items all c.loop-row.invariant

pub returns-clause-kept : goal.returns-clause-kept
returns-clause-kept c = rw (returns-clause-tries c) (worth_trying-kept c.args.net.now)
