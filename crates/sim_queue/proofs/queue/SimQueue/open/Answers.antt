use Rattle.std.proofs.Common.{arith}
use Rattle.sim_queue.proofs.RowLemmas.{AreRows-new}
use Rattle.sim_queue.proofs.TurnLemmas.{IsInTurn-new}
use Rattle.sim_queue.proofs.queue.SimQueue.open.Goals as goal

pub invariant_of-result : goal.invariant_of-result
invariant_of-result c =
    let rows = c.in_ok-new_rows.field-0.items in
    record {
      in_turn = IsInTurn-new rows c.in_ok-with_capacity.field-0 c.args.devices.now 0 (AreRows-new rows c.args.devices.now c.in_ok-new_rows.ensures.rows c.in_ok-new_rows.ensures.numbers c.requires)
          c.in_ok-new_rows.ensures.rows c.in_ok-with_capacity.ensures;
      few_freezes = omega arith;
    }
