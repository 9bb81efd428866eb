use Rattle.std.proofs.Common.{◌≡◌, ◌++◌, length}
use Rattle.std.specs.Vec.Iter.{into_iter_items, into_iter_len}
use Rattle.round_net.specs.Rows.{instance_of_rows}
use Rattle.cost_plan.specs.Cells.{node_count}
use Rattle.cost_plan.specs.Parts.{AreAllPut}
use Rattle.cost_plan.proofs.parts.put_all.Given as goal

-- what was put in so far
abbrev pub invariant-loop-part : goal.invariant-loop-part
invariant-loop-part l =
    let net = instance_of_rows l.net in
    record {
      rounds : length l.rounds.items ≡ net.stays;
      potentials : length l.potentials.items ≡ node_count net;
      put : AreAllPut net l.yielded l.fn.rounds.items l.fn.potentials.items l.rounds.items l.potentials.items;
      left : into_iter_len l.part-iterator ≡ length (into_iter_items l.part-iterator);
      rest : l.yielded ++ into_iter_items l.part-iterator ≡ l.fn.parts.items;
    }
