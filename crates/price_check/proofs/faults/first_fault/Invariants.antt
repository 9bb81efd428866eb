use Rattle.std.proofs.Common.{slice_index}
use Rattle.round_net.specs.Rows.{instance_of_rows}
use Rattle.price_check.specs.Faults.{IsFaultlessBelow}
use Rattle.price_check.specs.Tally.{IsTally}
use Rattle.price_check.proofs.faults.first_fault.Given as goal

abbrev pub invariant-loop-stay : goal.invariant-loop-stay
invariant-loop-stay l =
    let net = instance_of_rows l.net in
    let f = slice_index l.schedule in
    record {
      tally : IsTally net f l.counts l.stay;
      before : IsFaultlessBelow net f l.stay;
    }
