use Rattle.std.proofs.Common.{◌≡◌}
use Rattle.round_net.specs.Rows.{instance_of_rows}
use Rattle.cost_plan.specs.Parts.{before, IsPutIn}
use Rattle.cost_plan.proofs.part.put_rounds.Given as goal

abbrev pub invariant-loop-stay : goal.invariant-loop-stay
invariant-loop-stay l =
    let net = instance_of_rows l.net in
    record {
      next : l.next ≡ before net l.part.adapter l.stay;
      put : IsPutIn net l.part.adapter l.stay l.part.guess.rounds.items l.initial.rounds l.rounds;
    }
