use Rattle.std.proofs.Common.{◌+◌, ◌-◌}
use Rattle.price_check.specs.Words.{instance_of_rows, pricing_of_rows}
use Rattle.price_check.specs.Rests.{IsCheapest}
use Rattle.price_check.proofs.RestLemmas.{AreNoted}
use Rattle.price_check.proofs.rests.note_device.Given as goal

abbrev pub invariant-loop-passed : goal.invariant-loop-passed
invariant-loop-passed l =
    let net = instance_of_rows l.net in
    let p = pricing_of_rows l.prices in
    record {
      next : IsCheapest net p l.weight l.device (net.rounds - l.passed + 1) l.next;
      noted : AreNoted net p l.weight l.device (net.rounds - l.passed + 1) l.rests;
    }
