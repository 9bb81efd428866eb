use Rattle.std.proofs.Common.{◌≡◌, ◌*◌, ◌+◌, drop}
use Rattle.round_net.specs.Rows.{instance_of_rows}
use Rattle.cost_plan.specs.Parts.{resources_before, HasPotentials}
use Rattle.cost_plan.proofs.part.put_potentials.Given as goal

abbrev pub invariant-loop-resource : goal.invariant-loop-resource
invariant-loop-resource l =
    let net = instance_of_rows l.net in
    record {
      rest : l.rest ≡ drop (resources_before net l.part.adapter l.resource * (net.rounds + 1)) l.part.guess.potentials.items;
      put : HasPotentials net l.part.adapter l.resource l.part.guess.potentials.items l.initial.potentials l.potentials;
    }
