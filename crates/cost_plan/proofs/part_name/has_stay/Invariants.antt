use Rattle.std.proofs.Common.{◌≡◌}
use Rattle.round_net.specs.Rows.{instance_of_rows}
use Rattle.cost_plan.specs.Parts.{before}
use Rattle.cost_plan.proofs.part_name.has_stay.Given as goal

abbrev pub invariant-loop-stay : goal.invariant-loop-stay
invariant-loop-stay l = before (instance_of_rows l.net) l.part l.stay ≡ 0
