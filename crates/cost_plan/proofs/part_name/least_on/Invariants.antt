use Rattle.std.proofs.Common.{◌≡◌, ℕ, ◌<◌, false}
use Rattle.round_net.specs.Rows.{instance_of_rows}
use Rattle.cost_plan.specs.Parts.{is_on}
use Rattle.cost_plan.proofs.part_name.least_on.Given as goal

abbrev pub invariant-loop-adapter : goal.invariant-loop-adapter
invariant-loop-adapter l = (b : ℕ) → b < l.adapter → is_on (instance_of_rows l.net) l.link b ≡ false
