use Rattle.std.proofs.Common.{◌≡◌, nat_lt, filter}
use Rattle.std.specs.List.{range_with_len}
use Rattle.round_net.specs.Rows.{instance_of_rows}
use Rattle.cost_plan.specs.Parts.{before}
use Rattle.cost_plan.proofs.parts.busy_parts.Given as goal

abbrev pub invariant-loop-adapter : goal.invariant-loop-adapter
invariant-loop-adapter l = let net = instance_of_rows l.net in l.busy.items ≡ filter (λ a. nat_lt 0 (before net a net.stays)) (range_with_len 0 l.adapter)
