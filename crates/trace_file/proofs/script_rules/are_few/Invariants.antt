use Rattle.std.proofs.Common.{◌≡◌, ◌+◌, length, take, sum_by}
use Rattle.trace_file.specs.Scenarios.{MAX_ROWS}
use Rattle.trace_file.proofs.script_rules.are_few.Given as goal

abbrev pub invariant-loop-list : goal.invariant-loop-list
invariant-loop-list g l = l.left + sum_by (λ x. length x.items) (take l.list-index l.lists) ≡ MAX_ROWS
