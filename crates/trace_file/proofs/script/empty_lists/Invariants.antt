use Rattle.std.proofs.Common.{◌≡◌, [], map, replicate}
use Rattle.trace_file.proofs.script.empty_lists.Given as goal

abbrev pub invariant-loop : goal.invariant-loop
invariant-loop g l = map (λ x. x.items) l.lists.items ≡ replicate l.counter []
