use Rattle.std.proofs.Common.{◌≡◌, length}
use Rattle.shortest_paths.proofs.answer.potentials.Given as goal

abbrev pub invariant-loop-number : goal.invariant-loop-number
invariant-loop-number l = length l.potentials.items ≡ l.number
