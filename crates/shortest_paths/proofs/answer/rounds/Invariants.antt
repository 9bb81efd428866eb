use Rattle.std.proofs.Common.{◌≡◌, length}
use Rattle.shortest_paths.proofs.answer.rounds.Given as goal

abbrev pub invariant-loop-stay : goal.invariant-loop-stay
invariant-loop-stay l = (length l.rounds.items ≡ l.stay-index) × (length l.stay-items ≡ length l.problem.stays.items)
