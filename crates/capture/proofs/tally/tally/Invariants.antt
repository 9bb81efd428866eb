use Rattle.std.proofs.Common.{◌==◌, take, count_by}
use Rattle.capture.specs.Loads.{IsRow}
use Rattle.capture.proofs.tally.tally.Given as goal

-- how often each round is among those so far
abbrev pub invariant-loop-round : goal.invariant-loop-round
invariant-loop-round l = IsRow (λ round. count_by (λ n. n == round) (take l.round-index l.rounds)) l.last l.row.items
