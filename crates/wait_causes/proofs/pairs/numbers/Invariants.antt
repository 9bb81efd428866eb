use Rattle.std.proofs.Common.{◌≡◌, ◌≤◌, ◌^◌, take}
use Rattle.wait_causes.specs.Pairs.{numbers}
use Rattle.wait_causes.proofs.pairs.numbers.Given as goal

abbrev pub invariant-loop-row : goal.invariant-loop-row
invariant-loop-row l = (l.most ≡ numbers (take l.row-index l.rows)) × (l.most ≤ 2 ^ 32)
