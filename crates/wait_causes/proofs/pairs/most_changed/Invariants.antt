use Rattle.std.proofs.Common.{take}
use Rattle.wait_causes.specs.Changes.{IsMostChanged}
use Rattle.wait_causes.proofs.pairs.most_changed.Given as goal

abbrev pub invariant-loop-row : goal.invariant-loop-row
invariant-loop-row l = IsMostChanged (take l.row-index l.rows) l.most
