use Rattle.std.proofs.Common.{◌≡◌, drop}
use Rattle.cam_types.specs.Weights.{weight_in}
use Rattle.cam_types.proofs.weight_row.weight_in.Given as goal

-- the rows that are left give the answer
abbrev pub invariant-loop-row : goal.invariant-loop-row
invariant-loop-row l = weight_in (drop l.row-index l.rows) l.priority ≡ weight_in l.rows l.priority
