use Rattle.std.proofs.Common.{◌≡◌, map, take, Some}
use Rattle.what_if.proofs.rows.all_made.Given as goal

abbrev pub invariant-loop-costs : goal.invariant-loop-costs
invariant-loop-costs l = map Some l.all.items ≡ take l.costs-index l.made
