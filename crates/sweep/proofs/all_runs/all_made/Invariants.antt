use Rattle.std.proofs.Common.{◌≡◌, map, take, Some}
use Rattle.sweep.proofs.all_runs.all_made.Given as goal

abbrev pub invariant-loop-tally : goal.invariant-loop-tally
invariant-loop-tally l = map Some l.all.items ≡ take l.tally-index l.made
