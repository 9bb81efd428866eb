use Rattle.std.proofs.Common.{[]}
use Rattle.wait_causes.specs.Tables.{AreGroups}
use Rattle.wait_causes.specs.declared.table.Grouping.TheVariants.{Device}
use Rattle.wait_causes.proofs.table.no_groups.Given as goal

abbrev pub invariant-loop-number : goal.invariant-loop-number
invariant-loop-number l = AreGroups Device l._number [] l.groups.items
