use Rattle.std.proofs.Common.{take}
use Rattle.wait_causes.specs.Tables.{AreGroups}
use Rattle.wait_causes.proofs.table.groups_of.Given as goal

abbrev pub invariant-loop-stay : goal.invariant-loop-stay
invariant-loop-stay l = AreGroups l.by l.count (take l.stay-index l.stays) l.groups.items
