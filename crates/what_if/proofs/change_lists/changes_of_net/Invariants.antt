use Rattle.std.proofs.Common.{◌≡◌, take}
use Rattle.std.specs.Prelude.{All}
use Rattle.round_net.specs.Rows.{instance_of_rows}
use Rattle.what_if.specs.Changes.{IsChangeOf, changes_in}
use Rattle.what_if.proofs.change_lists.changes_of_net.Given as goal

-- of the changes so far
abbrev pub invariant-loop-change : goal.invariant-loop-change
invariant-loop-change l = record {
  list : l.list.items ≡ changes_in (instance_of_rows l.net) (take l.change-index l.wanted);
  changes : All (IsChangeOf (instance_of_rows l.net)) l.list.items;
}
