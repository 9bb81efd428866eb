use Rattle.std.proofs.Common.{◌≡◌, take}
use Rattle.round_net.specs.Rows.{instance_of_rows}
use Rattle.what_if.specs.Costs.{AreChanges, changes_of_each, lists_in}
use Rattle.what_if.proofs.change_lists.lists_of_net.Given as goal

-- of the lists so far
abbrev pub invariant-loop-list : goal.invariant-loop-list
invariant-loop-list l = record {
  lists : changes_of_each l.lists.items ≡ lists_in (instance_of_rows l.net) (take l.list-index l.wanted);
  changes : AreChanges (instance_of_rows l.net) l.lists.items;
}
