use Rattle.std.proofs.Common.{◌≡◌, take}
use Rattle.sweep.specs.Changes.{changed_adapters}
use Rattle.sweep.proofs.config.changed_adapters.Given as goal

abbrev pub invariant-loop-number : goal.invariant-loop-number
invariant-loop-number l = l.all.items ≡ changed_adapters l.changes 0 (take l.number l.adapters)
