use Rattle.std.proofs.Common.{◌≡◌, map, take}
use Rattle.sweep.proofs.script.copy_of_steps.Given as goal

abbrev pub invariant-loop-list : goal.invariant-loop-list
invariant-loop-list l = map (λ v. v.items) l.all.items ≡ map (λ v. v.items) (take l.list-index l.lists)
