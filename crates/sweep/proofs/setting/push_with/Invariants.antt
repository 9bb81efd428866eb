use Rattle.std.proofs.Common.{◌≡◌, ◌++◌, ◌∷◌, map, take}
use Rattle.sweep.specs.Settings.{changes_of}
use Rattle.sweep.proofs.setting.push_with.Given as goal

abbrev pub invariant-loop-other : goal.invariant-loop-other
invariant-loop-other l = changes_of l.made.items ≡ changes_of l.initial.made.items ++ map (λ changes. l.change ∷ changes) (changes_of (take l.other-index l.others))
