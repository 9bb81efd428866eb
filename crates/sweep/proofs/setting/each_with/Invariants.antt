use Rattle.std.proofs.Common.{◌≡◌, ◌∷◌, map, take}
use Rattle.std.specs.List.{flat_map}
use Rattle.sweep.specs.Settings.{Change, changes_of}
use Rattle.sweep.proofs.setting.each_with.Given as goal

abbrev pub invariant-loop-openings : goal.invariant-loop-openings
invariant-loop-openings l =
    changes_of l.made.items ≡ flat_map (λ n. map (λ changes. record { place = l.choice.place; openings = n } ∷ changes) (changes_of l.others)) (take l.openings-index l.openings-items)
