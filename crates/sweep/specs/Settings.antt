-- which openings are changed in each run
use Rattle.std.specs.Prelude.{ℕ, List, [], ◌∷◌, map, flat_map}
pub use Rattle.sweep.specs.declared.setting.Place.{Place}
pub use Rattle.sweep.specs.declared.setting.Place.TheVariants.{Device, Adapter}
pub use Rattle.sweep.specs.declared.setting.Change.{Change}
pub use Rattle.sweep.specs.declared.setting.Choice.{Choice}
pub use Rattle.sweep.specs.declared.setting.Setting.{Setting}

-- the changes of each setting
abbrev pub changes_of : List Setting → List (List Change)
changes_of made = map (λ (s : Setting). s.changes.items) made

-- for each number of a choice, in order, each of these settings with it before its changes
abbrev pub with_first : Choice → List (List Change) → List (List Change)
with_first choice others = flat_map (λ n. map (λ changes. record { place = choice.place; openings = n } ∷ changes) others) choice.openings.items

-- all settings that choices make: the last choice varies fastest, and no choice makes the one that changes nothing
abbrev pub settings : List Choice → List (List Change)
settings [] = [] ∷ []
settings (choice ∷ rest) = with_first choice (settings rest)
