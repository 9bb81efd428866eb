-- which choices are refused
use Rattle.std.specs.Prelude.{ℕ, ◌==◌, ◌≤◌, Bool, false, not, if◌then◌else◌, List, length, Option, Some, None}
use Rattle.std.specs.List.{list_any, list_all, AllByRecursion}
use Rattle.cam_types.specs.Lists.{prefixed, first_answer}
use Rattle.cam_types.specs.Topology.{Topology, are_openings}
use Rattle.cam_types.specs.Questions.{names_device, names_adapter}
use Rattle.sweep.specs.Settings.{Place, Change, Choice}
use Rattle.sweep.specs.declared.setting.Place.TheVariants as place
pub use Rattle.sweep.specs.declared.choices.ChoiceFault.{ChoiceFault}
pub use Rattle.sweep.specs.declared.choices.ChoiceFault.TheVariants.{NoPlace, Twice, NoOpenings, BadOpenings}

-- the configuration has the device or the adapter
abbrev pub names_place : Topology → Place → Bool
names_place c (place.Device d) = names_device c d
names_place c (place.Adapter a) = names_adapter c a

abbrev pub is_same_place : Place → Place → Bool
is_same_place (place.Device d) (place.Device e) = d == e
is_same_place (place.Device d) (place.Adapter b) = false
is_same_place (place.Adapter a) (place.Device e) = false
is_same_place (place.Adapter a) (place.Adapter b) = a == b

-- the first rule that a choice breaks, after those before it
abbrev pub choice_fault : Topology → List Choice × Choice → Option ChoiceFault
choice_fault c m =
    if not (names_place c m.1.place) then Some NoPlace
    else if list_any (λ (other : Choice). is_same_place other.place m.1.place) m.0 then Some Twice
    else if length m.1.openings.items == 0 then Some NoOpenings
    else if not (list_all are_openings m.1.openings.items) then Some BadOpenings
    else None

-- the first rule that choices break
abbrev pub choices_fault : Topology → List Choice → Option ChoiceFault
choices_fault c choices = first_answer (choice_fault c) (prefixed choices)

-- each choice has a number to take
abbrev pub HaveSome : List Choice → Type 0
HaveSome choices = AllByRecursion (λ (choice : Choice). 1 ≤ length choice.openings.items) choices

-- each change gives openings that a device or an adapter may have
abbrev pub are_open : List Change → Bool
are_open changes = list_all (λ (change : Change). are_openings change.openings) changes
