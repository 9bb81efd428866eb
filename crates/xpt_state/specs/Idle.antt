-- why a lane of an adapter has nothing to send
use Rattle.std.specs.Prelude.{ℕ, ◌==◌, Bool, not, ◌&&◌, ◌||◌, if◌then◌else◌, List, [], ◌∷◌, Option, Some, None, is_some}
use Rattle.std.specs.List.{list_any, list_all}
use Rattle.xpt_state.specs.Words.{first_answer, Topology, freeze_count, adapter_freezes, first, is_on, devices, has_opening, adapter_has_opening, link_has_opening, Event}
pub use Rattle.xpt_state.specs.declared.idle.Idle.{Idle}
pub use Rattle.xpt_state.specs.declared.idle.Idle.TheVariants.{Empty, AdapterFrozen, AdapterBusy, DevicesHeld}

-- the device is on the adapter, and a stay is queued at it
abbrev pub has_stay_on : Topology → List Event → ℕ → ℕ → Bool
has_stay_on c events a d = is_on c a d && is_some (first events d)

-- the device is frozen, or without opening in this round
abbrev pub is_held_back : Topology → List Event → ℕ → Bool
is_held_back c events d = not (freeze_count events d == 0) || not (has_opening c events d)

-- the adapter takes one more command in this round: an opening of it is left, and of its link, if it is on one
abbrev pub takes_more : Topology → List Event → ℕ → Bool
takes_more c events a = adapter_has_opening c events a && link_has_opening c events a

-- Each cause stands beside its name, in the order of testing.
abbrev pub idle_causes : Topology → List Event → ℕ → List (Bool × Idle)
idle_causes c events a =
    (not (list_any (has_stay_on c events a) (devices c)), Empty)
    ∷ (not (adapter_freezes events a == 0), AdapterFrozen)
    ∷ (not (takes_more c events a), AdapterBusy)
    ∷ (list_all (λ d. not (has_stay_on c events a d) || is_held_back c events d) (devices c), DevicesHeld)
    ∷ []

-- the name, where the cause holds
abbrev pub idle_named : Bool × Idle → Option Idle
idle_named m = if m.0 then Some m.1 else None

-- the first cause that holds
abbrev pub idle : Topology → List Event → ℕ → Option Idle
idle c events a = first_answer idle_named (idle_causes c events a)

-- the cause by three tests: a stay is queued, no freeze of the adapter holds, and it takes one more command
abbrev pub idle_by : Bool → Bool → Bool → Idle
idle_by queued free left =
    if not queued then Empty
    else if not free then AdapterFrozen
    else if not left then AdapterBusy
    else DevicesHeld
