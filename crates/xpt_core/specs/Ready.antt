-- what a choice among devices asks of each
use Rattle.std.specs.Prelude.{ℕ, if◌then◌else◌, List, Option, None, option_map}
use Rattle.xpt_core.specs.Words.{Topology, first, is_ready, Event, Passage}

-- the priority of the device's first stay, where the device is ready
abbrev pub ready_priority : Topology → List Event → ℕ → Option ℕ
ready_priority c events d =
    if is_ready c events d then option_map (λ (p : Passage). p.priority) (first events d) else None
