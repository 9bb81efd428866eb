-- whose turn it is on a lane
use Rattle.std.specs.Prelude.{ℕ, List, Option, option_and_then, slice_get, option_map}
use Rattle.cam_types.specs.Topology.{Topology}
use Rattle.event_rules.specs.Head.{next}
use Rattle.event_rules.specs.declared.event.Event.{Event}
use Rattle.event_rules.specs.declared.passage.Passage.{Passage}

-- the CCB of the next stay of the lane's adapter
abbrev pub next_ccb : Topology → List Event → ℕ → Option ℕ
next_ccb c events lane = option_and_then (λ a. option_map (λ (p : Passage). p.ccb) (next c events a)) (slice_get c.lanes lane)
