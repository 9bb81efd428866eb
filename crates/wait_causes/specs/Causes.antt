-- why the stays of a history waited: what held where each round ended
use Rattle.std.specs.Prelude.{ℕ, ◌-◌, List, slice_get}
use Rattle.std.specs.Option.{option_map_or}
use Rattle.wait_causes.specs.Words.{Topology, Event, round_ends, cause_at, WaitCause, NotAsked}

-- what held them up in a round that ended
unfoldable pub round_cause : Topology → List Event → ℕ → ℕ → WaitCause
round_cause c events d r = option_map_or (λ before. cause_at c before d) (slice_get (round_ends events) (r - 1)) NotAsked
