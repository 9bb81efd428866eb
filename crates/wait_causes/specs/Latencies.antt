-- how long requests took
use Rattle.std.specs.Prelude.{ℕ, ◌-◌, List, length, Option}
use Rattle.std.specs.List.{filter_map}
use Rattle.std.specs.Option.{option_map}
use Rattle.wait_causes.specs.Ranks.{rank_below}
use Rattle.wait_causes.specs.Stays.{ExplainedStay}
pub use Rattle.wait_causes.specs.declared.latency.TheConstants.{MAX_LATENCY}
pub use Rattle.wait_causes.specs.declared.latency.Latency.{Latency}

-- the rounds from the one of a stay's arrival to that of its completion, if it has one
abbrev pub latency : ExplainedStay → Option ℕ
latency s = option_map (λ done. done - s.arrival) s.done

-- those of some stays
abbrev pub latencies : List ExplainedStay → List ℕ
latencies stays = filter_map latency stays

-- how many have a completion, and these numbers by nearest rank
unfoldable pub latency_of : List ExplainedStay → Latency
latency_of stays = record {
  stays = length (latencies stays);
  p50 = rank_below MAX_LATENCY 500 (latencies stays);
  p90 = rank_below MAX_LATENCY 900 (latencies stays);
  p99 = rank_below MAX_LATENCY 990 (latencies stays);
  p999 = rank_below MAX_LATENCY 999 (latencies stays);
  max = rank_below MAX_LATENCY 1000 (latencies stays);
}
