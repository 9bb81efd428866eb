-- limits of latency: how many requests took longer, and by what
use Rattle.std.specs.Prelude.{ℕ, ◌+◌, ◌-◌, ◌*◌, Bool, not, ◌&&◌, nat_le, List, count_by, is_some, unwrap_or}
use Rattle.std.specs.Option.{option_map_or}
use Rattle.wait_causes.specs.Latencies.{latencies, MAX_LATENCY}
use Rattle.wait_causes.specs.Ranks.{rank_below}
use Rattle.wait_causes.specs.Stays.{ExplainedStay}
use Rattle.wait_causes.specs.Tables.{stays_of}
pub use Rattle.wait_causes.specs.declared.limit.StayChoice.{StayChoice}
use Rattle.wait_causes.specs.declared.limit.StayChoice.TheVariants.{All, Of}
pub use Rattle.wait_causes.specs.declared.limit.LatencyLimit.{LatencyLimit}
pub use Rattle.wait_causes.specs.declared.limit.LimitCounts.{LimitCounts}

-- the stays that a limit is for
abbrev pub chosen : StayChoice → List ExplainedStay → List ExplainedStay
chosen All stays = stays
chosen (Of by n) stays = stays_of by stays n

-- a stay has a completion
abbrev pub is_completed : ExplainedStay → Bool
is_completed s = is_some s.done

-- how many rounds it takes if it is sent in another round: its service stays as long as it was
abbrev pub rounds_if : ExplainedStay → ℕ → ℕ
rounds_if s sent = option_map_or (λ done. done - s.live + sent - s.arrival) s.done 0

-- so it is in time
abbrev pub is_in_time : LatencyLimit → ExplainedStay → ℕ → Bool
is_in_time limit s sent = nat_le (rounds_if s sent * limit.round) limit.most

-- its round at the recorded pace; where that isn't known, the one in which it was sent
abbrev pub pace_round : ExplainedStay → ℕ
pace_round s = unwrap_or s.pace s.live

-- it was completed, and took longer than the limit
abbrev pub is_over : LatencyLimit → ExplainedStay → Bool
is_over limit s = is_completed s && not (is_in_time limit s s.live)

-- in time by order alone, or else with idle slots used too, or not even so
abbrev pub is_by_order : LatencyLimit → ExplainedStay → Bool
is_by_order limit s = is_over limit s && is_in_time limit s (pace_round s)

abbrev pub is_by_slots : LatencyLimit → ExplainedStay → Bool
is_by_slots limit s = is_over limit s && (not (is_in_time limit s (pace_round s)) && is_in_time limit s s.best)

abbrev pub is_by_device : LatencyLimit → ExplainedStay → Bool
is_by_device limit s = is_over limit s && (not (is_in_time limit s (pace_round s)) && not (is_in_time limit s s.best))

-- how many of each there are, and whether as many in a thousand as asked are in time
unfoldable pub counts_of : LatencyLimit → List ExplainedStay → LimitCounts
counts_of limit stays = record {
  requests = count_by is_completed stays;
  over = count_by (is_over limit) stays;
  by_order = count_by (is_by_order limit) stays;
  by_slots = count_by (is_by_slots limit) stays;
  device = count_by (is_by_device limit) stays;
  met = nat_le (rank_below MAX_LATENCY limit.thousandths (latencies stays) * limit.round) limit.most;
}

-- of the stays that it is for
abbrev pub limit_counts : LatencyLimit → List ExplainedStay → LimitCounts
limit_counts limit stays = counts_of limit (chosen limit.of stays)
