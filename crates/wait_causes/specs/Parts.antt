-- what some stays waited, and what that cost
use Rattle.std.specs.Prelude.{ℕ, ◌+◌, ◌-◌, ◌*◌, ◌≤◌, List, [], ◌∷◌, length, map, sum_by, All, if◌then◌else◌, Some, None}
use Rattle.std.specs.Option.{option_map_or}
use Rattle.cam_types.specs.declared.limits.TheConstants.{MAX_WEIGHT}
use Rattle.wait_causes.specs.Words.{MAX_NET_ROUNDS, WaitCause, Error, Caller, AdapterFrozen, DeviceStopped, AdapterStopped, LinkStopped, DeviceFull, AdapterFull, LinkFull, NotAsked}
use Rattle.wait_causes.specs.declared.explained_stay.CauseRounds.{CauseRounds}
use Rattle.wait_causes.specs.Behind.{Behind, LessUrgent, Equal, MoreUrgent, FullBehind}
use Rattle.wait_causes.specs.Latencies.{latency_of}
use Rattle.wait_causes.specs.Ranks.{rank_below}
use Rattle.wait_causes.specs.Stays.{ExplainedStay}
use Rattle.wait_causes.specs.Origins.{Origin, Known}
use Rattle.wait_causes.specs.declared.origin.Origin.TheVariants as origin
pub use Rattle.wait_causes.specs.declared.kind.InputKind.{InputKind}
use Rattle.wait_causes.specs.declared.kind.InputKind.TheVariants.{Trace, Recording}
pub use Rattle.wait_causes.specs.declared.part.Measure.{Measure}
pub use Rattle.wait_causes.specs.declared.part.Measure.TheVariants.{Waited, Live, Pace, Best, Cost, Full}
use Rattle.wait_causes.specs.declared.part.CauseCosts.{CauseCosts}
use Rattle.wait_causes.specs.declared.part.BehindCosts.{BehindCosts}
pub use Rattle.wait_causes.specs.declared.part.Part.{Part}

-- the rounds of a cause
abbrev pub rounds_for : WaitCause → CauseRounds → ℕ
rounds_for Error n = n.error
rounds_for Caller n = n.caller
rounds_for AdapterFrozen n = n.adapter_frozen
rounds_for DeviceStopped n = n.device_stopped
rounds_for AdapterStopped n = n.adapter_stopped
rounds_for LinkStopped n = n.link_stopped
rounds_for DeviceFull n = n.device_full
rounds_for AdapterFull n = n.adapter_full
rounds_for LinkFull n = n.link_full
rounds_for NotAsked n = n.not_asked

-- the rounds behind less urgent, equal or more urgent ones
abbrev pub behind_for : Behind → FullBehind → ℕ
behind_for LessUrgent n = n.less_urgent
behind_for Equal n = n.equal
behind_for MoreUrgent n = n.more_urgent

-- the rounds that a stay waited
abbrev pub waited : ExplainedStay → ℕ
waited s = s.live - s.arrival

-- the rounds that it waits at the recorded pace, if they are known
abbrev pub waited_at_pace : ExplainedStay → ℕ
waited_at_pace s = option_map_or (λ pace. pace - s.arrival) s.pace 0

-- its rounds, its weighted rounds, those at the recorded pace, those of the best schedule, those of a cause, and those behind others
abbrev pub measure : Measure → ExplainedStay → ℕ
measure Waited s = waited s
measure Live s = s.weight * waited s
measure Pace s = s.weight * waited_at_pace s
measure Best s = s.weight * (s.best - s.arrival)
measure (Cost cause) s = s.weight * rounds_for cause s.rounds
measure (Full behind) s = s.weight * behind_for behind s.behind

-- the kind of what is explained
abbrev pub kind_of : Origin → InputKind
kind_of (origin.Trace past) = Trace
kind_of (origin.Recording r) = Recording

-- nearest rank: the least number of rounds that is enough; no input has more rounds than these
abbrev pub rank_of : ℕ → List ℕ → ℕ
rank_of thousandths waits = rank_below MAX_NET_ROUNDS thousandths waits

abbrev pub nearest_rank : ℕ → List ExplainedStay → ℕ
nearest_rank thousandths stays = rank_of thousandths (map waited stays)

-- no stay has a larger weight than there may be
abbrev pub IsLight : ExplainedStay → Type 0
IsLight s = s.weight ≤ MAX_WEIGHT

abbrev pub AreLight : List ExplainedStay → Type 0
AreLight stays = All IsLight stays

-- what each cause cost
abbrev pub costs_of : List ExplainedStay → CauseCosts
costs_of stays = record {
  error = sum_by (measure (Cost Error)) stays;
  caller = sum_by (measure (Cost Caller)) stays;
  adapter_frozen = sum_by (measure (Cost AdapterFrozen)) stays;
  device_stopped = sum_by (measure (Cost DeviceStopped)) stays;
  adapter_stopped = sum_by (measure (Cost AdapterStopped)) stays;
  link_stopped = sum_by (measure (Cost LinkStopped)) stays;
  device_full = sum_by (measure (Cost DeviceFull)) stays;
  adapter_full = sum_by (measure (Cost AdapterFull)) stays;
  link_full = sum_by (measure (Cost LinkFull)) stays;
  not_asked = sum_by (measure (Cost NotAsked)) stays;
}

-- what it cost to wait behind others
abbrev pub behind_costs : List ExplainedStay → BehindCosts
behind_costs stays = record {
  less_urgent = sum_by (measure (Full LessUrgent)) stays;
  equal = sum_by (measure (Full Equal)) stays;
  more_urgent = sum_by (measure (Full MoreUrgent)) stays;
}

-- the causes of a kind of input in the order in which they are tested
abbrev pub causes_of : InputKind → List WaitCause
causes_of Trace = Error ∷ Caller ∷ AdapterFrozen ∷ DeviceFull ∷ AdapterFull ∷ LinkFull ∷ NotAsked ∷ []
causes_of Recording = DeviceStopped ∷ AdapterStopped ∷ LinkStopped ∷ DeviceFull ∷ AdapterFull ∷ LinkFull ∷ NotAsked ∷ []

-- each with its cost
abbrev pub by_cause : InputKind → CauseCosts → List (WaitCause × ℕ)
by_cause Trace n =
    (Error, n.error)
    ∷ (Caller, n.caller)
    ∷ (AdapterFrozen, n.adapter_frozen)
    ∷ (DeviceFull, n.device_full)
    ∷ (AdapterFull, n.adapter_full)
    ∷ (LinkFull, n.link_full)
    ∷ (NotAsked, n.not_asked)
    ∷ []
by_cause Recording n =
    (DeviceStopped, n.device_stopped)
    ∷ (AdapterStopped, n.adapter_stopped)
    ∷ (LinkStopped, n.link_stopped)
    ∷ (DeviceFull, n.device_full)
    ∷ (AdapterFull, n.adapter_full)
    ∷ (LinkFull, n.link_full)
    ∷ (NotAsked, n.not_asked)
    ∷ []

-- all causes together, and those by which a row was full
abbrev pub all_costs : CauseCosts → ℕ
all_costs n = n.error + n.caller + n.adapter_frozen + n.device_stopped + n.adapter_stopped + n.link_stopped + n.device_full + n.adapter_full + n.link_full + n.not_asked

abbrev pub full_costs : CauseCosts → ℕ
full_costs n = n.device_full + n.adapter_full + n.link_full

-- behind others, all together
abbrev pub all_behind_costs : BehindCosts → ℕ
all_behind_costs n = n.less_urgent + n.equal + n.more_urgent

-- what these stays waited, and what that cost; the pace and the latency are there only if the input says them
unfoldable pub part_of : Known → List ExplainedStay → Part
part_of known stays = record {
  stays = length stays;
  waited = sum_by (measure Waited) stays;
  p50 = nearest_rank 500 stays;
  p90 = nearest_rank 900 stays;
  p99 = nearest_rank 990 stays;
  p999 = nearest_rank 999 stays;
  max = nearest_rank 1000 stays;
  live = sum_by (measure Live) stays;
  pace = if known.pace then Some (sum_by (measure Pace) stays) else None;
  best = sum_by (measure Best) stays;
  costs = costs_of stays;
  behind = behind_costs stays;
  latency = if known.completions then Some (latency_of stays) else None;
}
