-- the stays of a history or a recording, each with the causes of its waiting, beside other schedules
use Rattle.std.specs.Prelude.{ℕ, ◌+◌, ◌-◌, List, length, map, zip, count_by, unwrap_or, Some, None}
use Rattle.std.specs.List.{filter_map, range_with_len}
use Rattle.std.specs.Option.{option_map_or}
use Rattle.cam_types.specs.Lists.{prefixed}
use Rattle.recording_file.specs.Recorded.{Recorded}
use Rattle.recording_file.specs.declared.request.Request.{Request}
use Rattle.wait_causes.specs.Words.{Topology, device_adapter, weight, run_level, round, submission, stays_begun, live_round, Event, Passage, Submission, StayRecord, is_cause, WaitCause, Error, Caller, AdapterFrozen, DeviceStopped, AdapterStopped, LinkStopped, DeviceFull, AdapterFull, LinkFull, NotAsked}
use Rattle.wait_causes.specs.Behind.{behind_in, behind_by, no_behind, FullBehind}
use Rattle.wait_causes.specs.Origins.{Origin, cause_of, instance_in, live_in}
use Rattle.wait_causes.specs.declared.origin.Origin.TheVariants as origin
use Rattle.wait_causes.specs.declared.explained_stay.CauseRounds.{CauseRounds}
pub use Rattle.wait_causes.specs.declared.explained_stay.ExplainedStay.{ExplainedStay}

-- how many of some rounds have each cause
abbrev pub rounds_by : List WaitCause → CauseRounds
rounds_by causes = record {
  error = count_by (is_cause Error) causes;
  caller = count_by (is_cause Caller) causes;
  adapter_frozen = count_by (is_cause AdapterFrozen) causes;
  device_stopped = count_by (is_cause DeviceStopped) causes;
  adapter_stopped = count_by (is_cause AdapterStopped) causes;
  link_stopped = count_by (is_cause LinkStopped) causes;
  device_full = count_by (is_cause DeviceFull) causes;
  adapter_full = count_by (is_cause AdapterFull) causes;
  link_full = count_by (is_cause LinkFull) causes;
  not_asked = count_by (is_cause NotAsked) causes;
}

-- all of them together
abbrev pub all_rounds : CauseRounds → ℕ
all_rounds n = n.error + n.caller + n.adapter_frozen + n.device_stopped + n.adapter_stopped + n.link_stopped + n.device_full + n.adapter_full + n.link_full + n.not_asked

-- those in which a row was full
abbrev pub full_rounds : CauseRounds → ℕ
full_rounds n = n.device_full + n.adapter_full + n.link_full

-- the rounds that a stay of a device waited from its arrival to the one before its send, by cause
abbrev pub rounds_waited : Origin → ℕ → ℕ → ℕ → CauseRounds
rounds_waited o d arrival live = rounds_by (map (cause_of o d) (range_with_len arrival (live - arrival)))

-- those of these in which a row was full, by what a stay of that weight waited behind
abbrev pub behind_waited : Origin → ℕ → ℕ → ℕ → ℕ → FullBehind
behind_waited o d w arrival live = behind_by (map (behind_in (instance_in o) (live_in o) (cause_of o) d w) (range_with_len arrival (live - arrival)))

-- a stay of a history, and the round in which the best schedule sends it
unfoldable pub explained_stay : Topology → List Event → Passage → ℕ → ExplainedStay
explained_stay c events p best = record {
  ccb = p.ccb;
  attempt = p.attempt;
  driver = option_map_or (λ (s : Submission). s.driver) (submission events p.ccb) 0;
  device = p.device;
  adapter = device_adapter c p.device;
  priority = p.priority;
  level = run_level p.priority;
  weight = weight c p.priority;
  arrival = p.arrival;
  live = live_round events p;
  pace = None;
  best = best;
  last = None;
  done = None;
  rounds = rounds_waited (origin.Trace (record { config = c; events = events })) p.device p.arrival (live_round events p);
  behind = behind_waited (origin.Trace (record { config = c; events = events })) p.device (weight c p.priority) p.arrival (live_round events p);
}

-- all stays in creation order, each beside that round
unfoldable pub explained_stays : Topology → List Event → List ℕ → List ExplainedStay
explained_stays c events best =
    map (λ (m : Passage × ℕ). explained_stay c events m.0 m.1) (zip (stays_begun events) best)

-- a request of a recording beside those before it, and the rounds in which the best schedule at the recorded pace starts it, and
-- the best one
unfoldable pub explained_request : Recorded → List Request × Request → ℕ × ℕ → ExplainedStay
explained_request r m others = record {
  ccb = length m.0;
  attempt = 0;
  driver = m.1.driver;
  device = m.1.device;
  adapter = device_adapter r.config m.1.device;
  priority = m.1.priority;
  level = run_level m.1.priority;
  weight = weight r.config m.1.priority;
  arrival = m.1.arrival;
  live = m.1.sent;
  pace = Some others.0;
  best = others.1;
  last = m.1.last;
  done = m.1.done;
  rounds = rounds_waited (origin.Recording r) m.1.device m.1.arrival m.1.sent;
  behind = behind_waited (origin.Recording r) m.1.device (weight r.config m.1.priority) m.1.arrival m.1.sent;
}

-- all requests in the order of the text, each beside these rounds
unfoldable pub explained_requests : Recorded → List ℕ → List ℕ → List ExplainedStay
explained_requests r pace best =
    map (λ (m : (List Request × Request) × (ℕ × ℕ)). explained_request r m.0 m.1) (zip (prefixed r.requests) (zip pace best))

-- the stays of either; a history has no pace
abbrev pub explained : Origin → List ℕ → List ℕ → List ExplainedStay
explained (origin.Trace past) pace best = explained_stays past.config past.events best
explained (origin.Recording r) pace best = explained_requests r pace best

-- the rounds at the recorded pace of the stays that have one
abbrev pub paces : List ExplainedStay → List ℕ
paces stays = filter_map (λ (s : ExplainedStay). s.pace) stays

-- no rounds, one more of a cause, and those that aren't among earlier ones
abbrev pub no_rounds : CauseRounds
no_rounds = record { error = 0; caller = 0; adapter_frozen = 0; device_stopped = 0; adapter_stopped = 0; link_stopped = 0; device_full = 0; adapter_full = 0; link_full = 0; not_asked = 0 }

abbrev pub with_round : CauseRounds → WaitCause → CauseRounds
with_round n Error = record n { error = n.error + 1 }
with_round n Caller = record n { caller = n.caller + 1 }
with_round n AdapterFrozen = record n { adapter_frozen = n.adapter_frozen + 1 }
with_round n DeviceStopped = record n { device_stopped = n.device_stopped + 1 }
with_round n AdapterStopped = record n { adapter_stopped = n.adapter_stopped + 1 }
with_round n LinkStopped = record n { link_stopped = n.link_stopped + 1 }
with_round n DeviceFull = record n { device_full = n.device_full + 1 }
with_round n AdapterFull = record n { adapter_full = n.adapter_full + 1 }
with_round n LinkFull = record n { link_full = n.link_full + 1 }
with_round n NotAsked = record n { not_asked = n.not_asked + 1 }

abbrev pub rounds_since : CauseRounds → CauseRounds → CauseRounds
rounds_since n before = record {
  error = n.error - before.error;
  caller = n.caller - before.caller;
  adapter_frozen = n.adapter_frozen - before.adapter_frozen;
  device_stopped = n.device_stopped - before.device_stopped;
  adapter_stopped = n.adapter_stopped - before.adapter_stopped;
  link_stopped = n.link_stopped - before.link_stopped;
  device_full = n.device_full - before.device_full;
  adapter_full = n.adapter_full - before.adapter_full;
  link_full = n.link_full - before.link_full;
  not_asked = n.not_asked - before.not_asked;
}

-- a stay with its rounds counted
abbrev pub counted : Origin → ExplainedStay → ExplainedStay
counted o s = record s { rounds = rounds_waited o s.device s.arrival s.live; behind = behind_waited o s.device s.weight s.arrival s.live }

-- the round of a send by the record of the stay, and the last round where it has none
abbrev pub sent_in : List Event → StayRecord → ℕ
sent_in events r = unwrap_or r.sent (round events)

-- a stay by its record, uncounted
unfoldable pub row_by : Topology → List Event → StayRecord × ℕ → ExplainedStay
row_by c events (r, best) = record {
  ccb = r.stay.ccb;
  attempt = r.stay.attempt;
  driver = option_map_or (λ (s : Submission). s.driver) (submission events r.stay.ccb) 0;
  device = r.stay.device;
  adapter = device_adapter c r.stay.device;
  priority = r.stay.priority;
  level = run_level r.stay.priority;
  weight = weight c r.stay.priority;
  arrival = r.stay.arrival;
  live = sent_in events r;
  pace = None;
  best = best;
  last = None;
  done = None;
  rounds = no_rounds;
  behind = no_behind;
}

-- a request, uncounted
unfoldable pub request_by : Topology → (List Request × Request) × (ℕ × ℕ) → ExplainedStay
request_by c (m, others) = record {
  ccb = length m.0;
  attempt = 0;
  driver = m.1.driver;
  device = m.1.device;
  adapter = device_adapter c m.1.device;
  priority = m.1.priority;
  level = run_level m.1.priority;
  weight = weight c m.1.priority;
  arrival = m.1.arrival;
  live = m.1.sent;
  pace = Some others.0;
  best = others.1;
  last = m.1.last;
  done = m.1.done;
  rounds = no_rounds;
  behind = no_behind;
}
