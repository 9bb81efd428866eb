-- what a stay's record says, and what it becomes
use Rattle.std.specs.Prelude.{ℕ, ◌+◌, ◌-◌, ◌*◌, Bool, true, false, ◌&&◌, nat_le, Some, None, is_none, unwrap_or}
use Rattle.xpt_core.specs.Words.{Topology, weight, Passage}
pub use Rattle.xpt_core.specs.declared.stays.stay_record.StayRecord.{StayRecord}

-- it has no send
abbrev pub is_unsent : StayRecord → Bool
is_unsent r = is_none r.sent

-- it has arrived by this round, and has no send
abbrev pub is_queued : ℕ → StayRecord → Bool
is_queued round r = is_unsent r && nat_le r.stay.arrival round

-- what its waiting from its arrival to its send cost in this configuration
abbrev pub waiting_cost : Topology → StayRecord → ℕ
waiting_cost c r = weight c r.stay.priority * (unwrap_or r.sent 0 - r.stay.arrival)

-- a stay begins
abbrev pub begun : Passage → StayRecord
begun p = record { stay = p; sent = None; next_arrival = None }

-- it is sent in this round
abbrev pub sent_in : ℕ → StayRecord → StayRecord
sent_in round r = record r { sent = Some round }

-- its CCB's next stay arrives in the round after this one
abbrev pub followed_in : ℕ → StayRecord → StayRecord
followed_in round r = record r { next_arrival = Some (round + 1) }

-- that stay, begun by the event at this place
abbrev pub requeued_in : ℕ → ℕ → Passage → Passage
requeued_in round place p = record p { attempt = p.attempt + 1; arrival = round + 1; requeued = true; place = place }

-- the stay that a submit begins
abbrev pub submitted_in : ℕ → ℕ → ℕ → ℕ → ℕ → Passage
submitted_in ccb device priority round place = record {
  ccb = ccb;
  attempt = 0;
  device = device;
  priority = priority;
  arrival = round;
  requeued = false;
  place = place;
}
