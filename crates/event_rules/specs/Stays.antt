-- stays and the queues that they stand in, by the events before a place
use Rattle.std.specs.Prelude.{ℕ, ◌+◌, ◌==◌, Bool, true, false, not, ◌&&◌, if◌then◌else◌, nat_le, List, [], ◌∷◌, length, filter, drop, Option, Some, None, count_by, find, option_map}
use Rattle.std.specs.List.{list_any, filter_map}
use Rattle.cam_types.specs.Lists.{prefixed, least_by}
use Rattle.event_rules.specs.Event.{is_send_of, is_requeue_of, Event, Submit, Requeue}
use Rattle.event_rules.specs.Counts.{round, commands, submission, Submission}
pub use Rattle.event_rules.specs.declared.passage.Passage.{Passage}
use Rattle.event_rules.specs.declared.stay.Stay.{Stay}

-- the stay that an event begins, after the events before it: a requeued CCB arrives in the next round
abbrev pub stay_begun : List Event × Event → Option Passage
stay_begun (before, Submit driver device priority retries flags) = Some (record {
  ccb = commands before;
  attempt = 0;
  device = device;
  priority = priority;
  arrival = round before;
  requeued = false;
  place = length before;
})
stay_begun (before, Requeue ccb) = option_map (λ (s : Submission). record {
  ccb = ccb;
  attempt = 1 + count_by (is_requeue_of ccb) before;
  device = s.device;
  priority = s.priority;
  arrival = round before + 1;
  requeued = true;
  place = length before;
}) (submission before ccb)
stay_begun (before, _) = None

-- all stays, in creation order
unfoldable pub stays_begun : List Event → List Passage
stays_begun events = filter_map stay_begun (prefixed events)

-- no send of its CCB stands after the event that began it
abbrev pub is_unsent : List Event → Passage → Bool
is_unsent events p = not (list_any (is_send_of p.ccb) (drop (p.place + 1) events))

-- the stays without a send, in creation order
unfoldable pub waiting : List Event → List Passage
waiting events = filter (is_unsent events) (stays_begun events)

-- it has arrived
abbrev pub has_arrived : List Event → Passage → Bool
has_arrived events p = nat_le p.arrival (round events)

-- a stay of the CCB is queued: it has arrived and is without a send
unfoldable pub has_queued : List Event → ℕ → Bool
has_queued events ccb = list_any (λ (p : Passage). (p.ccb == ccb) && has_arrived events p) (waiting events)

-- it is a stay at the device, and has arrived by this round
abbrev pub is_at : ℕ → ℕ → Passage → Bool
is_at d round p = (p.device == d) && nat_le p.arrival round

-- the stays that are queued at the device
unfoldable pub queue : List Event → ℕ → List Passage
queue events d = filter (is_at d (round events)) (waiting events)

-- a device's queue is in order of priority, arrival, kind (a requeue first) and creation order
abbrev pub creation_key : Passage → List ℕ
creation_key p = (if p.requeued then 0 else 1) ∷ p.place ∷ []

abbrev pub earlier_key : Passage → List ℕ
earlier_key p = p.arrival ∷ creation_key p

abbrev pub queue_key : Passage → List ℕ
queue_key p = p.priority ∷ earlier_key p

-- the first of the device's queue
unfoldable pub first : List Event → ℕ → Option Passage
first events d = least_by queue_key (queue events d)

-- a stay by its CCB and its try
abbrev pub name_of : Passage → Stay
name_of p = record { ccb = p.ccb; attempt = p.attempt }

-- the first stay in creation order that has no send
unfoldable pub unsent : List Event → Option Stay
unsent events = option_map name_of (find (is_unsent events) (stays_begun events))
