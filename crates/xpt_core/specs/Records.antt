-- stays with their sends and with the stays that follow them
use Rattle.std.specs.Prelude.{ℕ, ◌==◌, Bool, ◌&&◌, nat_lt, if◌then◌else◌, List, map, find, Option, Some, None, option_map}
use Rattle.xpt_core.specs.Words.{stays_begun, is_unsent, live_round, Event, Passage}
use Rattle.xpt_core.specs.StayRecord.{StayRecord}

-- a later stay of the same CCB
abbrev pub follows : Passage → Passage → Bool
follows p q = (q.ccb == p.ccb) && nat_lt p.place q.place

-- the next of them
abbrev pub next_stay : List Passage → Passage → Option Passage
next_stay stays p = find (follows p) stays

-- the round of the stay's send, if it was sent
abbrev pub sent_round : List Event → Passage → Option ℕ
sent_round events p = if is_unsent events p then None else Some (live_round events p)

-- the round in which its CCB's next stay enters the queue, if there is one
abbrev pub next_arrival : List Event → Passage → Option ℕ
next_arrival events p = option_map (λ (q : Passage). q.arrival) (next_stay (stays_begun events) p)

abbrev pub record_of : List Event → Passage → StayRecord
record_of events p = record { stay = p; sent = sent_round events p; next_arrival = next_arrival events p }

-- the records of all stays, in creation order
unfoldable pub records : List Event → List StayRecord
records events = map (record_of events) (stays_begun events)
