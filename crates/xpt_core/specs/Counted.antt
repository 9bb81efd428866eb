-- what is counted of all devices together
use Rattle.std.specs.Prelude.{◌+◌, ◌-◌, ◌<◌, ◌≤◌, List, length, count_by}
use Rattle.xpt_core.specs.Words.{round, ccbs, is_in_flight, stays_begun, waiting, Event, Submit, Send, Done, Requeue, Tick}
pub use Rattle.xpt_core.specs.declared.devices.counts.Counts.{Counts}

-- the round, the stays so far, those without a send, and the CCBs in flight
unfoldable pub counts_of : List Event → Counts
counts_of events = record {
  round = round events;
  stays = length (stays_begun events);
  waiting = length (waiting events);
  in_flight = count_by (is_in_flight events) (ccbs events);
}

-- after one event more
abbrev pub counted : Event → Counts → Counts
counted (Submit driver device priority retries flags) n = record n { stays = n.stays + 1; waiting = n.waiting + 1 }
counted (Requeue ccb) n = record n { stays = n.stays + 1; waiting = n.waiting + 1 }
counted (Send lane ccb) n = record n { waiting = n.waiting - 1; in_flight = n.in_flight + 1 }
counted (Done ccb outcome) n = record n { in_flight = n.in_flight - 1 }
counted Tick n = record n { round = n.round + 1 }
counted _ n = n

-- a send finds a stay without one, and a completion a CCB in flight
abbrev pub CanCount : Event → Counts → Type 0
CanCount (Send lane ccb) n = 0 < n.waiting
CanCount (Done ccb outcome) n = 0 < n.in_flight
CanCount _ n = Unit

-- no more than a history's events can count
pub record AreFew (n : Counts) : Type 0 where
  pub round : n.round ≤ 65536
  pub stays : n.stays ≤ 65535
  pub waiting : n.waiting ≤ 65535
  pub in_flight : n.in_flight ≤ 65535
