-- what there is to see of a transport
use Rattle.std.specs.Prelude.{ℕ, Bool, List, length, Option, is_some, count_by, slice_get, option_and_then, option_map}
use Rattle.xpt_state.specs.Words.{Topology, is_some_and, round, ccbs, is_in_flight, is_recovering, waiting, head, Event, last_class, cases}
use Rattle.sense_class.specs.declared.class.Class as class
use Rattle.xpt_state.specs.declared.look.Case.{Case}
use Rattle.xpt_state.specs.declared.look.Look.{Look}

abbrev pub case_of : ℕ → Option class.Class → Option Case
case_of ccb class = option_map (λ known. record { ccb = ccb; class = known }) class

-- of the recovering CCBs the one that completed with this many before it, with the class of its last result
abbrev pub nth_case : List Event → ℕ → Option Case
nth_case events n =
    option_and_then (λ ccb. case_of ccb (last_class events ccb)) (slice_get (cases events) n)

-- the one that completed first
abbrev pub next_case : List Event → Option Case
next_case events = nth_case events 0

-- the lane's adapter has something to send
abbrev pub has_head : Topology → List Event → ℕ → Bool
has_head c events lane = is_some_and (λ a. is_some (head c events a)) (slice_get c.lanes lane)

-- all counts
abbrev pub look : Topology → List Event → Look
look c events = record {
  length = length events;
  round = round events;
  in_flight = count_by (is_in_flight events) (ccbs events);
  heads = count_by (λ a. is_some (head c events a)) c.lanes;
  cases = count_by (is_recovering events) (ccbs events);
  waiting = length (waiting events);
}
