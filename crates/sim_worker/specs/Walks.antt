-- how far a driver is after some of a run's events
use Rattle.std.specs.Prelude.{◌≡◌, ◌↔◌, ◌⊎◌, ℕ, ◌+◌, ◌*◌, ◌<◌, ◌≤◌, Bool, true, List, length, map, take, slice_get, Some, None, flat_map}
use Rattle.sim_worker.specs.Words.{Send, Done, round, Event, rules_of, refusal, is_legal, Scenario, Step, Act, Pause, Transport, is_rising, Held, Receipt, Driver}
use Rattle.sim_worker.specs.Ports.{Served}
use Rattle.sim_worker.specs.LiveRuns.{EachDriver, IsLiveEnding, rows}
use Rattle.sim_worker.specs.Runs.{are_ticks_in_time, is_over}
use Rattle.std.specs.List.{list_all}
use Rattle.sim_worker.specs.Endings.{Ending}
use Rattle.sim_worker.specs.Logs.{StandsAt, IsDriverLog, WasRefused, acts, made_before, events_of, calls_for, command_of, commands_for, is_of_rules}
pub use Rattle.sim_worker.specs.declared.walk.Walk.{Walk}

-- the first m receipts are those of before the place
abbrev pub IsSplit : ℕ → ℕ → List Receipt → Type 0
IsSplit place m log = (j : ℕ) (r : Receipt) → slice_get log j ≡ Some r → (j < m) ↔ (r.at < place)

-- an earlier place of this round at which the driver had made the calls that it has made now
pub record IsEarlier (log : List Receipt) (before : List Event) (place : ℕ) : Type 0 where
  pub less : place < length before
  pub same_round : round (take place before) ≡ round before
  pub same_calls : made_before place log ≡ made_before (length before) log

-- the row isn't a pause that is over
abbrev pub IsBehindPauses : List Step → ℕ → ℕ → Type 0
IsBehindPauses steps now row = (n : ℕ) → slice_get steps row ≡ Some (Pause n) → now < n

-- where the event of the walk's row is refused after the events then, the walk is marked
abbrev pub MarksRefusal : Scenario → List Step → List Event → Walk → Type 0
MarksRefusal s steps then w = (event : Event) → slice_get steps w.row ≡ Some (Act event) → is_of_rules (refusal (rules_of s.limits) s.config then event) ≡ true → w.refused ≡ true

-- After these events the driver stands at the walk's row, with that many of its log's receipts taken. If the walk is
-- marked, the event of its row was refused in this round; if that was so at an earlier place, the walk is marked.
pub record IsWalk (s : Scenario) (steps : List Step) (log : List Receipt) (before : List Event) (w : Walk) : Type 0 where
  pub within : w.made ≤ length log
  pub split : IsSplit (length before) w.made log
  pub stands : StandsAt steps (made_before (length before) log) (round before) w.row
  pub refused : w.refused ≡ true → (event : Event) → slice_get steps w.row ≡ Some (Act event) → WasRefused s log before event
  pub marked : (place : ℕ) → IsEarlier log before place → IsBehindPauses steps (round before) w.row × MarksRefusal s steps (take place before) w

-- the same, where all pauses that are over are passed, and the walk is marked if its event is refused now
pub record IsSettled (s : Scenario) (steps : List Step) (log : List Receipt) (before : List Event) (w : Walk) : Type 0 where
  pub walk : IsWalk s steps log before w
  pub behind : IsBehindPauses steps (round before) w.row
  pub now : MarksRefusal s steps before w

-- so far the driver followed its rows, and this is how far it is
pub record IsOn (s : Scenario) (steps : List Step) (receipts : List Receipt) (before : List Event) (w : Walk) : Type 0 where
  pub log : IsDriverLog s steps receipts before
  pub walk : IsWalk s steps receipts before w

-- the transport is one of the script's
abbrev pub IsOf : Scenario → Transport → Type 0
IsOf s t = (t.config ≡ s.config) × (t.rules ≡ rules_of s.limits)

-- each log that is a driver's is as far as its walk says
abbrev pub AreOn : Scenario → List Held → List Event → List Walk → Type 0
AreOn s logs before walks = (i d : ℕ) (h : Held) (w : Walk) → slice_get logs i ≡ Some h → slice_get walks i ≡ Some w → h.name ≡ Driver d → IsOn s (rows s d) h.receipts before w

-- there are such walks
abbrev pub AreWalked : Scenario → List Held → List Event → Type 0
AreWalked s logs before = (walks : List Walk) × (length walks ≡ length logs) × AreOn s logs before walks

-- the places of each log rise
abbrev pub AreRising : List Held → Type 0
AreRising logs = (i : ℕ) (h : Held) → slice_get logs i ≡ Some h → is_rising h.receipts ≡ true

-- each receipt of the logs is for one of the events
abbrev pub ArePlaced : List Held → List Event → Type 0
ArePlaced logs events = (i j : ℕ) (h : Held) (r : Receipt) → slice_get logs i ≡ Some h → slice_get h.receipts j ≡ Some r → r.at < length events

-- the rows ask for that many calls, and each pause is over by this round
abbrev pub IsThrough : List Step → ℕ → ℕ → Type 0
IsThrough steps calls now = (calls ≡ length (acts steps)) × (list_all (is_over now) steps ≡ true)

-- the events are legal by the script's limits, and one more may happen
pub record IsSoFar (s : Scenario) (events : List Event) : Type 0 where
  pub legal : is_legal (rules_of s.limits) s.config events ≡ true
  pub room : length events < s.limits.events

-- so far the drivers followed their rows, the limits allowed each event, and no round opened before it might
pub record IsFollowedTo (s : Scenario) (before : List Event) (logs : List Held) : Type 0 where
  pub drivers : EachDriver (λ d h. IsDriverLog s (rows s d) h.receipts before) logs
  pub legal : is_legal (rules_of s.limits) s.config before ≡ true
  pub ticks : are_ticks_in_time s.config s.limits before ≡ true

-- so it went to the end, and this is how the run ended
pub record IsFollowed (s : Scenario) (events : List Event) (logs : List Held) (stated : Ending) : Type 0 where
  pub whole : IsFollowedTo s events logs
  pub over : IsLiveEnding s events logs stated

-- ---- lanes

-- a receipt for the send of the command that was served, and one for its completion with its outcome
pub record IsSent (lane : ℕ) (r : Receipt) (one : Served) : Type 0 where
  pub event : r.event ≡ Send lane one.command.ccb
  pub reply : command_of r ≡ Some one.command

pub record IsDone (r : Receipt) (one : Served) : Type 0 where
  pub event : r.event ≡ Done one.command.ccb one.outcome
  pub reply : command_of r ≡ None

-- a send and a completion for each item
pub record ArePairs (lane : ℕ) (log : List Receipt) (served : List Served) : Type 0 where
  pub events : events_of log ≡ flat_map (calls_for lane) served
  pub commands : map command_of log ≡ flat_map commands_for served

-- each of the first items has its send and its completion in the log
abbrev pub EachPair : ℕ → List Receipt → List Served → ℕ → Type 0
EachPair lane log served count = (k : ℕ) (a b : Receipt) (one : Served) → k < count → slice_get log (k * 2) ≡ Some a → slice_get log (k * 2 + 1) ≡ Some b → slice_get served k ≡ Some one → IsSent lane a one × IsDone b one

-- how long a lane's log may be for that many items: two for each, and one less if the history is full
abbrev pub IsLaneLength : Bool → ℕ → ℕ → Type 0
IsLaneLength full log served = (log ≡ served * 2) ⊎ ((full ≡ true) × (log + 1 ≡ served * 2))
