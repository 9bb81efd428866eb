-- what a run of a script comes to
use Rattle.std.specs.Prelude.{◌≡◌, ℕ, ◌-◌, Bool, true, false, not, List, [], length, count_by, sum_by, slice_index, is_none}
use Rattle.event_rules.specs.Event.{is_erring}
use Rattle.event_rules.specs.Past.{Past}
use Rattle.event_rules.specs.Stays.{unsent}
use Rattle.event_rules.specs.declared.event.Event.{Event}
use Rattle.event_rules.specs.declared.event.Event.TheVariants as event
use Rattle.trace_file.specs.Scenarios.{Scenario}
use Rattle.trace_file.specs.declared.step.Step.{Step}
use Rattle.trace_file.specs.declared.step.Step.TheVariants as step
use Rattle.sim_worker.specs.SimRuns.{IsSimRun}
use Rattle.sim_worker.specs.declared.seeded.SimRun.{SimRun}
use Rattle.sim_worker.specs.declared.ending.Ending.{Ending}
use Rattle.sim_worker.specs.declared.ending.Ending.TheVariants.{Drained, RoundsFull, HistoryFull}
use Rattle.round_net.specs.Nets.{net_of}
use Rattle.round_net.specs.Rows.{instance_of_rows}
use Rattle.round_net.specs.Value.{Pricing, ProvesBest}
use Rattle.wait_causes.specs.Origins.{known_of}
use Rattle.wait_causes.specs.Stays.{explained}
use Rattle.wait_causes.specs.Parts.{part_of}
use Rattle.wait_causes.specs.declared.part.Part.{Part}
use Rattle.wait_causes.specs.declared.origin.Origin.TheVariants as origin
pub use Rattle.sweep.specs.declared.runner.Numbers.{Numbers}
pub use Rattle.sweep.specs.declared.runner.Tally.{Tally}
use Rattle.sweep.specs.declared.runner.Tally.TheVariants as tally

-- ---- commands that a run left

-- a step asks for a command
abbrev pub asks_submit : Step → Bool
asks_submit (step.Act (event.Submit driver device priority retries flags)) = true
asks_submit _ = false

abbrev pub commands_asked : Scenario → ℕ
commands_asked s = sum_by (λ (steps : List Step). count_by asks_submit steps) s.drivers

-- a command ends by a completion without an error, or by being given back as failed
abbrev pub is_end : Event → Bool
is_end (event.Done ccb outcome) = not (is_erring (event.Done ccb outcome))
is_end (event.Finish ccb) = true
is_end _ = false

abbrev pub commands_left : Scenario → List Event → ℕ
commands_left s events = commands_asked s - count_by is_end events

-- ---- what a run comes to

-- it drained, and each stay was sent
abbrev pub has_drained : List Event → Ending → Bool
has_drained events Drained = is_none (unsent events)
has_drained events RoundsFull = false
has_drained events HistoryFull = false

-- what all stays of a history waited, beside a best schedule
abbrev pub whole_of : Past → List ℕ → Part
whole_of h best = part_of (known_of (origin.Trace h)) (explained (origin.Trace h) [] best)

-- What the waiting of the history cost, beside a schedule that these prices prove to be a best one.
pub record AreNumbersOf (h : Past) (n : Numbers) : Type 0 where
  pub best : List ℕ
  pub prices : Pricing
  pub proved : ProvesBest (instance_of_rows (net_of h.config h.events)) (slice_index best) prices
  pub live_is : n.live ≡ (whole_of h best).live
  pub best_is : n.best ≡ (whole_of h best).best
  pub p99_is : n.p99 ≡ (whole_of h best).p99

-- a run that drained has the numbers of its history, and another one left commands
abbrev pub IsTallyOf : Scenario → Past → Ending → Tally → Type 0
IsTallyOf s h stated (tally.Drained n) = (has_drained h.events stated ≡ true) × AreNumbersOf h n
IsTallyOf s h stated (tally.Left k) = (has_drained h.events stated ≡ false) × (k ≡ commands_left s h.events)

-- it is that of a run of the script on one thread by the seed
pub record IsSimTally (s : Scenario) (seed : ℕ) (t : Tally) : Type 0 where
  pub run : SimRun
  pub by : run.seed ≡ seed
  pub made : IsSimRun s run.history run.ending
  pub tally : IsTallyOf s run.history run.ending t
