use Rattle.std.proofs.Common.{◌≡◌, ℕ, ◌<◌, List, map, Some, slice_get}
use Rattle.sim_worker.specs.Words.{Event, Scenario, Held}
use Rattle.sim_worker.specs.LiveRuns.{EachDriver, IsLog, rows}
use Rattle.sim_worker.specs.Logs.{IsDriverLog}
use Rattle.sim_worker.proofs.judging.are_as_served.Given as goal

abbrev pub invariant-loop-log : goal.invariant-loop-log
invariant-loop-log g l = (s : Scenario) (events : List Event) → EachDriver (λ d h. IsDriverLog s (rows s d) h.receipts events) l.logs →
    (k : ℕ) (h : Held) → k < l.log-index → slice_get l.logs k ≡ Some h → IsLog s events (map (λ p. g.P.Port.list p) l.ports) l.full h.name h
