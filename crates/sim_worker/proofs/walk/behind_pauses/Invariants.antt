use Rattle.std.proofs.Common.{◌≡◌, ◌-◌, List, length}
use Rattle.event_rules.specs.declared.event.Event.{Event}
use Rattle.sim_worker.specs.Logs.{StandsAt}
use Rattle.sim_worker.specs.Walks.{IsBehindPauses}
use Rattle.sim_worker.proofs.walk.behind_pauses.Given as goal

abbrev pub invariant-loop-round : goal.invariant-loop-round
invariant-loop-round l = record {
  stands : (events : List Event) → StandsAt l.rows events l.now l.from → StandsAt l.rows events l.now l.row;
  same : IsBehindPauses l.rows l.now l.from → l.row ≡ l.from;
}

abbrev pub decreases-loop-round : goal.decreases-loop-round
decreases-loop-round l = length l.rows - l.row
