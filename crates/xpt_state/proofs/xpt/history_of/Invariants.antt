use Rattle.std.proofs.Common.{◌≡◌, take}
use Rattle.xpt_state.proofs.xpt.history_of.Given as goal

abbrev pub invariant-loop-event : goal.invariant-loop-event
invariant-loop-event l = record {
  config : l.history.config ≡ l.fn.config;
  events : l.history.events ≡ take l.event-index l.events;
}
