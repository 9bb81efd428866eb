use Rattle.std.proofs.Common.{◌≡◌, take}
use Rattle.event_rules.specs.Legal.{history_rules}
use Rattle.round_net.specs.Ends.{AreEnds}
use Rattle.round_net.specs.Marks.{IsNoted, HasCells}
use Rattle.round_net.proofs.walk.walk.Given as goal

abbrev pub invariant-loop-event : goal.invariant-loop-event
invariant-loop-event l = record {
  replay : l.replay ≡ record { config = l.fn.replay.config; rules = history_rules; events = take l.event-index l.events };
  cells : HasCells l.fn.replay.config l.rounds l.frozen l.openings l.sends;
  ended : AreEnds l.fn.replay.config (take l.event-index l.events) l.ends;
  noted : IsNoted l.fn.replay.config (take l.event-index l.events) l.rounds l.frozen l.openings l.sends;
}
