use Rattle.std.proofs.Common.{◌≡◌, take}
use Rattle.event_rules.specs.Legal.{history_rules}
use Rattle.xpt_lock.specs.Receipts.{receipts_of}
use Rattle.xpt_lock.proofs.replay.replay.Given as goal

abbrev pub invariant-loop-event : goal.invariant-loop-event
invariant-loop-event l = record {
  transport : l.again ≡ record { config = l.fn.xpt.config; rules = history_rules; events = take l.event-index l.event-items };
  receipts : l.receipts.items ≡ receipts_of l.fn.xpt.config (take l.event-index l.event-items);
}
