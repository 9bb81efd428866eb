use Rattle.std.proofs.Common.{◌≡◌, take, drop}
use Rattle.xpt_carry.specs.Carry.{first_refusal}
use Rattle.xpt_carry.proofs.ReplayLemmas.{with_events, left_refusal}
use Rattle.xpt_carry.proofs.taking.take_all.Given as goal

-- the events so far were taken, and those that are left say which is the first that is refused
abbrev pub invariant-loop-event : goal.invariant-loop-event
invariant-loop-event l = record {
  taken : l.xpt ≡ with_events l.fn.xpt (take l.event-index l.events);
  left : left_refusal l.fn.xpt (take l.event-index l.events) (drop l.event-index l.events) ≡ first_refusal l.fn.xpt.rules l.fn.xpt.config l.events;
}
