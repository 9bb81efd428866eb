use Rattle.event_rules.specs.Counts.{round}
use Rattle.round_net.specs.Caps.{resource_count, sends_in}
use Rattle.round_net.proofs.MarkLemmas.{SetsBelow}
use Rattle.round_net.proofs.marks.note_sends.Given as goal

-- the rows so far
abbrev pub invariant-loop-row : goal.invariant-loop-row
invariant-loop-row l = SetsBelow (resource_count l.replay.config) l.rounds l.fn.numbers l.numbers (round l.replay.events) (λ x. sends_in l.replay.config l.replay.events x (round l.replay.events)) l.row
