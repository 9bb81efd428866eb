use Rattle.std.proofs.Common.{◌≡◌, ◌+◌, length}
use Rattle.slots.specs.Changes.{changes_in}
use Rattle.slots.proofs.ChangeLemmas.{AreBehind}
use Rattle.slots.proofs.SweepLemmas.{IsSweeping}
use Rattle.slots.proofs.levels.tally_of.Given as goal

-- so far through the changes, and no more are counted than at the times that follow
abbrev pub invariant-loop-at : goal.invariant-loop-at
invariant-loop-at l = record {
  sweep : IsSweeping l.slots l.clock (changes_in l.changes l.slots) l.begun.items l.tally.row.items l.tally.total l.lowest l.at-index;
  size : length l.tally.row.items ≡ l.rounds + 1;
  flying : AreBehind l.changes.held.begins.items l.changes.held.ends.items l.changes.times.items l.at-index l.flying;
  waiting : AreBehind l.changes.waited.begins.items l.changes.waited.ends.items l.changes.times.items l.at-index l.waiting;
}
