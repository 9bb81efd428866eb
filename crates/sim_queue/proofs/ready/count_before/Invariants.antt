use Rattle.std.proofs.Common.{◌≡◌, count_by, take}
use Rattle.sim_queue.specs.Turns.{goes_before}
use Rattle.sim_queue.proofs.ready.count_before.Given as goal

-- those so far that go before
abbrev pub invariant-loop-other : goal.invariant-loop-other
invariant-loop-other l = l.before ≡ count_by (λ r. goes_before r l.row) (take l.other-index l.rows)
