use Rattle.std.proofs.Common.{◌≡◌, ℕ, ◌-◌, ◌<◌, length, get_or, count_by}
use Rattle.std.specs.List.{range_with_len}
use Rattle.wait_causes.specs.Origins.{cause_of}
use Rattle.wait_causes.specs.FirstWaits.{has_changed}
use Rattle.wait_causes.proofs.cause_runs.changes_of.Given as goal

abbrev pub invariant-loop-round : goal.invariant-loop-round
invariant-loop-round l = (length l.changes.items ≡ l.round) × (l.count ≡ count_by (has_changed (cause_of l.origin l.device)) (range_with_len 2 (l.round - 1)))
    × ((k : ℕ) → k < l.round → get_or l.changes.items k 0 ≡ count_by (has_changed (cause_of l.origin l.device)) (range_with_len 2 k))
