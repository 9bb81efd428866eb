use Rattle.std.proofs.Common.{◌≡◌, ◌+◌, ◌==◌, not, find, None}
use Rattle.std.specs.List.{range_with_len}
use Rattle.round_net.specs.Caps.{cap}
use Rattle.conversions.proofs.runs.run_last.Given as goal

-- so far no round has another cap than the first
abbrev pub invariant-loop-more : goal.invariant-loop-more
invariant-loop-more l =
    let number = cap l.history.config l.history.events l.row in
    find (λ r. not (number r == number l.first)) (range_with_len (l.first + 1) l.more) ≡ None
