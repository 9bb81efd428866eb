use Rattle.std.proofs.Common.{◌≡◌, replicate, None}
use Rattle.wait_causes.proofs.blame.in_way.nobody.Given as goal

abbrev pub invariant-loop-round : goal.invariant-loop-round
invariant-loop-round l = l.ways.items ≡ replicate l._round None
