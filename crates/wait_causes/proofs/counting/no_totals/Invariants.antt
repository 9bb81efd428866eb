use Rattle.std.proofs.Common.{◌≡◌, replicate, [], map, Vec}
use Rattle.std.specs.Global.{Global}
use Rattle.wait_causes.specs.declared.behind.FullBehind.{FullBehind}
use Rattle.wait_causes.proofs.counting.no_totals.Given as goal

abbrev pub invariant-loop-key : goal.invariant-loop-key
invariant-loop-key l = map (λ (v : Vec FullBehind Global). v.items) l.totals.items ≡ replicate l._key []
