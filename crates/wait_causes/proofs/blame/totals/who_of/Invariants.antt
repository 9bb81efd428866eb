use Rattle.std.proofs.Common.{◌≡◌, map, Vec, Option, ℕ}
use Rattle.std.specs.Global.{Global}
use Rattle.std.specs.List.{range_with_len}
use Rattle.wait_causes.specs.BlameLists.{who_at}
use Rattle.wait_causes.proofs.blame.totals.who_of.Given as goal

abbrev pub invariant-loop-device : goal.invariant-loop-device
invariant-loop-device l = map (λ (v : Vec (Option ℕ) Global). v.items) l.lists.items ≡ map (who_at l.explanation l.by) (range_with_len 0 l.device)
