use Rattle.std.proofs.Common.{◌≡◌, map, Vec, ℕ}
use Rattle.std.specs.Global.{Global}
use Rattle.std.specs.List.{range_with_len}
use Rattle.wait_causes.specs.Explained.{Explained}
use Rattle.wait_causes.specs.declared.table.Grouping.{Grouping}
use Rattle.wait_causes.specs.BlameLists.{totals_at, AreWho}
use Rattle.wait_causes.proofs.blame.totals.totals_of.Given as goal

abbrev pub invariant-loop-list : goal.invariant-loop-list
invariant-loop-list l = (e : Explained) (of : Grouping) → AreWho e of l.lists → map (λ (v : Vec ℕ Global). v.items) l.totals.items ≡ map (totals_at e of l.by) (range_with_len 0 l.list-index)
