use Rattle.std.proofs.Common.{◌≡◌, ℕ, ◌-◌, ◌%◌, ◌≤◌, ◌<◌, length, get_or}
use Rattle.recorder.proofs.ids.Ids.newest.Given as goal

-- none of the later ids is it
abbrev pub invariant-loop-count : goal.invariant-loop-count
invariant-loop-count l = record {
  most : l.count ≤ length l.self-inside.list.items;
  newest : (j : ℕ) → l.count ≤ j → j < length l.self-inside.list.items → get_or l.self-inside.list.items j 0 ≡ l.id → ⊥;
  is : 0 < l.count → get_or l.self-inside.list.items (l.count - 1) 0 % length l.self-inside.heads.items ≡ l.id % length l.self-inside.heads.items;
}

abbrev pub decreases-loop-count : goal.decreases-loop-count
decreases-loop-count l = l.count
