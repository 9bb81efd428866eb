use Rattle.std.proofs.Common.{◌≡◌, ◌≤◌, ℕ, ◌&&◌, nat_le, nat_lt, cond, length, get_or}
use Rattle.slots.proofs.levels.begin_levels.Given as goal

-- those of the levels so far have begun
abbrev pub invariant-loop-level : goal.invariant-loop-level
invariant-loop-level l = record {
  still : l.to ≤ l.from → l.level ≡ l.from;
  size : length l.begun ≡ length l.initial.begun;
  each : (k : ℕ) → get_or l.begun k 0 ≡ cond (nat_le l.from k && nat_lt k l.level) l.at (get_or l.initial.begun k 0);
}
