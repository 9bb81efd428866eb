use Rattle.std.proofs.Common.{◌≡◌, ℕ, ◌<◌, ◌≢◌, length, get_or}
use Rattle.cost_plan.proofs.one_kind.put_back.Given as goal

abbrev pub invariant-loop-place : goal.invariant-loop-place
invariant-loop-place l = (length l.rounds.items ≡ length l.initial.rounds.items) × ((k : ℕ) → k < l.place → get_or l.rounds.items (get_or l.members k 0) 0 ≡ get_or l.answer k 0) × ((s : ℕ) → ((k : ℕ) → k < length l.members → get_or l.members k 0 ≢ s) → get_or l.rounds.items s 0 ≡ get_or l.initial.rounds.items s 0)
