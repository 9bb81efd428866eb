use Rattle.std.proofs.Common.{◌≡◌, ◌<◌, ℕ, length, slice_index}
use Rattle.round_net.specs.Rows.{live_of_rows}
use Rattle.what_if.proofs.rounds.live_rounds.Given as goal

-- the stays so far
abbrev pub invariant-loop-stay : goal.invariant-loop-stay
invariant-loop-stay l = record {
  size : length l.rounds.items ≡ l.stay;
  each : (s : ℕ) → s < l.stay → slice_index l.rounds.items s ≡ live_of_rows l.net s;
}
