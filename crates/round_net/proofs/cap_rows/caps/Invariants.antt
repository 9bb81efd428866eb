use Rattle.std.proofs.Common.{◌≡◌, ℕ, ◌<◌, false, length, if◌then◌else◌, slice_index, slice_index_or}
use Rattle.round_net.proofs.cap_rows.caps.Given as goal

-- the cells so far
abbrev pub invariant-loop-at : goal.invariant-loop-at
invariant-loop-at l = record {
  count : length l.caps.items ≡ l.at;
  cells : (i : ℕ) → i < l.at → slice_index l.caps.items i ≡ (if slice_index_or l.frozen i false then slice_index l.sends i else slice_index l.openings i);
}
