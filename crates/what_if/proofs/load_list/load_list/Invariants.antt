use Rattle.std.proofs.Common.{◌≤◌, ◌*◌, ℕ, slice_index}
use Rattle.round_net.specs.LoadLists.{AreLoads}
use Rattle.round_net.specs.Rows.{instance_of_rows}
use Rattle.what_if.proofs.load_list.load_list.Given as goal

-- the stays so far
abbrev pub invariant-loop-stay : goal.invariant-loop-stay
invariant-loop-stay l = record {
  loads : AreLoads (instance_of_rows l.net) (slice_index l.rounds) l.stay l.counts.items;
  few : (at : ℕ) → slice_index l.counts.items at ≤ 3 * l.stay;
}
