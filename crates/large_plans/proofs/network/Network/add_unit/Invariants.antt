use Rattle.std.proofs.Common.{◌≡◌, ◌≤◌, ◌++◌, length, take}
use Rattle.large_plans.proofs.network.Network.add_unit.Given as goal

abbrev pub invariant-loop-round : goal.invariant-loop-round
invariant-loop-round l = record {
  rounds : l.self.rounds ≡ l.initial.self.rounds;
  above : l.self.above.items ≡ l.initial.self.above.items;
  stays : l.self.stays.items ≡ l.initial.self.stays.items;
  caps : l.self.rounds ≤ length l.caps → l.self.caps.items ≡ l.initial.self.caps.items ++ take l.round l.caps;
}
