use Rattle.std.proofs.Common.{◌≡◌, ℕ, ◌<◌, length, [], true, false, All}
use Rattle.sim_worker.specs.Work.{AreBehindPauses, actor_at, is_able, left}
use Rattle.sim_worker.specs.declared.actor.Actor.{Actor}
use Rattle.sim_worker.proofs.sim.Sim.list_able.Given as goal

abbrev pub invariant-loop-i : goal.invariant-loop-i
invariant-loop-i l = record {
  script : l.self.script ≡ l.fn.self.script;
  left : left l.self ≡ left l.fn.self;
  behind : AreBehindPauses l.self;
  able : All (λ (a : Actor). is_able l.self a ≡ true) l.able.items;
  none : l.able.items ≡ [] → (i : ℕ) → i < l.i → is_able l.self (actor_at (length l.self.lanes) i) ≡ false;
}
