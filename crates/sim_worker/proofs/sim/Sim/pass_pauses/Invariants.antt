use Rattle.std.proofs.Common.{◌≡◌, ℕ, ◌<◌, length, Some, slice_get}
use Rattle.event_rules.specs.Counts.{round}
use Rattle.sim_worker.specs.Work.{left, steps_of, Driver}
use Rattle.trace_file.specs.declared.step.Step.TheVariants as step
use Rattle.sim_worker.proofs.sim.Sim.pass_pauses.Given as goal

abbrev pub invariant-loop-d : goal.invariant-loop-d
invariant-loop-d l = record {
  script : l.self.script ≡ l.fn.self.script;
  left : left l.self ≡ left l.fn.self;
  lanes : length l.self.lanes ≡ length l.fn.self.lanes;
  behind : (d : ℕ) (x : Driver) (r : ℕ) → d < l.d → slice_get l.self.drivers d ≡ Some x → slice_get (steps_of l.self.script d) x.done ≡ Some (step.Pause r) → l.round < r;
  now : l.round ≡ round l.self.transport.events;
}
