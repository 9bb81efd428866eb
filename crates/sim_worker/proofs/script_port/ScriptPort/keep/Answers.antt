use Rattle.std.proofs.Common.{sym, ap, ◌∙◌, length}
use Rattle.sim_worker.specs.Ports.{answer_at, PortState}
use Rattle.sim_worker.proofs.PortLemmas.{port-push}
use Rattle.sim_worker.proofs.script_port.ScriptPort.keep.Goals as goal

pub invariant_of-self : goal.invariant_of-self
invariant_of-self c = rw (c.in-Ok.ensures.items) (port-push c.self.inside.answers.items c.self.inside.served.items c.args.served (c.requires.next ∙ sym (ap (λ (v : PortState). answer_at v.answers (length v.served)) c.self.view_is)) c.self.invariant)
