use Rattle.trace_file.proofs.ScriptLists.{ruled_step}
use Rattle.trace_file.proofs.script.Script.with_step.Goals as goal

pub invariant_of-result : goal.invariant_of-result
invariant_of-result c =
    let ruled = rw (← c.self.view_is) at c.requires.ruled in
    let room = rw (← c.self.view_is) at c.requires.room in
    rw (c.in_ok-step_pushed.ensures, c.from.ensures) (ruled_step _ c.args.driver c.args.step c.self.invariant c.requires.driver ruled room)
