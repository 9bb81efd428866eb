use Rattle.trace_file.proofs.ScriptLists.{ruled_answer}
use Rattle.trace_file.proofs.script.Script.with_answer.Goals as goal

pub invariant_of-result : goal.invariant_of-result
invariant_of-result c =
    let there = rw (← c.self.view_is) at c.requires.lane in
    let room = rw (← c.self.view_is) at c.requires.room in
    rw c.in_ok-pushed_at.ensures (ruled_answer _ c.args.lane c.args.outcome c.self.invariant there c.requires.status room)
