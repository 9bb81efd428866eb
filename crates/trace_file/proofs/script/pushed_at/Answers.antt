use Rattle.trace_file.proofs.ScriptLists.{pushed}
use Rattle.trace_file.proofs.script.pushed_at.Goals as goal

pub returns : goal.returns
returns g c = pushed (λ l. l.items) c.args.lists.items c.args.at c.index_mut.result.now c.push.new.self c.args.item c.requires c.index_mut.ensures.value c.in_ok-push.ensures.items
