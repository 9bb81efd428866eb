use Rattle.std.proofs.Common.{◌∙◌}
use Rattle.sim_worker.proofs.PassLemmas.{start_on}
use Rattle.sim_worker.proofs.run_replay.follow.Goals as goal

pub follow_all-requires-clause-start : goal.follow_all-requires-clause-start
follow_all-requires-clause-start c = start_on c.args.script.now c.args.logs.now _ _ (c.deref_mut.ensures.value ∙ c.in_ok-walks.ensures)
