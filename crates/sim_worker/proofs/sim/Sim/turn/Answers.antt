use Rattle.std.proofs.Common.{◌∙◌, sym, arith, eqb-true}
use Rattle.sim_worker.proofs.ListFacts.{none_there}
use Rattle.sim_worker.proofs.sim.Sim.turn.Goals as goal

pub keep-requires-clause-rest : goal.keep-requires-clause-rest
keep-requires-clause-rest c = c.in_ok-list_able.ensures.none (none_there c.list_able.new.able.items (omega (arith, eqb-true _ 0 (sym c.is_empty.ensures ∙ c.if-is_empty.true), c.list_able.new.able.ok.0)))
