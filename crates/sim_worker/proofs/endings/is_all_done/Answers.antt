use Rattle.sim_worker.proofs.endings.is_all_done.Goals as goal

pub returns-then-is_quiet-clause-done : goal.returns-then-is_quiet-clause-done
returns-then-is_quiet-clause-done c = λ all walked placed. (
  c.are_done.ensures.done all c.args.xpt.now.events c.round.ensures walked placed,
  c.is_quiet.ensures.quiet c.if-is_quiet.true,
)
