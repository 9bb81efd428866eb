use Rattle.std.proofs.Common.{◌≡◌, ◌∙◌, true, sym, subst}
use Rattle.cam_types.specs.contracts.command.CommandPartialEq.TheImpl as commands
use Rattle.cam_types.specs.contracts.command.CommandEq.TheImpl.Laws.{laws-law}
use Rattle.xpt_lock.proofs.SameLemmas.{same_command}
use Rattle.sim_worker.specs.Words.{Command}
use Rattle.sim_worker.proofs.same.are_same_commands.Goals as goal

pub returns : goal.returns
returns c = (
  (λ e. same_command _ _ (sym c.eq.ensures ∙ e)),
  λ e. c.eq.ensures ∙ subst (λ (x : Command). commands.ghosts.eq c.args.one.now x ≡ true) e (laws-law.refl c.args.one.now),
)
