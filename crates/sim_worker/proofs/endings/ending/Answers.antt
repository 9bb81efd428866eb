use Rattle.std.proofs.Common.{◌∙◌, ap, sym}
use Rattle.sim_worker.specs.Words.{Bounds, Look}
use Rattle.sim_worker.proofs.PassLemmas.{unended}
use Rattle.sim_worker.proofs.endings.ending.Goals as goal

pub returns-then-is_all_done-clause-some : goal.returns-then-is_all_done-clause-some
returns-then-is_all_done-clause-some c = c.is_all_done.ensures.done c.if-is_all_done.true (c.args.walks.now, c.requires.same, c.requires.on) c.requires.placed

pub returns-clause-none : goal.returns-clause-none
returns-clause-none c = unended c.args.script.now c.args.xpt.now.events c.args.logs.now (c.is_all_done.ensures.left c.if-is_all_done.false)
    (λ full. c.if-look-events.false (ap (λ (l : Look). l.length) c.look-look.ensures ∙ full ∙ ap (λ (b : Bounds). b.events) (sym c.limits-limits.ensures) ∙ sym c.events.ensures.same))
    (c.is_last_round.ensures.no c.if-is_last_round.false)
