use Rattle.std.proofs.Common.{◌≡◌, ◌∙◌, ◌++◌, ◌∷◌, [], sym, ap, subst, true}
use Rattle.xpt_lock.specs.declared.seat.SeatName.TheVariants as names
use Rattle.sim_worker.specs.Words.{Held, is_rising}
use Rattle.sim_worker.specs.Logs.{IsDriverLog}
use Rattle.sim_worker.specs.Walks.{IsOn}
use Rattle.sim_worker.proofs.RunListFacts.{none_maps}
use Rattle.sim_worker.proofs.run_replay.walk_on.Goals as goal

pub returns-in-Driver-clause-none : goal.returns-in-Driver-clause-none
returns-in-Driver-clause-none c =
    let s = c.args.script.now in
    let t = c.args.xpt.now in
    let log = c.args.log.now.receipts in
    let d = c.in-Driver.driver in
    let name : c.args.log.now.name ≡ names.Driver d = ap (λ (h : Held). h.name) (sym c.log.view_is) ∙ c.in-Driver.is in
    let after = t.events ++ c.args.event.now ∷ [] in
    none_maps c.behind.result (λ none. (
      d,
      name,
      λ of.
          subst (λ steps. is_rising log ≡ true → IsOn s steps log t.events c.args.walk → IsDriverLog s steps log after → ⊥) c.rows.ensures
          (subst (λ l. is_rising l ≡ true → IsOn s c.rows.result.now l t.events c.args.walk → IsDriverLog s c.rows.result.now l after → ⊥) (c.deref.ensures.value ∙ ap (λ (h : Held). h.receipts) c.log.view_is) (none s of)),
    )) c.behind.ensures.none
