use Rattle.std.proofs.Common.{◌≡◌, ◌∙◌, sym, ap, subst}
use Rattle.xpt_lock.specs.Seats.{Held}
use Rattle.sim_worker.specs.LiveRuns.{rows}
use Rattle.sim_worker.specs.Logs.{Rests}
use Rattle.sim_worker.specs.Walks.{IsWalk}
use Rattle.sim_worker.proofs.UnfitLemmas.{not_resting}
use Rattle.sim_worker.proofs.WalkLemmas.{driver_is, rests_now}
use Rattle.sim_worker.proofs.endings.is_resting.Goals as goal

pub returns-in-Driver : goal.returns-in-Driver
returns-in-Driver c = record {
  yes = λ rests d name of on.
      let s = c.args.script.now in
      let log = c.args.log.now.receipts in
      let before = c.args.xpt.now.events in
      let same : c.rows-rows.result.now ≡ rows s d = c.rows-rows.ensures ∙ ap (rows s) (sym (driver_is d c.in-Driver.driver (sym name ∙ ap (λ (h : Held). h.name) (sym c.log.view_is) ∙ c.in-Driver.is))) in
      let here = c.settled.ensures s log of (subst (λ steps. IsWalk s steps log before c.args.walk) (sym same) on.walk) in
      subst (λ steps. Rests s steps log before) same (rests_now s c.rows-rows.result.now log before c.settled.result (c.rests.ensures.yes rests s log here) here.walk);
  no = λ busy.
      let s = c.args.script.now in
      let log = c.args.log.now.receipts in
      let before = c.args.xpt.now.events in
      let d = c.in-Driver.driver in
      let same : c.rows-rows.result.now ≡ rows s d = c.rows-rows.ensures in (
        d,
        ap (λ (h : Held). h.name) (sym c.log.view_is) ∙ c.in-Driver.is,
        λ of on rests.
            let here = c.settled.ensures s log of (subst (λ steps. IsWalk s steps log before c.args.walk) (sym same) on.walk) in
            not_resting s c.rows-rows.result.now log before c.settled.result here (c.rests.ensures.no busy s log here) (subst (λ steps. Rests s steps log before) (sym same) rests),
      );
}
