use Rattle.std.proofs.Common.{option_map, sym, ap, ◌∙◌}
use Rattle.sim_queue.proofs.HeadLemmas.{best-first}
use Rattle.sim_queue.proofs.queue.SimQueue.best_ready.Goals as goal

pub returns-in_err-first : goal.returns-in_err-first
returns-in_err-first c =
    let q = c.self.inside in
    let best = best-first c.args.self.now q.rows.items q.ready (ap (λ a. a.rows) (sym c.self.view_is)) c.self.invariant.in_turn c.if-not-can_send.ensures in
    c.from_residual.ensures ∙ ap (option_map (λ e. e.item)) c.in_err-first.ensures.value ∙ sym best

pub returns : goal.returns
returns c =
    let q = c.self.inside in
    let best = best-first c.args.self.now q.rows.items q.ready (ap (λ a. a.rows) (sym c.self.view_is)) c.self.invariant.in_turn c.if-not-can_send.ensures in
    ap (option_map (λ e. e.item)) c.in_ok-first.ensures.value ∙ sym best
