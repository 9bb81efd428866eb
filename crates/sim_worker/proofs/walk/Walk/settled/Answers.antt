use Rattle.std.proofs.Common.{sym, subst}
use Rattle.sim_worker.specs.Logs.{StandsAt}
use Rattle.sim_worker.specs.Walks.{IsBehindPauses, IsSettled}
use Rattle.sim_worker.proofs.WalkLemmas.{walk_settled}
use Rattle.sim_worker.proofs.walk.Walk.settled.Goals as goal

pub returns : goal.returns
returns c = λ s log of h.
    let steps = c.args.rows.now in
    let t = c.args.xpt.now in
    let row = c.behind_pauses-row.result in
    subst (λ b. IsSettled s steps log t.events (record { row = row; made = c.args.self.made; refused = b })) (sym c.is_marked.ensures)
    (walk_settled s t steps log c.args.self row c.is_refused-now.result
    (λ events stands. subst (λ n. StandsAt steps events n row) c.round.ensures (c.behind_pauses-row.ensures.stands events (subst (λ n. StandsAt steps events n c.args.self.row) (sym c.round.ensures) stands)))
    (subst (λ n. IsBehindPauses steps n row) c.round.ensures c.behind_pauses-row.ensures.behind)
    (λ behind. c.behind_pauses-row.ensures.same (subst (λ n. IsBehindPauses steps n c.args.self.row) (sym c.round.ensures) behind))
    c.is_refused-now.ensures of h)
