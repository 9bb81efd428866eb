use Rattle.std.proofs.Common.{List, ap, ◌∙◌}
use Rattle.sim_queue.specs.Adapter.{Adapter, with_priority, Row}
use Rattle.sim_queue.proofs.RowLemmas.{rows_changed}
use Rattle.sim_queue.proofs.queue.SimQueue.set_ready.Goals as goal

pub returns : goal.returns
returns c =
    let q = c.self.inside in
    ap (λ (l : List Row). let a : Adapter = record { rows = l; openings = q.openings; sent = q.sent; callers = q.callers } in a)
    (rows_changed (λ r. record r { priority = c.args.priority }) q.rows.items _ c.args.device c.row_of-at.result c.index.result.now c.self.invariant.in_turn.sound c.deref.ensures.value
    c.row_of-at.ensures.in_range c.row_of-at.ensures.device c.index.ensures)
    ∙ ap (λ (b : Adapter). record b { rows = with_priority c.args.device c.args.priority b.rows }) c.self.view_is
