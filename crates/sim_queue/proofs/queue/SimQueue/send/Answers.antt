use Rattle.std.proofs.Common.{◌+◌, List, Some, get_or, sym, ap, ◌∙◌}
use Rattle.sim_queue.specs.Adapter.{Adapter, new_row, is_named, best_ready, with_send, Row}
use Rattle.sim_queue.specs.Turns.{is_ready, entry_of}
use Rattle.sim_queue.proofs.HeadLemmas.{HasTurn-best, named-turn, turn_row}
use Rattle.sim_queue.proofs.RowLemmas.{rows_changed}
use Rattle.sim_queue.proofs.queue.SimQueue.send.Goals as goal

pub row_of-at-requires : goal.row_of-at-requires
row_of-at-requires c =
    let q = c.self.inside in
    let a : Adapter = record { rows = q.rows.items; openings = q.openings; sent = q.sent; callers = q.callers } in
    ap (is_named c.args.device) c.deref.ensures.value
    ∙ named-turn q.rows.items q.ready c.args.device (HasTurn-best a q.ready c.args.device c.self.invariant.in_turn (ap best_ready c.self.view_is ∙ c.requires.turn))

pub requeue_first-requires-clause-ready : goal.requeue_first-requires-clause-ready
requeue_first-requires-clause-ready c =
    let q = c.self.inside in
    let at = c.row_of-at.result in
    let a : Adapter = record { rows = q.rows.items; openings = q.openings; sent = q.sent; callers = q.callers } in
    let w = HasTurn-best a q.ready c.args.device c.self.invariant.in_turn (ap best_ready c.self.view_is ∙ c.requires.turn) in
    let own = turn_row q.rows.items _ q.ready c.args.device at c.self.invariant.in_turn.sound c.deref.ensures.value c.row_of-at.ensures.in_range c.row_of-at.ensures.device w in
    ap (λ l. is_ready (get_or l at (new_row 0))) c.deref-2.ensures.value ∙ ap is_ready (sym own) ∙ w.ready

pub requeue_first-requires-clause-first : goal.requeue_first-requires-clause-first
requeue_first-requires-clause-first c =
    let q = c.self.inside in
    let at = c.row_of-at.result in
    let a : Adapter = record { rows = q.rows.items; openings = q.openings; sent = q.sent; callers = q.callers } in
    let w = HasTurn-best a q.ready c.args.device c.self.invariant.in_turn (ap best_ready c.self.view_is ∙ c.requires.turn) in
    let own = turn_row q.rows.items _ q.ready c.args.device at c.self.invariant.in_turn.sound c.deref.ensures.value c.row_of-at.ensures.in_range c.row_of-at.ensures.device w in
    w.first ∙ ap (λ z. Some (entry_of z)) own ∙ ap (λ l. Some (entry_of (get_or l at (new_row 0)))) (sym c.deref-2.ensures.value)

pub returns : goal.returns
returns c =
    let q = c.self.inside in
    ap (λ (l : List Row). let a : Adapter = record { rows = l; openings = q.openings; sent = q.sent + 1; callers = q.callers } in a)
    (rows_changed (λ r. record r { turn = c.args.place + 1 }) q.rows.items _ c.args.device c.row_of-at.result c.index_mut.result.now c.self.invariant.in_turn.sound c.deref.ensures.value
    c.row_of-at.ensures.in_range c.row_of-at.ensures.device c.index_mut.ensures.value)
    ∙ ap (λ (b : Adapter). record b { rows = with_send c.args.device c.args.place b.rows; sent = b.sent + 1 }) c.self.view_is
