use Rattle.std.proofs.Common.{sym}
use Rattle.sim_queue.proofs.TurnLemmas.{IsRowAt, first-place}
use Rattle.sim_queue.proofs.ready.place_in_turn.Goals as goal

pub returns-then-is_first : goal.returns-then-is_first
returns-then-is_first c =
    let at = c.requires.there in
    let h : IsRowAt c.args.rows.now c.args.ready.now at.0 c.args.row.now = record { inside = at.1; is = sym at.2; in_turn = c.requires.in_turn } in
    first-place h c.requires.ready (c.is_first.ensures c.if-is_first.true)
