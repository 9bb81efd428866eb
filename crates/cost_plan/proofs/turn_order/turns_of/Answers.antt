use Rattle.std.proofs.Common.{◌∙◌, ap, map, sym, arith, List, ◌++◌, ◌∷◌, []}
use Rattle.std.specs.List.{range_with_len}
use Rattle.std.proofs.lemmas.List.FromFn.{map-range_with_len_more}
use Rattle.cost_plan.specs.Words.{instance_of_rows, live_of_rows}
use Rattle.cost_plan.specs.TurnOrder.{turn_of}
use Rattle.cost_plan.specs.declared.turn_order.Turn.{Turn}
use Rattle.cost_plan.proofs.turn_order.turns_of.Goals as goal

pub loop-stay-preserved : goal.loop-stay-preserved
loop-stay-preserved c =
    let f = turn_of (instance_of_rows c.args.net.now) (live_of_rows c.args.net.now) in
    let stay = c.loop-stay.stay in
    c.in_ok-push.ensures.items ∙ ap (λ (ts : List Turn). ts ++ c.turn_at.result ∷ []) c.loop-stay.invariant ∙ ap (λ (t : Turn). map f (range_with_len 0 stay) ++ t ∷ []) c.turn_at.ensures ∙ sym (map-range_with_len_more f 0 stay stay (omega arith))
