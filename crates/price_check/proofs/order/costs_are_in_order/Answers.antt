use Rattle.std.proofs.Common.{arith}
use Rattle.price_check.specs.Words.{instance_of_rows, live_of_rows}
use Rattle.price_check.proofs.DualityLemmas.{best_where_proved}
use Rattle.round_net.proofs.PaceLemmas.{sound_at_pace, live_at_pace, admissible_at_pace, cost_at_pace}
use Rattle.round_net.specs.Pace.{instance_at_pace}
use Rattle.price_check.proofs.order.costs_are_in_order.Goals as goal

pub returns-clause-by_order : goal.returns-clause-by_order
returns-clause-by_order c = λ f p proof.
    let n = c.args.net.now in
    let sound = c.rounds-rounds.ensures.sound in
    let best = best_where_proved (instance_at_pace n) (live_of_rows n) f p (sound_at_pace n sound) proof (live_of_rows n) (live_at_pace n sound) in
    omega (arith, best, cost_at_pace n f, cost_at_pace n (live_of_rows n))

pub returns-clause-by_slots : goal.returns-clause-by_slots
returns-clause-by_slots c = λ f g p q proof least.
    let n = c.args.net.now in
    let sound = c.rounds-rounds.ensures.sound in
    best_where_proved (instance_of_rows n) (live_of_rows n) g q sound least f (admissible_at_pace n f sound proof.admissible)
