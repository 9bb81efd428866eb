use Rattle.std.proofs.Common.{◌≡◌, ◌∙◌, sym, slice_index}
use Rattle.round_net.specs.Rows.{instance_of_rows}
use Rattle.orders.specs.Orders.{IsOrdered}
use Rattle.orders.proofs.PlacingLemmas.{IsAdmissible-in_time}
use Rattle.orders.proofs.by_order.ordered.Goals as goal

pub returns-clause-in_time : goal.returns-clause-in_time
returns-clause-in_time c = λ none_unsent none_late.
    let net = instance_of_rows c.args.net.now in
    let same : c.in_ok-schedule.schedule ≡ c.in_ok-rounds.rounds.items = c.in_ok-schedule.ensures ∙ c.deref.ensures.value in
    let by_order : IsOrdered c.args.order net (slice_index c.in_ok-schedule.schedule) = rw same c.in_ok-rounds.ensures.ordered in
    IsAdmissible-in_time c.args.order net (slice_index c.in_ok-schedule.schedule) by_order (sym c.unsent-unsent.ensures ∙ none_unsent) (sym c.late-late.ensures ∙ none_late)
