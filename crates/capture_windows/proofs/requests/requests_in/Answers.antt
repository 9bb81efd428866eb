use Rattle.std.proofs.Common.{◌≡◌, ◌∙◌, ap}
use Rattle.std.proofs.lemmas.Result.{IfOk-weaker}
use Rattle.capture.specs.Timed.{by_arrival}
use Rattle.capture_windows.specs.Attempts.{requests_in}
use Rattle.capture_windows.proofs.requests.requests_in.Goals as goal

pub returns : goal.returns
returns c =
    let given = c.in_ok-started_in.ensures in
    IfOk-weaker c.in_arrival_order.result (λ sorted. sorted.items ≡ by_arrival c.in_ok-started_in.field-0.items) (λ sorted. sorted.items ≡ requests_in c.args.span c.args.attempts.now) (λ sorted is. is ∙ ap by_arrival given) c.in_arrival_order.ensures.items
