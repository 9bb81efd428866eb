use Rattle.std.proofs.Common.{◌∙◌, ap, subst, List}
use Rattle.std.proofs.lemmas.Result.{IfOk-weaker}
use Rattle.capture.specs.Rounds.{Rounded}
use Rattle.capture.specs.declared.timed_request.TimedRequest.{TimedRequest}
use Rattle.window_recordings.specs.Recordings.{AreParts, HasRounds, capture_of}
use Rattle.window_recordings.proofs.recording.recording_of.Goals as goal

pub returns : goal.returns
returns c =
    let parts = c.in_ok-parts.parts.requests.items in
    let are = subst (λ (own : List TimedRequest). AreParts c.args.end c.args.cut.now.window.span.until own parts) c.deref.ensures.value c.in_ok-parts.ensures in
    let made = c.in_ok-capture.ensures ∙ ap (capture_of c.args.cut.now) c.deref-3.ensures.value in
    IfOk-weaker c.recording.result _ _ (λ r has. record { parts = parts; are = are; rounds = subst (λ (made : Rounded). HasRounds made r) made has }) c.recording.ensures
