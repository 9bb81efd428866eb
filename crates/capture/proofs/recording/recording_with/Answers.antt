use Rattle.std.proofs.Common.{◌≡◌, ◌∙◌, ap, arith, refl}
use Rattle.recording_file.specs.Recorded.{Recorded}
use Rattle.capture.proofs.RecorderLemmas.{recorded_made}
use Rattle.capture.proofs.recording.recording_with.Goals as goal

pub add_caps-requires-clause-crowds : goal.add_caps-requires-clause-crowds
add_caps-requires-clause-crowds c = λ round some few.
    let rounds : c.add_names.new.recorder.rounds ≡ c.args.rounds = ap (λ (r : Recorded). r.rounds) c.in_ok-add_names.ensures.names ∙ ap (λ (r : Recorded). r.rounds) c.new-recorder.ensures in
    c.requires.capture.crowds round some (omega arith)

pub add_requests-requires-clause-crowds : goal.add_requests-requires-clause-crowds
add_requests-requires-clause-crowds c = λ round some few.
    let rounds : c.add_caps.new.recorder.rounds ≡ c.args.rounds = ap (λ (r : Recorded). r.rounds) c.in_ok-add_caps.ensures ∙ ap (λ (r : Recorded). r.rounds) c.in_ok-add_names.ensures.names ∙ ap (λ (r : Recorded). r.rounds) c.new-recorder.ensures in
    c.requires.capture.crowds round some (omega arith)

pub add_requests-requires-clause-completions : goal.add_requests-requires-clause-completions
add_requests-requires-clause-completions c =
    ap (λ (r : Recorded). r.completions) c.in_ok-add_caps.ensures ∙ ap (λ (r : Recorded). r.completions) c.in_ok-add_names.ensures.names ∙ ap (λ (r : Recorded). r.completions) c.new-recorder.ensures ∙ c.has_completions.ensures

pub returns-clause-recording : goal.returns-clause-recording
returns-clause-recording c =
    recorded_made c.args.config.now c.in_ok-copy.field-0 c.args.rated.now c.args.«open».now c.args.spare.now c.args.names.items (record { unit = c.args.round; rounds = c.args.rounds; requests = c.args.requests.now }) c.new-recorder.result c.add_names.new.recorder c.add_caps.new.recorder c.add_requests.new.recorder c.finish.result c.in_ok-copy.ensures (c.new-recorder.ensures ∙ rw c.has_completions.ensures refl) c.in_ok-add_names.ensures.names c.in_ok-add_caps.ensures c.in_ok-add_requests.ensures c.finish.ensures.same
