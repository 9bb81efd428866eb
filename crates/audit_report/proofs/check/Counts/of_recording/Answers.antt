use Rattle.std.proofs.Common.{◌∙◌, List, length, ap, sym, refl}
use Rattle.recording_file.specs.declared.request.Request.{Request}
use Rattle.round_net.proofs.RecordedLemmas.{recorded_counts}
use Rattle.audit_report.proofs.check.Counts.of_recording.Goals as goal

pub returns : goal.returns
returns c =
    let r = c.args.recording.now in
    let counts = recorded_counts r in
    let few = ap (λ (qs : List Request). length qs) c.requests.ensures.same in
    record {
      complete = refl;
      commands = few ∙ sym counts.0;
      stays = few ∙ sym counts.1;
      rounds = c.rounds.ensures.same ∙ sym counts.2;
      live = c.recorded_cost.ensures;
    }
