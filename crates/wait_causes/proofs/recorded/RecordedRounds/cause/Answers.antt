use Rattle.std.proofs.Common.{◌≡◌, ◌∙◌, ap, subst, List, unwrap_or, slice_get}
use Rattle.recording_file.specs.Recorded.{Recorded}
use Rattle.round_net.specs.RecordedNets.{instance_of_recording, live_of_recording}
use Rattle.wait_causes.specs.Words.{WaitCause, NotAsked}
use Rattle.wait_causes.specs.RecordedCauses.{recorded_cause}
use Rattle.wait_causes.proofs.OriginLemmas.{cause_found}
use Rattle.wait_causes.proofs.recorded.RecordedRounds.cause.Goals as goal

pub returns : goal.returns
returns c =
    subst (λ (q : Recorded). c.cause_at.result ≡ recorded_cause (instance_of_recording q) (live_of_recording q) c.args.device c.args.round) c.self.view_is
    (c.cause_at.ensures ∙ ap (λ (xs : List WaitCause). unwrap_or (slice_get xs c.cell.result) NotAsked) c.deref.ensures.value
    ∙ cause_found c.self.inside.recording c.self.inside.causes.items c.args.device c.args.round c.cell.result c.rounds.result c.self.invariant
    (rw (← c.self.view_is) at c.requires.device) c.requires.first (rw (← c.self.view_is) at c.requires.last) c.rounds.ensures.same c.cell.ensures)
