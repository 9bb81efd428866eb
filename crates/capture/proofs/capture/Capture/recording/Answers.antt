use Rattle.std.proofs.Common.{sym, subst}
use Rattle.std.proofs.lemmas.Result.{IfOk-weaker}
use Rattle.capture.specs.Captured.{NeverLimits}
use Rattle.capture.proofs.OpenLemmas.{never_limits}
use Rattle.capture.proofs.capture.Capture.recording.Goals as goal

pub returns-clause-never_limits : goal.returns-clause-never_limits
returns-clause-never_limits c =
    let a = c.args in
    IfOk-weaker c.recording_with.result _ _ (λ r is. subst (NeverLimits a.«open».now) (sym is) (never_limits a.config.now a.rated.now a.«open».now a.spare.now a.names.items (record { unit = c.self.inside.round; rounds = c.self.inside.rounds; requests = c.deref.result.now }))) c.recording_with.ensures.recording
