use Rattle.std.proofs.Common.{ap, ◌∙◌, not, ◌==◌}
use Rattle.event_rules.specs.Counts.{has_in_flight}
use Rattle.xpt_core.specs.Transport.{Transport}
use Rattle.xpt_core.specs.Counted.{Counts}
use Rattle.xpt_core.proofs.DeviceSoundLemmas.{flying-counts}
use Rattle.xpt_core.proofs.devices.Devices.has_in_flight.Goals as goal

pub returns : goal.returns
returns c =
    ap (λ (n : Counts). not (n.in_flight == 0)) c.self.invariant.counts ∙ flying-counts c.self.inside.events.items ∙ ap (λ (t : Transport). has_in_flight t.events) c.self.view_is
