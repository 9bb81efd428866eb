use Rattle.std.proofs.Common.{◌≡◌, ap, ◌∙◌}
use Rattle.xpt_core.specs.Transport.{Transport}
use Rattle.round_net.proofs.EndLemmas.{bus_in}
use Rattle.round_net.proofs.cause.cause_at.Goals as goal

pub is_frozen-requires : goal.is_frozen-requires
is_frozen-requires c =
    let config : c.config.result.now ≡ c.args.replay.now.config = c.config.ensures ∙ ap (λ (t : Transport). t.config) c.devices-devices.ensures in
    rw (← config) (bus_in c.config.result.now c.args.device c.in-Some.adapter c.in-Some.ensures.kept c.in-Some.ensures.same)

pub has_opening-requires-else-not-has_opening : goal.has_opening-requires-else-not-has_opening
has_opening-requires-else-not-has_opening c =
    let config : c.config.result.now ≡ c.args.replay.now.config = c.config.ensures ∙ ap (λ (t : Transport). t.config) c.devices-devices.ensures in
    rw (← config) (bus_in c.config.result.now c.args.device c.in-Some.adapter c.in-Some.ensures.kept c.in-Some.ensures.same)
