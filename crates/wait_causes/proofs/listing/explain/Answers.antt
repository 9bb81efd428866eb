use Rattle.std.proofs.Common.{◌≡◌, ap, ◌∙◌}
use Rattle.xpt_core.specs.Transport.{Transport}
use Rattle.wait_causes.proofs.StayLemmas.{row_of_parts}
use Rattle.wait_causes.proofs.listing.explain.Goals as goal

pub returns : goal.returns
returns c =
    let devices = c.devices-devices.ensures ∙ c.end.ensures in
    let config : c.config-config.result.now ≡ c.args.table.now.config = c.config-config.ensures ∙ ap (λ (t : Transport). t.config) devices in
    rw (c.number.ensures.same, c.run_level.ensures) (row_of_parts c.args.table.now.config c.args.table.now.events c.args.kept.now c.args.best c.driver_of.result c.adapter_of.result c.weight.result c.unwrap_or-live.result c.none.result c.none-2.result
    (rw devices at c.driver_of.ensures) (rw config at c.adapter_of.ensures) (rw config at c.weight.ensures.same) (rw (c.round.ensures, devices) at c.unwrap_or-live.ensures) c.none.ensures c.none-2.ensures)
