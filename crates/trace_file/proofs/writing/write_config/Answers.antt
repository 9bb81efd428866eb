use Rattle.std.proofs.Common.{map}
use Rattle.std.proofs.lemmas.Result.{on_ok_weaker}
use Rattle.trace_file.specs.Records.{weight_rows}
use Rattle.record_text.specs.ConfigRows.{adapter_row, device_row, link_row}
use Rattle.record_text.proofs.WritingLemmas.{wrote_both}
use Rattle.trace_file.proofs.writing.write_config.Goals as goal

pub returns-clause-rows : goal.returns-clause-rows
returns-clause-rows c =
    let t = c.args.config.now in
    let weights = rw c.weights.ensures.same at c.in_ok-write_table.ensures in
    let links = rw c.links.ensures.same at c.in_ok-write_links.ensures in
    let adapters = rw c.adapters.ensures.same at c.in_ok-write_adapters.ensures in
    let devices = rw c.devices.ensures.same at c.in_ok-write_devices.ensures.rows in
    on_ok_weaker c.write_numbers.result (λ lanes.
    wrote_both _ _ _ (weight_rows c.args.version t.weights) _ weights
    (wrote_both _ _ _ (map link_row t.links) _ links
    (wrote_both _ _ _ (map adapter_row t.adapters) _ adapters (wrote_both _ _ _ (map device_row t.devices) _ devices lanes))))
    (rw c.lanes.ensures.same at c.write_numbers.ensures)
