use Rattle.std.proofs.Common.{◌∷◌, [], map}
use Rattle.std.proofs.lemmas.Result.{on_ok_weaker}
use Rattle.recording_file.specs.Records.{rounds_row, unit_rows}
use Rattle.record_text.specs.ConfigRows.{adapter_row, link_row, weight_row}
use Rattle.record_text.proofs.WritingLemmas.{wrote_both}
use Rattle.recording_file.proofs.recording_text.write_head.Goals as goal

pub returns-clause-rows : goal.returns-clause-rows
returns-clause-rows c =
    let r = c.args.recording.now in
    let t = r.config in
    let config = c.config-config.ensures.same in
    let unit = rw c.unit.ensures.same at c.in_ok-write_unit.ensures.rows in
    let rounds = rw c.rounds.ensures.same at c.in_ok-write_one.ensures in
    let weights = rw (c.weights.ensures.same, config) at c.in_ok-write_weights.ensures in
    let links = rw (c.links.ensures.same, config) at c.in_ok-write_links.ensures in
    let adapters = rw (c.adapters.ensures.same, config) at c.in_ok-write_adapters.ensures in
    on_ok_weaker c.write_devices.result (λ devices.
    wrote_both _ _ _ (unit_rows r.unit) _ unit
    (wrote_both _ _ _ (rounds_row r.rounds ∷ []) _ rounds
    (wrote_both _ _ _ (map weight_row t.weights) _ weights
    (wrote_both _ _ _ (map link_row t.links) _ links
    (wrote_both _ _ _ (map adapter_row t.adapters) _ adapters devices)))))
    (rw (c.devices.ensures.same, config) at c.write_devices.ensures.rows)

pub returns-clause-unit : goal.returns-clause-unit
returns-clause-unit c = on_ok_weaker c.write_devices.result (λ devices. rw c.unit.ensures.same at c.write_unit.ensures.fits) c.write_devices.ensures.fits
