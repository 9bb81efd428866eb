use Rattle.std.proofs.Common.{◌≡◌, ◌∙◌, ◌++◌, ◌∷◌, List, [], ap, append_assoc, map, refl}
use Rattle.trace_file.specs.Versions.{Version}
use Rattle.record_text.specs.Text.{Row}
use Rattle.trace_file.specs.Histories.{Past}
use Rattle.trace_file.specs.Records.{event_row, header, records_of, weight_rows}
use Rattle.record_text.specs.ConfigRows.{adapter_row, device_row, link_row, lane_row}
use Rattle.trace_file.specs.Trace.{IsHistory}
use Rattle.trace_file.specs.Writing.{text_in}
use Rattle.trace_file.proofs.TextLaws.{is_trace}
use Rattle.record_text.proofs.WritingLemmas.{wrote_both}
use Rattle.trace_file.proofs.trace_text.text_in.Goals as goal
use Rattle.record_text.specs.Header.{header_row}

-- the rows of the configuration come before those of the events
config_first : (v : Version) (past : Past)
    → header v ∷ ((weight_rows v past.config.weights ++ (map link_row past.config.links ++ (map adapter_row past.config.adapters ++ (map device_row past.config.devices ++ map lane_row past.config.lanes)))) ++ map event_row past.events) ≡ records_of v past
unfolding records_of
config_first v past = ap (λ (l : List Row). header v ∷ l) (simp append_assoc refl)

pub returns-in-Ok-clause-text : goal.returns-in-Ok-clause-text
unfolding text_in header_row
returns-in-Ok-clause-text c =
    let past = c.args.history.now in
    let v = c.args.version in
    let config = rw c.config.ensures at c.in_ok-write_config.ensures.rows in
    let events = rw c.events.ensures.same at c.in_ok-write_events.ensures.rows in
    let all = wrote_both _ _ _ (header v ∷ []) _ (rw c.name.ensures at c.in_ok-write_row.ensures) (wrote_both _ _ _ _ (map event_row past.events) config events) in
    let whole = rw (config_first v past) at all.text in
    let from = c.from_writer-writer.ensures in
    c.in-Ok.ensures.ok ∙ (rw (from.wtr, c.new-2.ensures.items, from.empty) at whole)

pub returns-in-Ok-clause-legal : goal.returns-in-Ok-clause-legal
returns-in-Ok-clause-legal c = record {
  config = (rw c.config.ensures at c.in_ok-write_config.ensures.kept).kept;
  legal = c.events.ensures.legal;
  targets = rw c.config.ensures at c.in_ok-write_config.ensures.fits;
  events = rw c.events.ensures.same at c.in_ok-write_events.ensures.fits;
}

pub returns-in-Ok-clause-trace : goal.returns-in-Ok-clause-trace
returns-in-Ok-clause-trace c =
    let h : IsHistory c.args.history.now = record {
      config = (rw c.config.ensures at c.in_ok-write_config.ensures.kept).kept;
      legal = c.events.ensures.legal;
      targets = rw c.config.ensures at c.in_ok-write_config.ensures.fits;
      events = rw c.events.ensures.same at c.in_ok-write_events.ensures.fits;
    } in
    let short = rw c.events.ensures.same at c.events.ensures.short in
    is_trace c.args.version c.args.history.now c.requires h short
