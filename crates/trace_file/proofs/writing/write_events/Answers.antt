use Rattle.std.proofs.Common.{arith, sym}
use Rattle.trace_file.specs.Records.{event_row}
use Rattle.trace_file.specs.Trace.{FitsEvent}
use Rattle.record_text.proofs.WritingLemmas.{all_more, wrote_more, wrote_none}
use Rattle.trace_file.proofs.writing.write_events.Goals as goal

pub loop-event-init : goal.loop-event-init
loop-event-init c = (wrote_none c.args.writer.now c.requires, tt)

pub loop-event-preserved : goal.loop-event-preserved
loop-event-preserved c =
    let events = c.args.events.now in
    let i = c.loop-event.event-index in
    let kept = c.loop-event.invariant in
    let event = c.event-item.result in (
      wrote_more c.args.writer.now c.loop-event.writer c.write_event.new.writer event_row events i event (omega arith) (sym c.event-item.is) kept.0 c.in_ok-write_event.ensures.rows,
      all_more FitsEvent events i event (omega arith) (sym c.event-item.is) kept.1 c.write_event.ensures.fits,
    )
