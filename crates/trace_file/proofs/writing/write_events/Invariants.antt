use Rattle.std.proofs.Common.{map, take}
use Rattle.std.specs.List.{AllByRecursion}
use Rattle.trace_file.specs.Records.{event_row}
use Rattle.trace_file.specs.Trace.{FitsEvent}
use Rattle.record_text.specs.Writing.{Wrote}
use Rattle.trace_file.proofs.writing.write_events.Given as goal

abbrev pub invariant-loop-event : goal.invariant-loop-event
invariant-loop-event l = Wrote l.fn.writer l.writer (map event_row (take l.event-index l.events))
    × AllByRecursion FitsEvent (take l.event-index l.events)
