-- The record of an event in a trace.
use Rattle.std.specs.Prelude.{◌≡◌, ℕ, ◌+◌, ◌<◌, List, ◌++◌, length, map, Result, Ok}
use Rattle.record_text.specs.Text.{Row, records_in}
use Rattle.trace_file.specs.Histories.{Past}
use Rattle.trace_file.specs.Records.{event_row}
use Rattle.trace_file.specs.declared.event_number.RecordCount.{RecordCount}
use Rattle.trace_file.specs.Reading.{TraceFault}

-- The records of the events stand last in a trace, after all others, and this is the number of the record of the event at a
-- place, counted from 1.
pub record IsEventRecord (text : List ℕ) (past : Past) (place n : ℕ) : Type 0 where
  pub others : List Row
  pub parts : records_in text ≡ others ++ map event_row past.events
  pub there : place < length past.events
  pub number : n ≡ length others + place + 1

-- the count after the record of this number
abbrev pub counted : ℕ → RecordCount → Row → Result RecordCount TraceFault
counted n before row = Ok (record { records = n })
