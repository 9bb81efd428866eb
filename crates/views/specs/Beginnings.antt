-- The record with which a stay began.
use Rattle.std.specs.Prelude.{◌≡◌, ℕ, ◌==◌, ◌&&◌, Bool, List, Some, find}
use Rattle.event_rules.specs.Past.{Past}
use Rattle.event_rules.specs.declared.stay.Stay.{Stay}
use Rattle.trace_file.specs.EventRecord.{IsEventRecord}
use Rattle.trace_file.specs.Trace.{IsTrace}
use Rattle.xpt_core.specs.Records.{records}
use Rattle.xpt_core.specs.declared.stays.stay_record.StayRecord.{StayRecord}

-- a stay has this name
abbrev pub is_named : Stay → StayRecord → Bool
is_named name r = (r.stay.ccb == name.ccb) && (r.stay.attempt == name.attempt)

-- in a trace, the record of the event that began the stay of this name has this number
pub record BeginsAt (text : List ℕ) (name : Stay) (n : ℕ) : Type 0 where
  pub past : Past
  pub trace : IsTrace text past
  pub begun : StayRecord
  pub named : find (is_named name) (records past.events) ≡ Some begun
  pub event : IsEventRecord text past begun.stay.place n
