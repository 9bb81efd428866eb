-- Whose turn it was.
use Rattle.std.specs.Prelude.{◌≡◌, ℕ, List, Some}
use Rattle.cam_event.specs.Turns.{next_ccb}
use Rattle.event_rules.specs.Past.{Past}
use Rattle.trace_file.specs.Trace.{IsTrace}

-- after the events of a trace, the lane's adapter has this CCB to send next
pub record IsTurn (text : List ℕ) (lane ccb : ℕ) : Type 0 where
  pub past : Past
  pub trace : IsTrace text past
  pub next : next_ccb past.config past.events lane ≡ Some ccb
