-- the parts that hold a transport's CCBs and stays, beside its queues
use Rattle.std.specs.Prelude.{◌≡◌, ◌<◌, ◌≤◌, IsTrue, vec_capacity}
use Rattle.event_rules.specs.Legal.{IsWithinHistory, max_alive, is_legal}
use Rattle.xpt_core.specs.Transport.{Transport}
use Rattle.xpt_core.specs.Ccbs.{rows}
use Rattle.xpt_core.specs.Cases.{cases}
use Rattle.xpt_core.specs.Records.{records}
use Rattle.xpt_core.specs.Latest.{latest_places}
use Rattle.xpt_core.specs.declared.ccbs.Ccbs.{Ccbs}
pub use Rattle.xpt_core.specs.declared.stays.Stays.{Stays}

-- rows and cases are those of the events, which are legal by the rules, and there is memory for all that may come
pub record IsCcbs (t : Transport) (b : Ccbs) : Type 0 where
  pub within : IsWithinHistory t.rules
  pub legal : IsTrue (is_legal t.rules t.config t.events)
  pub rows : b.rows.rows ≡ rows t.events
  pub cases : b.cases.items ≡ cases t.events
  pub slots : b.rows.slots ≡ max_alive t.rules
  pub row_room : t.rules.stays ≤ b.rows.room
  pub case_room : t.rules.stays < vec_capacity b.cases

-- the records and the latest stays are those of the events, which are legal, and there is memory for all that may begin
pub record IsStays (t : Transport) (s : Stays) : Type 0 where
  pub within : IsWithinHistory t.rules
  pub legal : IsTrue (is_legal t.rules t.config t.events)
  pub records : s.records.items ≡ records t.events
  pub latest : s.latest.items ≡ latest_places t.events
  pub records_room : t.rules.stays ≤ vec_capacity s.records
  pub latest_room : t.rules.stays ≤ vec_capacity s.latest
