-- Traces of histories, and what a reader of traces answers.
use Rattle.std.specs.Prelude.{◌≡◌, ℕ, ◌<◌, ◌≤◌, true, ⊤, List, length, Option, None, Result, Bool}
use Rattle.std.specs.List.{AllByRecursion}
use Rattle.event_rules.specs.declared.event.Event.TheVariants as event
use Rattle.cam_types.specs.declared.limits.TheConstants.{MAX_BYTES}
use Rattle.cam_types.specs.Whole.{IsWhole, IsTooLong}
use Rattle.trace_file.specs.Histories.{Device, Event, Outcome, Past, config_fault, is_legal}
use Rattle.trace_file.specs.Reading.{ended, step, TraceFault}
use Rattle.trace_file.specs.declared.trace_fault.TraceFault.TheVariants as fault
use Rattle.trace_file.specs.declared.trace_parser.TraceParser.TheVariants as parser
use Rattle.record_text.specs.Text.{Row, records_in}
use Rattle.trace_file.specs.Records.{holds, records_of}
use Rattle.trace_file.specs.Versions.{Version}
use Rattle.record_text.specs.Fields.{max_number}
use Rattle.record_text.specs.Faults.{IsFirstFault}

-- the text's records are those of the history, in a version that can hold it
pub record IsTrace (text : List ℕ) (past : Past) : Type 0 where
  pub bounded : length text ≤ MAX_BYTES
  pub version : Version
  pub held : holds version past.config ≡ true
  pub spelled : records_in text ≡ records_of version past

-- a number and an outcome fit their fields
abbrev pub FitsOutcome : ℕ → Outcome → Type 0
FitsOutcome n outcome =
    (n ≤ max_number) × (outcome.status < 256) × (outcome.scsi < 256) × AllByRecursion (λ b. b < 256) outcome.sense × (length outcome.sense ≤ 18)

-- the numbers of an event fit its fields
abbrev pub FitsEvent : Event → Type 0
FitsEvent (event.Submit driver device priority retries flags) =
    (driver ≤ 255) × (device ≤ max_number) × (priority ≤ max_number) × (retries ≤ max_number)
FitsEvent (event.Send lane ccb) = (lane ≤ max_number) × (ccb ≤ max_number)
FitsEvent (event.Done ccb outcome) = FitsOutcome ccb outcome
FitsEvent (event.Requeue ccb) = ccb ≤ max_number
FitsEvent (event.Finish ccb) = ccb ≤ max_number
FitsEvent (event.FreezeDev device count) = (device ≤ max_number) × (count ≤ max_number)
FitsEvent (event.ReleaseDev device count) = (device ≤ max_number) × (count ≤ max_number)
FitsEvent (event.FreezeSim sim count) = (sim ≤ max_number) × (count ≤ max_number)
FitsEvent (event.ReleaseSim sim) = sim ≤ max_number
FitsEvent (event.Adjust device openings) = (device ≤ max_number) × (openings ≤ max_number)
FitsEvent event.Tick = ⊤

-- a configuration within its rules, legal events, and numbers that fit their fields
pub record IsHistory (past : Past) : Type 0 where
  pub config : config_fault past.config ≡ None
  pub legal : is_legal past.config past.events ≡ true
  pub targets : AllByRecursion (λ (d : Device). d.target ≤ 65535) past.config.devices
  pub events : AllByRecursion FitsEvent past.events

-- what was read to its end was a trace of the history
pub record WasTrace (before after : Option (List ℕ)) (past : Past) : Type 0 where
  pub text : List ℕ
  pub whole : IsWhole before after text
  pub trace : IsTrace text past
  pub history : IsHistory past

-- what was read to its end has this fault first, where its records are taken from this parser on
pub record WasFaulty {S V : Type 0} (next : ℕ → S → Row → Result S TraceFault) (end : S → Result V TraceFault) (first : S) (before after : Option (List ℕ)) (e : TraceFault) : Type 0 where
  pub text : List ℕ
  pub whole : IsWhole before after text
  pub fault : IsFirstFault next end first (records_in text) e

-- why a reader that takes records so has read nothing, where its note says at last whether a call failed
abbrev pub ExplainsBy : {S V : Type 0} → (ℕ → S → Row → Result S TraceFault) → (S → Result V TraceFault) → S → Option (List ℕ) → Option (List ℕ) → Bool → TraceFault → Type 0
ExplainsBy next end first before after failed fault.TooLong = IsTooLong before after
ExplainsBy next end first before after failed fault.ReadFailed = failed ≡ true
ExplainsBy next end first before after failed fault.OutOfMemory = ⊤
ExplainsBy next end first before after failed e = WasFaulty next end first before after e

-- why no history was read
abbrev pub Explains : Option (List ℕ) → Option (List ℕ) → Bool → TraceFault → Type 0
Explains before after failed e = ExplainsBy step ended parser.Header before after failed e
