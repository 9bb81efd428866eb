-- What the records of a trace say: their words' fields, in order.
use Rattle.std.specs.Prelude.{ℕ, if◌then◌else◌, Result, Ok, Err}
use Rattle.trace_file.specs.Histories.{Adapter, Event, Outcome, unlinked}
use Rattle.event_rules.specs.declared.event.Event.TheVariants as event
pub use Rattle.trace_file.specs.Versions.{has_links, Version}
pub use Rattle.trace_file.specs.declared.word.TraceWord.{TraceWord}
use Rattle.trace_file.specs.declared.word.TraceWord.TheVariants as word
use Rattle.record_text.specs.Steps.{◌>>=◌}
use Rattle.trace_file.specs.Fields.{byte_at, sense_at, flags_at}
use Rattle.record_text.specs.Text.{Row}
use Rattle.record_text.specs.Fields.{number_at, unused_from, max_number}
use Rattle.record_text.specs.ConfigRows.{adapter_at, one_number, two_numbers}

-- an adapter: its openings, and its link too in a version that has links
unfoldable pub adapter_in : Version → Row → Result Adapter ℕ
adapter_in v row = if has_links v then adapter_at row else (one_number row >>= λ openings. Ok (unlinked openings))

unfoldable pub submit_at : Row → Result Event ℕ
submit_at row = do
  driver ← number_at row 1 255
  device ← number_at row 2 max_number
  priority ← number_at row 3 max_number
  retries ← number_at row 4 max_number
  flags ← flags_at row 5
  _ ← unused_from row 6
  Ok (event.Submit driver device priority retries flags)

-- a number, and what an adapter says of a command
unfoldable pub outcome_at : Row → Result (ℕ × Outcome) ℕ
outcome_at row = do
  n ← number_at row 1 max_number
  status ← byte_at row 2
  scsi ← byte_at row 3
  sense ← sense_at row 4
  _ ← unused_from row 5
  Ok (n, record { status = status; scsi = scsi; sense = sense })

unfoldable pub tick_at : Row → Result Event ℕ
tick_at row = do
  _ ← unused_from row 1
  Ok event.Tick

-- the event of a record with this word, which isn't one of the configuration
unfoldable pub event_at : TraceWord → Row → Result Event ℕ
event_at word.Submit row = submit_at row
event_at word.Send row = two_numbers row >>= λ p. Ok (event.Send p.0 p.1)
event_at word.Done row = outcome_at row >>= λ p. Ok (event.Done p.0 p.1)
event_at word.Requeue row = one_number row >>= λ ccb. Ok (event.Requeue ccb)
event_at word.Finish row = one_number row >>= λ ccb. Ok (event.Finish ccb)
event_at word.Freeze row = two_numbers row >>= λ p. Ok (event.FreezeDev p.0 p.1)
event_at word.Release row = two_numbers row >>= λ p. Ok (event.ReleaseDev p.0 p.1)
event_at word.FreezeSim row = two_numbers row >>= λ p. Ok (event.FreezeSim p.0 p.1)
event_at word.ReleaseSim row = one_number row >>= λ sim. Ok (event.ReleaseSim sim)
event_at word.Adjust row = two_numbers row >>= λ p. Ok (event.Adjust p.0 p.1)
event_at word.Tick row = tick_at row
event_at _ row = Err 1
