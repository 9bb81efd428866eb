-- What is spelled as a record is read again.
use Rattle.std.proofs.Common.{◌≡◌, ◌≤◌, ℕ, true, false, refl, arith, Option, Some, None, Ok, IfSome}
use Rattle.std.specs.Option.{option_map_or}
use Rattle.csv.specs.Records.{field_at}
use Rattle.event_rules.specs.declared.event.Event.TheVariants as event
use Rattle.trace_file.specs.Histories.{Adapter, Event, unlinked}
use Rattle.trace_file.specs.Rows.{adapter_in, submit_at, outcome_at, tick_at, event_at, TraceWord}
use Rattle.record_text.specs.Fields.{max_number, unused_from}
use Rattle.record_text.specs.ConfigRows.{one_number, adapter_row}
use Rattle.trace_file.specs.Versions.{Version}
use Rattle.trace_file.specs.declared.version.Version.TheVariants as version
use Rattle.trace_file.specs.declared.word.TraceWord.TheVariants as word
use Rattle.trace_file.specs.Records.{event_row, is_unlinked}
use Rattle.record_text.specs.Steps.{◌>>=◌}
use Rattle.trace_file.specs.Trace.{FitsEvent}
use Rattle.trace_file.specs.Words.{spelled}
use Rattle.trace_file.proofs.FieldLaws.{flags_again}
use Rattle.record_text.proofs.FieldLaws.{number_again}
use Rattle.trace_file.proofs.RowLaws.{can_spell}
use Rattle.trace_file.proofs.HexLaws.{byte_at_again, sense_at_again}
use Rattle.record_text.proofs.RowLaws.{adapter_again, one_again, two_again}

alone_again : (a : Adapter) → is_unlinked a ≡ true → a.openings ≤ max_number → (one_number (adapter_row a) >>= λ n. Ok (unlinked n)) ≡ Ok a
alone_again a alone o = by a.link alone
  where
    by : (link : Option ℕ) → option_map_or (λ l. false) link true ≡ true → (one_number (adapter_row (record { openings = a.openings; link = link })) >>= λ n. Ok (unlinked n)) ≡ Ok (record { openings = a.openings; link = link })
    by None e = rw (one_again (spelled word.Sim) a.openings o) refl
    by (Some l) e = absurd cc

pub adapter_in_again : (v : Version) (a : Adapter) → can_spell v a ≡ true → a.openings ≤ max_number → IfSome a.link (λ l. l ≤ max_number) → adapter_in v (adapter_row a) ≡ Ok a
unfolding adapter_in
adapter_in_again version.One a alone o l = alone_again a alone o
adapter_in_again version.Two a alone o l = alone_again a alone o
adapter_in_again version.Three a alone o l = adapter_again a o l

-- the word that an event's record begins with
abbrev pub word_for : Event → TraceWord
word_for (event.Submit driver device priority retries flags) = word.Submit
word_for (event.Send lane ccb) = word.Send
word_for (event.Done ccb outcome) = word.Done
word_for (event.Requeue ccb) = word.Requeue
word_for (event.Finish ccb) = word.Finish
word_for (event.FreezeDev device count) = word.Freeze
word_for (event.ReleaseDev device count) = word.Release
word_for (event.FreezeSim sim count) = word.FreezeSim
word_for (event.ReleaseSim sim) = word.ReleaseSim
word_for (event.Adjust device openings) = word.Adjust
word_for event.Tick = word.Tick

pub event_again : (e : Event) → FitsEvent e → event_at (word_for e) (event_row e) ≡ Ok e
unfolding event_at submit_at outcome_at tick_at unused_from field_at
event_again (event.Submit driver device priority retries flags) h =
    let row = event_row (event.Submit driver device priority retries flags) in
    rw (
      number_again row 1 255 driver (omega arith) h.0 refl,
      number_again row 2 max_number device (omega arith) h.1 refl,
      number_again row 3 max_number priority (omega arith) h.2 refl,
      number_again row 4 max_number retries (omega arith) h.3 refl,
      flags_again row 5 flags refl,
    ) refl
event_again (event.Send lane ccb) h = rw (two_again (spelled word.Send) lane ccb h.0 h.1) refl
event_again (event.Done ccb outcome) h =
    let row = event_row (event.Done ccb outcome) in
    rw (
      number_again row 1 max_number ccb (omega arith) h.0 refl,
      byte_at_again row 2 outcome.status h.1 refl,
      byte_at_again row 3 outcome.scsi h.2 refl,
      sense_at_again row 4 outcome.sense h.3 h.4 refl,
    ) refl
event_again (event.Requeue ccb) h = rw (one_again (spelled word.Requeue) ccb h) refl
event_again (event.Finish ccb) h = rw (one_again (spelled word.Finish) ccb h) refl
event_again (event.FreezeDev device count) h = rw (two_again (spelled word.Freeze) device count h.0 h.1) refl
event_again (event.ReleaseDev device count) h = rw (two_again (spelled word.Release) device count h.0 h.1) refl
event_again (event.FreezeSim sim count) h = rw (two_again (spelled word.FreezeSim) sim count h.0 h.1) refl
event_again (event.ReleaseSim sim) h = rw (one_again (spelled word.ReleaseSim) sim h) refl
event_again (event.Adjust device openings) h = rw (two_again (spelled word.Adjust) device openings h.0 h.1) refl
event_again event.Tick h = refl
