-- The records of a history are read as that history.
use Rattle.std.proofs.Common.{◌≡◌, ◌≢◌, ◌<◌, ◌≤◌, ℕ, length, true, refl, sym, ap, ◌∙◌, arith}
use Rattle.std.proofs.lemmas.Bool.{le-leb}
use Rattle.csv.specs.Records.{field_at}
use Rattle.event_rules.specs.declared.event.Event.TheVariants as event
use Rattle.record_text.specs.ConfigParsing.{next_rank, row_rank}
use Rattle.record_text.specs.declared.config_parser.ConfigParser.{ConfigParser}
use Rattle.record_text.specs.declared.config_row.ConfigRow.{ConfigRow}
use Rattle.record_text.specs.declared.config_row.ConfigRow.TheVariants as row
use Rattle.record_text.specs.ConfigRows.{device_of, weight_row, link_row, adapter_row, device_row, lane_row}
use Rattle.record_text.specs.Fields.{field_of}
use Rattle.record_text.specs.Text.{Row}
use Rattle.record_text.proofs.ConfigLaws.{row_takes, TakesRows}
use Rattle.record_text.proofs.RowLaws.{device_again, one_again, weight_again}
use Rattle.trace_file.specs.Histories.{Event}
use Rattle.trace_file.specs.Rows.{TraceWord}
use Rattle.trace_file.specs.Reading.{add_event, parser_rank, placed, row_step, stands, step, take_word, TraceParser}
use Rattle.trace_file.specs.declared.trace_parser.TraceParser.TheVariants as parser
use Rattle.trace_file.specs.Versions.{has_word, Version}
use Rattle.trace_file.specs.declared.word.TraceWord.TheVariants as word
use Rattle.trace_file.specs.Records.{event_row}
use Rattle.trace_file.specs.Trace.{FitsEvent}
use Rattle.trace_file.specs.Words.{spelled, word_rank}
use Rattle.trace_file.proofs.FieldLaws.{word_again}
use Rattle.trace_file.proofs.RowsAgain.{adapter_in_again, event_again, word_for}
use Rattle.trace_file.proofs.ParserLaws.{CanSay}
use Rattle.trace_file.proofs.ParserLemmas.{step_behind, take_word_event}

-- ---- a record is placed, and read by its word

row_again : (n : ℕ) (s : TraceParser) (fields : Row) (w : TraceWord) → s ≢ parser.Header → length fields ≡ 8 → field_of fields 0 ≡ spelled w → stands s w ≡ true → step n s fields ≡ take_word n s w fields
unfolding row_step placed
row_again n s fields w behind eight is place = step_behind n s fields behind ∙ rw (eight, is, word_again w, place) refl

in_place : (v : Version) (c : ConfigParser) (r : ConfigRow) (w : TraceWord) → word_rank w ≡ row_rank r → next_rank c ≤ row_rank r → has_word v w ≡ true → stands (parser.Config v c) w ≡ true
unfolding stands
in_place v c r w same place knows = rw (knows, same, le-leb (next_rank c) (row_rank r) place) refl

-- a row of the configuration is taken, where a version can say it
pub takes_rows : (v : Version) → TakesRows step (parser.Config v) (CanSay v)
unfolding take_word field_at
takes_rows v n c (row.Weight w) says fits place none =
    row_again n (parser.Config v c) (weight_row w) word.Weight (λ k. cc) refl refl (in_place v c (row.Weight w) word.Weight refl place says) ∙ rw (weight_again w fits.0 fits.1, row_takes c (row.Weight w) none) refl
takes_rows v n c (row.Link k) says fits place none =
    row_again n (parser.Config v c) (link_row k) word.Link (λ k. cc) refl refl (in_place v c (row.Link k) word.Link refl place says) ∙ rw (one_again (spelled word.Link) k fits, row_takes c (row.Link k) none) refl
takes_rows v n c (row.Sim a) says fits place none =
    row_again n (parser.Config v c) (adapter_row a) word.Sim (λ k. cc) refl refl (in_place v c (row.Sim a) word.Sim refl place refl) ∙ rw (adapter_in_again v a says fits.0 fits.1, row_takes c (row.Sim a) none) refl
takes_rows v n c (row.Dev d) says fits place none =
    row_again n (parser.Config v c) (device_row (device_of d)) word.Dev (λ k. cc) refl refl (in_place v c (row.Dev d) word.Dev refl place refl) ∙ rw (device_again d fits, row_takes c (row.Dev d) none) refl
takes_rows v n c (row.Lane a) says fits place none =
    row_again n (parser.Config v c) (lane_row a) word.Lane (λ k. cc) refl refl (in_place v c (row.Lane a) word.Lane refl place refl) ∙ rw (one_again (spelled word.Lane) a fits, row_takes c (row.Lane a) none) refl

event_word : (e : Event) → (length (event_row e) ≡ 8) × (field_of (event_row e) 0 ≡ spelled (word_for e)) × (word_rank (word_for e) ≡ 5)
unfolding field_at
event_word (event.Submit driver device priority retries flags) = (refl, refl, refl)
event_word _ = (refl, refl, refl)

-- an event's word stands after a configuration, and after other events
event_stands : (s : TraceParser) (w : TraceWord) → s ≢ parser.Header → parser_rank s ≤ 5 → word_rank w ≡ 5 → w ≢ word.Weight → w ≢ word.Link → stands s w ≡ true
unfolding stands
event_stands parser.Header w h few last weight link = absurd (h refl)
event_stands (parser.Config v c) w h few last weight link = rw (known v w weight link, last, le-leb (next_rank c) 5 few) refl
  where
    known : (v : Version) (w : TraceWord) → w ≢ word.Weight → w ≢ word.Link → has_word v w ≡ true
    known v word.Weight h k = absurd (h refl)
    known v word.Link h k = absurd (k refl)
    known v _ h k = refl
event_stands (parser.Events p) w h few last weight link = rw last refl

pub event_step : (n : ℕ) (s : TraceParser) (e : Event) → s ≢ parser.Header → parser_rank s ≤ 5 → FitsEvent e → step n s (event_row e) ≡ add_event n s e
event_step n s e behind few fits =
    let k = event_word e in
    let w = word_for e in
    let other : (v : TraceWord) → word_rank v < 5 → w ≢ v = (λ v less same. let rank : word_rank v ≡ 5 = sym (ap word_rank same) ∙ k.2 in omega arith) in
    row_again n s (event_row e) w behind k.0 k.1 (event_stands s w behind few k.2 (other word.Weight (omega arith)) (other word.Link (omega arith)))
    ∙ take_word_event n s w (event_row e) (other word.Weight (omega arith)) (other word.Link (omega arith)) (other word.Sim (omega arith)) (other word.Dev (omega arith)) (other word.Lane (omega arith))
    ∙ rw (event_again e fits) refl
