-- A record of the configuration leaves a configuration in the making.
use Rattle.std.proofs.Common.{◌≡◌, ℕ, true, sym, ap, ◌∙◌, Ok, ok_or}
use Rattle.std.proofs.lemmas.Bool.{false≢true}
use Rattle.record_text.specs.ConfigParsing.{with_row}
use Rattle.record_text.specs.declared.config_row.ConfigRow.{ConfigRow}
use Rattle.record_text.specs.declared.config_row.ConfigRow.TheVariants as row
use Rattle.record_text.specs.ConfigRows.{device_at, one_number, weight_at}
use Rattle.record_text.specs.Fields.{field_of}
use Rattle.record_text.specs.Text.{Row}
use Rattle.record_text.proofs.StepLemmas.{on_ok, ok_is, ok_or_ok}
use Rattle.trace_file.specs.Reading.{add_row, in_config, in_record, placed, row_step, take_word, version_of, BadRecord, TraceParser}
use Rattle.trace_file.specs.declared.trace_parser.TraceParser.TheVariants as parser
use Rattle.trace_file.specs.Rows.{adapter_in, TraceWord}
use Rattle.trace_file.specs.declared.word.TraceWord.TheVariants as word
use Rattle.trace_file.specs.ScriptReading.{is_config_word, is_configuring}
use Rattle.trace_file.specs.Words.{spelled}
use Rattle.trace_file.proofs.ParserLaws.{placed_some}

add_configures : (n : ℕ) (s t : TraceParser) (r : ConfigRow) → add_row n s r ≡ Ok t → is_configuring t ≡ true
add_configures n (parser.Config v c) t r e = on_ok (in_config n (with_row c r)) _ t e (λ d ed k. ap is_configuring (sym (ok_is (parser.Config v d) t k)))
add_configures n parser.Header t r e = absurd cc
add_configures n (parser.Events p) t r e = absurd cc

row_configures : (n : ℕ) (s t : TraceParser) (w : TraceWord) (fields : Row) → field_of fields 0 ≡ spelled w → is_config_word (field_of fields 0) ≡ true → take_word n s w fields ≡ Ok t → is_configuring t ≡ true
unfolding take_word is_config_word
row_configures n s t word.Weight fields is h e = on_ok (in_record n (weight_at fields)) _ t e (λ x ex r. add_configures n s t (row.Weight x) r)
row_configures n s t word.Link fields is h e = on_ok (in_record n (one_number fields)) _ t e (λ x ex r. add_configures n s t (row.Link x) r)
row_configures n s t word.Sim fields is h e = on_ok (in_record n (adapter_in (version_of s) fields)) _ t e (λ x ex r. add_configures n s t (row.Sim x) r)
row_configures n s t word.Dev fields is h e = on_ok (in_record n (device_at fields)) _ t e (λ x ex r. add_configures n s t (row.Dev x) r)
row_configures n s t word.Lane fields is h e = on_ok (in_record n (one_number fields)) _ t e (λ x ex r. add_configures n s t (row.Lane x) r)
row_configures n s t w fields is h e = absurd (false≢true (sym (ap is_config_word is) ∙ h))

pub configures : (n : ℕ) (s t : TraceParser) (fields : Row) → is_config_word (field_of fields 0) ≡ true → row_step n s fields ≡ Ok t → is_configuring t ≡ true
unfolding row_step
configures n s t fields h e =
    on_ok (ok_or (placed s fields) (BadRecord n)) (λ w. take_word n s w fields) t e (λ w ew r.
    row_configures n s t w fields (placed_some s fields w (ok_or_ok (placed s fields) (BadRecord n) w ew)).word h r)
