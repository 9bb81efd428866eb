-- The first record of a script that fails, and its fault.
use Rattle.std.proofs.Common.{ℕ, List, Option, None, Result, Ok, Err, ok_or}
use Rattle.cam_types.specs.Bounds.{Bounds}
use Rattle.trace_file.specs.Histories.{Refusal}
use Rattle.trace_file.specs.ScriptReading.{config_step, configured, configured_last, first_row, first_parser, is_config_word, is_limits, item_word, limits_of, limits_step, roomy_word, rows_step, script_ended, script_step, with_item, ScriptItem, ScriptParser}
use Rattle.trace_file.specs.declared.script_row.ScriptItem.TheVariants as item
use Rattle.trace_file.specs.declared.script_parser.ScriptParser.TheVariants as parser
use Rattle.trace_file.specs.declared.trace_fault.TraceFault.TheVariants as fault
use Rattle.trace_file.specs.Reading.{in_record, row_step, TraceParser}
use Rattle.trace_file.specs.declared.trace_parser.TraceParser.TheVariants as trace
use Rattle.record_text.specs.Header.{is_header}
use Rattle.trace_file.specs.ScriptVersions.{script_name}
use Rattle.trace_file.specs.declared.script_version.ScriptVersion.TheVariants as script
use Rattle.record_text.specs.Text.{Row}
use Rattle.record_text.specs.Fields.{field_of}
use Rattle.trace_file.specs.Scenarios.{Scenario, empty_scenario, item_of}
use Rattle.trace_file.specs.ScriptRows.{limits_at, script_row_at}
use Rattle.record_text.specs.Steps.{◌>>=◌, taken}
use Rattle.trace_file.proofs.FaultLaws.{IsOfText, FailsByText, behind_fails, by_configured, by_field}
use Rattle.record_text.proofs.FaultLaws.{bound, taken_fails, by_test, by_word}

item_fails : (n : ℕ) (s : Scenario) (steps answers : ℕ) (r : Result ScriptItem Refusal) → FailsByText (with_item n s steps answers r)
item_fails n s steps answers (Ok (item.Step driver one)) = tt
item_fails n s steps answers _ = tt

configured_fails : (n : ℕ) (t : TraceParser) → FailsByText (configured n t)
configured_fails n (trace.Config v c) = by_configured n c
configured_fails n _ = tt

rows_fail : (n : ℕ) (s : Scenario) (steps answers : ℕ) (row : Row) → FailsByText (rows_step n s steps answers row)
unfolding rows_step
rows_fail n s steps answers row =
    bound IsOfText (ok_or (roomy_word steps answers row) (fault.BadRecord n)) _ (by_word IsOfText (roomy_word steps answers row) (fault.BadRecord n) tt) (λ w.
    bound IsOfText (in_record n (script_row_at w row)) _ (by_field n (script_row_at w row)) (λ parsed.
    item_fails n s steps answers (item_of s.config parsed)))

first_fails : (n : ℕ) (given : Option Bounds) (t : TraceParser) (row : Row) → FailsByText (first_row n given t row)
unfolding first_row
first_fails n given t row =
    bound IsOfText (ok_or (item_word row) (fault.BadRecord n)) _ (by_word IsOfText (item_word row) (fault.BadRecord n) tt) (λ w.
    bound IsOfText (in_record n (script_row_at w row)) _ (by_field n (script_row_at w row)) (λ parsed.
    bound IsOfText (configured n t) _ (configured_fails n t) (λ c.
    item_fails n (empty_scenario c (limits_of given)) 0 0 (item_of c parsed))))

config_fails : (n : ℕ) (given : Option Bounds) (t : TraceParser) (row : Row) → FailsByText (config_step n given t row)
unfolding config_step
config_fails n given t row =
    by_test IsOfText (is_config_word (field_of row 0)) (row_step n t row >>= λ u. Ok (parser.Config given u)) (first_row n given t row) (bound IsOfText (row_step n t row) _ (behind_fails n t row) (λ u. tt)) (first_fails n given t row)

step_fails : (n : ℕ) (s : ScriptParser) (row : Row) → FailsByText (script_step n s row)
unfolding script_step limits_step
step_fails n parser.Header row =
    by_test IsOfText (is_header (script_name script.One) row) (Ok (parser.First script.One)) _ tt (by_test IsOfText (is_header (script_name script.Two) row) (Ok (parser.First script.Two)) (Err fault.BadHeader) tt tt)
step_fails n (parser.First v) row =
    by_test IsOfText (is_limits row) (limits_step n v row) (config_step n None (first_parser v) row) (bound IsOfText (in_record n (limits_at row)) _ (by_field n (limits_at row)) (λ limits. tt)) (config_fails n None (first_parser v) row)
step_fails n (parser.Config given t) row = config_fails n given t row
step_fails n (parser.Rows s steps answers) row = rows_fail n s steps answers row

end_fails : (s : ScriptParser) → FailsByText (script_ended s)
unfolding script_ended
end_fails parser.Header = tt
end_fails (parser.First v) = bound IsOfText (configured_last None (first_parser v)) _ (configured_fails _ (first_parser v)) (λ c. tt)
end_fails (parser.Config given t) = bound IsOfText (configured_last given t) _ (configured_fails _ t) (λ c. tt)
end_fails (parser.Rows s steps answers) = tt

pub reading_fails : (rows : List Row) → FailsByText (taken script_step 1 parser.Header rows >>= script_ended)
reading_fails rows = bound IsOfText (taken script_step 1 parser.Header rows) script_ended (taken_fails IsOfText script_step step_fails 1 parser.Header rows) end_fails
