-- A record of more than eight fields is refused, whatever they are.
use Rattle.std.proofs.Common.{◌≡◌, ◌<◌, ℕ, Bool, Option, None, Ok, Err, true, false, cond, length, refl}
use Rattle.cam_types.specs.Bounds.{Bounds}
use Rattle.record_text.specs.Front.{RefusesLong, max_fields}
use Rattle.record_text.specs.Steps.{◌>>=◌}
use Rattle.std.specs.Prelude.{◌==◌}
use Rattle.record_text.proofs.FrontLemmas.{not_eight}
use Rattle.record_text.specs.Text.{Row}
use Rattle.record_text.specs.Fields.{field_of}
use Rattle.trace_file.specs.Reading.{BadHeader, BadRecord, TraceFault, TraceParser, placed, row_step, step}
use Rattle.record_text.specs.Header.{is_header}
use Rattle.trace_file.specs.ScriptReading.{config_step, first_row, first_parser, is_config_word, is_limits, item_word, roomy_word, rows_step, script_step}
use Rattle.trace_file.specs.declared.script_parser.ScriptParser.{ScriptParser}
use Rattle.trace_file.specs.declared.script_parser.ScriptParser.TheVariants as script
use Rattle.trace_file.specs.declared.trace_parser.TraceParser.TheVariants as trace

long_row : (n : ℕ) (s : TraceParser) (row : Row) → max_fields < length row → row_step n s row ≡ Err (BadRecord n)
unfolding row_step placed
long_row n s row many = rw (not_eight row many) refl

fault : ℕ → TraceParser → TraceFault
fault n trace.Header = BadHeader
fault n s = BadRecord n

long_step : (n : ℕ) (s : TraceParser) (row : Row) → max_fields < length row → step n s row ≡ Err (fault n s)
unfolding step is_header fault
long_step n trace.Header row many = rw (not_eight row many) refl
long_step n (trace.Config v c) row many = long_row n (trace.Config v c) row many
long_step n (trace.Events p) row many = long_row n (trace.Events p) row many

-- in traces ..
pub trace_refuses : RefusesLong step
trace_refuses = (fault, long_step)

long_config : (n : ℕ) (given : Option Bounds) (t : TraceParser) (row : Row) → max_fields < length row → config_step n given t row ≡ Err (BadRecord n)
unfolding config_step first_row item_word
long_config n given t row many = by (is_config_word (field_of row 0)) (long_row n t row many) (not_eight row many)
  where
    by : (b : Bool) → row_step n t row ≡ Err (BadRecord n) → (length row == 8) ≡ false
        → cond b (row_step n t row >>= λ u. Ok (script.Config given u)) (first_row n given t row) ≡ Err (BadRecord n)
    by true refused long = rw refused refl
    by false refused long = rw long refl

script_fault : ℕ → ScriptParser → TraceFault
script_fault n script.Header = BadHeader
script_fault n s = BadRecord n

long_script : (n : ℕ) (s : ScriptParser) (row : Row) → max_fields < length row → script_step n s row ≡ Err (script_fault n s)
unfolding script_step is_header is_limits rows_step roomy_word item_word script_fault
long_script n script.Header row many = rw (not_eight row many) refl
long_script n (script.First v) row many = rw (not_eight row many) (long_config n None (first_parser v) row many)
long_script n (script.Config given t) row many = long_config n given t row many
long_script n (script.Rows s steps answers) row many = rw (not_eight row many) refl

-- .. and in scripts
pub script_refuses : RefusesLong script_step
script_refuses = (script_fault, long_script)
