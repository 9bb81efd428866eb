-- How a list of records is read as a script: record by record, each by the parser that it finds.
use Rattle.std.specs.Prelude.{ℕ, ◌+◌, ◌==◌, Bool, true, false, nat_lt, ◌&&◌, ◌||◌, if◌then◌else◌, List, length, Option, Some, None, option_and_then, unwrap_or, ok_or, Result, Ok, Err, codes, bytes_eq}
use Rattle.cam_types.specs.Bounds.{Bounds, max_bounds}
use Rattle.trace_file.specs.Histories.{Refusal, Topology}
pub use Rattle.trace_file.specs.declared.script_row.ScriptItem.{ScriptItem}
use Rattle.trace_file.specs.declared.script_row.ScriptItem.TheVariants as item
pub use Rattle.trace_file.specs.declared.script_parser.ScriptParser.{ScriptParser}
use Rattle.trace_file.specs.declared.script_parser.ScriptParser.TheVariants as parser
use Rattle.trace_file.specs.ScriptRows.{limits_at, script_row_at, script_word_of, ScriptWord}
use Rattle.trace_file.specs.Reading as reading
use Rattle.trace_file.specs.Reading.{first_config, in_record, row_step, TraceFault, BadHeader, BadRecord, Illegal, TraceParser}
use Rattle.record_text.specs.ConfigParsing as parsing
use Rattle.record_text.specs.Header.{is_header}
use Rattle.trace_file.specs.declared.trace_parser.TraceParser.TheVariants as trace
use Rattle.record_text.specs.Text.{Row}
use Rattle.record_text.specs.Fields.{field_of}
use Rattle.trace_file.specs.ScriptVersions.{script_name, trace_version, ScriptVersion}
use Rattle.trace_file.specs.declared.script_version.ScriptVersion.TheVariants as script
use Rattle.trace_file.specs.Scenarios.{Scenario, add_item, empty_scenario, is_answer_word, item_of, MAX_ROWS}
use Rattle.record_text.specs.Steps.{◌>>=◌, taken}
pub use Rattle.trace_file.specs.declared.script_parser.ScriptParser.TheVariants.{Header}

-- a configuration is in the making
abbrev pub is_configuring : TraceParser → Bool
is_configuring (trace.Config v c) = true
is_configuring _ = false

-- the configuration of a version after the header
abbrev pub first_parser : ScriptVersion → TraceParser
first_parser v = trace.Config (trace_version v) (first_config (trace_version v))

-- the configuration, or what it lacks
abbrev pub configured : ℕ → TraceParser → Result Topology TraceFault
configured n (trace.Config v c) = reading.configured n c
configured n t = Err (BadRecord n)

-- how many rows of weights and links have come
abbrev pub rows_before : TraceParser → ℕ
rows_before (trace.Config v c) = parsing.rows_before c
rows_before t = 0

-- the number of the record after the header and the limits, if they are given
abbrev pub first_number : Option Bounds → ℕ
first_number None = 2
first_number (Some limits) = 3

-- the limits that are given, or the largest
abbrev pub limits_of : Option Bounds → Bounds
limits_of given = unwrap_or given max_bounds

-- the words of the configuration, and of the limits
unfoldable pub is_config_word : List ℕ → Bool
is_config_word field =
    bytes_eq field (codes "weight") || bytes_eq field (codes "link") || bytes_eq field (codes "sim") || bytes_eq field (codes "dev")
    || bytes_eq field (codes "lane")

unfoldable pub is_limits : Row → Bool
is_limits row = (length row == 8) && bytes_eq (field_of row 0) (codes "limits")

-- the word of a record of eight fields
unfoldable pub item_word : Row → Option ScriptWord
item_word row = if length row == 8 then script_word_of (field_of row 0) else None

-- one answer more, or one row of a driver more, may come after that many of each
abbrev pub has_room : Bool → ℕ → ℕ → Bool
has_room true steps answers = nat_lt answers MAX_ROWS
has_room false steps answers = nat_lt steps MAX_ROWS

-- a word for which there is room
unfoldable pub roomy_word : ℕ → ℕ → Row → Option ScriptWord
roomy_word steps answers row = option_and_then (λ w. if has_room (is_answer_word w) steps answers then Some w else None) (item_word row)

-- one item more, unless it is refused
abbrev pub with_item : ℕ → Scenario → ℕ → ℕ → Result ScriptItem Refusal → Result ScriptParser TraceFault
with_item n s steps answers (Ok (item.Step driver one)) = Ok (parser.Rows (add_item s (item.Step driver one)) (steps + 1) answers)
with_item n s steps answers (Ok (item.Answer lane outcome)) = Ok (parser.Rows (add_item s (item.Answer lane outcome)) steps (answers + 1))
with_item n s steps answers (Err r) = Err (Illegal n r)

-- a row after others
unfoldable pub rows_step : ℕ → Scenario → ℕ → ℕ → Row → Result ScriptParser TraceFault
rows_step n s steps answers row = do
  w ← ok_or (roomy_word steps answers row) (BadRecord n)
  parsed ← in_record n (script_row_at w row)
  with_item n s steps answers (item_of s.config parsed)

-- the first row, which ends the configuration
unfoldable pub first_row : ℕ → Option Bounds → TraceParser → Row → Result ScriptParser TraceFault
first_row n given t row = do
  w ← ok_or (item_word row) (BadRecord n)
  parsed ← in_record n (script_row_at w row)
  c ← configured n t
  with_item n (empty_scenario c (limits_of given)) 0 0 (item_of c parsed)

-- a record after the header and the limits: of the configuration, as in a trace, or the first row
unfoldable pub config_step : ℕ → Option Bounds → TraceParser → Row → Result ScriptParser TraceFault
config_step n given t row =
    if is_config_word (field_of row 0) then (row_step n t row >>= λ u. Ok (parser.Config given u))
    else first_row n given t row

-- the limits
unfoldable pub limits_step : ℕ → ScriptVersion → Row → Result ScriptParser TraceFault
limits_step n v row = in_record n (limits_at row) >>= λ limits. Ok (parser.Config (Some limits) (first_parser v))

-- the record of this number
unfoldable pub script_step : ℕ → ScriptParser → Row → Result ScriptParser TraceFault
script_step n parser.Header row =
    if is_header (script_name script.One) row then Ok (parser.First script.One)
    else if is_header (script_name script.Two) row then Ok (parser.First script.Two)
    else Err BadHeader
script_step n (parser.First v) row = if is_limits row then limits_step n v row else config_step n None (first_parser v) row
script_step n (parser.Config given t) row = config_step n given t row
script_step n (parser.Rows s steps answers) row = rows_step n s steps answers row

-- the configuration where the records end: what is lacking is due after the rows of weights and links
abbrev pub configured_last : Option Bounds → TraceParser → Result Topology TraceFault
configured_last given t = configured (first_number given + rows_before t) t

-- the end of the records
unfoldable pub script_ended : ScriptParser → Result Scenario TraceFault
script_ended parser.Header = Err BadHeader
script_ended (parser.First v) = configured_last None (first_parser v) >>= λ c. Ok (empty_scenario c (limits_of None))
script_ended (parser.Config given t) = configured_last given t >>= λ c. Ok (empty_scenario c (limits_of given))
script_ended (parser.Rows s steps answers) = Ok s

-- the scenario of these records, or the first fault
unfoldable pub script_reading : List Row → Result Scenario TraceFault
script_reading rows = taken script_step 1 parser.Header rows >>= script_ended
