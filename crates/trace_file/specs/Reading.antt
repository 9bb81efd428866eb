-- How a list of records is read as a history: record by record, each by the parser that it finds.
use Rattle.std.specs.Prelude.{ℕ, ◌+◌, ◌==◌, Bool, true, false, nat_le, ◌&&◌, if◌then◌else◌, List, [], ◌∷◌, ◌++◌, length, Option, Some, None, option_and_then, ok_or, Result, Ok, Err}
use Rattle.trace_file.specs.Histories.{Topology, Past, Event, standard_weights, Refusal, refusal}
use Rattle.trace_file.specs.Rows.{adapter_in, event_at, TraceWord}
use Rattle.record_text.specs.ConfigRows.{one_number, device_at, weight_at}
use Rattle.record_text.specs.ConfigParsing.{empty_table, lacks_adapters as lacks, lacking, next_rank, rows_before, standard_table, with_row}
use Rattle.record_text.specs.declared.config_parser.ConfigParser.{ConfigParser}
use Rattle.record_text.specs.declared.config_row.ConfigRow.{ConfigRow}
use Rattle.cam_types.specs.declared.config.ConfigError.{ConfigError}
use Rattle.record_text.specs.declared.config_row.ConfigRow.TheVariants as row
use Rattle.cam_types.specs.declared.config.ConfigError.TheVariants as error
pub use Rattle.trace_file.specs.declared.trace_fault.TraceFault.{TraceFault}
pub use Rattle.trace_file.specs.declared.trace_fault.TraceFault.TheVariants.{BadHeader, BadRecord, BadField, BadConfig, Illegal, OutOfMemory}
pub use Rattle.trace_file.specs.declared.trace_parser.TraceParser.{TraceParser}
use Rattle.trace_file.specs.declared.trace_parser.TraceParser.TheVariants as parser
use Rattle.trace_file.specs.Versions.{has_word, name_of, Version}
use Rattle.trace_file.specs.declared.version.Version.TheVariants as version
use Rattle.trace_file.specs.declared.word.TraceWord.TheVariants as word
use Rattle.record_text.specs.Steps.{◌>>=◌, taken}
use Rattle.record_text.specs.Text.{Row}
use Rattle.record_text.specs.Fields.{field_of}
use Rattle.trace_file.specs.Words.{word_of, word_rank}
pub use Rattle.trace_file.specs.declared.trace_parser.TraceParser.TheVariants.{Header}
use Rattle.record_text.specs.Header.{is_header}

-- the rank of the words that may come next, and of those after them
abbrev pub parser_rank : TraceParser → ℕ
parser_rank (parser.Config v c) = next_rank c
parser_rank _ = 5

-- a version knows a word, where a configuration is in the making: after it the versions are alike
abbrev pub knows : TraceParser → TraceWord → Bool
knows (parser.Config v c) w = has_word v w
knows _ w = true

-- Rows of weights, links, adapters, devices, lanes and events stand in this order, of weights in versions 2 and 3, of links in
-- version 3. The first may have any word after these.
unfoldable pub stands : TraceParser → TraceWord → Bool
stands parser.Header w = false
stands s w = nat_le (parser_rank s) (word_rank w) && knows s w

-- the word of a record of eight fields, where it stands in its place
unfoldable pub placed : TraceParser → Row → Option TraceWord
placed s row =
    if length row == 8 then option_and_then (λ w. if stands s w then Some w else None) (word_of (field_of row 0)) else None

-- what is configured and what happened so far
abbrev pub past_of : TraceParser → Past
past_of parser.Header = record { config = record { weights = standard_weights; links = []; adapters = []; devices = []; lanes = [] }; events = [] }
past_of (parser.Config v c) = record { config = c.partial; events = [] }
past_of (parser.Events p) = p

-- a field without its form is a fault of the record
abbrev pub in_record : {X : Type 0} → ℕ → Result X ℕ → Result X TraceFault
in_record n (Ok x) = Ok x
in_record n (Err field) = Err (BadField n field)

-- a rule of the configuration that is broken is a fault of the record
abbrev pub in_config : {X : Type 0} → ℕ → Result X ConfigError → Result X TraceFault
in_config n (Ok x) = Ok x
in_config n (Err (error.Fault f)) = Err (BadConfig n f)
in_config n (Err error.OutOfMemory) = Err OutOfMemory

-- the next parser, unless the record's event is refused
abbrev pub unless_refused : ℕ → Option Refusal → TraceParser → Result TraceParser TraceFault
unless_refused n None s = Ok s
unless_refused n (Some r) s = Err (Illegal n r)

-- the configuration, or what it lacks
abbrev pub configured : ℕ → ConfigParser → Result Topology TraceFault
configured n c = if lacks c then Err (BadConfig n (lacking c)) else Ok c.partial

-- one row of the configuration more
abbrev pub add_row : ℕ → TraceParser → ConfigRow → Result TraceParser TraceFault
add_row n (parser.Config v c) r = in_config n (with_row c r) >>= λ d. Ok (parser.Config v d)
add_row n s r = Err (BadRecord n)

-- one event more
abbrev pub add_event : ℕ → TraceParser → Event → Result TraceParser TraceFault
add_event n parser.Header e = Err (BadRecord n)
add_event n (parser.Config v c) e = configured n c >>= λ t. unless_refused n (refusal t [] e) (parser.Events (record { config = t; events = e ∷ [] }))
add_event n (parser.Events p) e = unless_refused n (refusal p.config p.events e) (parser.Events (record p { events = p.events ++ e ∷ [] }))

-- the version whose records of adapters are due
abbrev pub version_of : TraceParser → Version
version_of (parser.Config v c) = v
version_of _ = version.One

-- a record of this word
unfoldable pub take_word : ℕ → TraceParser → TraceWord → Row → Result TraceParser TraceFault
take_word n s word.Weight fields = in_record n (weight_at fields) >>= λ w. add_row n s (row.Weight w)
take_word n s word.Link fields = in_record n (one_number fields) >>= λ openings. add_row n s (row.Link openings)
take_word n s word.Sim fields = in_record n (adapter_in (version_of s) fields) >>= λ a. add_row n s (row.Sim a)
take_word n s word.Dev fields = in_record n (device_at fields) >>= λ d. add_row n s (row.Dev d)
take_word n s word.Lane fields = in_record n (one_number fields) >>= λ adapter. add_row n s (row.Lane adapter)
take_word n s w fields = in_record n (event_at w fields) >>= add_event n s

-- a record after the header
unfoldable pub row_step : ℕ → TraceParser → Row → Result TraceParser TraceFault
row_step n s row = do
  w ← ok_or (placed s row) (BadRecord n)
  take_word n s w row

-- the configuration to which no row was applied, in a version
abbrev pub first_config : Version → ConfigParser
first_config version.One = standard_table
first_config version.Two = empty_table
first_config version.Three = empty_table

-- the record of this number
unfoldable pub step : ℕ → TraceParser → Row → Result TraceParser TraceFault
step n parser.Header row =
    if is_header (name_of version.One) row then Ok (parser.Config version.One (first_config version.One))
    else if is_header (name_of version.Two) row then Ok (parser.Config version.Two (first_config version.Two))
    else if is_header (name_of version.Three) row then Ok (parser.Config version.Three (first_config version.Three))
    else Err BadHeader
step n s row = row_step n s row

-- the end of the records: what a configuration lacks is due after its rows of weights and links
unfoldable pub ended : TraceParser → Result Past TraceFault
ended parser.Header = Err BadHeader
ended (parser.Config v c) = configured (2 + rows_before c) c >>= λ t. Ok (record { config = t; events = [] })
ended (parser.Events p) = Ok p

-- the history of these records, or the first fault
unfoldable pub reading : List Row → Result Past TraceFault
reading rows = taken step 1 parser.Header rows >>= ended
