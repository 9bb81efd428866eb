-- How a list of records is read as a recording: record by record, each by the parser that it finds.
use Rattle.std.specs.Prelude.{ℕ, ◌+◌, ◌==◌, Bool, true, false, nat_le, nat_lt, ◌&&◌, ◌||◌, if◌then◌else◌, List, [], ◌∷◌, ◌++◌, length, Option, Some, None, option_and_then, ok_or, Result, Ok, Err}
use Rattle.std.specs.Option.{option_map_or}
use Rattle.cam_types.specs.Topology.{Topology}
use Rattle.cam_types.specs.Weights.{standard_weights}
use Rattle.cam_types.specs.declared.config.ConfigError.{ConfigError}
use Rattle.cam_types.specs.declared.config.ConfigError.TheVariants as error
use Rattle.record_text.specs.ConfigParsing.{lacking, lacks_adapters, next_rank, rows_before, standard_table, with_row}
use Rattle.record_text.specs.declared.config_parser.ConfigParser.{ConfigParser}
use Rattle.record_text.specs.declared.config_row.ConfigRow.{ConfigRow}
use Rattle.record_text.specs.declared.config_row.ConfigRow.TheVariants as row
use Rattle.recording_file.specs.Recorded.{Recorded, Request, Span, has_items, request_cause, RequestFault, MAX_REQUESTS}
use Rattle.recording_file.specs.Rows.{header_at, span_at, rounds_at, named_at, text_at, capped_at, most_at, request_at}
use Rattle.record_text.specs.ConfigRows.{one_number, weight_at, adapter_at, device_at}
pub use Rattle.recording_file.specs.declared.recording_fault.RecordingFault.{RecordingFault}
pub use Rattle.recording_file.specs.declared.recording_fault.RecordingFault.TheVariants.{BadHeader, BadRecord, BadField, BadConfig, Illegal, OutOfMemory}
pub use Rattle.recording_file.specs.declared.recording_parser.RecordingParser.{RecordingParser}
use Rattle.recording_file.specs.declared.recording_parser.RecordingParser.TheVariants as parser
pub use Rattle.recording_file.specs.declared.parsed_row.ParsedRow.{ParsedRow}
use Rattle.recording_file.specs.declared.parsed_row.ParsedRow.TheVariants as parsed
pub use Rattle.recording_file.specs.declared.preamble.Start.{Start}
use Rattle.recording_file.specs.Words.{word_of, word_rank, RecordingWord}
use Rattle.recording_file.specs.declared.word.RecordingWord.TheVariants as word
use Rattle.record_text.specs.Steps.{◌>>=◌, taken}
use Rattle.record_text.specs.Text.{Row}
use Rattle.record_text.specs.Fields.{field_of}
use Rattle.recording_file.specs.Counts.{counts_of}
use Rattle.recording_file.specs.Names.{NameValue, is_next_name}
use Rattle.recording_file.specs.Caps.{Cap, is_next_cap}

-- the rank of the words that may come next after names, caps and requests
abbrev pub book_rank : Recorded → ℕ
book_rank r = if has_items r.requests then 8 else if has_items r.caps then 7 else 6

-- the rank of the words that may come next, and of those after them
abbrev pub rank_of : RecordingParser → ℕ
rank_of (parser.Config start c) = 2 + next_rank c
rank_of (parser.Book r) = book_rank r
rank_of _ = 2

-- there may be a record more of this word: a request, where there are fewer than may be
abbrev pub has_place : RecordingParser → RecordingWord → Bool
has_place (parser.Book r) w = nat_lt (word_rank w) 8 || nat_lt (length r.requests) MAX_REQUESTS
has_place _ w = true

-- Records stand in the order of their words. But where an adapter is due, any word after the rounds has a place.
unfoldable pub stands : RecordingParser → RecordingWord → Bool
stands parser.Header w = false
stands (parser.First v) w = nat_le (word_rank w) 1
stands (parser.Timed v u) w = word_rank w == 1
stands s w = nat_le (rank_of s) (word_rank w) && has_place s w

-- the word of a record of eight fields, where it stands in its place
unfoldable pub placed : RecordingParser → Row → Option RecordingWord
placed s row =
    if length row == 8 then option_and_then (λ w. if stands s w then Some w else None) (word_of (field_of row 0)) else None

-- what is recorded where a configuration has come
abbrev pub begun : Start → Topology → Recorded
begun start t = record { unit = start.unit; rounds = start.rounds; config = t; names = []; caps = []; requests = []; completions = start.completions }

abbrev pub nothing : Recorded
nothing = record { unit = None; rounds = 0; config = record { weights = standard_weights; links = []; adapters = []; devices = []; lanes = [] }; names = []; caps = []; requests = []; completions = false }

-- what is recorded so far
abbrev pub recorded_of : RecordingParser → Recorded
recorded_of (parser.Config start c) = begun start c.partial
recorded_of (parser.Book r) = r
recorded_of (parser.Timed v u) = record nothing { unit = Some u; completions = v }
recorded_of (parser.First v) = record nothing { completions = v }
recorded_of _ = nothing

-- a field without its form is a fault of the record
abbrev pub in_record : {X : Type 0} → ℕ → Result X ℕ → Result X RecordingFault
in_record n (Ok x) = Ok x
in_record n (Err field) = Err (BadField n field)

-- the parsed row, by the value of its form
abbrev pub says : {X : Type 0} → ℕ → Result X ℕ → (X → ParsedRow) → Result ParsedRow RecordingFault
says n form say = in_record n form >>= λ x. Ok (say x)

-- the name of a record: its kind and number, its order, and its text
unfoldable pub parsed_name : ℕ → Recorded → Row → Result ParsedRow RecordingFault
parsed_name n r row = in_record n (named_at (counts_of r.config) row) >>= λ k.
    if is_next_name r.names k.0 k.1 then says n (text_at row) (λ text. parsed.Name (record { kind = k.0; number = k.1; text = text }))
    else Err (BadRecord n)

-- the cap of a record: its part and first round, their order, and the rest
unfoldable pub parsed_cap : ℕ → Recorded → Row → Result ParsedRow RecordingFault
parsed_cap n r row = in_record n (capped_at r.rounds (counts_of r.config) row) >>= λ k.
    if is_next_cap r.caps k.0 k.1 then says n (most_at r.rounds k.1 row) (λ m. parsed.Cap (record { part = k.0; first = k.1; last = m.0; most = m.1 }))
    else Err (BadRecord n)

-- what a record of this word says
unfoldable pub parsed_by : ℕ → Recorded → RecordingWord → Row → Result ParsedRow RecordingFault
parsed_by n r word.Unit row = says n (span_at row) parsed.Unit
parsed_by n r word.Rounds row = says n (rounds_at row) parsed.Rounds
parsed_by n r word.Weight row = says n (weight_at row) parsed.Weight
parsed_by n r word.Link row = says n (one_number row) parsed.Link
parsed_by n r word.Sim row = says n (adapter_at row) parsed.Sim
parsed_by n r word.Dev row = says n (device_at row) parsed.Dev
parsed_by n r word.Name row = parsed_name n r row
parsed_by n r word.Cap row = parsed_cap n r row
parsed_by n r word.Request row = says n (request_at r.completions row) parsed.Request

-- a rule of the configuration that is broken is a fault of the record
abbrev pub in_config : {X : Type 0} → ℕ → Result X ConfigError → Result X RecordingFault
in_config n (Ok x) = Ok x
in_config n (Err (error.Fault f)) = Err (BadConfig n f)
in_config n (Err error.OutOfMemory) = Err OutOfMemory

-- the next parser, unless there is a cause against the request
abbrev pub unless_illegal : ℕ → Option RequestFault → RecordingParser → Result RecordingParser RecordingFault
unless_illegal n None s = Ok s
unless_illegal n (Some cause) s = Err (Illegal n cause)

-- one row of the configuration more
abbrev pub add_row : ℕ → RecordingParser → ConfigRow → Result RecordingParser RecordingFault
add_row n (parser.Config start c) r = in_config n (with_row c r) >>= λ d. Ok (parser.Config start d)
add_row n s r = Err (BadRecord n)

-- what is recorded where the configuration lacks nothing
abbrev pub whole_of : ℕ → Start → ConfigParser → Result Recorded RecordingFault
whole_of n start c = if lacks_adapters c then Err (BadConfig n (lacking c)) else Ok (begun start c.partial)

abbrev pub whole : ℕ → RecordingParser → Result Recorded RecordingFault
whole n (parser.Config start c) = whole_of n start c
whole n (parser.Book r) = Ok r
whole n s = Err (BadRecord n)

abbrev pub add_name : ℕ → RecordingParser → NameValue → Result RecordingParser RecordingFault
add_name n s name = whole n s >>= λ r. Ok (parser.Book (record r { names = r.names ++ name ∷ [] }))

abbrev pub add_cap : ℕ → RecordingParser → Cap → Result RecordingParser RecordingFault
add_cap n s cap = whole n s >>= λ r. Ok (parser.Book (record r { caps = r.caps ++ cap ∷ [] }))

abbrev pub add_request : ℕ → RecordingParser → Request → Result RecordingParser RecordingFault
add_request n s q = whole n s >>= λ r. unless_illegal n (request_cause r.rounds r.config r.caps (r.requests, q)) (parser.Book (record r { requests = r.requests ++ q ∷ [] }))

-- how long a round is
abbrev pub add_unit : ℕ → RecordingParser → Span → Result RecordingParser RecordingFault
add_unit n (parser.First v) u = Ok (parser.Timed v u)
add_unit n s u = Err (BadRecord n)

-- the rounds: after them stand the standard weights, unless rows of weights come
abbrev pub add_rounds : ℕ → RecordingParser → ℕ → Result RecordingParser RecordingFault
add_rounds n (parser.First v) rounds = Ok (parser.Config (record { completions = v; unit = None; rounds = rounds }) standard_table)
add_rounds n (parser.Timed v u) rounds = Ok (parser.Config (record { completions = v; unit = Some u; rounds = rounds }) standard_table)
add_rounds n s rounds = Err (BadRecord n)

-- a parsed row is applied
unfoldable pub apply_parsed : ℕ → RecordingParser → ParsedRow → Result RecordingParser RecordingFault
apply_parsed n s (parsed.Unit u) = add_unit n s u
apply_parsed n s (parsed.Rounds rounds) = add_rounds n s rounds
apply_parsed n s (parsed.Weight w) = add_row n s (row.Weight w)
apply_parsed n s (parsed.Link openings) = add_row n s (row.Link openings)
apply_parsed n s (parsed.Sim a) = add_row n s (row.Sim a)
apply_parsed n s (parsed.Dev d) = add_row n s (row.Dev d)
apply_parsed n s (parsed.Name name) = add_name n s name
apply_parsed n s (parsed.Cap cap) = add_cap n s cap
apply_parsed n s (parsed.Request q) = add_request n s q

-- a record of this word
abbrev pub take_word : ℕ → RecordingParser → RecordingWord → Row → Result RecordingParser RecordingFault
take_word n s w fields = parsed_by n (recorded_of s) w fields >>= apply_parsed n s

-- a record after the header
unfoldable pub row_step : ℕ → RecordingParser → Row → Result RecordingParser RecordingFault
row_step n s row = ok_or (placed s row) (BadRecord n) >>= λ w. take_word n s w row

-- the record of this number
unfoldable pub step : ℕ → RecordingParser → Row → Result RecordingParser RecordingFault
step n parser.Header row = ok_or (header_at row) BadHeader >>= λ v. Ok (parser.First v)
step n s row = row_step n s row

-- the end of the records: the record that is due is named
unfoldable pub ended : RecordingParser → Result Recorded RecordingFault
ended parser.Header = Err BadHeader
ended (parser.First v) = Err (BadRecord 2)
ended (parser.Timed v u) = Err (BadRecord 3)
ended (parser.Config start c) = whole_of (3 + option_map_or (λ (u : Span). 1) start.unit 0 + rows_before c) start c
ended (parser.Book r) = Ok r

-- the recording of these records, or the first fault
unfoldable pub reading : List Row → Result Recorded RecordingFault
reading rows = taken step 1 parser.Header rows >>= ended
