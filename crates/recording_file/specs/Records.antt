-- The records of a recording.
use Rattle.std.specs.Prelude.{◌≡◌, ◌≤◌, ℕ, Bool, true, if◌then◌else◌, List, [], ◌∷◌, ◌++◌, map, Option, Some, None, IfSome, decimal}
use Rattle.cam_types.specs.declared.weight_row.WeightRow.{WeightRow}
use Rattle.recording_file.specs.Recorded.{Recorded, Request, Span, is_done_right, MAX_RECORDED_ROUNDS}
use Rattle.recording_file.specs.Reading.{ParsedRow}
use Rattle.recording_file.specs.declared.parsed_row.ParsedRow.TheVariants as parsed
use Rattle.recording_file.specs.Words.{spelled, time_text, named_text, part_text, RecordingWord, name_text}
use Rattle.recording_file.specs.declared.word.RecordingWord.TheVariants as word
use Rattle.recording_file.specs.Counts.{counts_of}
use Rattle.record_text.specs.Text.{Row}
use Rattle.record_text.specs.Fields.{max_number}
use Rattle.recording_file.specs.Names.{NameValue, is_name}
use Rattle.recording_file.specs.Caps.{Cap, is_cap}
use Rattle.record_text.specs.ConfigRows.{device_of, adapter_row, device_row, link_row, optional_text, padded, weight_row}
use Rattle.record_text.specs.Header.{header_row}

abbrev pub header : Bool → Row
header completions = header_row (name_text completions)

abbrev pub unit_row : Span → Row
unit_row u = padded (spelled word.Unit ∷ decimal u.count ∷ time_text u.unit ∷ [])

abbrev pub rounds_row : ℕ → Row
rounds_row n = padded (spelled word.Rounds ∷ decimal n ∷ [])

abbrev pub name_row : NameValue → Row
name_row x = padded (spelled word.Name ∷ named_text x.kind ∷ decimal x.number ∷ x.text ∷ [])

abbrev pub cap_row : Cap → Row
cap_row c = padded (spelled word.Cap ∷ part_text c.part.kind ∷ decimal c.part.number ∷ decimal c.first ∷ decimal c.last ∷ decimal c.most ∷ [])

abbrev pub request_row : Request → Row
request_row q = padded (spelled word.Request ∷ decimal q.driver ∷ decimal q.device ∷ decimal q.priority ∷ decimal q.arrival ∷ optional_text q.last ∷ decimal q.sent ∷ optional_text q.done ∷ [])

abbrev pub unit_rows : Option Span → List Row
unit_rows None = []
unit_rows (Some u) = unit_row u ∷ []

-- the rows of weights, where they are written: the standard ones may be left out
abbrev pub weight_rows : Bool → List WeightRow → List Row
weight_rows table weights = if table then map weight_row weights else []

-- the header, how long a round is, the rounds, and a record for each weight, link, adapter, device, name, cap and request
unfoldable pub records_of : Bool → Recorded → List Row
records_of table r =
    header r.completions ∷ (unit_rows r.unit ++ (rounds_row r.rounds ∷ (weight_rows table r.config.weights ++ (map link_row r.config.links
    ++ (map adapter_row r.config.adapters ++ (map device_row r.config.devices ++ (map name_row r.names ++ (map cap_row r.caps ++ map request_row r.requests))))))))

-- the record that says this
abbrev pub row_of_parsed : ParsedRow → Row
row_of_parsed (parsed.Unit u) = unit_row u
row_of_parsed (parsed.Rounds n) = rounds_row n
row_of_parsed (parsed.Weight w) = weight_row w
row_of_parsed (parsed.Link n) = link_row n
row_of_parsed (parsed.Sim a) = adapter_row a
row_of_parsed (parsed.Dev d) = device_row (device_of d)
row_of_parsed (parsed.Name x) = name_row x
row_of_parsed (parsed.Cap c) = cap_row c
row_of_parsed (parsed.Request q) = request_row q

abbrev pub word_for : ParsedRow → RecordingWord
word_for (parsed.Unit u) = word.Unit
word_for (parsed.Rounds n) = word.Rounds
word_for (parsed.Weight w) = word.Weight
word_for (parsed.Link n) = word.Link
word_for (parsed.Sim a) = word.Sim
word_for (parsed.Dev d) = word.Dev
word_for (parsed.Name x) = word.Name
word_for (parsed.Cap c) = word.Cap
word_for (parsed.Request q) = word.Request

-- the numbers of a request fit their fields
pub record FitsRequest (q : Request) : Type 0 where
  pub driver : q.driver ≤ 255
  pub device : q.device ≤ max_number
  pub priority : q.priority ≤ max_number
  pub arrival : q.arrival ≤ max_number
  pub last : IfSome q.last (λ n. n ≤ max_number)
  pub sent : q.sent ≤ max_number
  pub done : IfSome q.done (λ n. n ≤ max_number)

-- a parsed row fits its fields, beside what is recorded
abbrev pub FitsParsed : Recorded → ParsedRow → Type 0
FitsParsed r (parsed.Unit u) = (1 ≤ u.count) × (u.count ≤ max_number)
FitsParsed r (parsed.Rounds n) = (1 ≤ n) × (n ≤ MAX_RECORDED_ROUNDS)
FitsParsed r (parsed.Weight w) = (w.last ≤ max_number) × (w.weight ≤ max_number)
FitsParsed r (parsed.Link n) = n ≤ max_number
FitsParsed r (parsed.Sim a) = (a.openings ≤ max_number) × IfSome a.link (λ n. n ≤ max_number)
FitsParsed r (parsed.Dev d) = (d.bus ≤ max_number) × (d.target ≤ 65535) × (d.lun ≤ 16383) × (d.openings ≤ max_number)
FitsParsed r (parsed.Name x) = is_name (counts_of r.config) (r.names, x) ≡ true
FitsParsed r (parsed.Cap c) = is_cap r.rounds (counts_of r.config) (r.caps, c) ≡ true
FitsParsed r (parsed.Request q) = FitsRequest q × (is_done_right r.completions q ≡ true)
