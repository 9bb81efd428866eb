-- What the records of a recording say: their words' fields, in order.
use Rattle.std.specs.Prelude.{ℕ, ◌==◌, Bool, true, false, Option, Some, None, Result, Ok, Err, List, [], ◌∷◌, length, find, if◌then◌else◌}
pub use Rattle.record_text.specs.declared.device_row.DeviceRow.{DeviceRow}
use Rattle.recording_file.specs.Recorded.{Request, Span, MAX_RECORDED_ROUNDS}
use Rattle.recording_file.specs.Names.{named_count, is_name_text, NameKind}
use Rattle.recording_file.specs.Counts.{Counts}
use Rattle.recording_file.specs.Caps.{Part, part_of, part_count}
use Rattle.record_text.specs.Steps.{◌>>=◌}
use Rattle.record_text.specs.Text.{Row}
use Rattle.record_text.specs.Header.{is_header}
use Rattle.record_text.specs.Fields.{field_of, formed, max_number, number_at, optional_at, within_at, below_at, unused_from}
use Rattle.recording_file.specs.Words.{name_text, time_of, named_of, part_kind_of}

-- whether completions are recorded, as a header says by its word; none if the record is no header
unfoldable pub header_at : Row → Option Bool
header_at row = find (λ completions. is_header (name_text completions) row) (false ∷ true ∷ [])

-- how long a round is
unfoldable pub span_at : Row → Result Span ℕ
span_at row = do
  count ← within_at row 1 1 max_number
  unit ← formed (time_of (field_of row 2)) 2
  _ ← unused_from row 3
  Ok (record { count = count; unit = unit })

-- the last round
unfoldable pub rounds_at : Row → Result ℕ ℕ
rounds_at row = do
  n ← within_at row 1 1 MAX_RECORDED_ROUNDS
  _ ← unused_from row 2
  Ok n

-- what a name is for
unfoldable pub named_at : Counts → Row → Result (NameKind × ℕ) ℕ
named_at c row = do
  kind ← formed (named_of (field_of row 1)) 1
  number ← below_at row 2 (named_count c kind)
  Ok (kind, number)

-- the name itself
unfoldable pub text_at : Row → Result (List ℕ) ℕ
text_at row = if is_name_text (field_of row 3) then (unused_from row 4 >>= λ _. Ok (field_of row 3)) else Err 4

-- what a cap is for, and its first round
unfoldable pub capped_at : ℕ → Counts → Row → Result (Part × ℕ) ℕ
capped_at rounds c row = do
  kind ← formed (part_kind_of (field_of row 1)) 1
  number ← below_at row 2 (part_count c kind)
  first ← within_at row 3 1 rounds
  Ok (part_of kind number, first)

-- a cap's last round, and how many are taken
unfoldable pub most_at : ℕ → ℕ → Row → Result (ℕ × ℕ) ℕ
most_at rounds first row = do
  last ← within_at row 4 first rounds
  most ← number_at row 5 65535
  _ ← unused_from row 6
  Ok (last, most)

-- the round in which a request was completed that was started in this one: none where the field has no byte, and in version 1
unfoldable pub done_at : Bool → ℕ → Row → Result (Option ℕ) ℕ
done_at completions sent row =
    if length (field_of row 7) == 0 then Ok None
    else if completions then (within_at row 7 sent max_number >>= λ n. Ok (Some n))
    else Err 8

unfoldable pub request_at : Bool → Row → Result Request ℕ
request_at completions row = do
  driver ← number_at row 1 255
  device ← number_at row 2 max_number
  priority ← number_at row 3 max_number
  arrival ← number_at row 4 max_number
  last ← optional_at row 5 max_number
  sent ← number_at row 6 max_number
  done ← done_at completions sent row
  Ok (record { driver = driver; device = device; priority = priority; arrival = arrival; last = last; sent = sent; done = done })
