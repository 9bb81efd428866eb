-- How many records there are, and how many of them are events'.
use Rattle.std.proofs.Common.{◌≡◌, ◌<◌, ◌+◌, ℕ, List, [], ◌∷◌, ◌++◌, length, map, refl, ap, ◌∙◌, arith, append_assoc, length-append, Ok}
use Rattle.std.proofs.lemmas.List.{length-map}
use Rattle.trace_file.specs.EventRecord.{IsEventRecord, counted}
use Rattle.record_text.specs.Text.{Row, records_in}
use Rattle.trace_file.specs.Histories.{Past}
use Rattle.trace_file.specs.Records.{event_row, header, records_of, weight_rows}
use Rattle.record_text.specs.ConfigRows.{adapter_row, device_row, link_row, lane_row}
use Rattle.record_text.specs.Steps.{taken}
use Rattle.trace_file.specs.Trace.{IsTrace}
use Rattle.trace_file.specs.declared.event_number.RecordCount.{RecordCount}
use Rattle.trace_file.specs.Versions.{Version}

abbrev count_of : ℕ → RecordCount
count_of n = record { records = n }

counted_on : (n : ℕ) (rows : List Row) → taken counted (n + 1) (count_of n) rows ≡ Ok (count_of (n + length rows))
counted_on n [] = let same : n ≡ n + 0 = omega arith in ap (λ (m : ℕ). Ok (count_of m)) same
counted_on n (row ∷ rows) =
    let same : n + 1 + length rows ≡ n + length (row ∷ rows) = omega arith in
    counted_on (n + 1) rows ∙ ap (λ (m : ℕ). Ok (count_of m)) same

pub counted_all : (rows : List Row) → taken counted 1 (count_of 0) rows ≡ Ok (count_of (length rows))
counted_all rows =
    let same : 0 + length rows ≡ length rows = omega arith in
    counted_on 0 rows ∙ ap (λ (m : ℕ). Ok (count_of m)) same

-- the records in front of those of the events
abbrev others : Version → Past → List Row
others v past =
    header v ∷ (weight_rows v past.config.weights ++ (map link_row past.config.links
    ++ (map adapter_row past.config.adapters ++ (map device_row past.config.devices ++ map lane_row past.config.lanes))))

others_first : (v : Version) (past : Past) → records_of v past ≡ others v past ++ map event_row past.events
unfolding records_of
others_first v past = ap (λ (rows : List Row). header v ∷ rows) (simp append_assoc refl)

-- the records of the events are that many of all, and the rest are the others
pub event_records : (text : List ℕ) (past : Past) → IsTrace text past → (k : ℕ) × (length (records_in text) ≡ k + length past.events) × ((place n : ℕ) → place < length past.events → n ≡ k + place + 1 → IsEventRecord text past place n)
event_records text past is =
    let front = others is.version past in
    let parts : records_in text ≡ front ++ map event_row past.events = is.spelled ∙ others_first is.version past in
    let both = length-append front (map event_row past.events) in
    let last = length-map past.events event_row in
    (length front, ap length parts ∙ both ∙ ap (λ (m : ℕ). length front + m) last, (λ place n there number. record { others = front; parts = parts; there = there; number = number }))
