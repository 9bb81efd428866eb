-- The records of a history.
use Rattle.std.specs.Prelude.{ℕ, ◌/◌, ◌%◌, ◌==◌, ◌&&◌, Bool, true, false, if◌then◌else◌, List, [], ◌∷◌, length, map, decimal}
use Rattle.std.specs.List.{list_all}
use Rattle.std.specs.Option.{option_map_or}
use Rattle.std.specs.Char.{digit_char}
use Rattle.event_rules.specs.declared.event.Event.TheVariants as event
use Rattle.trace_file.specs.declared.word.TraceWord.TheVariants as word
use Rattle.cam_types.specs.Weights.{are_standard}
use Rattle.trace_file.specs.Histories.{Adapter, Event, Past, Topology, WeightRow}
use Rattle.trace_file.specs.Versions.{has_table, name_of, Version}
use Rattle.trace_file.specs.declared.version.Version.TheVariants as version
use Rattle.trace_file.specs.Fields.{flags_text}
use Rattle.record_text.specs.Text.{Row}
use Rattle.trace_file.specs.Words.{spelled}
use Rattle.record_text.specs.ConfigRows.{padded, weight_row}
use Rattle.record_text.specs.ConfigParsing.{rows_then}
use Rattle.record_text.specs.Header.{header_row}

-- bytes as two lower-case hexadecimal digits each
abbrev pub hex : List ℕ → List ℕ
hex [] = []
hex (b ∷ bs) = digit_char (b / 16) ∷ digit_char (b % 16) ∷ hex bs

abbrev pub header : Version → Row
header v = header_row (name_of v)

-- the table of weights, where a version has one
abbrev pub weight_rows : Version → List WeightRow → List Row
weight_rows v weights = if has_table v then map weight_row weights else []

abbrev pub event_row : Event → Row
event_row (event.Submit driver device priority retries flags) =
    padded (spelled word.Submit ∷ decimal driver ∷ decimal device ∷ decimal priority ∷ decimal retries ∷ flags_text flags ∷ [])
event_row (event.Send lane ccb) = padded (spelled word.Send ∷ decimal lane ∷ decimal ccb ∷ [])
event_row (event.Done ccb outcome) =
    padded (spelled word.Done ∷ decimal ccb ∷ hex (outcome.status ∷ []) ∷ hex (outcome.scsi ∷ []) ∷ hex outcome.sense ∷ [])
event_row (event.Requeue ccb) = padded (spelled word.Requeue ∷ decimal ccb ∷ [])
event_row (event.Finish ccb) = padded (spelled word.Finish ∷ decimal ccb ∷ [])
event_row (event.FreezeDev device count) = padded (spelled word.Freeze ∷ decimal device ∷ decimal count ∷ [])
event_row (event.ReleaseDev device count) = padded (spelled word.Release ∷ decimal device ∷ decimal count ∷ [])
event_row (event.FreezeSim sim count) = padded (spelled word.FreezeSim ∷ decimal sim ∷ decimal count ∷ [])
event_row (event.ReleaseSim sim) = padded (spelled word.ReleaseSim ∷ decimal sim ∷ [])
event_row (event.Adjust device openings) = padded (spelled word.Adjust ∷ decimal device ∷ decimal openings ∷ [])
event_row event.Tick = padded (spelled word.Tick ∷ [])

-- in a version: the header, the rows of the configuration, and one for each event
unfoldable pub records_of : Version → Past → List Row
records_of v past = header v ∷ rows_then (has_table v) past.config (map event_row past.events)

-- an adapter is on no link
abbrev pub is_unlinked : Adapter → Bool
is_unlinked a = option_map_or (λ l. false) a.link true

-- there is no link, and so no adapter on one
abbrev pub has_no_links : Topology → Bool
has_no_links c = (length c.links == 0) && list_all is_unlinked c.adapters

-- a version can hold a configuration
abbrev pub holds : Version → Topology → Bool
holds version.One c = are_standard c.weights && has_no_links c
holds version.Two c = has_no_links c
holds version.Three c = true

-- the least version that holds a configuration
abbrev pub least_version : Topology → Version
least_version c = if holds version.One c then version.One else if holds version.Two c then version.Two else version.Three
