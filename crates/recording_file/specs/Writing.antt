-- How records are written.
use Rattle.std.specs.Prelude.{ℕ, true, List, ◌∷◌, ◌++◌, map}
use Rattle.record_text.specs.Text.{Row}
use Rattle.recording_file.specs.Recorded.{Recorded}
use Rattle.recording_file.specs.Records.{records_of, unit_rows, rounds_row}
use Rattle.record_text.specs.ConfigRows.{weight_row, link_row, adapter_row, device_row}
use Rattle.record_text.specs.Writing.{text_of}

-- the text of a recording's records, with its rows of weights
unfoldable pub recording_text : Recorded → List ℕ
recording_text r = text_of (records_of true r)

-- the records before the names
abbrev pub head_rows : Recorded → List Row
head_rows r =
    unit_rows r.unit ++ (rounds_row r.rounds ∷ (map weight_row r.config.weights ++ (map link_row r.config.links ++ (map adapter_row r.config.adapters ++ map device_row r.config.devices))))
