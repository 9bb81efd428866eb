-- The records of a recording with one item more.
use Rattle.std.proofs.Common.{◌≡◌, ◌≤◌, List, [], ◌∷◌, ◌++◌, map, Bool, None, refl, sym, ap, ◌∙◌}
use Rattle.std.proofs.lemmas.List.{map-append}
use Rattle.cam_types.specs.Topology.{Topology}
use Rattle.record_text.specs.ConfigParsing.{next_rank, pushed, row_fault, row_rank, rows_then, spelled_row, IsOrdered}
use Rattle.record_text.specs.declared.config_parser.ConfigParser.{ConfigParser}
use Rattle.record_text.specs.declared.config_row.ConfigRow.{ConfigRow}
use Rattle.record_text.specs.ConfigRows.{adapter_row, device_row, link_row}
use Rattle.record_text.specs.Text.{Row}
use Rattle.record_text.proofs.ConfigLaws.{behind, last_more, row_spelled}
use Rattle.recording_file.specs.Reading.{begun, Start}
use Rattle.recording_file.specs.Caps.{Cap}
use Rattle.recording_file.specs.Names.{NameValue}
use Rattle.recording_file.specs.Recorded.{Recorded, Request}
use Rattle.recording_file.specs.Records.{cap_row, header, name_row, records_of, request_row, rounds_row, unit_rows, weight_rows}

-- the same after the header, the unit and the rounds
headed : (r : Recorded) (rest more : List Row) (x : Row) → rest ++ x ∷ [] ≡ more → (header r.completions ∷ (unit_rows r.unit ++ (rounds_row r.rounds ∷ rest))) ++ x ∷ [] ≡ header r.completions ∷ (unit_rows r.unit ++ (rounds_row r.rounds ∷ more))
headed r rest more x e =
    ap (λ (l : List Row). header r.completions ∷ l) (behind (unit_rows r.unit) (rounds_row r.rounds ∷ rest) (rounds_row r.rounds ∷ more) x (ap (λ (l : List Row). rounds_row r.rounds ∷ l) e))

-- the records of a configuration, which has no lane
config_records : (table : Bool) (start : Start) (t : Topology) → t.lanes ≡ [] → records_of table (begun start t) ≡ header start.completions ∷ (unit_rows start.unit ++ (rounds_row start.rounds ∷ rows_then table t []))
unfolding records_of
config_records table start t lanes = rw lanes refl

pub push_row : (start : Start) (c : ConfigParser) (r : ConfigRow) → IsOrdered c → next_rank c ≤ row_rank r → row_rank r ≤ 3 → row_fault c r ≡ None → c.partial.lanes ≡ [] → (pushed c r).partial.lanes ≡ []
    → records_of c.table (begun start c.partial) ++ spelled_row r ∷ [] ≡ records_of (pushed c r).table (begun start (pushed c r).partial)
push_row start c r h place few none lanes more =
    ap (λ (l : List Row). l ++ spelled_row r ∷ []) (config_records c.table start c.partial lanes)
    ∙ headed (begun start c.partial) _ _ (spelled_row r) (row_spelled c r h place none)
    ∙ sym (config_records (pushed c r).table start (pushed c r).partial more)

pub push_name : (table : Bool) (r : Recorded) (x : NameValue) → r.caps ≡ [] → r.requests ≡ [] → records_of table r ++ name_row x ∷ [] ≡ records_of table (record r { names = r.names ++ x ∷ [] })
unfolding records_of
push_name table r x caps requests =
    rw (caps, requests) (headed r _ _ (name_row x) (behind (weight_rows table r.config.weights) _ _ (name_row x) (behind (map link_row r.config.links) _ _ (name_row x)
    (behind (map adapter_row r.config.adapters) _ _ (name_row x) (behind (map device_row r.config.devices) _ _ (name_row x) (last_more name_row r.names x))))))

pub push_cap : (table : Bool) (r : Recorded) (x : Cap) → r.requests ≡ [] → records_of table r ++ cap_row x ∷ [] ≡ records_of table (record r { caps = r.caps ++ x ∷ [] })
unfolding records_of
push_cap table r x requests =
    rw requests (headed r _ _ (cap_row x) (behind (weight_rows table r.config.weights) _ _ (cap_row x) (behind (map link_row r.config.links) _ _ (cap_row x)
    (behind (map adapter_row r.config.adapters) _ _ (cap_row x) (behind (map device_row r.config.devices) _ _ (cap_row x) (behind (map name_row r.names) _ _ (cap_row x) (last_more cap_row r.caps x)))))))

pub push_request : (table : Bool) (r : Recorded) (q : Request) → records_of table r ++ request_row q ∷ [] ≡ records_of table (record r { requests = r.requests ++ q ∷ [] })
unfolding records_of
push_request table r q =
    headed r _ _ (request_row q) (behind (weight_rows table r.config.weights) _ _ (request_row q) (behind (map link_row r.config.links) _ _ (request_row q)
    (behind (map adapter_row r.config.adapters) _ _ (request_row q) (behind (map device_row r.config.devices) _ _ (request_row q) (behind (map name_row r.names) _ _ (request_row q)
    (behind (map cap_row r.caps) _ _ (request_row q) (sym (map-append request_row r.requests (q ∷ [])))))))))
