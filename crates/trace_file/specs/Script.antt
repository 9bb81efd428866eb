-- Texts of scripts, and what a reader of scripts answers.
use Rattle.std.specs.Prelude.{◌≡◌, ℕ, ◌≤◌, Bool, true, not, List, [], ◌∷◌, ◌++◌, length, map, count_by, Option, Some, None, IfSome, Result, Ok, Err, is_ok, if◌then◌else◌, ◌==◌}
use Rattle.std.specs.List.{AllByRecursion, flat_map, fold}
use Rattle.cam_types.specs.Bounds.{Bounds, are_within}
use Rattle.cam_types.specs.Whole.{IsWhole}
use Rattle.cam_types.specs.declared.limits.TheConstants.{MAX_BYTES}
use Rattle.cam_path.specs.Paths.{Fits}
use Rattle.trace_file.specs.ScriptRows.{limits_row, script_header, script_row, ScriptRow}
use Rattle.trace_file.specs.ScriptVersions.{trace_version, ScriptVersion}
use Rattle.trace_file.specs.declared.script_row.ScriptRow.TheVariants as row
use Rattle.trace_file.specs.ScriptReading.{limits_of, script_ended, script_step, ScriptItem}
use Rattle.trace_file.specs.declared.script_row.ScriptItem.TheVariants as item
use Rattle.trace_file.specs.Scenarios.{Scenario, add_item, empty_scenario, is_answer_row, item_of, Step, MAX_ROWS}
use Rattle.trace_file.specs.declared.script_parser.ScriptParser.TheVariants as parser
use Rattle.trace_file.specs.Reading.{TraceFault}
use Rattle.record_text.specs.Text.{Row, records_in}
use Rattle.trace_file.specs.Histories.{Device, Outcome, Refusal, Topology, config_fault}
use Rattle.trace_file.specs.Records.{holds, weight_rows}
use Rattle.record_text.specs.ConfigRows.{adapter_row, device_row, link_row, lane_row}
use Rattle.record_text.specs.Fields.{max_number}
use Rattle.trace_file.specs.Trace.{FitsOutcome, ExplainsBy}

-- what the records of a script say: its version, limits, if they are given, a configuration, and rows
pub record Manuscript : Type 0 where
  pub version : ScriptVersion
  pub limits : Option Bounds
  pub config : Topology
  pub rows : List ScriptRow

abbrev pub limits_rows : Option Bounds → List Row
limits_rows None = []
limits_rows (Some b) = limits_row b ∷ []

-- the records of a configuration: one for each row of the weights, where the version has them, link, adapter, device and lane
abbrev pub config_rows : ScriptVersion → Topology → List Row
config_rows v c =
    weight_rows (trace_version v) c.weights ++ (map link_row c.links
    ++ (map adapter_row c.adapters ++ (map device_row c.devices ++ map lane_row c.lanes)))

-- its records: the header, the limits, those of the configuration, and one for each row
unfoldable pub script_records : Manuscript → List Row
script_records m = script_header m.version ∷ (limits_rows m.limits ++ (config_rows m.version m.config ++ map script_row m.rows))

-- a row is put after the others of its driver, or of its lane
abbrev pub put_item : Scenario → Result ScriptItem Refusal → Scenario
put_item s (Ok item) = add_item s item
put_item s (Err cause) = s

abbrev pub put_row : Scenario → ScriptRow → Scenario
put_row s parsed = put_item s (item_of s.config parsed)

-- the scenario: its rows in order, each after the others of its driver or of its lane
unfoldable pub scenario_of : Manuscript → Scenario
scenario_of m = fold put_row (empty_scenario m.config (limits_of m.limits)) m.rows

-- what a row says to this driver, and to this lane
abbrev pub parsed_steps : ℕ → Result ScriptItem Refusal → List Step
parsed_steps driver (Ok (item.Step by one)) = if by == driver then one ∷ [] else []
parsed_steps driver _ = []

abbrev pub parsed_answers : ℕ → Result ScriptItem Refusal → List Outcome
parsed_answers lane (Ok (item.Answer by outcome)) = if by == lane then outcome ∷ [] else []
parsed_answers lane _ = []

-- a driver's rows in order, and a lane's answers in order
unfoldable pub steps_of : Topology → ℕ → List ScriptRow → List Step
steps_of c driver rows = flat_map (λ parsed. parsed_steps driver (item_of c parsed)) rows

unfoldable pub answers_of : Topology → ℕ → List ScriptRow → List Outcome
answers_of c lane rows = flat_map (λ parsed. parsed_answers lane (item_of c parsed)) rows

-- the numbers of a row fit its fields
abbrev pub FitsRow : ScriptRow → Type 0
FitsRow (row.Submit driver at priority retries flags) = (driver ≤ 7) × Fits at × (priority ≤ max_number) × (retries ≤ max_number)
FitsRow (row.Freeze driver at count) = (driver ≤ 7) × Fits at × (count ≤ max_number)
FitsRow (row.Release driver at count) = (driver ≤ 7) × Fits at × (count ≤ max_number)
FitsRow (row.FreezeSim driver sim count) = (driver ≤ 7) × (sim ≤ max_number) × (count ≤ max_number)
FitsRow (row.ReleaseSim driver sim) = (driver ≤ 7) × (sim ≤ max_number)
FitsRow (row.Adjust driver at openings) = (driver ≤ 7) × Fits at × (openings ≤ max_number)
FitsRow (row.Pause driver round) = (driver ≤ 7) × (round ≤ max_number)
FitsRow (row.Answer lane outcome) = FitsOutcome lane outcome

-- how many rows are of drivers, and how many are answers
abbrev pub step_rows : List ScriptRow → ℕ
step_rows rows = count_by (λ parsed. not (is_answer_row parsed)) rows

abbrev pub answer_rows : List ScriptRow → ℕ
answer_rows rows = count_by is_answer_row rows

-- limits within their ranges, a configuration within its rules that the version can hold (version 1 only one with the standard weights and no
-- link), rows whose numbers fit and that no static cause refuses, and at most 4,096 rows of drivers and as many answers
pub record IsManuscript (m : Manuscript) : Type 0 where
  pub limits : IfSome m.limits (λ b. are_within b ≡ true)
  pub config : config_fault m.config ≡ None
  pub held : holds (trace_version m.version) m.config ≡ true
  pub targets : AllByRecursion (λ (d : Device). d.target ≤ 65535) m.config.devices
  pub fits : AllByRecursion FitsRow m.rows
  pub ruled : AllByRecursion (λ parsed. is_ok (item_of m.config parsed) ≡ true) m.rows
  pub steps : step_rows m.rows ≤ MAX_ROWS
  pub answers : answer_rows m.rows ≤ MAX_ROWS

-- the text's records are these
pub record IsScript (text : List ℕ) (m : Manuscript) : Type 0 where
  pub bounded : length text ≤ MAX_BYTES
  pub spelled : records_in text ≡ script_records m

-- what was read to its end was a script of the scenario
pub record WasScript (before after : Option (List ℕ)) (s : Scenario) : Type 0 where
  pub text : List ℕ
  pub whole : IsWhole before after text
  pub manuscript : Manuscript
  pub script : IsScript text manuscript
  pub kept : IsManuscript manuscript
  pub value : s ≡ scenario_of manuscript

-- why no script was read
abbrev pub ExplainsScript : Option (List ℕ) → Option (List ℕ) → Bool → TraceFault → Type 0
ExplainsScript before after failed e = ExplainsBy script_step script_ended parser.Header before after failed e
