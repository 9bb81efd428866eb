-- How a script is written.
use Rattle.std.specs.Prelude.{ℕ, ◌+◌, List, [], ◌∷◌, ◌++◌, map, get_or, Some}
use Rattle.cam_path.specs.Paths.{address_of}
use Rattle.cam_path.specs.declared.path.CamPath.{CamPath}
use Rattle.event_rules.specs.declared.event.Event.TheVariants as event
use Rattle.trace_file.specs.declared.step.Step.TheVariants as step
use Rattle.trace_file.specs.ScriptRows.{ScriptRow}
use Rattle.trace_file.specs.declared.script_row.ScriptRow.TheVariants as row
use Rattle.trace_file.specs.ScriptVersions.{least_script}
use Rattle.trace_file.specs.Histories.{Topology}
use Rattle.trace_file.specs.Scenarios.{Scenario, Step}
use Rattle.trace_file.specs.Script.{Manuscript, script_records}
use Rattle.record_text.specs.Writing.{text_of}

-- the path of the device of this number
abbrev pub path_of : Topology → ℕ → CamPath
path_of c device = address_of (get_or c.devices device (record { bus = 0; target = 0; lun = 0; openings = 0 }))

-- the row of a step that this driver may ask for
abbrev pub step_row : Topology → ℕ → Step → ScriptRow
step_row c driver (step.Act (event.Submit by device priority retries flags)) = row.Submit driver (path_of c device) priority retries flags
step_row c driver (step.Act (event.FreezeDev device count)) = row.Freeze driver (path_of c device) count
step_row c driver (step.Act (event.ReleaseDev device count)) = row.Release driver (path_of c device) count
step_row c driver (step.Act (event.FreezeSim sim count)) = row.FreezeSim driver sim count
step_row c driver (step.Act (event.ReleaseSim sim)) = row.ReleaseSim driver sim
step_row c driver (step.Act (event.Adjust device openings)) = row.Adjust driver (path_of c device) openings
step_row c driver (step.Act _) = row.Pause driver 0
step_row c driver (step.Pause round) = row.Pause driver round

-- a row for each item of these lists, list by list, each by its list's number, where the first has this number
abbrev pub numbered : {X Y : Type 0} → (ℕ → X → Y) → ℕ → List (List X) → List Y
numbered f n [] = []
numbered f n (xs ∷ rest) = map (f n) xs ++ numbered f (n + 1) rest

-- Each driver's steps in order, driver by driver, and then each lane's answers in order, lane by lane.
abbrev pub rows_of : Scenario → List ScriptRow
rows_of s = numbered (step_row s.config) 0 s.drivers ++ numbered row.Answer 0 s.answers

-- what is written of a scenario: the least version that holds its configuration, its limits, its configuration and its rows
abbrev pub manuscript_of : Scenario → Manuscript
manuscript_of s = record { version = least_script s.config; limits = Some s.limits; config = s.config; rows = rows_of s }

-- the text of these records
unfoldable pub script_text : Scenario → List ℕ
script_text s = text_of (script_records (manuscript_of s))
