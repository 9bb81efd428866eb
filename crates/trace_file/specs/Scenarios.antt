-- What a script asks for: its limits, its configuration, the steps of its drivers, and the answers of its lanes.
use Rattle.std.specs.Prelude.{◌≡◌, ℕ, ◌≤◌, ◌==◌, ◌&&◌, Bool, true, false, not, nat_lt, nat_le, ⊤, List, [], ◌∷◌, ◌++◌, length, set, get_or, replicate, Option, Result, Ok, Err, ok_or}
use Rattle.std.specs.List.{AllByRecursion, position, sum_by}
use Rattle.cam_types.specs.Bounds.{Bounds}
use Rattle.cam_types.specs.Topology.{are_openings}
use Rattle.cam_types.specs.declared.limits.TheConstants.{MAX_PRIORITY, MAX_RETRIES}
use Rattle.sense_class.specs.Classes.{status_of}
use Rattle.event_rules.specs.declared.event.Event.TheVariants as event
use Rattle.cam_types.specs.Questions.{names_device, names_adapter, names_lane}
use Rattle.event_rules.specs.Legal.{is_count}
use Rattle.event_rules.specs.declared.refusal.Refusal.TheVariants.{NoDevice, NoAdapter, NoLane, BadPriority, BadRetries, BadCount, BadOpenings, BadStatus}
use Rattle.cam_path.specs.declared.path.CamPath.{CamPath}
use Rattle.trace_file.specs.ScriptRows.{ScriptRow, ScriptWord}
use Rattle.trace_file.specs.declared.script_row.ScriptRow.TheVariants as row
use Rattle.trace_file.specs.declared.script_row.ScriptItem.{ScriptItem}
use Rattle.trace_file.specs.declared.script_row.ScriptItem.TheVariants as item
use Rattle.trace_file.specs.declared.script_word.ScriptWord.TheVariants as word
pub use Rattle.trace_file.specs.declared.step.Step.{Step}
use Rattle.trace_file.specs.declared.step.Step.TheVariants as step
use Rattle.trace_file.specs.Histories.{Device, Outcome, Refusal, Topology}
use Rattle.record_text.specs.Steps.{◌>>=◌}
pub use Rattle.trace_file.specs.declared.script_parser.TheConstants.{MAX_ROWS}

-- the configuration and the limits, eight lists of steps by the driver's number, and a list of outcomes for each lane
pub record Scenario : Type 0 where
  pub config : Topology
  pub limits : Bounds
  pub drivers : List (List Step)
  pub answers : List (List Outcome)

-- there is a driver of the row's number, where it has one
abbrev pub names_driver : ScriptRow → Bool
names_driver (row.Submit driver at priority retries flags) = nat_le driver 7
names_driver (row.Freeze driver at count) = nat_le driver 7
names_driver (row.Release driver at count) = nat_le driver 7
names_driver (row.FreezeSim driver sim count) = nat_le driver 7
names_driver (row.ReleaseSim driver sim) = nat_le driver 7
names_driver (row.Adjust driver at openings) = nat_le driver 7
names_driver (row.Pause driver round) = nat_le driver 7
names_driver (row.Answer lane outcome) = true

-- an answer, and no row of a driver: by its word, by the row and by what it adds
abbrev pub is_answer_word : ScriptWord → Bool
is_answer_word word.Answer = true
is_answer_word _ = false

abbrev pub is_answer_row : ScriptRow → Bool
is_answer_row (row.Answer lane outcome) = true
is_answer_row _ = false

abbrev pub is_answer_item : ScriptItem → Bool
is_answer_item (item.Answer lane outcome) = true
is_answer_item (item.Step driver one) = false

-- the device that a path names
abbrev pub is_at : CamPath → Device → Bool
is_at p d = (d.bus == p.bus) && (d.target == p.target) && (d.lun == p.lun)

abbrev pub device_number : Topology → CamPath → Option ℕ
device_number c p = position (is_at p) c.devices

-- goes on, unless there is this cause
abbrev pub refused_if : Bool → Refusal → Result ⊤ Refusal
refused_if true cause = Err cause
refused_if false cause = Ok tt

-- what a row asks for, or the first static cause that refuses it
unfoldable pub item_of : Topology → ScriptRow → Result ScriptItem Refusal
item_of c (row.Submit driver at priority retries flags) = do
  device ← ok_or (device_number c at) NoDevice
  _ ← refused_if (nat_lt MAX_PRIORITY priority) BadPriority
  _ ← refused_if (nat_lt MAX_RETRIES retries) BadRetries
  Ok (item.Step driver (step.Act (event.Submit driver device priority retries flags)))
item_of c (row.Freeze driver at count) = do
  device ← ok_or (device_number c at) NoDevice
  _ ← refused_if (not (is_count count)) BadCount
  Ok (item.Step driver (step.Act (event.FreezeDev device count)))
item_of c (row.Release driver at count) = do
  device ← ok_or (device_number c at) NoDevice
  _ ← refused_if (not (is_count count)) BadCount
  Ok (item.Step driver (step.Act (event.ReleaseDev device count)))
item_of c (row.FreezeSim driver sim count) = do
  _ ← refused_if (not (names_adapter c sim)) NoAdapter
  _ ← refused_if (not (is_count count)) BadCount
  Ok (item.Step driver (step.Act (event.FreezeSim sim count)))
item_of c (row.ReleaseSim driver sim) = do
  _ ← refused_if (not (names_adapter c sim)) NoAdapter
  Ok (item.Step driver (step.Act (event.ReleaseSim sim)))
item_of c (row.Adjust driver at openings) = do
  device ← ok_or (device_number c at) NoDevice
  _ ← refused_if (not (are_openings openings)) BadOpenings
  Ok (item.Step driver (step.Act (event.Adjust device openings)))
item_of c (row.Pause driver round) = Ok (item.Step driver (step.Pause round))
item_of c (row.Answer lane outcome) = do
  _ ← refused_if (not (names_lane c lane)) NoLane
  _ ← refused_if (status_of outcome == 0) BadStatus
  Ok (item.Answer lane outcome)

-- one element more at the end of the list of this number
abbrev pub push_at : {X : Type 0} → List (List X) → ℕ → X → List (List X)
push_at lists i x = set lists i (get_or lists i [] ++ x ∷ [])

-- the scenario of these lists
abbrev pub scenario_by : Topology → Bounds → List (List Step) → List (List Outcome) → Scenario
scenario_by c limits drivers answers = record { config = c; limits = limits; drivers = drivers; answers = answers }

-- a scenario without any row
abbrev pub empty_scenario : Topology → Bounds → Scenario
empty_scenario c limits = record { config = c; limits = limits; drivers = replicate 8 []; answers = replicate (length c.lanes) [] }

-- one row more, at the end of its driver's steps or of its lane's answers
abbrev pub add_item : Scenario → ScriptItem → Scenario
add_item s (item.Step driver one) = record s { drivers = push_at s.drivers driver one }
add_item s (item.Answer lane outcome) = record s { answers = push_at s.answers lane outcome }

-- ---- the static rules

-- what a driver of this number may ask for: calls for events whose numbers are those of the configuration and in their
-- ranges, and pauses
abbrev pub is_ruled : Topology → ℕ → Step → Bool
is_ruled c driver (step.Act (event.Submit by device priority retries flags)) =
    (by == driver) && names_device c device && nat_le priority MAX_PRIORITY && nat_le retries MAX_RETRIES
is_ruled c driver (step.Act (event.FreezeDev device count)) = names_device c device && is_count count
is_ruled c driver (step.Act (event.ReleaseDev device count)) = names_device c device && is_count count
is_ruled c driver (step.Act (event.FreezeSim sim count)) = names_adapter c sim && is_count count
is_ruled c driver (step.Act (event.ReleaseSim sim)) = names_adapter c sim
is_ruled c driver (step.Act (event.Adjust device openings)) = names_device c device && are_openings openings
is_ruled c driver (step.Act _) = false
is_ruled c driver (step.Pause round) = true

-- a lane doesn't answer with status 00
abbrev pub is_answer : Outcome → Bool
is_answer outcome = not (status_of outcome == 0)

-- an item keeps the rules: its driver and its lane are there, and what it adds to them is what they may ask for
abbrev pub is_ruled_item : Topology → ScriptItem → Bool
is_ruled_item c (item.Step driver one) = nat_le driver 7 && is_ruled c driver one
is_ruled_item c (item.Answer lane outcome) = names_lane c lane && is_answer outcome

-- the rules that each row of a script keeps, and how many steps and answers it may have in all
pub record IsScenario (s : Scenario) : Type 0 where
  pub eight : length s.drivers ≡ 8
  pub lanes : length s.answers ≡ length s.config.lanes
  pub ruled : (driver : ℕ) → AllByRecursion (λ one. is_ruled s.config driver one ≡ true) (get_or s.drivers driver [])
  pub answered : (lane : ℕ) → AllByRecursion (λ outcome. is_answer outcome ≡ true) (get_or s.answers lane [])
  pub few_steps : sum_by length s.drivers ≤ MAX_ROWS
  pub few_answers : sum_by length s.answers ≤ MAX_ROWS
