-- The records before the names are read as the head of the recording.
use Rattle.std.proofs.Common.{◌≡◌, ◌≤◌, ◌+◌, ℕ, List, [], ◌∷◌, ◌++◌, Bool, true, refl, ◌∙◌, arith, Option, Some, None, IfSome, Ok, ◌||◌}
use Rattle.std.specs.List.{AllByRecursion}
use Rattle.std.proofs.lemmas.Bool.{le-leb}
use Rattle.cam_types.specs.Topology.{IsConfig}
use Rattle.cam_types.specs.Weights.{are_standard}
use Rattle.cam_types.specs.declared.device.Device.{Device}
use Rattle.record_text.specs.ConfigParsing.{next_rank, row_rank, rows_then, standard_table}
use Rattle.record_text.specs.declared.config_parser.ConfigParser.{ConfigParser}
use Rattle.record_text.specs.declared.config_row.ConfigRow.{ConfigRow}
use Rattle.record_text.specs.declared.config_row.ConfigRow.TheVariants as row
use Rattle.record_text.specs.Steps.{taken}
use Rattle.record_text.specs.Text.{Row}
use Rattle.record_text.proofs.ConfigLaws.{parsed_config, row_takes, taken_rows, HaveAll, TakesRows}
use Rattle.recording_file.specs.Reading.{apply_parsed, stands, step, RecordingParser, Start}
use Rattle.recording_file.specs.declared.recording_parser.RecordingParser.TheVariants as parser
use Rattle.recording_file.specs.declared.parsed_row.ParsedRow.TheVariants as parsed
use Rattle.recording_file.specs.Words.{word_rank, RecordingWord}
use Rattle.recording_file.specs.declared.word.RecordingWord.TheVariants as word
use Rattle.recording_file.specs.Recorded.{Recorded, Span, IsRecording, MAX_RECORDED_ROUNDS}
use Rattle.recording_file.specs.Records.{rounds_row, unit_rows}
use Rattle.recording_file.proofs.AgainLaws.{parsed_step}

abbrev pub start_of : Bool → Option Span → ℕ → Start
start_of completions unit rounds = record { completions = completions; unit = unit; rounds = rounds }

-- a recording has no row of a lane
abbrev IsNoLane : ConfigRow → Type 0
IsNoLane r = row_rank r ≤ 3

in_place : (start : Start) (c : ConfigParser) (r : ConfigRow) (w : RecordingWord) → word_rank w ≡ 2 + row_rank r → next_rank c ≤ row_rank r → stands (parser.Config start c) w ≡ true
unfolding stands
in_place start c r w same place = rw (same, le-leb (2 + next_rank c) (2 + row_rank r) (omega arith)) refl

-- a row of the configuration is taken
takes_rows : (start : Start) → TakesRows step (parser.Config start) IsNoLane
unfolding apply_parsed
takes_rows start n c (row.Weight w) free fits place none = parsed_step n (parser.Config start c) (parsed.Weight w) (λ z. cc) tt (in_place start c (row.Weight w) word.Weight refl place) fits ∙ rw (row_takes c (row.Weight w) none) refl
takes_rows start n c (row.Link k) free fits place none = parsed_step n (parser.Config start c) (parsed.Link k) (λ z. cc) tt (in_place start c (row.Link k) word.Link refl place) fits ∙ rw (row_takes c (row.Link k) none) refl
takes_rows start n c (row.Sim a) free fits place none = parsed_step n (parser.Config start c) (parsed.Sim a) (λ z. cc) tt (in_place start c (row.Sim a) word.Sim refl place) fits ∙ rw (row_takes c (row.Sim a) none) refl
takes_rows start n c (row.Dev d) free fits place none = parsed_step n (parser.Config start c) (parsed.Dev d) (λ z. cc) tt (in_place start c (row.Dev d) word.Dev refl place) fits ∙ rw (row_takes c (row.Dev d) none) refl
takes_rows start n c (row.Lane a) free fits place none = absurd (omega arith)

all_same : {X : Type 0} (P : Type 0) (xs : List X) → P → AllByRecursion (λ (x : X). P) xs
all_same P [] p = tt
all_same P (x ∷ xs) p = (p, all_same P xs p)

with_targets : (ds : List Device) → AllByRecursion (λ (d : Device). d.target ≤ 65535) ds → AllByRecursion (λ (d : Device). (3 ≤ 3) × (d.target ≤ 65535)) ds
with_targets [] h = tt
with_targets (d ∷ ds) h = ((omega arith, h.0), with_targets ds h.1)

have_all : (table : Bool) (r : Recorded) → IsRecording r → HaveAll IsNoLane table r.config
have_all table r h =
    let t = r.config in
    record {
      weights = λ e. all_same (0 ≤ 3) t.weights (omega arith);
      links = all_same (1 ≤ 3) t.links (omega arith);
      adapters = all_same (2 ≤ 3) t.adapters (omega arith);
      devices = with_targets t.devices h.targets;
      lanes = rw h.kept.head.lanes tt;
    }

-- ---- the records before the names

-- the unit and the rounds
pub taken_start : (v : Bool) (unit : Option Span) (rounds : ℕ) (rest : List Row) (u : RecordingParser) → IfSome unit (λ (s : Span). 1 ≤ s.count) → IfSome unit (λ (s : Span). s.count ≤ 4294967295) → 1 ≤ rounds → rounds ≤ MAX_RECORDED_ROUNDS
    → ((m : ℕ) → taken step m (parser.Config (start_of v unit rounds) standard_table) rest ≡ Ok u) → (n : ℕ) → taken step n (parser.First v) (unit_rows unit ++ (rounds_row rounds ∷ rest)) ≡ Ok u
unfolding apply_parsed stands
taken_start v None rounds rest u some few low high k n = rw (parsed_step n (parser.First v) (parsed.Rounds rounds) (λ z. cc) tt refl (low, high)) (k (n + 1))
taken_start v (Some s) rounds rest u some few low high k n =
    rw (parsed_step n (parser.First v) (parsed.Unit s) (λ z. cc) tt refl (some, few), parsed_step (n + 1) (parser.Timed v s) (parsed.Rounds rounds) (λ z. cc) tt refl (low, high)) (k (n + 1 + 1))

-- the parser after the devices
abbrev pub base_of : Bool → Recorded → RecordingParser
base_of table r = parser.Config (start_of r.completions r.unit r.rounds) (parsed_config table r.config)

pub taken_config : (table : Bool) (r : Recorded) → IsRecording r → (table || are_standard r.config.weights) ≡ true → (rest : List Row) (u : RecordingParser) → ((m : ℕ) → taken step m (base_of table r) rest ≡ Ok u)
    → (n : ℕ) → taken step n (parser.Config (start_of r.completions r.unit r.rounds) standard_table) (rows_then table r.config rest) ≡ Ok u
taken_config table r h held rest u k n =
    let is : IsConfig r.config = record { kept = h.kept.head.config } in
    taken_rows step (parser.Config (start_of r.completions r.unit r.rounds)) IsNoLane (takes_rows (start_of r.completions r.unit r.rounds)) true table r.config is held (have_all table r h) rest u k n
