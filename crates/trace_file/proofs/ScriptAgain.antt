-- The records of a script are read as its scenario.
use Rattle.std.proofs.Common.{◌≡◌, ◌≢◌, ◌≤◌, ◌+◌, ◌==◌, ◌&&◌, ℕ, List, [], ◌∷◌, ◌++◌, length, map, Bool, true, false, cond, refl, sym, ap, ◌∙◌, arith, rules, tests, subst, append-nil, length-append, bytes_eq, codes, Option, Some, None, IfSome, Result, Ok, Err, is_ok, not}
use Rattle.std.specs.List.{All, AllByRecursion, fold}
use Rattle.std.proofs.lemmas.Bool.{false≢true, eq-eqb}
use Rattle.std.proofs.lemmas.List.Sums.{sum_by-cons}
use Rattle.std.proofs.lemmas.List.{length-map}
use Rattle.std.proofs.lemmas.List.Elements.{All-append, All-map, All-nil, recursion_from_All}
use Rattle.std.proofs.lemmas.Bool.Decides.{nat_tests}
use Rattle.csv.specs.Records.{field_at}
use Rattle.cam_types.specs.Bounds.{Bounds, are_within}
use Rattle.trace_file.specs.ScriptRows.{script_header, script_row, ScriptRow}
use Rattle.trace_file.specs.ScriptVersions.{trace_version, ScriptVersion}
use Rattle.trace_file.specs.declared.script_version.ScriptVersion.TheVariants as script
use Rattle.trace_file.specs.ScriptReading.{config_step, configured, first_number, first_row, first_parser, rows_before, has_room, is_config_word, is_configuring, is_limits, limits_of, limits_step, roomy_word, rows_step, script_ended, script_reading, script_step, ScriptItem, ScriptParser}
use Rattle.trace_file.specs.declared.script_parser.ScriptParser.TheVariants as parser
use Rattle.trace_file.specs.Reading.{row_step, step, TraceParser}
use Rattle.record_text.specs.Header.{has_letters, is_header, header_row}
use Rattle.trace_file.specs.declared.trace_parser.TraceParser.TheVariants as trace
use Rattle.record_text.specs.Text.{Row}
use Rattle.record_text.specs.Fields.{field_of}
use Rattle.trace_file.specs.Histories.{Device, Refusal, Topology, config_fault}
use Rattle.trace_file.specs.Records.{holds, weight_rows}
use Rattle.record_text.specs.ConfigRows.{adapter_row, device_row, link_row, weight_row, lane_row}
use Rattle.trace_file.specs.Versions.{Version, has_table}
use Rattle.trace_file.specs.Scenarios.{Scenario, empty_scenario, is_answer_row, is_answer_word, item_of, MAX_ROWS}
use Rattle.trace_file.specs.Script.{FitsRow, IsManuscript, Manuscript, answer_rows, config_rows, limits_rows, put_row, scenario_of, script_records, step_rows}
use Rattle.record_text.specs.Steps.{taken}
use Rattle.record_text.proofs.StepLemmas.{ok_is, on_ok, taken_on}
use Rattle.trace_file.proofs.ScriptItems.{item_kind}
use Rattle.trace_file.proofs.ScriptLaws.{fold_config, item_added, more_answers, more_steps}
use Rattle.trace_file.proofs.ScriptRowLaws.{limits_again, row_again, row_of, word_of_row}
use Rattle.trace_file.proofs.ScriptParserLemmas.{configures}
use Rattle.trace_file.proofs.ParserLemmas.{step_behind}
use Rattle.record_text.proofs.FieldLaws.{same_bytes}
use Rattle.trace_file.proofs.WholeLaws.{at_config, taken_config}
use Rattle.cam_types.proofs.ConfigLemmas.{some_adapter}
use Rattle.record_text.proofs.ConfigLaws.{config_came}

-- ---- rows

put_ok : (r : Result ScriptItem Refusal) → is_ok r ≡ true → (i : ScriptItem) × (r ≡ Ok i)
put_ok (Ok i) e = (i, refl)
put_ok (Err cause) e = absurd cc

room_for : (b : Bool) (k a : ℕ) → k + cond (not b) 1 0 ≤ MAX_ROWS → a + cond b 1 0 ≤ MAX_ROWS → has_room b k a ≡ true
room_for b k a p q = grind (arith, nat_tests)

-- a row after others
row_step_again : (n : ℕ) (s : Scenario) (k a : ℕ) (x : ScriptRow) → FitsRow x → is_ok (item_of s.config x) ≡ true → k + cond (not (is_answer_row x)) 1 0 ≤ MAX_ROWS → a + cond (is_answer_row x) 1 0 ≤ MAX_ROWS
    → script_step n (parser.Rows s k a) (script_row x) ≡ Ok (parser.Rows (put_row s x) (more_steps (is_answer_row x) k) (more_answers (is_answer_row x) a))
unfolding script_step rows_step roomy_word
row_step_again n s k a x fits ok p q =
    let is = row_of x in
    let made = put_ok (item_of s.config x) ok in
    let kind = item_kind s.config x made.0 made.1 in
    let room : has_room (is_answer_word (word_of_row x)) k a ≡ true = ap (λ (b : Bool). has_room b k a) is.kind ∙ room_for (is_answer_row x) k a p q in
    rw (is.word, room, row_again x fits, made.1) (item_added n s k a made.0 ∙ rw kind refl)

-- the first row
first_row_again : (n : ℕ) (given : Option Bounds) (t : TraceParser) (c : Topology) (x : ScriptRow) → FitsRow x → configured n t ≡ Ok c → is_ok (item_of c x) ≡ true
    → script_step n (parser.Config given t) (script_row x)
    ≡ Ok (parser.Rows (put_row (empty_scenario c (limits_of given)) x) (more_steps (is_answer_row x) 0) (more_answers (is_answer_row x) 0))
unfolding script_step config_step first_row
first_row_again n given t c x fits whole ok =
    let is = row_of x in
    let s = empty_scenario c (limits_of given) in
    let made = put_ok (item_of c x) ok in
    let kind = item_kind c x made.0 made.1 in
    rw (is.config, is.word, row_again x fits, whole, made.1) (item_added n s 0 0 made.0 ∙ rw kind refl)

put_config : (s : Scenario) (x : ScriptRow) → (put_row s x).config ≡ s.config
put_config s x = fold_config s (x ∷ [])

-- the parser after rows
pub record Ends (n : ℕ) (from : ScriptParser) (rows : List Row) (s : Scenario) : Type 0 where
  pub last : ScriptParser
  pub reached : taken script_step n from rows ≡ Ok last
  pub ends : script_ended last ≡ Ok s

rows_again : (n : ℕ) (s : Scenario) (k a : ℕ) (xs : List ScriptRow) → AllByRecursion FitsRow xs → AllByRecursion (λ x. is_ok (item_of s.config x) ≡ true) xs → k + step_rows xs ≤ MAX_ROWS → a + answer_rows xs ≤ MAX_ROWS
    → Ends n (parser.Rows s k a) (map script_row xs) (fold put_row s xs)
unfolding script_ended
rows_again n s k a [] fits ok p q = record { last = parser.Rows s k a; reached = refl; ends = refl }
rows_again n s k a (x ∷ xs) fits ok p q =
    let steps = sum_by-cons (λ y. cond (not (is_answer_row y)) 1 0) x xs in
    let answers = sum_by-cons (λ y. cond (is_answer_row y) 1 0) x xs in
    let one = row_step_again n s k a x fits.0 ok.0 (omega arith) (omega arith) in
    let rest = subst (λ (c : Topology). AllByRecursion (λ y. is_ok (item_of c y) ≡ true) xs) (sym (put_config s x)) ok.1 in
    let more = rows_again (n + 1) (put_row s x) (more_steps (is_answer_row x) k) (more_answers (is_answer_row x) a) xs fits.1 rest (omega arith) (omega arith) in
    record { last = more.last; reached = rw one more.reached; ends = more.ends }

-- ---- the configuration

abbrev IsConfigRow : Row → Type 0
IsConfigRow fields = is_config_word (field_of fields 0) ≡ true

config_one : (n : ℕ) (given : Option Bounds) (t u : TraceParser) (fields : Row) → t ≢ trace.Header → IsConfigRow fields → step n t fields ≡ Ok u
    → (script_step n (parser.Config given t) fields ≡ Ok (parser.Config given u)) × (u ≢ trace.Header)
unfolding script_step config_step
config_one n given t u fields behind word e =
    let is : row_step n t fields ≡ Ok u = sym (step_behind n t fields behind) ∙ e in
    let on = configures n t u fields word is in
    (rw (word, is) refl, (λ h. false≢true (sym (ap is_configuring h) ∙ on)))

config_again : (n : ℕ) (given : Option Bounds) (t u : TraceParser) (rows : List Row) → t ≢ trace.Header → AllByRecursion IsConfigRow rows → taken step n t rows ≡ Ok u
    → taken script_step n (parser.Config given t) rows ≡ Ok (parser.Config given u)
config_again n given t u [] behind words e = ap (λ (v : TraceParser). Ok (parser.Config given v)) (ok_is t u e)
config_again n given t u (fields ∷ rows) behind words e =
    on_ok (step n t fields) (λ v. taken step (n + 1) v rows) u e (λ v ev r.
    let one = config_one n given t v fields behind words.0 ev in
    rw one.0 (config_again (n + 1) given v u rows one.1 words.1 r))

weight_words : (v : Version) (c : Topology) → All IsConfigRow (weight_rows v c.weights)
unfolding is_config_word field_at
weight_words v c = by (has_table v)
  where
    by : (b : Bool) → All IsConfigRow (cond b (map weight_row c.weights) [])
    by true = All-map IsConfigRow weight_row c.weights (λ k d h. refl)
    by false = All-nil IsConfigRow

config_words : (v : ScriptVersion) (c : Topology) → AllByRecursion IsConfigRow (config_rows v c)
unfolding is_config_word field_at
config_words v c =
    recursion_from_All IsConfigRow _
    (All-append IsConfigRow (weight_rows (trace_version v) c.weights) _ (weight_words (trace_version v) c)
    (All-append IsConfigRow (map link_row c.links) _ (All-map IsConfigRow link_row c.links (λ k d h. refl))
    (All-append IsConfigRow (map adapter_row c.adapters) _ (All-map IsConfigRow adapter_row c.adapters (λ k d h. refl))
    (All-append IsConfigRow (map device_row c.devices) _ (All-map IsConfigRow device_row c.devices (λ k d h. refl))
    (All-map IsConfigRow lane_row c.lanes (λ k d h. refl))))))

-- a configuration with an adapter has a record
some_row : (v : ScriptVersion) (c : Topology) → (length c.adapters ≡ 0 → ⊥) → length (config_rows v c) ≡ 0 → ⊥
some_row v c some none =
    let as' = map adapter_row c.adapters in
    let rest = map device_row c.devices ++ map lane_row c.lanes in
    let a = length-append (weight_rows (trace_version v) c.weights) (map link_row c.links ++ (as' ++ rest)) in
    let b = length-append (map link_row c.links) (as' ++ rest) in
    let d = length-append as' rest in
    let e = length-map c.adapters adapter_row in
    some (omega arith)

-- a record of the configuration isn't the limits
other_word : (field : List ℕ) → field ≡ codes "limits" → is_config_word field ≡ true → ⊥
unfolding is_config_word
other_word field e h = let no = rw e at h in false≢true no

no_limits : (fields : Row) → IsConfigRow fields → is_limits fields ≡ false
unfolding is_limits
no_limits fields word = by (bytes_eq (field_of fields 0) (codes "limits")) refl
  where
    by : (b : Bool) → bytes_eq (field_of fields 0) (codes "limits") ≡ b → ((length fields == 8) && b) ≡ false
    by true e = absurd (other_word (field_of fields 0) (same_bytes (field_of fields 0) (codes "limits") e) word)
    by false e = search (rules, tests)

-- where no limits are given, the configuration begins at once
begins : (n : ℕ) (v : ScriptVersion) (rows rest : List Row) → AllByRecursion IsConfigRow rows → (length rows ≡ 0 → ⊥)
    → taken script_step n (parser.First v) (rows ++ rest) ≡ taken script_step n (parser.Config None (first_parser v)) (rows ++ rest)
unfolding script_step
begins n v [] rest words some = absurd (some refl)
begins n v (fields ∷ rows) rest words some = rw (no_limits fields words.0) refl

from_limits : (n : ℕ) (v : ScriptVersion) (given : Option Bounds) (rows rest : List Row) → IfSome given (λ b. are_within b ≡ true) → AllByRecursion IsConfigRow rows → (length rows ≡ 0 → ⊥)
    → (m : ℕ) × (taken script_step n (parser.First v) (limits_rows given ++ (rows ++ rest)) ≡ taken script_step m (parser.Config given (first_parser v)) (rows ++ rest))
unfolding script_step limits_step
from_limits n v None rows rest within words some = (n, begins n v rows rest words some)
from_limits n v (Some b) rows rest within words some = let k = limits_again b within in (n + 1, rw (k.0, k.1) refl)

-- ---- a whole script

header_one : (v : ScriptVersion) → script_step 1 parser.Header (script_header v) ≡ Ok (parser.First v)
unfolding script_step is_header has_letters header_row field_at
header_one script.One = refl
header_one script.Two = refl

-- the rows after a configuration
rows_of : (n : ℕ) (given : Option Bounds) (t : TraceParser) (c : Topology) (xs : List ScriptRow) → ((m : ℕ) → configured m t ≡ Ok c) → AllByRecursion FitsRow xs → AllByRecursion (λ x. is_ok (item_of c x) ≡ true) xs
    → step_rows xs ≤ MAX_ROWS → answer_rows xs ≤ MAX_ROWS → Ends n (parser.Config given t) (map script_row xs) (fold put_row (empty_scenario c (limits_of given)) xs)
unfolding script_ended
rows_of n given t c [] whole fits ok p q = record { last = parser.Config given t; reached = refl; ends = rw (whole (first_number given + rows_before t)) refl }
rows_of n given t c (x ∷ xs) whole fits ok p q =
    let steps = sum_by-cons (λ y. cond (not (is_answer_row y)) 1 0) x xs in
    let answers = sum_by-cons (λ y. cond (is_answer_row y) 1 0) x xs in
    let one = first_row_again n given t c x fits.0 (whole n) ok.0 in
    let s = put_row (empty_scenario c (limits_of given)) x in
    let rest = subst (λ (y : Topology). AllByRecursion (λ z. is_ok (item_of y z) ≡ true) xs) (sym (put_config (empty_scenario c (limits_of given)) x)) ok.1 in
    let more = rows_again (n + 1) s (more_steps (is_answer_row x) 0) (more_answers (is_answer_row x) 0) xs fits.1 rest (omega arith) (omega arith) in
    record { last = more.last; reached = rw one more.reached; ends = more.ends }

regroup : (w k a d l : List Row) → w ++ (k ++ (a ++ (d ++ (l ++ [])))) ≡ w ++ (k ++ (a ++ (d ++ l)))
regroup w k a d l = simp append-nil

-- the records of a configuration are taken as those of a trace
config_taken : (n : ℕ) (v : ScriptVersion) (c : Topology) → config_fault c ≡ None → holds (trace_version v) c ≡ true → AllByRecursion (λ (d : Device). d.target ≤ 65535) c.devices
    → taken step n (first_parser v) (config_rows v c) ≡ Ok (at_config (trace_version v) c)
config_taken n v c config held targets =
    let w = trace_version v in
    let same = regroup (weight_rows w c.weights) (map link_row c.links) (map adapter_row c.adapters) (map device_row c.devices) (map lane_row c.lanes) in
    rw (← same) (taken_config w c config held targets [] (at_config w c) (λ m. refl) n)

-- and it lacks nothing
config_whole : (v : Version) (c : Topology) → config_fault c ≡ None → (m : ℕ) → configured m (at_config v c) ≡ Ok c
config_whole v c config m = rw (config_came (has_table v) c (record { kept = config })) refl

-- what is spelled so is read
pub script_again : (m : Manuscript) → IsManuscript m → script_reading (script_records m) ≡ Ok (scenario_of m)
unfolding script_reading script_records scenario_of
script_again m h =
    let c = m.config in
    let v = m.version in
    let w = trace_version v in
    let given = m.limits in
    let some : length c.adapters ≡ 0 → ⊥ = (λ e. false≢true (sym (some_adapter c (record { kept = h.config })) ∙ eq-eqb (length c.adapters) 0 e)) in
    let rows = map script_row m.rows in
    let words = config_words v c in
    let f = from_limits 2 v given (config_rows v c) rows h.limits words (some_row v c some) in
    let t = at_config w c in
    let config_read = config_again f.0 given (first_parser v) t (config_rows v c) (λ e. cc) words (config_taken f.0 v c h.config h.held h.targets) in
    let behind = taken_on script_step f.0 (parser.Config given (first_parser v)) (parser.Config given t) (config_rows v c) rows config_read in
    let last = rows_of (f.0 + length (config_rows v c)) given t c m.rows (config_whole w c h.config) h.fits h.ruled h.steps h.answers in
    let reached = f.1 ∙ behind ∙ last.reached in
    rw (header_one v, reached) last.ends
