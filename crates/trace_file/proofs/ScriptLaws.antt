-- What the parsers of a script have read is spelled so.
use Rattle.std.proofs.Common.{◌≡◌, ◌≤◌, ◌+◌, ℕ, List, [], ◌∷◌, ◌++◌, map, Bool, true, false, cond, refl, sym, ap, ◌∙◌, subst, arith, append_assoc, append-nil, Option, Some, None, IfSome, Result, Ok, Err, ok_or, is_ok, not, option_and_then, fold}
use Rattle.std.proofs.lemmas.List.{map-append}
use Rattle.std.proofs.lemmas.Option.{cond_some}
use Rattle.std.proofs.lemmas.Bool.Decides.{nat_tests}
use Rattle.std.proofs.lemmas.List.Sums.{fold_push}
use Rattle.cam_types.specs.Bounds.{Bounds, are_within}
use Rattle.cam_types.specs.Whole.{IsWhole}
use Rattle.event_rules.proofs.ListFacts.{count_by-push}
use Rattle.trace_file.specs.ScriptVersions.{script_name, trace_version, ScriptVersion}
use Rattle.trace_file.specs.declared.script_version.ScriptVersion.TheVariants as script
use Rattle.trace_file.specs.ScriptRows.{limits_at, script_header, script_row, script_row_at, ScriptRow, ScriptWord}
use Rattle.trace_file.specs.ScriptReading.{config_step, configured, configured_last, first_row, first_parser, has_room, is_config_word, is_configuring, is_limits, item_word, limits_of, limits_step, roomy_word, rows_step, script_ended, script_reading, script_step, with_item, ScriptItem, ScriptParser}
use Rattle.trace_file.specs.declared.script_row.ScriptItem.TheVariants as item
use Rattle.trace_file.specs.declared.script_parser.ScriptParser.TheVariants as parser
use Rattle.trace_file.specs.Reading.{in_record, row_step, BadHeader, BadRecord, TraceParser}
use Rattle.record_text.specs.ConfigParsing.{lacks_adapters}
use Rattle.record_text.specs.declared.config_parser.ConfigParser.{ConfigParser}
use Rattle.record_text.specs.Header.{is_header, header_row}
use Rattle.trace_file.specs.declared.trace_parser.TraceParser.TheVariants as trace
use Rattle.record_text.specs.Text.{Row, records_in}
use Rattle.record_text.specs.Fields.{field_of}
use Rattle.trace_file.specs.Histories.{Refusal, Topology}
use Rattle.trace_file.specs.Versions.{Version}
use Rattle.trace_file.specs.Records.{header, records_of, weight_rows}
use Rattle.record_text.specs.ConfigRows.{adapter_row, device_row, link_row, lane_row}
use Rattle.trace_file.specs.Scenarios.{Scenario, add_item, empty_scenario, is_answer_item, is_answer_row, is_answer_word, item_of, MAX_ROWS}
use Rattle.trace_file.specs.Script.{FitsRow, IsManuscript, Manuscript, WasScript, answer_rows, config_rows, limits_rows, put_item, put_row, scenario_of, script_records, step_rows}
use Rattle.record_text.specs.Steps.{◌>>=◌, taken}
use Rattle.record_text.proofs.StepLemmas.{ok_is, on_ok, taken_keeps, ok_or_ok}
use Rattle.trace_file.proofs.ScriptItems.{item_kind}
use Rattle.trace_file.proofs.ScriptRowLaws.{limits_take, row_takes}
use Rattle.trace_file.proofs.ScriptParserLemmas.{configures}
use Rattle.trace_file.proofs.ParserLaws.{Reads, configured_ok, first_reads, in_record_ok, reads_behind, reads_whole}
use Rattle.record_text.proofs.RowLaws.{named_header}
use Rattle.trace_file.proofs.HexLaws.{on_some}
use Rattle.record_text.proofs.ListLemmas.{all_push}

-- ---- items

-- that many rows of drivers, and that many answers, with one row more
abbrev pub more_steps : Bool → ℕ → ℕ
more_steps answers k = k + cond (not answers) 1 0

abbrev pub more_answers : Bool → ℕ → ℕ
more_answers answers a = a + cond answers 1 0

pub item_added : (n : ℕ) (s : Scenario) (k a : ℕ) (i : ScriptItem) → with_item n s k a (Ok i) ≡ Ok (parser.Rows (add_item s i) (more_steps (is_answer_item i) k) (more_answers (is_answer_item i) a))
item_added n s k a (item.Step driver one) = let same : a ≡ a + 0 = omega arith in ap (λ (b : ℕ). Ok (parser.Rows (add_item s (item.Step driver one)) (k + 1) b)) same
item_added n s k a (item.Answer lane outcome) = let same : k ≡ k + 0 = omega arith in ap (λ (b : ℕ). Ok (parser.Rows (add_item s (item.Answer lane outcome)) b (a + 1))) same

-- what an item that isn't refused makes of a parser
with_ok : {Q : Type 0} (n : ℕ) (s : Scenario) (k a : ℕ) (r : Result ScriptItem Refusal) (t : ScriptParser) → with_item n s k a r ≡ Ok t
    → ((i : ScriptItem) → r ≡ Ok i → parser.Rows (add_item s i) (more_steps (is_answer_item i) k) (more_answers (is_answer_item i) a) ≡ t → Q) → Q
with_ok n s k a (Ok i) t e q = q i refl (ok_is _ t (sym (item_added n s k a i) ∙ e))
with_ok n s k a (Err r) t e q = absurd cc

-- ---- the scenario of rows

pub put_config : (s : Scenario) (r : Result ScriptItem Refusal) → (put_item s r).config ≡ s.config
put_config s (Ok (item.Step driver one)) = refl
put_config s _ = refl

pub fold_config : (s : Scenario) (rows : List ScriptRow) → (fold put_row s rows).config ≡ s.config
fold_config s [] = refl
fold_config s (x ∷ xs) = fold_config (put_row s x) xs ∙ put_config s (item_of s.config x)

pub scenario_config : (m : Manuscript) → (scenario_of m).config ≡ m.config
unfolding scenario_of
scenario_config m = fold_config (empty_scenario m.config (limits_of m.limits)) m.rows

scenario_push : (m : Manuscript) (x : ScriptRow) → scenario_of (record m { rows = m.rows ++ x ∷ [] }) ≡ put_row (scenario_of m) x
unfolding scenario_of
scenario_push m x = fold_push put_row (empty_scenario m.config (limits_of m.limits)) m.rows x

records_push : (m : Manuscript) (x : ScriptRow) → script_records m ++ script_row x ∷ [] ≡ script_records (record m { rows = m.rows ++ x ∷ [] })
unfolding script_records
records_push m x = ap (λ (rs : List Row). script_header m.version ∷ rs) (simp (map-append, append_assoc) refl)

-- ---- what a parser has read

-- the header, the limits if they were given, and records of the configuration, as a trace has them after its header
pub record ReadsConfig (given : Option Bounds) (t : TraceParser) (rows : List Row) : Type 0 where
  pub version : ScriptVersion
  pub within : IfSome given (λ b. are_within b ≡ true)
  pub trace : List Row
  pub reads : Reads (trace_version version) t (header (trace_version version) ∷ trace)
  pub configuring : is_configuring t ≡ true
  pub parts : rows ≡ script_header version ∷ (limits_rows given ++ trace)

-- the records of a manuscript, of which this is the scenario, with that many rows of drivers and that many answers
pub record ReadsRows (s : Scenario) (k a : ℕ) (rows : List Row) : Type 0 where
  pub made : Manuscript
  pub kept : IsManuscript made
  pub spelled : rows ≡ script_records made
  pub value : s ≡ scenario_of made
  pub steps : k ≡ step_rows made.rows
  pub answers : a ≡ answer_rows made.rows

abbrev pub ReadsScript : ScriptParser → List Row → Type 0
ReadsScript parser.Header rows = rows ≡ []
ReadsScript (parser.First v) rows = rows ≡ script_header v ∷ []
ReadsScript (parser.Config given t) rows = ReadsConfig given t rows
ReadsScript (parser.Rows s steps answers) rows = ReadsRows s steps answers rows

-- ---- the configuration

reads_given : (v : ScriptVersion) (given : Option Bounds) (rows : List Row) → IfSome given (λ b. are_within b ≡ true) → rows ≡ script_header v ∷ limits_rows given → ReadsConfig given (first_parser v) rows
reads_given v given rows within e =
    record { version = v; within = within; trace = []; reads = first_reads (trace_version v); configuring = refl; parts = e ∙ ap (λ (l : List Row). script_header v ∷ l) (sym (append-nil (limits_rows given))) }

config_row : (n : ℕ) (given : Option Bounds) (t u : TraceParser) (fields : Row) (rows : List Row) → ReadsConfig given t rows → is_config_word (field_of fields 0) ≡ true → row_step n t fields ≡ Ok u
    → ReadsConfig given u (rows ++ fields ∷ [])
config_row n given t u fields rows h word e =
    let v = trace_version h.version in
    record {
      version = h.version;
      within = h.within;
      trace = h.trace ++ fields ∷ [];
      reads = reads_behind v n t u fields (header v ∷ h.trace) h.reads e;
      configuring = configures n t u fields word e;
      parts = ap (λ (l : List Row). l ++ fields ∷ []) h.parts ∙ ap (λ (l : List Row). script_header h.version ∷ l) (append_assoc (limits_rows given) h.trace (fields ∷ []));
    }

abbrev pub grouped : Version → Topology → List Row
grouped v c = weight_rows v c.weights ++ (map link_row c.links ++ (map adapter_row c.adapters ++ (map device_row c.devices ++ (map lane_row c.lanes ++ []))))

config_records : (v : Version) (c : Topology) (rows : List Row) → header v ∷ rows ≡ records_of v (record { config = c; events = [] }) → rows ≡ grouped v c
unfolding records_of
config_records v c rows e = cc

regroup : (w k a d l : List Row) → w ++ (k ++ (a ++ (d ++ (l ++ [])))) ≡ (w ++ (k ++ (a ++ (d ++ l)))) ++ []
regroup w k a d l = simp append_assoc

pub config_spelled : (v : ScriptVersion) (c : Topology) → grouped (trace_version v) c ≡ config_rows v c ++ []
config_spelled v c = regroup (weight_rows (trace_version v) c.weights) (map link_row c.links) (map adapter_row c.adapters) (map device_row c.devices) (map lane_row c.lanes)

-- a whole configuration, without a row
whole_config : (given : Option Bounds) (w : Version) (c : ConfigParser) (rows : List Row) → ReadsConfig given (trace.Config w c) rows → lacks_adapters c ≡ false → ReadsRows (empty_scenario c.partial (limits_of given)) 0 0 rows
unfolding script_records scenario_of
whole_config given w c rows h came =
    let v = trace_version h.version in
    let r = reads_whole v w c (header v ∷ h.trace) came h.reads in
    let behind = config_records v c.partial h.trace r.spelled ∙ config_spelled h.version c.partial in
    record {
      made = record { version = h.version; limits = given; config = c.partial; rows = [] };
      kept = record {
        limits = h.within;
        config = r.kept.config;
        held = r.held;
        targets = r.targets;
        fits = tt;
        ruled = tt;
        steps = omega arith;
        answers = omega arith;
      };
      spelled = h.parts ∙ ap (λ (l : List Row). script_header h.version ∷ (limits_rows given ++ l)) behind;
      value = refl;
      steps = refl;
      answers = refl;
    }

whole_read : (n : ℕ) (given : Option Bounds) (t : TraceParser) (c : Topology) (rows : List Row) → ReadsConfig given t rows → configured n t ≡ Ok c → ReadsRows (empty_scenario c (limits_of given)) 0 0 rows
whole_read n given trace.Header c rows h e = absurd cc
whole_read n given (trace.Config w d) c rows h e =
    let k = configured_ok n d c e in
    subst (λ (y : Topology). ReadsRows (empty_scenario y (limits_of given)) 0 0 rows) k.1 (whole_config given w d rows h k.0)
whole_read n given (trace.Events p) c rows h e = absurd cc

-- ---- rows

room_more : (b : Bool) (k a : ℕ) → has_room b k a ≡ true → k ≤ MAX_ROWS → a ≤ MAX_ROWS → (more_steps b k ≤ MAX_ROWS) × (more_answers b a ≤ MAX_ROWS)
room_more b k a h steps answers = (grind (arith, nat_tests), grind (arith, nat_tests))

-- one row more
push_row : (s : Scenario) (k a : ℕ) (rows : List Row) (fields : Row) (w : ScriptWord) (x : ScriptRow) (i : ScriptItem) → ReadsRows s k a rows
    → item_word fields ≡ Some w → has_room (is_answer_word w) k a ≡ true → script_row_at w fields ≡ Ok x → item_of s.config x ≡ Ok i
    → ReadsRows (add_item s i) (more_steps (is_answer_item i) k) (more_answers (is_answer_item i) a) (rows ++ fields ∷ [])
push_row s k a rows fields w x i h word room parsed is =
    let m = h.made in
    let t = row_takes fields w x word parsed in
    let kind : is_answer_item i ≡ is_answer_row x = item_kind s.config x i is in
    let free : has_room (is_answer_row x) k a ≡ true = ap (λ (b : Bool). has_room b k a) t.2 ∙ room in
    let same : s.config ≡ m.config = ap (λ (y : Scenario). y.config) h.value ∙ scenario_config m in
    let fine : is_ok (item_of m.config x) ≡ true = ap (λ (c : Topology). is_ok (item_of c x)) (sym same) ∙ ap (λ (r : Result ScriptItem Refusal). is_ok r) is in
    let steps : more_steps (is_answer_item i) k ≡ step_rows (m.rows ++ x ∷ []) =
    ap (λ (b : Bool). more_steps b k) kind ∙ ap (λ (j : ℕ). j + cond (not (is_answer_row x)) 1 0) h.steps ∙ sym (count_by-push (λ y. not (is_answer_row y)) m.rows x) in
    let answers : more_answers (is_answer_item i) a ≡ answer_rows (m.rows ++ x ∷ []) =
    ap (λ (b : Bool). more_answers b a) kind ∙ ap (λ (j : ℕ). j + cond (is_answer_row x) 1 0) h.answers ∙ sym (count_by-push is_answer_row m.rows x) in
    let few = rw (← kind) at (room_more (is_answer_row x) k a free (rw (← h.steps) at h.kept.steps) (rw (← h.answers) at h.kept.answers)) in
    record {
      made = record m { rows = m.rows ++ x ∷ [] };
      kept = record {
        limits = h.kept.limits;
        config = h.kept.config;
        held = h.kept.held;
        targets = h.kept.targets;
        fits = all_push FitsRow m.rows x h.kept.fits t.1;
        ruled = all_push (λ y. is_ok (item_of m.config y) ≡ true) m.rows x h.kept.ruled fine;
        steps = rw steps at few.0;
        answers = rw answers at few.1;
      };
      spelled = ap (λ (l : List Row). l ++ fields ∷ []) h.spelled ∙ ap (λ (f : Row). script_records m ++ f ∷ []) t.0 ∙ records_push m x;
      value = ap (put_item s) (sym is) ∙ ap (λ (y : Scenario). put_row y x) h.value ∙ sym (scenario_push m x);
      steps = steps;
      answers = answers;
    }

-- ---- a record

roomy : (o : Option ScriptWord) (k a : ℕ) (w : ScriptWord) → option_and_then (λ v. cond (has_room (is_answer_word v) k a) (Some v) None) o ≡ Some w → (o ≡ Some w) × (has_room (is_answer_word w) k a ≡ true)
roomy o k a w e =
    on_some o _ w e (λ v ev r.
    let m = cond_some (has_room (is_answer_word v) k a) v w r in
    (ev ∙ ap (λ (y : ScriptWord). Some y) m.1, ap (λ (y : ScriptWord). has_room (is_answer_word y) k a) (sym m.1) ∙ m.0))

rows_read : (n : ℕ) (s : Scenario) (k a : ℕ) (t : ScriptParser) (fields : Row) (rows : List Row) → ReadsRows s k a rows → rows_step n s k a fields ≡ Ok t → ReadsScript t (rows ++ fields ∷ [])
unfolding rows_step roomy_word
rows_read n s k a t fields rows h e =
    on_ok (ok_or (roomy_word k a fields) (BadRecord n)) (λ w. in_record n (script_row_at w fields) >>= λ parsed. with_item n s k a (item_of s.config parsed)) t e (λ w ew r1.
    on_ok (in_record n (script_row_at w fields)) (λ parsed. with_item n s k a (item_of s.config parsed)) t r1 (λ x ex r2.
    with_ok n s k a (item_of s.config x) t r2 (λ i ei same.
    let room = roomy (item_word fields) k a w (ok_or_ok (roomy_word k a fields) (BadRecord n) w ew) in
    subst (λ (u : ScriptParser). ReadsScript u (rows ++ fields ∷ [])) same (push_row s k a rows fields w x i h room.0 room.1 (in_record_ok n (script_row_at w fields) x ex) ei))))

none_yet : (b : Bool) → has_room b 0 0 ≡ true
none_yet true = refl
none_yet false = refl

first_read : (n : ℕ) (given : Option Bounds) (t : TraceParser) (u : ScriptParser) (fields : Row) (rows : List Row) → ReadsConfig given t rows → first_row n given t fields ≡ Ok u → ReadsScript u (rows ++ fields ∷ [])
unfolding first_row
first_read n given t u fields rows h e =
    on_ok (ok_or (item_word fields) (BadRecord n)) _ u e (λ w ew r1.
    on_ok (in_record n (script_row_at w fields)) _ u r1 (λ x ex r2.
    on_ok (configured n t) _ u r2 (λ c ec r3.
    let limits = limits_of given in
    let whole = whole_read n given t c rows h ec in
    with_ok n (empty_scenario c limits) 0 0 (item_of c x) u r3 (λ i ei is.
    subst (λ (v : ScriptParser). ReadsScript v (rows ++ fields ∷ [])) is
    (push_row (empty_scenario c limits) 0 0 rows fields w x i whole (ok_or_ok (item_word fields) (BadRecord n) w ew) (none_yet (is_answer_word w)) (in_record_ok n (script_row_at w fields) x ex) ei)))))

config_read : (n : ℕ) (given : Option Bounds) (t : TraceParser) (u : ScriptParser) (fields : Row) (rows : List Row) → ReadsConfig given t rows → config_step n given t fields ≡ Ok u → ReadsScript u (rows ++ fields ∷ [])
unfolding config_step
config_read n given t u fields rows h e = by (is_config_word (field_of fields 0)) refl e
  where
    by : (b : Bool) → is_config_word (field_of fields 0) ≡ b → cond b (row_step n t fields >>= λ v. Ok (parser.Config given v)) (first_row n given t fields) ≡ Ok u → ReadsScript u (rows ++ fields ∷ [])
    by true word k =
        on_ok (row_step n t fields) (λ v. Ok (parser.Config given v)) u k (λ v ev s.
        subst (λ (y : ScriptParser). ReadsScript y (rows ++ fields ∷ [])) (ok_is _ u s) (config_row n given t v fields rows h word ev))
    by false word k = first_read n given t u fields rows h k

-- a parser that took a record has read it
step_reads : (n : ℕ) (s t : ScriptParser) (fields : Row) (rows : List Row) → ReadsScript s rows → script_step n s fields ≡ Ok t → ReadsScript t (rows ++ fields ∷ [])
unfolding script_step header_row limits_step
step_reads n parser.Header t fields rows h e =
    by (is_header (script_name script.One) fields) (is_header (script_name script.Two) fields) refl refl e
  where
    named : (v : ScriptVersion) → is_header (script_name v) fields ≡ true → parser.First v ≡ t → ReadsScript t (rows ++ fields ∷ [])
    named v is same = subst (λ (y : ScriptParser). ReadsScript y (rows ++ fields ∷ [])) same (rw (h, named_header (script_name v) fields is) refl)

    by : (one two : Bool) → is_header (script_name script.One) fields ≡ one → is_header (script_name script.Two) fields ≡ two
        → cond one (Ok (parser.First script.One)) (cond two (Ok (parser.First script.Two)) (Err BadHeader)) ≡ Ok t → ReadsScript t (rows ++ fields ∷ [])
    by true two is_one is_two k = named script.One is_one (ok_is _ t k)
    by false true is_one is_two k = named script.Two is_two (ok_is _ t k)
    by false false is_one is_two k = absurd cc
step_reads n (parser.First v) t fields rows h e = by (is_limits fields) refl e
  where
    by : (b : Bool) → is_limits fields ≡ b → cond b (limits_step n v fields) (config_step n None (first_parser v) fields) ≡ Ok t → ReadsScript t (rows ++ fields ∷ [])
    by true is k =
        on_ok (in_record n (limits_at fields)) (λ limits. Ok (parser.Config (Some limits) (first_parser v))) t k (λ limits el s.
        let l = limits_take fields limits is (in_record_ok n (limits_at fields) limits el) in
        subst (λ (y : ScriptParser). ReadsScript y (rows ++ fields ∷ [])) (ok_is _ t s) (reads_given v (Some limits) (rows ++ fields ∷ []) l.1 (rw (h, l.0) refl)))
    by false is k = config_read n None (first_parser v) t fields rows (reads_given v None rows tt h) k
step_reads n (parser.Config given t') t fields rows h e = config_read n given t' t fields rows h e
step_reads n (parser.Rows s k a) t fields rows h e = rows_read n s k a t fields rows h e

-- ---- the end

pub record IsSpelled (rows : List Row) (s : Scenario) : Type 0 where
  pub made : Manuscript
  pub kept : IsManuscript made
  pub spelled : rows ≡ script_records made
  pub value : s ≡ scenario_of made

ended_reads : (t : ScriptParser) (s : Scenario) (rows : List Row) → ReadsScript t rows → script_ended t ≡ Ok s → IsSpelled rows s
unfolding script_ended
ended_reads parser.Header s rows h e = absurd cc
ended_reads (parser.First script.One) s rows h e = absurd cc
ended_reads (parser.First script.Two) s rows h e = absurd cc
ended_reads (parser.Config given t) s rows h e =
    let limits = limits_of given in
    on_ok (configured_last given t) (λ c. Ok (empty_scenario c limits)) s e (λ c ec r.
    let w = whole_read _ given t c rows h ec in
    record { made = w.made; kept = w.kept; spelled = w.spelled; value = sym (ok_is _ s r) ∙ w.value })
ended_reads (parser.Rows one k a) s rows h e =
    record { made = h.made; kept = h.kept; spelled = h.spelled; value = sym (ok_is one s e) ∙ h.value }

-- what is read is a script
pub was_script : (before after : Option (List ℕ)) (text : List ℕ) → IsWhole before after text → (s : Scenario) → script_reading (records_in text) ≡ Ok s → WasScript before after s
unfolding script_reading
was_script before after text whole s e =
    on_ok (taken script_step 1 parser.Header (records_in text)) script_ended s e (λ t et r.
    let k = ended_reads t s (records_in text) (taken_keeps script_step ReadsScript step_reads 1 parser.Header t [] (records_in text) refl et) r in
    record { text = text; whole = whole; manuscript = k.made; script = record { bounded = whole.bounded; spelled = k.spelled }; kept = k.kept; value = k.value })
