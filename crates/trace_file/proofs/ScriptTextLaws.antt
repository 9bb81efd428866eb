-- The text of a manuscript's records is a script.
use Rattle.std.proofs.Common.{◌≡◌, ◌≤◌, ◌+◌, ◌*◌, ℕ, List, [], ◌∷◌, ◌++◌, length, map, Bool, true, false, cond, refl, ap, ◌∙◌, arith, length-append, not, nat_le, Option, Some, None, IfSome, decimal, codes, append-nil}
use Rattle.std.specs.List.{AllByRecursion}
use Rattle.std.proofs.lemmas.Bool.{and_parts, leb-true}
use Rattle.std.proofs.lemmas.Fmt.{length-decimal-le}
use Rattle.std.proofs.lemmas.List.{length-map}
use Rattle.std.proofs.lemmas.List.Elements.{recursion_from_All}
use Rattle.std.proofs.lemmas.List.Sums.{sum_by-cons}
use Rattle.csv.specs.Reading.{default_config, records, strip_bom}
use Rattle.csv.specs.Writing.{escaped, fields_text, is_blank, read_back}
use Rattle.cam_types.specs.Bounds.{Bounds, are_within, is_limit}
use Rattle.cam_types.specs.declared.limits.TheConstants.{MAX_ADAPTERS, MAX_CCBS, MAX_DEVICES, MAX_EVENTS, MAX_LANES, MAX_LINKS, MAX_ROUNDS, MAX_STAYS, MAX_WEIGHT_ROWS}
use Rattle.cam_path.specs.Paths as path
use Rattle.cam_path.specs.declared.path.CamPath.{CamPath}
use Rattle.trace_file.specs.Fields.{flags_text}
use Rattle.record_text.specs.Text.{Row}
use Rattle.trace_file.specs.Histories.{Past}
use Rattle.trace_file.specs.Records.{hex, records_of}
use Rattle.record_text.specs.Fields.{max_number}
use Rattle.trace_file.specs.Scenarios.{is_answer_row, MAX_ROWS}
use Rattle.trace_file.specs.Script.{FitsRow, IsManuscript, IsScript, Manuscript, answer_rows, config_rows, limits_rows, script_records, step_rows}
use Rattle.trace_file.specs.ScriptRows.{limits_row, script_header, script_row, ScriptRow}
use Rattle.trace_file.specs.declared.script_row.ScriptRow.TheVariants as row
use Rattle.trace_file.specs.ScriptVersions.{trace_version, ScriptVersion}
use Rattle.trace_file.specs.declared.script_version.ScriptVersion.TheVariants as script
use Rattle.trace_file.specs.Trace.{IsHistory}
use Rattle.record_text.specs.Writing.{text_of}
use Rattle.trace_file.proofs.HexLaws.{length-hex}
use Rattle.trace_file.proofs.ScriptLaws.{config_spelled}
use Rattle.trace_file.proofs.ScriptNumbered.{all_both, all_mapped}
use Rattle.trace_file.proofs.ParserLemmas.{is_legal-nil}
use Rattle.trace_file.proofs.TextLaws.{IsGood, IsShort, eight, good_records, short_flags, ten, text-le, two_numbers}
use Rattle.record_text.proofs.GoodRows.{records_again}
use Rattle.record_text.specs.Header.{header_row}

-- ---- the header and the limits

good_header : (v : ScriptVersion) → IsGood (script_header v)
unfolding header_row
good_header script.One = (refl, eight (codes "camscript1") (codes "a") (codes "b") (codes "c") (codes "d") (codes "e") (codes "f") (codes "g") (omega arith))
good_header script.Two = (refl, eight (codes "camscript2") (codes "a") (codes "b") (codes "c") (codes "d") (codes "e") (codes "f") (codes "g") (omega arith))

most : (n m : ℕ) → is_limit n m ≡ true → n ≤ m
most n m h = leb-true n m (and_parts (nat_le 1 n) (nat_le n m) h).1

good_limits : (b : Bounds) → are_within b ≡ true → IsGood (limits_row b)
good_limits b h =
    let p = and_parts _ _ h in
    let q = and_parts _ _ p.0 in
    let r = and_parts _ _ q.0 in
    let ccbs = most b.ccbs MAX_CCBS r.0 in
    let rounds = most b.rounds MAX_ROUNDS r.1 in
    let stays = most b.stays MAX_STAYS q.1 in
    let events = most b.events MAX_EVENTS p.1 in
    let x = ten b.ccbs (omega arith) in
    let y = ten b.rounds (omega arith) in
    let z = ten b.stays (omega arith) in
    let w = ten b.events (omega arith) in
    (refl, eight (codes "limits") (decimal b.ccbs) (decimal b.rounds) (decimal b.stays) (decimal b.events) [] [] [] (omega arith))

good_given : (given : Option Bounds) → IfSome given (λ b. are_within b ≡ true) → AllByRecursion IsGood (limits_rows given) × (length (limits_rows given) ≤ 1)
good_given None h = (tt, omega arith)
good_given (Some b) h = ((good_limits b h, tt), omega arith)

-- ---- rows

five : (n : ℕ) → n ≤ 65535 → length (decimal n) ≤ 5
five n h = length-decimal-le 5 n (omega arith) (omega arith) (omega arith)

digit : (n : ℕ) → n ≤ 7 → length (decimal n) ≤ 1
digit n h = length-decimal-le 1 n (omega arith) (omega arith) (omega arith)

short_path : (p : CamPath) → path.Fits p → length (path.spelled p) ≤ 17
unfolding path.spelled
short_path p h =
    let bus = h.bus in
    let target = h.target in
    let lun = h.lun in
    let a = five p.bus (omega arith) in
    let b = five p.target (omega arith) in
    let c = five p.lun (omega arith) in
    let last = length-append (codes ":") (decimal p.lun) in
    let middle = length-append (decimal p.target) (codes ":" ++ decimal p.lun) in
    let first = length-append (codes ":") (decimal p.target ++ (codes ":" ++ decimal p.lun)) in
    let all = length-append (decimal p.bus) (codes ":" ++ (decimal p.target ++ (codes ":" ++ decimal p.lun))) in
    omega arith

by_path : (w : List ℕ) (driver : ℕ) (p : CamPath) (n : ℕ) → length w ≤ 8 → driver ≤ 7 → path.Fits p → n ≤ max_number → IsShort (w ∷ decimal driver ∷ path.spelled p ∷ decimal n ∷ [] ∷ [] ∷ [] ∷ [] ∷ [])
by_path w driver p n h few fits small =
    let a = digit driver few in
    let b = short_path p fits in
    let c = ten n small in
    eight w (decimal driver) (path.spelled p) (decimal n) [] [] [] [] (omega arith)

short_row : (x : ScriptRow) → FitsRow x → IsShort (script_row x)
short_row (row.Submit driver at priority retries flags) h =
    let a = digit driver h.0 in
    let b = short_path at h.1 in
    let c = ten priority h.2 in
    let d = ten retries h.3 in
    let f = short_flags flags.qfreeze flags.qfrzdis in
    eight (codes "submit") (decimal driver) (path.spelled at) (decimal priority) (decimal retries) (flags_text flags) [] [] (omega arith)
short_row (row.Freeze driver at count) h = by_path (codes "freeze") driver at count (omega arith) h.0 h.1 h.2
short_row (row.Release driver at count) h = by_path (codes "release") driver at count (omega arith) h.0 h.1 h.2
short_row (row.FreezeSim driver sim count) h =
    let a = digit driver h.0 in
    let b = ten sim h.1 in
    let c = ten count h.2 in
    eight (codes "sfreeze") (decimal driver) (decimal sim) (decimal count) [] [] [] [] (omega arith)
short_row (row.ReleaseSim driver sim) h = two_numbers (codes "srelease") driver sim (omega arith) (omega (arith, h.0)) h.1
short_row (row.Adjust driver at openings) h = by_path (codes "adjust") driver at openings (omega arith) h.0 h.1 h.2
short_row (row.Pause driver round) h = two_numbers (codes "pause") driver round (omega arith) (omega (arith, h.0)) h.1
short_row (row.Answer lane outcome) h =
    let a = ten lane h.0 in
    let s = length-hex outcome.sense in
    eight (codes "answer") (decimal lane) (hex (outcome.status ∷ [])) (hex (outcome.scsi ∷ [])) (hex outcome.sense) [] [] [] (omega arith)

good_row : (x : ScriptRow) → FitsRow x → IsGood (script_row x)
good_row x h = (whole x, short_row x h)
  where
    whole : (x : ScriptRow) → read_back (script_row x) ≡ script_row x
    whole (row.Answer lane outcome) = refl
    whole _ = refl

-- each row is a step's or an answer
all_rows : (rows : List ScriptRow) → length rows ≡ step_rows rows + answer_rows rows
all_rows [] = refl
all_rows (x ∷ xs) =
    let steps = sum_by-cons (λ y. cond (not (is_answer_row y)) 1 0) x xs in
    let answers = sum_by-cons (λ y. cond (is_answer_row y) 1 0) x xs in
    let more = all_rows xs in
    let one : cond (not (is_answer_row x)) 1 0 + cond (is_answer_row x) 1 0 ≡ 1 = by (is_answer_row x) in
    omega arith
  where
    by : (b : Bool) → cond (not b) 1 0 + cond b 1 0 ≡ 1
    by true = refl
    by false = refl

-- ---- a whole script

abbrev max_records : ℕ
max_records = MAX_EVENTS + (1 + MAX_WEIGHT_ROWS + MAX_LINKS + MAX_ADAPTERS + MAX_DEVICES + MAX_ADAPTERS * MAX_LANES)

-- the records of the configuration are those of a history in which nothing has happened
good_config : (m : Manuscript) → IsManuscript m → AllByRecursion IsGood (config_rows m.version m.config ++ []) × (length (config_rows m.version m.config ++ []) ≤ max_records)
unfolding records_of
good_config m h =
    let v = trace_version m.version in
    let past : Past = record { config = m.config; events = [] } in
    let is : IsHistory past = record { config = h.config; legal = is_legal-nil m.config; targets = h.targets; events = tt } in
    let g = good_records v past is (omega arith) in
    let each : AllByRecursion IsGood (records_of v past) = recursion_from_All IsGood (records_of v past) g.0 in
    let few = g.1 in
    rw (← config_spelled m.version m.config) (each.1, omega arith)

good_script : (m : Manuscript) → IsManuscript m → AllByRecursion IsGood (script_records m) × (length (script_records m) ≤ 2 + max_records + 2 * MAX_ROWS)
unfolding script_records
good_script m h =
    let limits = good_given m.limits h.limits in
    let config = config_rows m.version m.config in
    let rows = map script_row m.rows in
    let good = rw append-nil at (good_config m h) in
    let each = all_mapped IsGood FitsRow script_row m.rows good_row h.fits in
    let many = all_rows m.rows in
    let steps = h.steps in
    let answers = h.answers in
    let size = length-map m.rows script_row in
    let inner = length-append config rows in
    let outer = length-append (limits_rows m.limits) (config ++ rows) in
    let a = limits.1 in
    let b = good.1 in
    ((good_header m.version, all_both IsGood (limits_rows m.limits) (config ++ rows) limits.0 (all_both IsGood config rows good.0 each)), omega arith)

-- the text begins with the header's word, and so with no byte order mark
no_mark : (v : ScriptVersion) (rows : List Row) → strip_bom (text_of (script_header v ∷ rows)) ≡ text_of (script_header v ∷ rows)
unfolding strip_bom text_of header_row fields_text escaped is_blank
no_mark script.One rows = refl
no_mark script.Two rows = refl

again : (rows : List Row) → AllByRecursion IsGood rows → AllByRecursion (λ (r : Row). read_back r ≡ r) rows
again [] h = tt
again (r ∷ rows) h = (h.0.0, again rows h.1)

pub is_script : (m : Manuscript) → IsManuscript m → IsScript (text_of (script_records m)) m
unfolding script_records
is_script m h =
    let rows = script_records m in
    let g = good_script m h in
    let few = g.1 in
    let short = text-le rows g.0 in
    record {
      bounded = omega arith;
      spelled = ap (records default_config) (no_mark m.version _) ∙ records_again rows (again rows g.0);
    }
