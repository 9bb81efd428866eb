-- What is read is spelled so.
use Rattle.std.proofs.Common.{◌≡◌, ℕ, List, [], ◌∷◌, ◌++◌, length, Bool, true, false, cond, refl, sym, ap, ◌∙◌, subst, arith, Option, Some, None, Ok, ok_or, option_and_then, ◌==◌, not, nat_le, nat_lt}
use Rattle.std.proofs.lemmas.Bool.{and_parts, eqb-true, ltb-true}
use Rattle.std.proofs.lemmas.List.{nil_from_length}
use Rattle.record_text.proofs.ConfigLaws.{ordered_standard}
use Rattle.record_text.specs.declared.config_row.ConfigRow.TheVariants as row
use Rattle.recording_file.proofs.ParserLemmas.{may_take}
use Rattle.recording_file.specs.Recorded.{Recorded, Request, FitsFields, has_items, MAX_REQUESTS}
use Rattle.recording_file.specs.Reading.{apply_parsed, add_name, add_cap, add_request, book_rank, ended, placed, reading, recorded_of, row_step, parsed_by, step, stands, whole, BadHeader, BadRecord, RecordingParser, ParsedRow}
use Rattle.recording_file.specs.declared.recording_parser.RecordingParser.TheVariants as parser
use Rattle.recording_file.specs.declared.parsed_row.ParsedRow.TheVariants as parsed
use Rattle.recording_file.specs.Words.{spelled, word_of, RecordingWord, name_text}
use Rattle.recording_file.specs.declared.word.RecordingWord.TheVariants as word
use Rattle.record_text.specs.Text.{Row, records_in}
use Rattle.record_text.specs.Fields.{field_of}
use Rattle.record_text.specs.Header.{is_header}
use Rattle.recording_file.specs.Names.{NameValue}
use Rattle.recording_file.specs.Caps.{Cap}
use Rattle.recording_file.specs.Recordings.{WasRecording}
use Rattle.recording_file.specs.Rows.{header_at}
use Rattle.recording_file.specs.Records.{cap_row, header, name_row, records_of, request_row, row_of_parsed, word_for, FitsParsed}
use Rattle.recording_file.specs.Sound.{IsSound}
use Rattle.record_text.specs.Steps.{◌>>=◌, taken}
use Rattle.recording_file.specs.Whole.{IsLongWhole}
use Rattle.recording_file.proofs.FieldLaws.{word_spelled}
use Rattle.record_text.proofs.StepLemmas.{ok_or_ok, ok_is, on_ok, taken_keeps}
use Rattle.recording_file.proofs.PlacingLemmas.{kept_name, kept_cap, kept_request}
use Rattle.recording_file.proofs.PushLaws.{push_name, push_cap, push_request}
use Rattle.recording_file.proofs.ParsedLaws.{parsed_takes}
use Rattle.record_text.proofs.RowLaws.{named_header}
use Rattle.cam_types.proofs.LeastLemmas.{find_passes}
use Rattle.recording_file.proofs.ParserReady.{rounds_small}
use Rattle.recording_file.proofs.ParserReads.{Reads, lacks, next_reads, no_cause, reads_row, reads_whole, whole_ok}
use Rattle.record_text.proofs.ListLemmas.{all_push}

-- ---- names, caps and requests

-- where a name stands, no cap and no request came; where a cap stands, no request did
no_items : {X : Type 0} (xs : List X) → has_items xs ≡ false → xs ≡ []
no_items xs e = by (length xs == 0) refl e
  where
    by : (b : Bool) → (length xs == 0) ≡ b → not b ≡ false → xs ≡ []
    by true is k = nil_from_length xs (eqb-true _ _ is)
    by false is k = absurd cc

book_none : (r : Recorded) → nat_le (book_rank r) 7 ≡ true → r.requests ≡ []
book_none r e = by (has_items r.requests) refl e
  where
    by : (b : Bool) → has_items r.requests ≡ b → nat_le (cond b 8 (cond (has_items r.caps) 7 6)) 7 ≡ true → r.requests ≡ []
    by true is k = absurd cc
    by false is k = no_items r.requests is

book_bare : (r : Recorded) → nat_le (book_rank r) 6 ≡ true → (r.caps ≡ []) × (r.requests ≡ [])
book_bare r e = by (has_items r.requests) (has_items r.caps) refl refl e
  where
    by : (b d : Bool) → has_items r.requests ≡ b → has_items r.caps ≡ d → nat_le (cond b 8 (cond d 7 6)) 6 ≡ true → (r.caps ≡ []) × (r.requests ≡ [])
    by true d is it k = absurd cc
    by false true is it k = absurd cc
    by false false is it k = (no_items r.caps it, no_items r.requests is)

name_bare : (s : RecordingParser) → lacks s ≡ false → stands s word.Name ≡ true → ((recorded_of s).caps ≡ []) × ((recorded_of s).requests ≡ [])
unfolding stands
name_bare (parser.Config start c) l e = (refl, refl)
name_bare (parser.Book r) l e = book_bare r (and_parts (nat_le (book_rank r) 6) true e).0
name_bare _ l e = absurd cc

cap_bare : (s : RecordingParser) → lacks s ≡ false → stands s word.Cap ≡ true → (recorded_of s).requests ≡ []
unfolding stands
cap_bare (parser.Config start c) l e = refl
cap_bare (parser.Book r) l e = book_none r (and_parts (nat_le (book_rank r) 7) true e).0
cap_bare _ l e = absurd cc

request_few : (s : RecordingParser) → lacks s ≡ false → stands s word.Request ≡ true → nat_lt (length (recorded_of s).requests) MAX_REQUESTS ≡ true
unfolding stands
request_few (parser.Config start c) l e = refl
request_few (parser.Book r) l e = (and_parts (nat_le (book_rank r) 8) (nat_lt (length r.requests) MAX_REQUESTS) e).1
request_few _ l e = absurd cc

reads_name : (n : ℕ) (s t : RecordingParser) (x : NameValue) (rows : List Row) → Reads s rows → stands s word.Name ≡ true → FitsParsed (recorded_of s) (parsed.Name x) → add_name n s x ≡ Ok t → Reads t (rows ++ name_row x ∷ [])
unfolding IsSound
reads_name n s t x rows h place fits e =
    on_ok (whole n s) _ t e (λ r er k0.
    let g = whole_ok n s r er in
    let k1 = rw (← g.1) at k0 in
    let w = reads_whole s rows g.0 h in
    let bare = name_bare s g.0 place in
    next_reads w.table _ t (name_row x) rows (ok_is _ t k1) (ap (λ (l : List Row). l ++ name_row x ∷ []) w.spelled ∙ push_name w.table (recorded_of s) x bare.0 bare.1) w.held
    (kept_name (recorded_of s) x w.kept fits) (record { unit = w.ranged.unit; targets = w.ranged.targets; fields = w.ranged.fields }))

reads_cap : (n : ℕ) (s t : RecordingParser) (x : Cap) (rows : List Row) → Reads s rows → stands s word.Cap ≡ true → FitsParsed (recorded_of s) (parsed.Cap x) → add_cap n s x ≡ Ok t → Reads t (rows ++ cap_row x ∷ [])
unfolding IsSound
reads_cap n s t x rows h place fits e =
    on_ok (whole n s) _ t e (λ r er k0.
    let g = whole_ok n s r er in
    let k1 = rw (← g.1) at k0 in
    let w = reads_whole s rows g.0 h in
    let bare = cap_bare s g.0 place in
    next_reads w.table _ t (cap_row x) rows (ok_is _ t k1) (ap (λ (l : List Row). l ++ cap_row x ∷ []) w.spelled ∙ push_cap w.table (recorded_of s) x bare) w.held
    (kept_cap (recorded_of s) x w.kept fits bare) (record { unit = w.ranged.unit; targets = w.ranged.targets; fields = w.ranged.fields }))

reads_request : (n : ℕ) (s t : RecordingParser) (q : Request) (rows : List Row) → Reads s rows → stands s word.Request ≡ true → FitsParsed (recorded_of s) (parsed.Request q) → add_request n s q ≡ Ok t → Reads t (rows ++ request_row q ∷ [])
unfolding IsSound
reads_request n s t q rows h place fits e =
    on_ok (whole n s) _ t e (λ r er k0.
    let g = whole_ok n s r er in
    let k1 = rw (← g.1) at k0 in
    let w = reads_whole s rows g.0 h in
    let few = request_few s g.0 place in
    let f = no_cause n _ _ t k1 in
    next_reads w.table _ t (request_row q) rows f.1 (ap (λ (l : List Row). l ++ request_row q ∷ []) w.spelled ∙ push_request w.table (recorded_of s) q) w.held
    (kept_request (recorded_of s) q w.kept (ltb-true _ _ few) f.0 fits.1) (record { unit = w.ranged.unit; targets = w.ranged.targets; fields = all_push FitsFields (recorded_of s).requests q w.ranged.fields (fits.0.driver, fits.0.done) }))

-- ---- any record

reads_parsed : (n : ℕ) (s t : RecordingParser) (x : ParsedRow) (rows : List Row) → Reads s rows → stands s (word_for x) ≡ true → FitsParsed (recorded_of s) x → apply_parsed n s x ≡ Ok t → Reads t (rows ++ row_of_parsed x ∷ [])
unfolding apply_parsed IsSound records_of
reads_parsed n (parser.First v) t (parsed.Unit u) rows h place fits e = next_reads false _ t _ rows (ok_is _ t e) (rw h.spelled refl) tt fits.0 (record { unit = fits.1; targets = tt; fields = tt })
reads_parsed n _ t (parsed.Unit u) rows h place fits e = absurd cc
reads_parsed n (parser.First v) t (parsed.Rounds k) rows h place fits e =
    next_reads false _ t _ rows (ok_is _ t e) (rw h.spelled refl) (refl, refl)
    (record { unit = tt; some = fits.0; rounds = fits.1 }, ordered_standard, omega arith) (record { unit = tt; targets = tt; fields = tt })
reads_parsed n (parser.Timed v u) t (parsed.Rounds k) rows h place fits e =
    next_reads false _ t _ rows (ok_is _ t e) (rw h.spelled refl) (refl, refl)
    (record { unit = h.sound; some = fits.0; rounds = fits.1 }, ordered_standard, omega arith) (record { unit = h.ranged.unit; targets = tt; fields = tt })
reads_parsed n _ t (parsed.Rounds k) rows h place fits e = absurd cc
reads_parsed n (parser.Config start c) t (parsed.Weight w) rows h place fits e = reads_row n start c t (row.Weight w) rows h (may_take (parser.Config start c) word.Weight (row.Weight w) place refl (omega arith)) tt e
reads_parsed n _ t (parsed.Weight w) rows h place fits e = absurd cc
reads_parsed n (parser.Config start c) t (parsed.Link k) rows h place fits e = reads_row n start c t (row.Link k) rows h (may_take (parser.Config start c) word.Link (row.Link k) place refl (omega arith)) tt e
reads_parsed n _ t (parsed.Link k) rows h place fits e = absurd cc
reads_parsed n (parser.Config start c) t (parsed.Sim a) rows h place fits e = reads_row n start c t (row.Sim a) rows h (may_take (parser.Config start c) word.Sim (row.Sim a) place refl (omega arith)) tt e
reads_parsed n _ t (parsed.Sim a) rows h place fits e = absurd cc
reads_parsed n (parser.Config start c) t (parsed.Dev d) rows h place fits e = reads_row n start c t (row.Dev d) rows h (may_take (parser.Config start c) word.Dev (row.Dev d) place refl (omega arith)) fits.1 e
reads_parsed n _ t (parsed.Dev d) rows h place fits e = absurd cc
reads_parsed n s t (parsed.Name x) rows h place fits e = reads_name n s t x rows h place fits e
reads_parsed n s t (parsed.Cap x) rows h place fits e = reads_cap n s t x rows h place fits e
reads_parsed n s t (parsed.Request q) rows h place fits e = reads_request n s t q rows h place fits e

-- what a word that stands in its place says of the record
record IsPlaced (s : RecordingParser) (row : Row) (w : RecordingWord) : Type 0 where
  eight : length row ≡ 8
  word : field_of row 0 ≡ spelled w
  place : stands s w ≡ true

on_some : {A B Q : Type 0} (o : Option A) (f : A → Option B) (y : B) → option_and_then f o ≡ Some y → ((x : A) → o ≡ Some x → f x ≡ Some y → Q) → Q
on_some None f y e k = absurd cc
on_some (Some x) f y e k = k x refl e

guard_some : {X : Type 0} (b : Bool) (o : Option X) (x : X) → cond b o None ≡ Some x → (b ≡ true) × (o ≡ Some x)
guard_some true o x e = (refl, e)
guard_some false o x e = absurd cc

same_some : {X : Type 0} (x y : X) → ◌≡◌ {A = Option X} (Some x) (Some y) → x ≡ y
same_some x y e = cc

placed_some : (s : RecordingParser) (row : Row) (w : RecordingWord) → placed s row ≡ Some w → IsPlaced s row w
unfolding placed
placed_some s row w h =
    let g = guard_some (length row == 8) _ w h in
    on_some (word_of (field_of row 0)) _ w g.1 (λ v ev k.
    let m = guard_some (stands s v) (Some v) w k in
    let same = same_some v w m.1 in
    record { eight = eqb-true _ _ g.0; word = word_spelled _ w (ev ∙ ap (λ (x : RecordingWord). Some x) same); place = ap (stands s) (sym same) ∙ m.0 })

reads_after : (n : ℕ) (s t : RecordingParser) (row : Row) (rows : List Row) → Reads s rows → row_step n s row ≡ Ok t → Reads t (rows ++ row ∷ [])
unfolding row_step
reads_after n s t row rows h e =
    on_ok (ok_or (placed s row) (BadRecord n)) _ t e (λ w ew r.
    let p = placed_some s row w (ok_or_ok (placed s row) (BadRecord n) w ew) in
    on_ok (parsed_by n (recorded_of s) w row) (apply_parsed n s) t r (λ x ex k.
    let took = parsed_takes n (recorded_of s) w row x p.eight p.word (rounds_small s h.sound) ex in
    subst (λ (l : Row). Reads t (rows ++ l ∷ [])) (sym took.1) (reads_parsed n s t x rows h (ap (stands s) took.0 ∙ p.place) took.2 k)))

-- ---- the header

header_is : (row : Row) (v : Bool) → header_at row ≡ Some v → row ≡ header v
unfolding header_at
header_is row v e = named_header (name_text v) row (find_passes (λ (b : Bool). is_header (name_text b) row) (false ∷ true ∷ []) v e)

step_reads : (n : ℕ) (s t : RecordingParser) (row : Row) (rows : List Row) → Reads s rows → step n s row ≡ Ok t → Reads t (rows ++ row ∷ [])
unfolding step IsSound
step_reads n parser.Header t row rows h e = by (header_at row) refl e
  where
    by : (o : Option Bool) → header_at row ≡ o → (ok_or o BadHeader >>= λ v. Ok (parser.First v)) ≡ Ok t → Reads t (rows ++ row ∷ [])
    by (Some v) named k = next_reads false (parser.First v) t row rows (ok_is _ t k) (rw (h.spelled, header_is row v named) refl) tt tt (record { unit = tt; targets = tt; fields = tt })
    by None named k = absurd cc
step_reads n s t row rows h e = reads_after n s t row rows h e

-- ---- the end

ended_ok : (s : RecordingParser) (r : Recorded) → ended s ≡ Ok r → (lacks s ≡ false) × (recorded_of s ≡ r)
unfolding ended
ended_ok parser.Header r e = absurd cc
ended_ok (parser.First v) r e = absurd cc
ended_ok (parser.Timed v u) r e = absurd cc
ended_ok (parser.Config start c) r e = whole_ok _ (parser.Config start c) r e
ended_ok (parser.Book q) r e = (refl, ok_is q r e)

pub was_recording : (before after : Option (List ℕ)) (text : List ℕ) → IsLongWhole before after text → (r : Recorded) → reading (records_in text) ≡ Ok r → WasRecording before after r
unfolding reading IsSound
was_recording before after text whole r e =
    on_ok (taken step 1 parser.Header (records_in text)) ended r e (λ t et k.
    let start : Reads parser.Header [] = record { table = false; spelled = refl; held = tt; sound = tt; ranged = record { unit = tt; targets = tt; fields = tt } } in
    let h = taken_keeps step Reads step_reads 1 parser.Header t [] (records_in text) start et in
    let end = ended_ok t r k in
    let w = reads_whole t (records_in text) end.0 h in
    let made : WasRecording before after (recorded_of t) = record {
      text = text;
      whole = whole;
      spelled = record { bounded = whole.bounded; table = w.table; held = w.held; spelled = w.spelled };
      recording = record { kept = w.kept; unit = w.ranged.unit; targets = w.ranged.targets; fields = w.ranged.fields };
    } in
    subst (WasRecording before after) end.1 made)
