-- A record of a script that is read is spelled so, and what is spelled so is read.
use Rattle.std.proofs.Common.{◌≡◌, ◌≤◌, ◌+◌, ℕ, subst, List, [], ◌∷◌, length, drop, true, false, cond, refl, sym, ap, ◌∙◌, arith, ◌<◌}
use Rattle.std.specs.Prelude.{Some, Result, Ok, Err, decimal, bytes_eq, nat_le, ◌==◌, ⊤}
use Rattle.std.proofs.lemmas.Bool.{and_from, and_parts, eqb-true, le-leb, leb-true}
use Rattle.csv.specs.Records.{field_at}
use Rattle.cam_types.specs.Bounds.{Bounds, are_within, is_limit}
use Rattle.cam_path.specs.Paths.{Fits}
use Rattle.cam_path.specs.Paths as path
use Rattle.cam_path.specs.declared.path.CamPath.{CamPath}
use Rattle.cam_path.proofs.PathLaws.{reading_again, reading_fits, reading_takes}
use Rattle.cam_types.proofs.LeastLemmas.{find_passes}
use Rattle.cam_types.specs.declared.limits.TheConstants.{MAX_CCBS, MAX_ROUNDS, MAX_STAYS, MAX_EVENTS}
use Rattle.trace_file.specs.ScriptRows.{adapter_freeze_at, all_words, by_number_at, by_path_at, driver_at, formed_path, limit_at, limits_at, limits_row, path_at, script_row, script_row_at, script_word_of, spelled, submission_at, ScriptRow, ScriptWord}
use Rattle.trace_file.specs.declared.script_row.ScriptRow.TheVariants as row
use Rattle.trace_file.specs.declared.script_word.ScriptWord.TheVariants as word
use Rattle.trace_file.specs.Fields.{flags_at, flags_text}
use Rattle.record_text.specs.Text.{Row}
use Rattle.record_text.specs.Fields.{field_of, number_at, unused_from, max_number}
use Rattle.record_text.specs.ConfigRows.{padded}
use Rattle.trace_file.specs.Rows.{outcome_at}
use Rattle.trace_file.specs.Scenarios.{is_answer_row, is_answer_word}
use Rattle.trace_file.specs.Script.{FitsRow}
use Rattle.trace_file.specs.ScriptReading.{is_config_word, is_limits, item_word}
use Rattle.record_text.specs.Steps.{◌>>=◌}
use Rattle.trace_file.proofs.FieldLaws.{flags_again, flags_takes}
use Rattle.record_text.proofs.FieldLaws.{number_again, number_takes, same_bytes}
use Rattle.trace_file.proofs.HexLaws.{byte_at_again, sense_at_again, guard_some}
use Rattle.trace_file.proofs.RowLaws.{outcome_takes}
use Rattle.record_text.proofs.StepLemmas.{ok_is, on_ok, if_ok}
use Rattle.record_text.proofs.RowLaws.{peel, next_field, next_number, no_more}

-- ---- fields

formed_ok : (r : Result CamPath ℕ) (n : ℕ) (p : CamPath) → formed_path r n ≡ Ok p → r ≡ Ok p
formed_ok (Ok q) n p e = cc
formed_ok (Err d) n p e = absurd cc

path_takes : (fields : Row) (at : ℕ) (p : CamPath) → path_at fields at ≡ Ok p → (field_of fields at ≡ path.spelled p) × Fits p
unfolding path_at
path_takes fields at p e =
    let r = formed_ok (path.reading (field_of fields at)) (at + 1) p e in
    (reading_takes (field_of fields at) p r, reading_fits (field_of fields at) p r)

path_again : (fields : Row) (at : ℕ) (p : CamPath) → Fits p → field_of fields at ≡ path.spelled p → path_at fields at ≡ Ok p
unfolding path_at
path_again fields at p fits e = ap (λ (r : Result CamPath ℕ). formed_path r (at + 1)) (reading_again (field_of fields at) p fits e)

driver_takes : (fields : Row) (driver : ℕ) → driver_at fields ≡ Ok driver → (field_of fields 1 ≡ decimal driver) × (driver ≤ 7)
unfolding driver_at
driver_takes fields driver e = number_takes fields 1 7 driver (omega arith) e

driver_again : (fields : Row) (driver : ℕ) → driver ≤ 7 → field_of fields 1 ≡ decimal driver → driver_at fields ≡ Ok driver
unfolding driver_at
driver_again fields driver h e = number_again fields 1 7 driver (omega arith) h e

-- ---- what is read is spelled so

abbrev ByPath : Row → ℕ × CamPath × ℕ → Type 0
ByPath fields r = (drop 1 fields ≡ decimal r.0 ∷ path.spelled r.1 ∷ decimal r.2 ∷ [] ∷ [] ∷ [] ∷ [] ∷ []) × (r.0 ≤ 7) × Fits r.1 × (r.2 ≤ max_number)

by_path_takes : (fields : Row) (x : ℕ × CamPath × ℕ) → length fields ≡ 8 → by_path_at fields ≡ Ok x → ByPath fields x
unfolding by_path_at
by_path_takes fields x eight e =
    next_field fields 1 (driver_at fields) _ x decimal (λ n. n ≤ 7) eight (omega arith) (driver_takes fields) e (λ driver a t1 r1.
    next_field fields 2 (path_at fields 2) _ x path.spelled Fits eight (omega arith) (path_takes fields 2) r1 (λ at b t2 r2.
    next_number fields 3 max_number _ x eight (omega arith) (omega arith) r2 (λ n c t3 r3.
    no_more fields 4 4 (driver, at, n) x (ByPath fields) eight refl r3 (λ rest. (t1 _ (t2 _ (t3 _ rest)), a, b, c)))))

abbrev ByNumber : Row → ℕ × ℕ → Type 0
ByNumber fields r = (drop 1 fields ≡ decimal r.0 ∷ decimal r.1 ∷ [] ∷ [] ∷ [] ∷ [] ∷ [] ∷ []) × (r.0 ≤ 7) × (r.1 ≤ max_number)

by_number_takes : (fields : Row) (x : ℕ × ℕ) → length fields ≡ 8 → by_number_at fields ≡ Ok x → ByNumber fields x
unfolding by_number_at
by_number_takes fields x eight e =
    next_field fields 1 (driver_at fields) _ x decimal (λ n. n ≤ 7) eight (omega arith) (driver_takes fields) e (λ driver a t1 r1.
    next_number fields 2 max_number _ x eight (omega arith) (omega arith) r1 (λ n b t2 r2.
    no_more fields 3 5 (driver, n) x (ByNumber fields) eight refl r2 (λ rest. (t1 _ (t2 _ rest), a, b))))

-- the record after its word spells the row
abbrev Tells : Row → ScriptWord → ScriptRow → Type 0
Tells fields w x = (spelled w ∷ drop 1 fields ≡ script_row x) × FitsRow x × (is_answer_row x ≡ is_answer_word w)

submission_takes : (fields : Row) (x : ScriptRow) → length fields ≡ 8 → submission_at fields ≡ Ok x → Tells fields word.Submit x
unfolding submission_at
submission_takes fields x eight e =
    next_field fields 1 (driver_at fields) _ x decimal (λ n. n ≤ 7) eight (omega arith) (driver_takes fields) e (λ driver a t1 r1.
    next_field fields 2 (path_at fields 2) _ x path.spelled Fits eight (omega arith) (path_takes fields 2) r1 (λ at b t2 r2.
    next_number fields 3 max_number _ x eight (omega arith) (omega arith) r2 (λ priority c t3 r3.
    next_number fields 4 max_number _ x eight (omega arith) (omega arith) r3 (λ retries d t4 r4.
    next_field fields 5 (flags_at fields 5) _ x flags_text (λ f. ⊤) eight (omega arith) (λ f ef. (flags_takes fields 5 f ef, tt)) r4 (λ flags k t5 r5.
    no_more fields 6 2 _ x (Tells fields word.Submit) eight refl r5 (λ rest.
    (ap (λ (l : Row). spelled word.Submit ∷ l) (t1 _ (t2 _ (t3 _ (t4 _ (t5 _ rest))))), (a, b, c, d), refl)))))))

adapter_freeze_takes : (fields : Row) (x : ScriptRow) → length fields ≡ 8 → adapter_freeze_at fields ≡ Ok x → Tells fields word.FreezeSim x
unfolding adapter_freeze_at
adapter_freeze_takes fields x eight e =
    next_field fields 1 (driver_at fields) _ x decimal (λ n. n ≤ 7) eight (omega arith) (driver_takes fields) e (λ driver a t1 r1.
    next_number fields 2 max_number _ x eight (omega arith) (omega arith) r1 (λ sim b t2 r2.
    next_number fields 3 max_number _ x eight (omega arith) (omega arith) r2 (λ count c t3 r3.
    no_more fields 4 4 _ x (Tells fields word.FreezeSim) eight refl r3 (λ rest. (ap (λ (l : Row). spelled word.FreezeSim ∷ l) (t1 _ (t2 _ (t3 _ rest))), (a, b, c), refl)))))

tell_path : (fields : Row) (w : ScriptWord) (f : ℕ → CamPath → ℕ → ScriptRow) (x : ScriptRow) → length fields ≡ 8
    → ((driver : ℕ) (at : CamPath) (n : ℕ) → (script_row (f driver at n) ≡ spelled w ∷ decimal driver ∷ path.spelled at ∷ decimal n ∷ [] ∷ [] ∷ [] ∷ [] ∷ []) × (is_answer_row (f driver at n) ≡ is_answer_word w))
    → ((driver : ℕ) (at : CamPath) (n : ℕ) → driver ≤ 7 → Fits at → n ≤ max_number → FitsRow (f driver at n))
    → (by_path_at fields >>= λ r. Ok (f r.0 r.1 r.2)) ≡ Ok x → Tells fields w x
tell_path fields w f x eight spells fits e =
    on_ok (by_path_at fields) (λ r. Ok (f r.0 r.1 r.2)) x e (λ r er s.
    let p = by_path_takes fields r eight er in
    let k = spells r.0 r.1 r.2 in
    let made : Tells fields w (f r.0 r.1 r.2) = (ap (λ (l : Row). spelled w ∷ l) p.0 ∙ sym k.0, fits r.0 r.1 r.2 p.1 p.2 p.3, k.1) in
    subst (Tells fields w) (ok_is _ x s) made)

tell_number : (fields : Row) (w : ScriptWord) (f : ℕ → ℕ → ScriptRow) (x : ScriptRow) → length fields ≡ 8
    → ((driver n : ℕ) → (script_row (f driver n) ≡ spelled w ∷ decimal driver ∷ decimal n ∷ [] ∷ [] ∷ [] ∷ [] ∷ [] ∷ []) × (is_answer_row (f driver n) ≡ is_answer_word w))
    → ((driver n : ℕ) → driver ≤ 7 → n ≤ max_number → FitsRow (f driver n))
    → (by_number_at fields >>= λ r. Ok (f r.0 r.1)) ≡ Ok x → Tells fields w x
tell_number fields w f x eight spells fits e =
    on_ok (by_number_at fields) (λ r. Ok (f r.0 r.1)) x e (λ r er s.
    let p = by_number_takes fields r eight er in
    let k = spells r.0 r.1 in
    let made : Tells fields w (f r.0 r.1) = (ap (λ (l : Row). spelled w ∷ l) p.0 ∙ sym k.0, fits r.0 r.1 p.1 p.2, k.1) in
    subst (Tells fields w) (ok_is _ x s) made)

row_tells : (fields : Row) (w : ScriptWord) (x : ScriptRow) → length fields ≡ 8 → script_row_at w fields ≡ Ok x → Tells fields w x
unfolding script_row_at
row_tells fields word.Submit x eight e = submission_takes fields x eight e
row_tells fields word.Freeze x eight e = tell_path fields word.Freeze row.Freeze x eight (λ d p n. (refl, refl)) (λ d p n a b c. (a, b, c)) e
row_tells fields word.Release x eight e = tell_path fields word.Release row.Release x eight (λ d p n. (refl, refl)) (λ d p n a b c. (a, b, c)) e
row_tells fields word.FreezeSim x eight e = adapter_freeze_takes fields x eight e
row_tells fields word.ReleaseSim x eight e = tell_number fields word.ReleaseSim row.ReleaseSim x eight (λ d n. (refl, refl)) (λ d n a b. (a, b)) e
row_tells fields word.Adjust x eight e = tell_path fields word.Adjust row.Adjust x eight (λ d p n. (refl, refl)) (λ d p n a b c. (a, b, c)) e
row_tells fields word.Pause x eight e = tell_number fields word.Pause row.Pause x eight (λ d n. (refl, refl)) (λ d n a b. (a, b)) e
row_tells fields word.Answer x eight e =
    on_ok (outcome_at fields) (λ r. Ok (row.Answer r.0 r.1)) x e (λ r er s.
    let t = outcome_takes fields r eight er in
    let made : Tells fields word.Answer (row.Answer r.0 r.1) = (ap (λ (l : Row). spelled word.Answer ∷ l) t.0, t.1, refl) in
    subst (Tells fields word.Answer) (ok_is _ x s) made)

word_takes : (fields : Row) (w : ScriptWord) → item_word fields ≡ Some w → (length fields ≡ 8) × (field_of fields 0 ≡ spelled w)
unfolding item_word script_word_of
word_takes fields w e =
    let k = guard_some (length fields == 8) (script_word_of (field_of fields 0)) w e in
    (eqb-true _ _ k.0, same_bytes (field_of fields 0) (spelled w) (find_passes (λ v. bytes_eq (field_of fields 0) (spelled v)) all_words w k.1))

-- a row that is read is spelled so
pub row_takes : (fields : Row) (w : ScriptWord) (x : ScriptRow) → item_word fields ≡ Some w → script_row_at w fields ≡ Ok x
    → (fields ≡ script_row x) × FitsRow x × (is_answer_row x ≡ is_answer_word w)
row_takes fields w x is e =
    let k = word_takes fields w is in
    let t = row_tells fields w x k.0 e in
    (peel fields 0 (spelled w) (drop 1 fields) k.0 (omega arith) k.1 refl ∙ t.0, t.1, t.2)

-- ---- limits

limit_takes : (fields : Row) (at most n : ℕ) → most ≤ max_number → limit_at fields at most ≡ Ok n → (field_of fields at ≡ decimal n) × (is_limit n most ≡ true)
unfolding limit_at
limit_takes fields at most n fits e =
    on_ok (number_at fields at most) (λ m. cond (nat_le 1 m) (Ok m) (Err (at + 1))) n e (λ m em r.
    let k = if_ok (nat_le 1 m) (Ok m) n (at + 1) r in
    let t = number_takes fields at most m fits em in
    let made : (field_of fields at ≡ decimal m) × (is_limit m most ≡ true) = (t.0, and_from _ _ k.0 (le-leb m most t.1)) in
    subst (λ (i : ℕ). (field_of fields at ≡ decimal i) × (is_limit i most ≡ true)) (ok_is m n k.1) made)

next_limit : {B Q : Type 0} (fields : Row) (at most : ℕ) (f : ℕ → Result B ℕ) (y : B) → length fields ≡ 8 → at < 8 → most ≤ max_number → (limit_at fields at most >>= f) ≡ Ok y
    → ((n : ℕ) → is_limit n most ≡ true → ((rest : Row) → drop (at + 1) fields ≡ rest → drop at fields ≡ decimal n ∷ rest) → f n ≡ Ok y → Q) → Q
next_limit fields at most f y eight h le e k =
    next_field fields at (limit_at fields at most) f y decimal (λ n. is_limit n most ≡ true) eight h (λ n. limit_takes fields at most n le) e k

pub limits_take : (fields : Row) (b : Bounds) → is_limits fields ≡ true → limits_at fields ≡ Ok b → (fields ≡ limits_row b) × (are_within b ≡ true)
unfolding limits_at is_limits
limits_take fields b is e =
    let whole = and_parts _ _ is in
    let eight = eqb-true _ _ whole.0 in
    next_limit fields 1 MAX_CCBS _ b eight (omega arith) (omega arith) e (λ ccbs p t1 r1.
    next_limit fields 2 MAX_ROUNDS _ b eight (omega arith) (omega arith) r1 (λ rounds q t2 r2.
    next_limit fields 3 MAX_STAYS _ b eight (omega arith) (omega arith) r2 (λ stays r t3 r3.
    next_limit fields 4 MAX_EVENTS _ b eight (omega arith) (omega arith) r3 (λ events t t4 r4.
    no_more fields 5 3 _ b (λ x. (fields ≡ limits_row x) × (are_within x ≡ true)) eight refl r4 (λ rest.
    (peel fields 0 _ _ eight (omega arith) (same_bytes _ _ whole.1) (t1 _ (t2 _ (t3 _ (t4 _ rest)))), and_from _ _ (and_from _ _ (and_from _ _ p q) r) t))))))

limit_again : (fields : Row) (at most n : ℕ) → most ≤ max_number → is_limit n most ≡ true → field_of fields at ≡ decimal n → limit_at fields at most ≡ Ok n
unfolding limit_at
limit_again fields at most n fits h e =
    let p = and_parts (nat_le 1 n) (nat_le n most) h in
    rw (number_again fields at most n fits (leb-true n most p.1) e, p.0) refl

pub limits_again : (b : Bounds) → are_within b ≡ true → (is_limits (limits_row b) ≡ true) × (limits_at (limits_row b) ≡ Ok b)
unfolding limits_at is_limits unused_from field_at
limits_again b h =
    let fields = limits_row b in
    let x = and_parts _ _ h in
    let y = and_parts _ _ x.0 in
    let z = and_parts _ _ y.0 in
    (refl, rw (limit_again fields 1 MAX_CCBS b.ccbs (omega arith) z.0 refl, limit_again fields 2 MAX_ROUNDS b.rounds (omega arith) z.1 refl, limit_again fields 3 MAX_STAYS b.stays (omega arith) y.1 refl, limit_again fields 4 MAX_EVENTS b.events (omega arith) x.1 refl) refl)

-- ---- what is spelled so is read

by_path_again : (w : List ℕ) (driver : ℕ) (at : CamPath) (n : ℕ) → driver ≤ 7 → Fits at → n ≤ max_number → by_path_at (padded (w ∷ decimal driver ∷ path.spelled at ∷ decimal n ∷ [])) ≡ Ok (driver, at, n)
unfolding by_path_at unused_from field_at
by_path_again w driver at n a b c =
    let fields = padded (w ∷ decimal driver ∷ path.spelled at ∷ decimal n ∷ []) in
    rw (driver_again fields driver a refl, path_again fields 2 at b refl, number_again fields 3 max_number n (omega arith) c refl) refl

by_number_again : (w : List ℕ) (driver n : ℕ) → driver ≤ 7 → n ≤ max_number → by_number_at (padded (w ∷ decimal driver ∷ decimal n ∷ [])) ≡ Ok (driver, n)
unfolding by_number_at unused_from field_at
by_number_again w driver n a b =
    let fields = padded (w ∷ decimal driver ∷ decimal n ∷ []) in
    rw (driver_again fields driver a refl, number_again fields 2 max_number n (omega arith) b refl) refl

-- the word that a row's record begins with
abbrev pub word_of_row : ScriptRow → ScriptWord
word_of_row (row.Submit driver at priority retries flags) = word.Submit
word_of_row (row.Freeze driver at count) = word.Freeze
word_of_row (row.Release driver at count) = word.Release
word_of_row (row.FreezeSim driver sim count) = word.FreezeSim
word_of_row (row.ReleaseSim driver sim) = word.ReleaseSim
word_of_row (row.Adjust driver at openings) = word.Adjust
word_of_row (row.Pause driver round) = word.Pause
word_of_row (row.Answer lane outcome) = word.Answer

pub row_again : (x : ScriptRow) → FitsRow x → script_row_at (word_of_row x) (script_row x) ≡ Ok x
unfolding script_row_at submission_at adapter_freeze_at outcome_at unused_from field_at
row_again (row.Submit driver at priority retries flags) h =
    let fields = script_row (row.Submit driver at priority retries flags) in
    rw (driver_again fields driver h.0 refl, path_again fields 2 at h.1 refl, number_again fields 3 max_number priority (omega arith) h.2 refl, number_again fields 4 max_number retries (omega arith) h.3 refl, flags_again fields 5 flags refl) refl
row_again (row.Freeze driver at count) h = rw (by_path_again (spelled word.Freeze) driver at count h.0 h.1 h.2) refl
row_again (row.Release driver at count) h = rw (by_path_again (spelled word.Release) driver at count h.0 h.1 h.2) refl
row_again (row.FreezeSim driver sim count) h =
    let fields = script_row (row.FreezeSim driver sim count) in
    rw (driver_again fields driver h.0 refl, number_again fields 2 max_number sim (omega arith) h.1 refl, number_again fields 3 max_number count (omega arith) h.2 refl) refl
row_again (row.ReleaseSim driver sim) h = rw (by_number_again (spelled word.ReleaseSim) driver sim h.0 h.1) refl
row_again (row.Adjust driver at openings) h = rw (by_path_again (spelled word.Adjust) driver at openings h.0 h.1 h.2) refl
row_again (row.Pause driver round) h = rw (by_number_again (spelled word.Pause) driver round h.0 h.1) refl
row_again (row.Answer lane outcome) h =
    let fields = script_row (row.Answer lane outcome) in
    rw (number_again fields 1 max_number lane (omega arith) h.0 refl, byte_at_again fields 2 outcome.status h.1 refl, byte_at_again fields 3 outcome.scsi h.2 refl, sense_at_again fields 4 outcome.sense h.3 h.4 refl) refl

-- what a row's record is, before its fields are read
pub record IsRowOf (x : ScriptRow) : Type 0 where
  pub word : item_word (script_row x) ≡ Some (word_of_row x)
  pub config : is_config_word (field_of (script_row x) 0) ≡ false
  pub limits : is_limits (script_row x) ≡ false
  pub kind : is_answer_word (word_of_row x) ≡ is_answer_row x

pub row_of : (x : ScriptRow) → IsRowOf x
unfolding item_word script_word_of is_config_word is_limits field_at
row_of (row.Submit driver at priority retries flags) = record { word = refl; config = refl; limits = refl; kind = refl }
row_of _ = record { word = refl; config = refl; limits = refl; kind = refl }
