-- A parsed row is spelled as it was read, and a spelled one is parsed to itself.
use Rattle.std.proofs.Common.{◌≡◌, ◌<◌, ◌≤◌, ℕ, subst, List, [], ◌∷◌, length, drop, replicate, length-drop, true, refl, sym, ap, ◌∙◌, arith, le-leb, lt-ltb}
use Rattle.std.specs.Prelude.{IfSome, Result, Ok, Err, codes, decimal, ⊤}
use Rattle.recording_file.specs.Rows.{span_at, rounds_at, named_at, text_at, capped_at, most_at, done_at, request_at}
use Rattle.record_text.specs.ConfigRows.{one_number, weight_at, adapter_at, device_at, optional_text}
use Rattle.recording_file.specs.Recorded.{Recorded, Request, Span, MAX_RECORDED_ROUNDS}
use Rattle.recording_file.specs.Names.{is_name, is_name_text, is_next_name, named_count, NameKind}
use Rattle.recording_file.specs.Reading.{in_record, says, parsed_by, parsed_name, parsed_cap, BadRecord, ParsedRow}
use Rattle.recording_file.specs.declared.parsed_row.ParsedRow.TheVariants as parsed
use Rattle.recording_file.specs.Words.{spelled, time_text, time_of, named_text, named_of, part_text, part_kind_of, RecordingWord}
use Rattle.recording_file.specs.declared.word.RecordingWord.TheVariants as word
use Rattle.record_text.specs.Text.{Row}
use Rattle.record_text.specs.Fields.{field_of, formed, max_number, optional_at, within_at, below_at, unused_from}
use Rattle.recording_file.specs.Counts.{Counts, counts_of}
use Rattle.recording_file.specs.Caps.{Part, part_of, is_cap, is_next_cap, part_count}
use Rattle.recording_file.specs.Records.{row_of_parsed, word_for, FitsParsed}
use Rattle.record_text.proofs.RowLaws.{adapter_takes, device_takes, next_field, next_number, no_more, one_takes, peel, unused_rest, weight_takes}
use Rattle.record_text.proofs.StepLemmas.{if_ok, ok_is, on_ok}
use Rattle.std.proofs.lemmas.List.{nil_from_length}
use Rattle.recording_file.proofs.FieldLaws.{FitsDone, done_takes, time_spelled, named_spelled, part_spelled}
use Rattle.record_text.proofs.FieldLaws.{formed_takes, optional_takes, within_takes, below_takes}

-- ---- the forms of each row

-- a parsed row is spelled so after its word, and fits
abbrev pub Tells : Recorded → Row → ParsedRow → Type 0
Tells r row x = (spelled (word_for x) ∷ drop 1 row ≡ row_of_parsed x) × FitsParsed r x

-- a record that says a value of a form
say_takes : {X : Type 0} (r : Recorded) (n : ℕ) (row : Row) (form : Result X ℕ) (say : X → ParsedRow) (x : ParsedRow) → says n form say ≡ Ok x → ((y : X) → form ≡ Ok y → Tells r row (say y)) → Tells r row x
say_takes r n row (Ok y) say x e k = subst (Tells r row) (ok_is (say y) x e) (k y refl)
say_takes r n row (Err d) say x e k = absurd cc

unit_tells : (r : Recorded) (row : Row) (u : Span) → length row ≡ 8 → span_at row ≡ Ok u → Tells r row (parsed.Unit u)
unfolding span_at
unit_tells r row u eight e =
    next_field row 1 (within_at row 1 1 max_number) _ u decimal (λ n. (1 ≤ n) × (n ≤ max_number)) eight (omega arith) (λ n en. let t = within_takes row 1 1 max_number n (omega arith) en in (t.0, (t.1, t.2))) e (λ count a t1 r1.
    next_field row 2 (formed (time_of (field_of row 2)) 2) _ u time_text (λ k. ⊤) eight (omega arith) (λ k ek. (formed_takes time_text time_of time_spelled row 2 k ek, tt)) r1 (λ unit b t2 r2.
    no_more row 3 5 _ u (λ v. Tells r row (parsed.Unit v)) eight refl r2 (λ rest. (ap (λ (l : Row). spelled word.Unit ∷ l) (t1 _ (t2 _ rest)), a))))

rounds_tells : (r : Recorded) (row : Row) (n : ℕ) → length row ≡ 8 → rounds_at row ≡ Ok n → Tells r row (parsed.Rounds n)
unfolding rounds_at
rounds_tells r row n eight e =
    next_field row 1 (within_at row 1 1 MAX_RECORDED_ROUNDS) _ n decimal (λ m. (1 ≤ m) × (m ≤ MAX_RECORDED_ROUNDS)) eight (omega arith) (λ m em. let t = within_takes row 1 1 MAX_RECORDED_ROUNDS m (omega arith) em in (t.0, (t.1, t.2))) e (λ m a t1 r1.
    no_more row 2 6 m n (λ v. Tells r row (parsed.Rounds v)) eight refl r1 (λ rest. (ap (λ (l : Row). spelled word.Rounds ∷ l) (t1 _ rest), a)))

request_tells : (r : Recorded) (row : Row) (q : Request) → length row ≡ 8 → request_at r.completions row ≡ Ok q → Tells r row (parsed.Request q)
unfolding request_at
request_tells r row q eight e =
    next_number row 1 255 _ q eight (omega arith) (omega arith) e (λ driver a t1 r1.
    next_number row 2 max_number _ q eight (omega arith) (omega arith) r1 (λ device b t2 r2.
    next_number row 3 max_number _ q eight (omega arith) (omega arith) r2 (λ priority c t3 r3.
    next_number row 4 max_number _ q eight (omega arith) (omega arith) r3 (λ arrival d t4 r4.
    next_field row 5 (optional_at row 5 max_number) _ q optional_text (λ l. IfSome l (λ n. n ≤ max_number)) eight (omega arith) (λ l el. optional_takes row 5 max_number l (omega arith) el) r4 (λ last f t5 r5.
    next_number row 6 max_number _ q eight (omega arith) (omega arith) r5 (λ sent g t6 r6.
    next_field row 7 (done_at r.completions sent row) _ q optional_text (FitsDone r.completions sent) eight (omega arith) (λ x ex. done_takes r.completions sent row x ex) r6 (λ done h t7 r7.
    let rest = nil_from_length (drop 8 row) (omega (arith, length-drop 8 row)) in
    subst (λ v. Tells r row (parsed.Request v)) (ok_is _ q r7) (
      ap (λ (l : Row). spelled word.Request ∷ l) (t1 _ (t2 _ (t3 _ (t4 _ (t5 _ (t6 _ (t7 _ rest))))))),
      (record { driver = a; device = b; priority = c; arrival = d; last = f; sent = g; done = h.0 }, h.1),
    ))))))))

-- ---- names and caps

named_takes : (c : Counts) (row : Row) (k : NameKind × ℕ) → length row ≡ 8 → named_at c row ≡ Ok k
    → ((rest : Row) → drop 3 row ≡ rest → drop 1 row ≡ named_text k.0 ∷ decimal k.1 ∷ rest) × (k.1 < named_count c k.0)
unfolding named_at
named_takes c row k eight e =
    next_field row 1 (formed (named_of (field_of row 1)) 1) _ k named_text (λ x. ⊤) eight (omega arith) (λ x ex. (formed_takes named_text named_of named_spelled row 1 x ex, tt)) e (λ kind a t1 r1.
    next_field row 2 (below_at row 2 (named_count c kind)) _ k decimal (λ m. m < named_count c kind) eight (omega arith) (λ m em. below_takes row 2 (named_count c kind) m em) r1 (λ number b t2 r2.
    subst (λ (x : NameKind × ℕ). ((rest : Row) → drop 3 row ≡ rest → drop 1 row ≡ named_text x.0 ∷ decimal x.1 ∷ rest) × (x.1 < named_count c x.0)) (ok_is (kind, number) k r2) ((λ rest more. t1 _ (t2 rest more)), b)))

text_takes : (row : Row) (text : List ℕ) → length row ≡ 8 → text_at row ≡ Ok text → (drop 3 row ≡ text ∷ replicate 4 []) × (is_name_text text ≡ true)
unfolding text_at
text_takes row text eight e =
    let g = if_ok (is_name_text (field_of row 3)) _ text 4 e in
    on_ok (unused_from row 4) _ text g.1 (λ u eu s.
    let rest = peel row 3 (field_of row 3) _ eight (omega arith) refl (unused_rest row 4 4 u eight refl eu) in
    subst (λ (t : List ℕ). (drop 3 row ≡ t ∷ replicate 4 []) × (is_name_text t ≡ true)) (ok_is (field_of row 3) text s) (rest, g.0))

in_ok : {X : Type 0} (n : ℕ) (form : Result X ℕ) (x : X) → in_record n form ≡ Ok x → form ≡ Ok x
in_ok n (Ok y) x e = cc
in_ok n (Err k) x e = absurd cc

name_tells : (n : ℕ) (r : Recorded) (row : Row) (x : ParsedRow) → length row ≡ 8 → parsed_name n r row ≡ Ok x → (word_for x ≡ word.Name) × Tells r row x
unfolding parsed_name is_name
name_tells n r row x eight e =
    on_ok (in_record n (named_at (counts_of r.config) row)) _ x e (λ k ek s.
    let named = named_takes (counts_of r.config) row k eight (in_ok n _ k ek) in
    let g = if_ok (is_next_name r.names k.0 k.1) _ x (BadRecord n) s in
    let made : (form : Result (List ℕ) ℕ) → text_at row ≡ form → says n form (λ text. parsed.Name (record { kind = k.0; number = k.1; text = text })) ≡ Ok x → (word_for x ≡ word.Name) × Tells r row x = by k named g.0 in
    made (text_at row) refl g.1)
  where
    by : (k : NameKind × ℕ) → ((rest : Row) → drop 3 row ≡ rest → drop 1 row ≡ named_text k.0 ∷ decimal k.1 ∷ rest) × (k.1 < named_count (counts_of r.config) k.0) → is_next_name r.names k.0 k.1 ≡ true
        → (form : Result (List ℕ) ℕ) → text_at row ≡ form → says n form (λ text. parsed.Name (record { kind = k.0; number = k.1; text = text })) ≡ Ok x → (word_for x ≡ word.Name) × Tells r row x
    by k named next (Ok text) is h =
        let t = text_takes row text eight is in
        let tells : Tells r row (parsed.Name (record { kind = k.0; number = k.1; text = text })) = (
          ap (λ (l : Row). spelled word.Name ∷ l) (named.0 _ t.0),
          rw (lt-ltb _ _ named.1, next, t.1) refl,
        ) in
        subst (λ (y : ParsedRow). (word_for y ≡ word.Name) × Tells r row y) (ok_is _ x h) (refl, tells)
    by k named next (Err d) is h = absurd cc

capped_takes : (rounds : ℕ) (c : Counts) (row : Row) (k : Part × ℕ) → length row ≡ 8 → rounds ≤ max_number → capped_at rounds c row ≡ Ok k
    → ((rest : Row) → drop 4 row ≡ rest → drop 1 row ≡ part_text k.0.kind ∷ decimal k.0.number ∷ decimal k.1 ∷ rest) × (k.0.number < part_count c k.0.kind) × (1 ≤ k.1) × (k.1 ≤ rounds)
unfolding capped_at
capped_takes rounds c row k eight le e =
    next_field row 1 (formed (part_kind_of (field_of row 1)) 1) _ k part_text (λ x. ⊤) eight (omega arith) (λ x ex. (formed_takes part_text part_kind_of part_spelled row 1 x ex, tt)) e (λ kind a t1 r1.
    next_field row 2 (below_at row 2 (part_count c kind)) _ k decimal (λ m. m < part_count c kind) eight (omega arith) (λ m em. below_takes row 2 (part_count c kind) m em) r1 (λ number b t2 r2.
    next_field row 3 (within_at row 3 1 rounds) _ k decimal (λ m. (1 ≤ m) × (m ≤ rounds)) eight (omega arith) (λ m em. let t = within_takes row 3 1 rounds m le em in (t.0, (t.1, t.2))) r2 (λ first d t3 r3.
    subst (λ (x : Part × ℕ). ((rest : Row) → drop 4 row ≡ rest → drop 1 row ≡ part_text x.0.kind ∷ decimal x.0.number ∷ decimal x.1 ∷ rest) × (x.0.number < part_count c x.0.kind) × (1 ≤ x.1) × (x.1 ≤ rounds))
    (ok_is (part_of kind number, first) k r3) ((λ rest more. t1 _ (t2 _ (t3 rest more))), b, d.0, d.1))))

most_takes : (rounds first : ℕ) (row : Row) (k : ℕ × ℕ) → length row ≡ 8 → rounds ≤ max_number → most_at rounds first row ≡ Ok k
    → (drop 4 row ≡ decimal k.0 ∷ decimal k.1 ∷ replicate 2 []) × (first ≤ k.0) × (k.0 ≤ rounds) × (k.1 ≤ 65535)
unfolding most_at
most_takes rounds first row k eight le e =
    next_field row 4 (within_at row 4 first rounds) _ k decimal (λ m. (first ≤ m) × (m ≤ rounds)) eight (omega arith) (λ m em. let t = within_takes row 4 first rounds m le em in (t.0, (t.1, t.2))) e (λ last a t1 r1.
    next_number row 5 65535 _ k eight (omega arith) (omega arith) r1 (λ most b t2 r2.
    no_more row 6 2 _ k (λ x. (drop 4 row ≡ decimal x.0 ∷ decimal x.1 ∷ replicate 2 []) × (first ≤ x.0) × (x.0 ≤ rounds) × (x.1 ≤ 65535)) eight refl r2 (λ rest. (t1 _ (t2 _ rest), a.0, a.1, b))))

cap_tells : (n : ℕ) (r : Recorded) (row : Row) (x : ParsedRow) → length row ≡ 8 → r.rounds ≤ max_number → parsed_cap n r row ≡ Ok x → (word_for x ≡ word.Cap) × Tells r row x
unfolding parsed_cap is_cap
cap_tells n r row x eight le e =
    on_ok (in_record n (capped_at r.rounds (counts_of r.config) row)) _ x e (λ k ek s.
    let capped = capped_takes r.rounds (counts_of r.config) row k eight le (in_ok n _ k ek) in
    let g = if_ok (is_next_cap r.caps k.0 k.1) _ x (BadRecord n) s in
    by k capped g.0 (most_at r.rounds k.1 row) refl g.1)
  where
    by : (k : Part × ℕ) → ((rest : Row) → drop 4 row ≡ rest → drop 1 row ≡ part_text k.0.kind ∷ decimal k.0.number ∷ decimal k.1 ∷ rest) × (k.0.number < part_count (counts_of r.config) k.0.kind) × (1 ≤ k.1) × (k.1 ≤ r.rounds) → is_next_cap r.caps k.0 k.1 ≡ true
        → (form : Result (ℕ × ℕ) ℕ) → most_at r.rounds k.1 row ≡ form → says n form (λ m. parsed.Cap (record { part = k.0; first = k.1; last = m.0; most = m.1 })) ≡ Ok x → (word_for x ≡ word.Cap) × Tells r row x
    by k capped next (Ok m) is h =
        let t = most_takes r.rounds k.1 row m eight le is in
        let tells : Tells r row (parsed.Cap (record { part = k.0; first = k.1; last = m.0; most = m.1 })) = (
          ap (λ (l : Row). spelled word.Cap ∷ l) (capped.0 _ t.0),
          rw (lt-ltb _ _ capped.1, next, le-leb _ _ capped.2, le-leb _ _ t.1, le-leb _ _ t.2, le-leb _ _ t.3) refl,
        ) in
        subst (λ (y : ParsedRow). (word_for y ≡ word.Cap) × Tells r row y) (ok_is _ x h) (refl, tells)
    by k capped next (Err d) is h = absurd cc

-- ---- any record

say_word : {X : Type 0} (n : ℕ) (form : Result X ℕ) (say : X → ParsedRow) (x : ParsedRow) (w : RecordingWord) → says n form say ≡ Ok x → ((y : X) → word_for (say y) ≡ w) → word_for x ≡ w
say_word n (Ok y) say x w e k = subst (λ (z : ParsedRow). word_for z ≡ w) (ok_is (say y) x e) (k y)
say_word n (Err d) say x w e k = absurd cc

pub parsed_tells : (n : ℕ) (r : Recorded) (w : RecordingWord) (row : Row) (x : ParsedRow) → length row ≡ 8 → r.rounds ≤ max_number → parsed_by n r w row ≡ Ok x → (word_for x ≡ w) × Tells r row x
unfolding parsed_by
parsed_tells n r word.Unit row x eight le e = (say_word n (span_at row) parsed.Unit x word.Unit e (λ y. refl), say_takes r n row (span_at row) parsed.Unit x e (λ y ey. unit_tells r row y eight ey))
parsed_tells n r word.Rounds row x eight le e = (say_word n (rounds_at row) parsed.Rounds x word.Rounds e (λ y. refl), say_takes r n row (rounds_at row) parsed.Rounds x e (λ y ey. rounds_tells r row y eight ey))
parsed_tells n r word.Weight row x eight le e = (say_word n (weight_at row) parsed.Weight x word.Weight e (λ y. refl), say_takes r n row (weight_at row) parsed.Weight x e (λ y ey. weight_takes row y eight ey))
parsed_tells n r word.Link row x eight le e = (say_word n (one_number row) parsed.Link x word.Link e (λ y. refl), say_takes r n row (one_number row) parsed.Link x e (λ y ey. one_takes row (codes "link") y eight ey))
parsed_tells n r word.Sim row x eight le e = (say_word n (adapter_at row) parsed.Sim x word.Sim e (λ y. refl), say_takes r n row (adapter_at row) parsed.Sim x e (λ y ey. adapter_takes row y eight ey))
parsed_tells n r word.Dev row x eight le e = (say_word n (device_at row) parsed.Dev x word.Dev e (λ y. refl), say_takes r n row (device_at row) parsed.Dev x e (λ y ey. device_takes row y eight ey))
parsed_tells n r word.Name row x eight le e = name_tells n r row x eight e
parsed_tells n r word.Cap row x eight le e = cap_tells n r row x eight le e
parsed_tells n r word.Request row x eight le e = (say_word n (request_at r.completions row) parsed.Request x word.Request e (λ y. refl), say_takes r n row (request_at r.completions row) parsed.Request x e (λ y ey. request_tells r row y eight ey))

-- a record is its word's, and what it says fits
pub parsed_takes : (n : ℕ) (r : Recorded) (w : RecordingWord) (row : Row) (x : ParsedRow) → length row ≡ 8 → field_of row 0 ≡ spelled w → r.rounds ≤ max_number → parsed_by n r w row ≡ Ok x
    → (word_for x ≡ w) × (row ≡ row_of_parsed x) × FitsParsed r x
parsed_takes n r w row x eight is le e =
    let t = parsed_tells n r w row x eight le e in
    let whole = peel row 0 (spelled w) (drop 1 row) eight (omega arith) is refl in
    let word : spelled w ∷ drop 1 row ≡ spelled (word_for x) ∷ drop 1 row = ap (λ (v : RecordingWord). spelled v ∷ drop 1 row) (sym t.0) in
    (t.0, whole ∙ word ∙ t.1.0, t.1.1)
