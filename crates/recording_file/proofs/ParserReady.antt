-- Where a record is placed, it can be taken.
use Rattle.std.proofs.Common.{◌≡◌, ◌≤◌, ℕ, [], ◌∷◌, ◌++◌, length, Bool, true, false, cond, refl, sym, ap, ◌∙◌, subst, arith, ◌==◌, ◌&&◌, ◌||◌, not, nat_le, nat_lt, Result, Ok, Err}
use Rattle.std.proofs.lemmas.Bool.{and_parts, eqb-true, ltb-true}
use Rattle.std.proofs.lemmas.List.{nil_from_length}
use Rattle.recording_file.specs.Recorded.{Recorded, Request, has_items, request_cause, MAX_REQUESTS}
use Rattle.recording_file.specs.Reading.{apply_parsed, add_name, add_cap, add_request, begun, book_rank, in_record, says, parsed_name, parsed_cap, parsed_by, recorded_of, stands, take_word, unless_illegal, whole, whole_of, RecordingFault, BadRecord, RecordingParser, ParsedRow, Start}
use Rattle.recording_file.specs.declared.recording_parser.RecordingParser.TheVariants as parser
use Rattle.recording_file.specs.Words.{word_rank, RecordingWord}
use Rattle.recording_file.specs.declared.word.RecordingWord.TheVariants as word
use Rattle.record_text.specs.Text.{Row}
use Rattle.record_text.specs.Fields.{max_number}
use Rattle.recording_file.specs.Records.{FitsParsed, word_for}
use Rattle.recording_file.specs.Caps.{Cap, is_next_cap}
use Rattle.recording_file.specs.Names.{NameValue, is_next_name}
use Rattle.recording_file.specs.Rows.{named_at, text_at, capped_at, most_at, request_at}
use Rattle.recording_file.specs.Counts.{counts_of}
use Rattle.recording_file.specs.RowParsing.{IsAt, IsOpen, booked, ready_for}
use Rattle.record_text.specs.ConfigParsing.{lacks_adapters}
use Rattle.record_text.specs.declared.config_parser.ConfigParser.{ConfigParser}
use Rattle.recording_file.specs.Sound.{IsSound}
use Rattle.record_text.specs.Steps.{◌>>=◌}
use Rattle.recording_file.proofs.ParsedLaws.{parsed_tells}

no_requests : (r : Recorded) → nat_le (book_rank r) 7 ≡ true → r.requests ≡ []
no_requests r e = by (length r.requests == 0) refl e
  where
    by : (b : Bool) → (length r.requests == 0) ≡ b → nat_le (cond (not b) 8 (cond (has_items r.caps) 7 6)) 7 ≡ true → r.requests ≡ []
    by true is k = nil_from_length r.requests (eqb-true _ _ is)
    by false is k = absurd cc

few_requests : (a b : Bool) → (a && (false || b)) ≡ true → b ≡ true
few_requests a b e = (and_parts a b e).1

-- ---- a whole configuration changes nothing

pub booked_recorded : (s : RecordingParser) → recorded_of (booked s) ≡ recorded_of s
booked_recorded parser.Header = refl
booked_recorded (parser.Config start c) = by (lacks_adapters c)
  where
    by : (b : Bool) → recorded_of (cond b (parser.Config start c) (parser.Book (begun start c.partial))) ≡ begun start c.partial
    by true = refl
    by false = refl
booked_recorded _ = refl

open_booked : (start : Start) (c : ConfigParser) → IsOpen (booked (parser.Config start c))
open_booked start c = by (lacks_adapters c) refl
  where
    by : (b : Bool) → lacks_adapters c ≡ b → IsOpen (cond b (parser.Config start c) (parser.Book (begun start c.partial)))
    by true e = e
    by false e = tt

whole_booked : (n : ℕ) (s : RecordingParser) → whole n (booked s) ≡ whole n s
whole_booked n parser.Header = refl
whole_booked n (parser.Config start c) = by (lacks_adapters c) refl
  where
    by : (b : Bool) → lacks_adapters c ≡ b → whole n (cond b (parser.Config start c) (parser.Book (begun start c.partial))) ≡ whole_of n start c
    by true e = refl
    by false e = rw e refl
whole_booked n _ = refl

-- where a word stands, its record can be taken
pub stands_at : (s : RecordingParser) (w : RecordingWord) → stands s w ≡ true → IsAt (ready_for s w) w
unfolding stands
stands_at s word.Unit e = tt
stands_at s word.Rounds e = tt
stands_at s word.Weight e = e
stands_at s word.Link e = e
stands_at s word.Sim e = e
stands_at s word.Dev e = e
stands_at parser.Header word.Name e = absurd cc
stands_at (parser.First v) word.Name e = absurd cc
stands_at (parser.Timed v u) word.Name e = absurd cc
stands_at (parser.Book r) word.Name e = tt
stands_at (parser.Config start c) word.Name e = open_booked start c
stands_at parser.Header word.Cap e = absurd cc
stands_at (parser.First v) word.Cap e = absurd cc
stands_at (parser.Timed v u) word.Cap e = absurd cc
stands_at (parser.Book r) word.Cap e = (tt, no_requests r (and_parts (nat_le (book_rank r) 7) true e).0)
stands_at (parser.Config start c) word.Cap e = (open_booked start c, ap (λ (r : Recorded). r.requests) (booked_recorded (parser.Config start c)))
stands_at parser.Header word.Request e = absurd cc
stands_at (parser.First v) word.Request e = absurd cc
stands_at (parser.Timed v u) word.Request e = absurd cc
stands_at (parser.Book r) word.Request e = (tt, ltb-true _ _ (few_requests (nat_le (book_rank r) 8) (nat_lt (length r.requests) MAX_REQUESTS) e))
stands_at (parser.Config start c) word.Request e = (open_booked start c, (let none : (recorded_of (booked (parser.Config start c))).requests ≡ [] = ap (λ (r : Recorded). r.requests) (booked_recorded (parser.Config start c)) in rw none (omega arith)))

-- ---- a record whose word is placed

same_after : {X Y : Type 0} (r : Result X RecordingFault) (f g : X → Result Y RecordingFault) → ((x : X) → f x ≡ g x) → (r >>= f) ≡ (r >>= g)
same_after (Ok x) f g e = e x
same_after (Err d) f g e = refl

says_same : {X Y : Type 0} (n : ℕ) (form : Result X ℕ) (say : X → ParsedRow) (f g : ParsedRow → Result Y RecordingFault) → ((x : X) → f (say x) ≡ g (say x)) → (says n form say >>= f) ≡ (says n form say >>= g)
says_same n (Ok x) say f g e = e x
says_same n (Err d) say f g e = refl

guard_same : {X Y : Type 0} (b : Bool) (r : Result X RecordingFault) (d : RecordingFault) (f g : X → Result Y RecordingFault) → (r >>= f) ≡ (r >>= g) → (cond b r (Err d) >>= f) ≡ (cond b r (Err d) >>= g)
guard_same true r d f g e = e
guard_same false r d f g e = refl

bind_bind : {X Y Z : Type 0} (r : Result X RecordingFault) (f : X → Result Y RecordingFault) (g : Y → Result Z RecordingFault) → ((r >>= f) >>= g) ≡ (r >>= λ x. f x >>= g)
bind_bind (Ok x) f g = refl
bind_bind (Err d) f g = refl

booked_name : (n : ℕ) (s : RecordingParser) (x : NameValue) → add_name n (booked s) x ≡ add_name n s x
booked_name n s x = ap (λ w. w >>= λ r. Ok (parser.Book (record r { names = r.names ++ x ∷ [] }))) (whole_booked n s)

booked_cap : (n : ℕ) (s : RecordingParser) (x : Cap) → add_cap n (booked s) x ≡ add_cap n s x
booked_cap n s x = ap (λ w. w >>= λ r. Ok (parser.Book (record r { caps = r.caps ++ x ∷ [] }))) (whole_booked n s)

booked_request : (n : ℕ) (s : RecordingParser) (x : Request) → add_request n (booked s) x ≡ add_request n s x
booked_request n s q = ap (λ w. w >>= λ r. unless_illegal n (request_cause r.rounds r.config r.caps (r.requests, q)) (parser.Book (record r { requests = r.requests ++ q ∷ [] }))) (whole_booked n s)

pub booked_row : (n : ℕ) (s : RecordingParser) (w : RecordingWord) (row : Row) → nat_lt (word_rank w) 6 ≡ false → take_word n (booked s) w row ≡ take_word n s w row
unfolding parsed_by apply_parsed parsed_name parsed_cap
booked_row n s word.Name row e =
    let r = recorded_of s in
    ap (λ (q : Recorded). parsed_by n q word.Name row >>= apply_parsed n (booked s)) (booked_recorded s)
    ∙ (bind_bind (in_record n (named_at (counts_of r.config) row)) _ _
    ∙ same_after (in_record n (named_at (counts_of r.config) row)) _ _ (λ k. guard_same (is_next_name r.names k.0 k.1) _ (BadRecord n) _ _ (says_same n (text_at row) _ _ _ (λ text. booked_name n s _)))
    ∙ sym (bind_bind (in_record n (named_at (counts_of r.config) row)) _ _))
booked_row n s word.Cap row e =
    let r = recorded_of s in
    ap (λ (q : Recorded). parsed_by n q word.Cap row >>= apply_parsed n (booked s)) (booked_recorded s)
    ∙ (bind_bind (in_record n (capped_at r.rounds (counts_of r.config) row)) _ _
    ∙ same_after (in_record n (capped_at r.rounds (counts_of r.config) row)) _ _ (λ k. guard_same (is_next_cap r.caps k.0 k.1) _ (BadRecord n) _ _ (says_same n (most_at r.rounds k.1 row) _ _ _ (λ m. booked_cap n s _)))
    ∙ sym (bind_bind (in_record n (capped_at r.rounds (counts_of r.config) row)) _ _))
booked_row n s word.Request row e = ap (λ (q : Recorded). parsed_by n q word.Request row >>= apply_parsed n (booked s)) (booked_recorded s) ∙ (says_same n (request_at (recorded_of s).completions row) _ _ _ (λ q. booked_request n s q))
booked_row n s _ row e = absurd cc

pub ready_row : (n : ℕ) (s : RecordingParser) (w : RecordingWord) (row : Row) → take_word n (ready_for s w) w row ≡ take_word n s w row
ready_row n s w row = by (nat_lt (word_rank w) 6) refl
  where
    by : (b : Bool) → nat_lt (word_rank w) 6 ≡ b → take_word n (cond b s (booked s)) w row ≡ take_word n s w row
    by true e = refl
    by false e = booked_row n s w row e

-- ---- a parsed row can be applied

pub rounds_small : (s : RecordingParser) → IsSound s → (recorded_of s).rounds ≤ max_number
unfolding IsSound
rounds_small parser.Header h = omega arith
rounds_small (parser.First v) h = omega arith
rounds_small (parser.Timed v u) h = omega arith
rounds_small (parser.Config start c) h = let k = h.0.rounds in omega arith
rounds_small (parser.Book r) h = let k = h.head.rounds in omega arith

pub parsed_ready : (n : ℕ) (s : RecordingParser) (w : RecordingWord) (row : Row) (x : ParsedRow) → IsSound s → IsAt s w → length row ≡ 8 → parsed_by n (recorded_of s) w row ≡ Ok x → IsAt s (word_for x) × FitsParsed (recorded_of s) x
parsed_ready n s w row x sound at eight e =
    let t = parsed_tells n (recorded_of s) w row x eight (rounds_small s sound) e in
    (subst (IsAt s) (sym t.0) at, t.1.1)
