-- What the front of a text says.
use Rattle.std.proofs.Common.{◌≡◌, ◌⊎◌, ◌<◌, ◌≤◌, ◌+◌, ◌-◌, ℕ, zero, suc, List, [], ◌∷◌, ◌++◌, length, length-append, length-take, take-append-drop, take, drop, fold, Bool, true, false, cond, nat_eq, refl, sym, ap, ◌∙◌, inl, inr, arith, Option, Some, Result, Ok, Err}
use Rattle.std.specs.Prelude.{◌==◌}
use Rattle.std.specs.List.{starts_with}
use Rattle.std.proofs.lemmas.Bool.Decides.{nat_tests}
use Rattle.csv.specs.Machine.{Read, ends_at_end, field_after, fields_after, is_end, next_record, step}
use Rattle.csv.specs.Reading.{default_config, records, records_from, records_next, is_bom, strip_bom}
use Rattle.csv.specs.declared.parser.State.{State}
use Rattle.csv.specs.declared.parser.State.TheVariants as st
use Rattle.csv.specs.declared.parser.Action.{Action}
use Rattle.csv.specs.declared.parser.Action.TheVariants as act
use Rattle.record_text.specs.Text.{Row, records_in}
use Rattle.record_text.specs.Cuts.{CutsOff, count_after, next}
use Rattle.record_text.specs.Front.{IsCut, IsFront, RefusesLong, max_fields}
use Rattle.record_text.specs.Steps.{taken, ◌>>=◌}
use Rattle.record_text.proofs.RecordLemmas.{enough}

-- a record is open, and goes on until a byte or the end of the text ends it
abbrev is_open : State → Bool
is_open st.StartField = true
is_open st.InField = true
is_open st.InQuoted = true
is_open st.AfterQuote = true
is_open _ = false

open_ends : (s : State) → is_open s ≡ true → ends_at_end s ≡ true
open_ends st.StartField e = refl
open_ends st.InField e = refl
open_ends st.InQuoted e = refl
open_ends st.AfterQuote e = refl
open_ends _ e = absurd cc

-- after a byte that doesn't end the record, it is open still
abbrev StaysOpen : State × Action → Type 0
StaysOpen x = is_end x.1 ≡ false → is_open x.0 ≡ true

stays_open : (s : State) (c : ℕ) → is_open s ≡ true → StaysOpen (step default_config s c)
stays_open st.StartField c e goes = grind (arith, nat_tests)
stays_open st.InField c e goes = grind (arith, nat_tests)
stays_open st.InQuoted c e goes = grind (arith, nat_tests)
stays_open st.AfterQuote c e goes = grind (arith, nat_tests)
stays_open _ c e goes = absurd cc

-- the fields that have ended don't get fewer
length_more : (fields : List (List ℕ)) (field : List ℕ) → length (fields ++ (field ∷ [])) ≡ length fields + 1
length_more fields field = omega (arith, length-append fields (field ∷ []))

abbrev IsCounted : Action → List (List ℕ) → List ℕ → Type 0
IsCounted a fields field = (length fields ≤ length (fields_after a fields field))
    × (is_end a ≡ true → length fields < length (fields_after a fields field))
    × (is_end a ≡ false → length (fields_after a fields field) ≡ count_after a (length fields))

counted : (a : Action) (fields : List (List ℕ)) (field : List ℕ) → IsCounted a fields field
counted act.Skip fields field = (omega arith, (λ e. absurd cc), λ e. refl)
counted act.Copy fields field = (omega arith, (λ e. absurd cc), λ e. refl)
counted act.EndField fields field = rw (length_more fields field) (omega arith, (λ e. absurd cc), λ e. refl)
counted act.EndRecord fields field = rw (length_more fields field) (omega arith, (λ e. omega arith), λ e. absurd cc)

-- an open record ends somewhere, with more fields than have ended so far
abbrev Ends : List (List ℕ) → Option Read → Type 0
Ends fields o = (p : Read) × (o ≡ Some p) × (length fields < length p.0)

open_byte : (s : State) (fields : List (List ℕ)) (field : List ℕ) (c : ℕ) (rest : List ℕ) → is_open s ≡ true
    → ((t : State) (fs : List (List ℕ)) (f : List ℕ) → is_open t ≡ true → Ends fs (next_record default_config t fs f rest))
    → Ends fields (next_record default_config s fields field (c ∷ rest))
unfolding next_record
open_byte s fields field c rest e more = by (is_end (step default_config s c).1) refl
  where
    by : (b : Bool) → is_end (step default_config s c).1 ≡ b
        → Ends fields (cond (is_end (step default_config s c).1) (Some (fields_after (step default_config s c).1 fields field, (step default_config s c).0, rest))
        (next_record default_config (step default_config s c).0 (fields_after (step default_config s c).1 fields field) (field_after (step default_config s c).1 c field) rest))
    by true ends = rw ends ((fields_after (step default_config s c).1 fields field, (step default_config s c).0, rest), refl, (counted (step default_config s c).1 fields field).1 ends)
    by false ends =
        let m = more (step default_config s c).0 (fields_after (step default_config s c).1 fields field) (field_after (step default_config s c).1 c field) (stays_open s c e ends) in
        rw ends (m.0, m.1, omega (arith, m.2, (counted (step default_config s c).1 fields field).0))

open_record : (s : State) (fields : List (List ℕ)) (field xs : List ℕ) → is_open s ≡ true → Ends fields (next_record default_config s fields field xs)
unfolding next_record
open_record s fields field [] e = rw (open_ends s e) ((fields ++ (field ∷ []), st.StartRecord, []), refl, omega (arith, length_more fields field))
open_record s fields field (c ∷ rest) e = open_byte s fields field c rest e (λ t fs f. open_record t fs f rest)

none_counted : (a : Action) (n : ℕ) → is_end a ≡ true → count_after a n ≡ 0
none_counted act.EndRecord n e = refl
none_counted act.Skip n e = absurd cc
none_counted act.Copy n e = absurd cc
none_counted act.EndField n e = absurd cc

-- the bytes go on until a field ends that has too many before it
record Exceeds (s : State) (n : ℕ) (bytes : List ℕ) : Type 0 where
  fields : ℕ
  ends : fold next (s, n) bytes ≡ (st.StartField, fields)
  many : max_fields < fields

-- the next record is the same of a front and of the whole, and the front goes on as before, ..
record IsSame (whole front : Option Read) (post : List ℕ) (size : ℕ) : Type 0 where
  row : Row
  state : State
  left : List ℕ
  all : whole ≡ Some (row, state, left ++ post)
  part : front ≡ Some (row, state, left)
  idle : ends_at_end state ≡ false
  exceeds : Exceeds state 0 left
  less : length left < size

-- .. or it has too many fields in both, and the front ends with it
record IsLong (whole front : Option Read) : Type 0 where
  one : Read
  begun : Row
  all : whole ≡ Some one
  part : front ≡ Some (begun, st.StartRecord, [])
  exceeds : max_fields < length one.0
  exceeded : max_fields < length begun

abbrev Closes : State × Action → Type 0
Closes x = is_end x.1 ≡ true → ends_at_end x.0 ≡ false

closes : (s : State) (c : ℕ) → Closes (step default_config s c)
closes st.StartRecord c e = grind (arith, nat_tests)
closes _ c e = grind (arith, nat_tests)

abbrev Goes : State → List (List ℕ) → List ℕ → List ℕ → List ℕ → Type 0
Goes s fields field pre post =
    IsSame (next_record default_config s fields field (pre ++ post)) (next_record default_config s fields field pre) post (length pre)
    ⊎ IsLong (next_record default_config s fields field (pre ++ post)) (next_record default_config s fields field pre)

at_end : (s : State) (fields : List (List ℕ)) (field post : List ℕ) → Exceeds s (length fields) [] → Goes s fields field [] post
unfolding next_record
at_end s fields field post e =
    let start : s ≡ st.StartField = ap (λ (p : State × ℕ). p.0) e.ends in
    let count : length fields ≡ e.fields = ap (λ (p : State × ℕ). p.1) e.ends in
    let rest = open_record s fields field post (rw start refl) in
    inr (record {
      one = rest.0;
      begun = fields ++ (field ∷ []);
      all = rest.1;
      part = rw start refl;
      exceeds = omega (arith, rest.2, count, e.many);
      exceeded = omega (arith, count, e.many, length_more fields field);
    })

longer : (whole front : Option Read) (post : List ℕ) (n : ℕ) → IsSame whole front post n ⊎ IsLong whole front → IsSame whole front post (suc n) ⊎ IsLong whole front
longer whole front post n (inl k) = inl (record {
  row = k.row;
  state = k.state;
  left = k.left;
  all = k.all;
  part = k.part;
  idle = k.idle;
  exceeds = k.exceeds;
  less = omega (arith, k.less);
})
longer whole front post n (inr k) = inr k

after_byte : (s : State) (fields : List (List ℕ)) (field : List ℕ) (c : ℕ) (pre post : List ℕ) → Exceeds s (length fields) (c ∷ pre)
    → ((t : State) (fs : List (List ℕ)) (f : List ℕ) → Exceeds t (length fs) pre → Goes t fs f pre post)
    → Goes s fields field (c ∷ pre) post
unfolding next_record
after_byte s fields field c pre post e more = by (is_end (step default_config s c).1) refl
  where
    t : State
    t = (step default_config s c).0

    a : Action
    a = (step default_config s c).1

    by : (b : Bool) → is_end (step default_config s c).1 ≡ b
        → IsSame (cond (is_end a) (Some (fields_after a fields field, t, pre ++ post)) (next_record default_config t (fields_after a fields field) (field_after a c field) (pre ++ post)))
        (cond (is_end a) (Some (fields_after a fields field, t, pre)) (next_record default_config t (fields_after a fields field) (field_after a c field) pre)) post (suc (length pre))
        ⊎ IsLong (cond (is_end a) (Some (fields_after a fields field, t, pre ++ post)) (next_record default_config t (fields_after a fields field) (field_after a c field) (pre ++ post)))
        (cond (is_end a) (Some (fields_after a fields field, t, pre)) (next_record default_config t (fields_after a fields field) (field_after a c field) pre))
    by true ends = rw ends (inl (record {
      row = fields_after a fields field;
      state = t;
      left = pre;
      all = refl;
      part = refl;
      idle = closes s c ends;
      exceeds = record { fields = e.fields; ends = rw (none_counted a (length fields) ends) at e.ends; many = e.many };
      less = omega arith;
    }))
    by false ends = rw ends (longer _ _ post (length pre) (more t (fields_after a fields field) (field_after a c field)
        (record { fields = e.fields; ends = rw ((counted a fields field).2 ends) e.ends; many = e.many })))

one_record : (s : State) (fields : List (List ℕ)) (field pre post : List ℕ) → Exceeds s (length fields) pre → Goes s fields field pre post
one_record s fields field [] post e = at_end s fields field post e
one_record s fields field (c ∷ pre) post e = after_byte s fields field c pre post e (λ t fs f. one_record t fs f pre post)

-- ---- all records

-- one record before those of a cut
cut_more : (row : Row) (whole front : List Row) → IsCut whole front → IsCut (row ∷ whole) (row ∷ front)
cut_more row whole front k = record {
  before = row ∷ k.before;
  long = k.long;
  rest = k.rest;
  begun = k.begun;
  all = ap (λ (rows : List Row). row ∷ rows) k.all;
  part = ap (λ (rows : List Row). row ∷ rows) k.part;
  exceeds = k.exceeds;
  exceeded = k.exceeded;
}

-- after the end of a text there is no record
none_from : (n : ℕ) → records_from default_config n st.StartRecord [] ≡ []
unfolding records_from next_record
none_from zero = refl
none_from (suc n) = refl

cut_here : (one : Read) (begun : Row) (n : ℕ) → max_fields < length one.0 → max_fields < length begun
    → IsCut (one.0 ∷ records_from default_config n one.1 one.2) (begun ∷ records_from default_config n st.StartRecord [])
cut_here one begun n a b = record {
  before = [];
  long = one.0;
  rest = records_from default_config n one.1 one.2;
  begun = begun;
  all = refl;
  part = ap (λ (rows : List Row). begun ∷ rows) (none_from n);
  exceeds = a;
  exceeded = b;
}

cut_rows : (n : ℕ) (s : State) (pre post : List ℕ) → length pre < n → Exceeds s 0 pre → IsCut (records_from default_config n s (pre ++ post)) (records_from default_config n s pre)
unfolding records_from
cut_rows zero s pre post lt e = absurd (omega (arith, lt))
cut_rows (suc n) s pre post lt e = go (next_record default_config s [] [] (pre ++ post)) (next_record default_config s [] [] pre)
    (λ t left less ex. cut_rows n t left post (omega (arith, less, lt)) ex) (one_record s [] [] pre post e)
  where
    go : (whole front : Option Read) → ((t : State) (left : List ℕ) → length left < length pre → Exceeds t 0 left → IsCut (records_from default_config n t (left ++ post)) (records_from default_config n t left))
        → IsSame whole front post (length pre) ⊎ IsLong whole front
        → IsCut (records_next (records_from default_config n) whole) (records_next (records_from default_config n) front)
    go whole front more (inl k) = rw (k.all, k.part) (cut_more k.row _ _ (more k.state k.left k.less k.exceeds))
    go whole front more (inr k) = rw (k.all, k.part) (cut_here k.one k.begun n k.exceeds k.exceeded)

-- the records of a text and of a front that cuts it off
pub cut_text : (pre post : List ℕ) → CutsOff pre → IsCut (records default_config (pre ++ post)) (records default_config pre)
cut_text pre post cut =
    let k = cut_rows (length (pre ++ post) + 1) st.StartRecord pre post (omega (arith, length-append pre post)) (record { fields = cut.fields; ends = cut.ends; many = cut.many }) in
    rw (enough (length pre + 1) (length (pre ++ post) + 1) st.StartRecord pre refl (omega arith) (omega (arith, length-append pre post))) k

-- ---- the byte order mark

same_mark : (a b c : ℕ) → starts_with nat_eq (a ∷ b ∷ c ∷ []) (239 ∷ 187 ∷ 191 ∷ []) ≡ is_bom a b c
same_mark a b c = grind (arith, nat_tests)

pub marked : (text : List ℕ) → starts_with nat_eq text (239 ∷ 187 ∷ 191 ∷ []) ≡ true → strip_bom text ≡ drop 3 text
unfolding strip_bom
marked [] e = absurd cc
marked (a ∷ []) e = absurd (grind (arith, nat_tests))
marked (a ∷ b ∷ []) e = absurd (grind (arith, nat_tests))
marked (a ∷ b ∷ c ∷ rest) e = rw (sym (same_mark a b c) ∙ e) refl

pub unmarked : (text : List ℕ) → starts_with nat_eq text (239 ∷ 187 ∷ 191 ∷ []) ≡ false → strip_bom text ≡ text
unfolding strip_bom
unmarked [] e = refl
unmarked (a ∷ []) e = refl
unmarked (a ∷ b ∷ []) e = refl
unmarked (a ∷ b ∷ c ∷ rest) e = rw (sym (same_mark a b c) ∙ e) refl

-- the front of a text with a mark has it too, and the front of one without has none
pub front_marked : (text : List ℕ) (end : ℕ) → 3 ≤ length text → strip_bom text ≡ drop 3 text → strip_bom (take (suc (suc (suc end))) text) ≡ take end (drop 3 text)
unfolding strip_bom
front_marked (a ∷ b ∷ c ∷ rest) end le e = by (is_bom a b c) e
  where
    by : (mark : Bool) → cond mark rest (a ∷ b ∷ c ∷ rest) ≡ rest → cond mark (take end rest) (a ∷ b ∷ c ∷ take end rest) ≡ take end rest
    by true same = refl
    by false same = absurd (omega (arith, ap (λ (xs : List ℕ). length xs) same))
front_marked [] end le e = absurd (omega (arith, le))
front_marked (a ∷ []) end le e = absurd (omega (arith, le))
front_marked (a ∷ b ∷ []) end le e = absurd (omega (arith, le))

pub front_unmarked : (text : List ℕ) (end : ℕ) → 3 ≤ length text → strip_bom text ≡ text → strip_bom (take (suc (suc (suc end))) text) ≡ take (suc (suc (suc end))) text
unfolding strip_bom
front_unmarked (a ∷ b ∷ c ∷ rest) end le e = by (is_bom a b c) e
  where
    by : (mark : Bool) → cond mark rest (a ∷ b ∷ c ∷ rest) ≡ a ∷ b ∷ c ∷ rest → cond mark (take end rest) (a ∷ b ∷ c ∷ take end rest) ≡ a ∷ b ∷ c ∷ take end rest
    by false same = refl
    by true same = absurd (omega (arith, ap (λ (xs : List ℕ). length xs) same))
front_unmarked [] end le e = absurd (omega (arith, le))
front_unmarked (a ∷ []) end le e = absurd (omega (arith, le))
front_unmarked (a ∷ b ∷ []) end le e = absurd (omega (arith, le))

-- ---- what readers make of a front

taken_parts : {S E : Type 0} (next : ℕ → S → Row → Result S E) → RefusesLong next → (n : ℕ) (first : S) (before rest : List Row) (long begun : Row)
    → max_fields < length long → max_fields < length begun
    → taken next n first (before ++ begun ∷ []) ≡ taken next n first (before ++ long ∷ rest)
taken_parts {S = S} {E = E} next refuses n first [] rest long begun a b =
    rw (refuses.1 n first long a, refuses.1 n first begun b) refl
taken_parts {S = S} {E = E} next refuses n first (row ∷ before) rest long begun a b = by (next n first row) (λ after. taken_parts next refuses (n + 1) after before rest long begun a b)
  where
    by : (x : Result S E) → ((after : S) → taken next (n + 1) after (before ++ begun ∷ []) ≡ taken next (n + 1) after (before ++ long ∷ rest))
        → (x >>= λ t. taken next (n + 1) t (before ++ begun ∷ [])) ≡ (x >>= λ t. taken next (n + 1) t (before ++ long ∷ rest))
    by (Ok after) more = more after
    by (Err e) more = refl

-- a front says what the whole text says
pub front_says : {S E : Type 0} (next : ℕ → S → Row → Result S E) (first : S) (text front : List ℕ) → RefusesLong next → IsFront text front
    → taken next 1 first (records_in front) ≡ taken next 1 first (records_in text)
front_says {S = S} {E = E} next first text front refuses is = by is.says
  where
    by : (front ≡ text) ⊎ IsCut (records_in text) (records_in front) → taken next 1 first (records_in front) ≡ taken next 1 first (records_in text)
    by (inl same) = rw same refl
    by (inr cut) = rw (cut.all, cut.part) (taken_parts next refuses 1 first cut.before cut.rest cut.long cut.begun cut.exceeds cut.exceeded)

three_more : (n : ℕ) → 3 ≤ n → n ≡ suc (suc (suc (n - 3)))
three_more n le = omega (arith, le)

zero_and : (n : ℕ) → 0 + n ≡ n
zero_and n = omega arith

three_and : (n : ℕ) → 3 + n ≡ suc (suc (suc n))
three_and n = omega arith

-- the front after a mark of some bytes, and all before the end of a field that has too many before it
pub front_at : (text : List ℕ) (mark end : ℕ) → strip_bom text ≡ drop mark text → (mark ≡ 0) ⊎ (mark ≡ 3) → mark + end ≤ length text → 3 ≤ end → CutsOff (take end (drop mark text))
    → IsFront text (take (mark + end) text)
front_at text mark end is size le long cut =
    let part : strip_bom (take (mark + end) text) ≡ take end (drop mark text) = by size is le in
    let whole : take end (drop mark text) ++ drop end (drop mark text) ≡ strip_bom text = take-append-drop end (drop mark text) ∙ sym is in
    record {
      shorter = omega (arith, length-take (mark + end) text);
      says = inr (rw (part, ← whole) (cut_text (take end (drop mark text)) (drop end (drop mark text)) cut));
    }
  where
    by : (mark ≡ 0) ⊎ (mark ≡ 3) → strip_bom text ≡ drop mark text → mark + end ≤ length text → strip_bom (take (mark + end) text) ≡ take end (drop mark text)
    by (inl none) e few = rw none (rw (zero_and end, three_more end long) (front_unmarked text (end - 3) (omega (arith, few, none, long)) (rw none at e)))
    by (inr some) e few = rw (some, three_and end) (front_marked text end (omega (arith, few, some)) (rw some at e))

-- too many fields aren't eight
pub not_eight : (row : Row) → max_fields < length row → (length row == 8) ≡ false
not_eight row many = grind (arith, nat_tests)
