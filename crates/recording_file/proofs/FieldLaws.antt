-- A field that is read is spelled so, and what is spelled so is read.
use Rattle.std.proofs.Common.{◌≡◌, ◌≤◌, ℕ, List, [], ◌∷◌, length, Bool, true, false, cond, refl, arith, ◌==◌, ◌&&◌, nat_le, Option, Some, None, IfSome, Result, Ok, Err, decimal, eqb-true, ne_eqb, leb-true, le-leb}
use Rattle.std.specs.Option.{option_map_or}
use Rattle.std.proofs.lemmas.Bool.{and_parts}
use Rattle.std.proofs.lemmas.Fmt.{decimal_nonempty}
use Rattle.std.proofs.lemmas.List.{nil_from_length}
use Rattle.record_text.specs.ConfigRows.{optional_text}
use Rattle.record_text.specs.Fields.{field_of, max_number, within_at}
use Rattle.record_text.specs.Steps.{◌>>=◌}
use Rattle.record_text.specs.Text.{Row}
use Rattle.recording_file.specs.Rows.{done_at}
use Rattle.recording_file.specs.Words.{spelled, word_of, all_words, time_text, time_of, named_text, named_of, part_text, part_kind_of, RecordingWord, TimeUnit}
use Rattle.recording_file.specs.declared.word.RecordingWord.TheVariants as word
use Rattle.recording_file.specs.Names.{NameKind}
use Rattle.recording_file.specs.declared.name.NameKind.TheVariants as named
use Rattle.recording_file.specs.Caps.{PartKind}
use Rattle.recording_file.specs.declared.part.PartKind.TheVariants as part
use Rattle.recording_file.specs.declared.span.TimeUnit.TheVariants as time
use Rattle.record_text.proofs.FieldLaws.{found_spelled, within_again, within_takes}

-- ---- words

pub word_spelled : (field : List ℕ) (w : RecordingWord) → word_of field ≡ Some w → field ≡ spelled w
unfolding word_of
word_spelled field w e = found_spelled spelled field all_words w e

pub word_again : (w : RecordingWord) → word_of (spelled w) ≡ Some w
unfolding word_of
word_again word.Unit = refl
word_again _ = refl

pub time_spelled : (field : List ℕ) (u : TimeUnit) → time_of field ≡ Some u → field ≡ time_text u
unfolding time_of
time_spelled field u e = found_spelled time_text field (time.Nanosecond ∷ time.Microsecond ∷ time.Millisecond ∷ time.Second ∷ []) u e

pub time_again : (u : TimeUnit) → time_of (time_text u) ≡ Some u
unfolding time_of
time_again time.Second = refl
time_again _ = refl

pub named_spelled : (field : List ℕ) (k : NameKind) → named_of field ≡ Some k → field ≡ named_text k
unfolding named_of
named_spelled field k e = found_spelled named_text field (named.Driver ∷ named.Device ∷ named.Adapter ∷ named.Link ∷ []) k e

pub named_again : (k : NameKind) → named_of (named_text k) ≡ Some k
unfolding named_of
named_again named.Link = refl
named_again _ = refl

pub part_spelled : (field : List ℕ) (k : PartKind) → part_kind_of field ≡ Some k → field ≡ part_text k
unfolding part_kind_of
part_spelled field k e = found_spelled part_text field (part.Device ∷ part.Adapter ∷ part.Link ∷ []) k e

pub part_again : (k : PartKind) → part_kind_of (part_text k) ≡ Some k
unfolding part_kind_of
part_again part.Link = refl
part_again _ = refl

-- ---- the round of a completion

-- the round of a completion fits its field, beside the round of the start
abbrev pub FitsDone : Bool → ℕ → Option ℕ → Type 0
FitsDone completions sent x = IfSome x (λ n. n ≤ max_number) × (option_map_or (λ n. completions && nat_le sent n) x true ≡ true)

pub done_takes : (completions : Bool) (sent : ℕ) (row : Row) (x : Option ℕ) → done_at completions sent row ≡ Ok x → (field_of row 7 ≡ optional_text x) × FitsDone completions sent x
unfolding done_at
done_takes completions sent row x e = by (length (field_of row 7) == 0) refl completions e
  where
    read : (r : Result ℕ ℕ) → within_at row 7 sent max_number ≡ r → (r >>= λ n. Ok (Some n)) ≡ Ok x → (field_of row 7 ≡ optional_text x) × FitsDone true sent x
    read (Ok n) is k =
        let one : Some n ≡ x = cc in
        let t = within_takes row 7 sent max_number n (omega arith) is in
        rw (← one) (t.0, (t.2, le-leb sent n t.1))
    read (Err d) is k = absurd cc

    by : (b : Bool) → (length (field_of row 7) == 0) ≡ b → (c : Bool) → cond b (Ok None) (cond c (within_at row 7 sent max_number >>= λ n. Ok (Some n)) (Err 8)) ≡ Ok x → (field_of row 7 ≡ optional_text x) × FitsDone c sent x
    by true is c k =
        let none : None ≡ x = cc in
        rw (← none) (nil_from_length (field_of row 7) (eqb-true _ _ is), (tt, refl))
    by false is true k = read (within_at row 7 sent max_number) refl k
    by false is false k = absurd cc

pub done_again : (completions : Bool) (sent : ℕ) (row : Row) (x : Option ℕ) → option_map_or (λ n. completions && nat_le sent n) x true ≡ true → IfSome x (λ n. n ≤ max_number) → field_of row 7 ≡ optional_text x → done_at completions sent row ≡ Ok x
unfolding done_at
done_again completions sent row None right fits e = rw e refl
done_again completions sent row (Some n) right fits e =
    let some : (length (decimal n) == 0) ≡ false = (let k = decimal_nonempty n (omega arith) in ne_eqb _ _ (λ z. omega arith)) in
    let p = and_parts completions (nat_le sent n) right in
    rw (e, some, p.0, within_again row 7 sent max_number n (omega arith) (leb-true _ _ p.1) fits e) refl
