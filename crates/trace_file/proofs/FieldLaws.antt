-- A field that is read is spelled so, and what is spelled so is read.
use Rattle.std.proofs.Common.{◌≡◌, ◌+◌, ℕ, List, [], ◌∷◌, Bool, true, false, refl, ap, ◌∙◌, Option, Some, Ok, ok_or, find, bytes_eq}
use Rattle.cam_types.proofs.LeastLemmas.{find_passes}
use Rattle.trace_file.specs.Histories.{Flags}
use Rattle.trace_file.specs.Rows.{TraceWord}
use Rattle.record_text.specs.Fields.{field_of}
use Rattle.trace_file.specs.declared.word.TraceWord.TheVariants as word
use Rattle.trace_file.specs.Words.{spelled, word_of, all_words}
use Rattle.trace_file.specs.Fields.{flags_at, flags_of, flags_text, flags_by}
use Rattle.record_text.specs.Text.{Row}
use Rattle.record_text.proofs.FieldLaws.{same_bytes}
use Rattle.record_text.proofs.StepLemmas.{ok_or_ok}

-- ---- words

pub word_spelled : (field : List ℕ) (w : TraceWord) → word_of field ≡ Some w → field ≡ spelled w
unfolding word_of
word_spelled field w e = same_bytes field (spelled w) (find_passes (λ v. bytes_eq field (spelled v)) all_words w e)

pub word_again : (w : TraceWord) → word_of (spelled w) ≡ Some w
unfolding word_of
word_again word.Sim = refl
word_again _ = refl

-- ---- flags

pub flags_takes : (row : Row) (at : ℕ) (flags : Flags) → flags_at row at ≡ Ok flags → field_of row at ≡ flags_text flags
unfolding flags_at flags_of
flags_takes row at flags e =
    let field = field_of row at in
    let all = flags_by false false ∷ flags_by true false ∷ flags_by false true ∷ flags_by true true ∷ [] in
    same_bytes field (flags_text flags)
    (find_passes (λ f. bytes_eq field (flags_text f)) all flags (ok_or_ok (find (λ f. bytes_eq field (flags_text f)) all) (at + 1) flags e))

flags_again_by : (a b : Bool) → flags_of (flags_text (flags_by a b)) ≡ Some (flags_by a b)
unfolding flags_of
flags_again_by false false = refl
flags_again_by true false = refl
flags_again_by false true = refl
flags_again_by true true = refl

pub flags_again : (row : Row) (at : ℕ) (flags : Flags) → field_of row at ≡ flags_text flags → flags_at row at ≡ Ok flags
unfolding flags_at
flags_again row at flags e =
    ap (λ (f : List ℕ). ok_or (flags_of f) (at + 1)) e ∙ ap (λ (o : Option Flags). ok_or o (at + 1)) (flags_again_by flags.qfreeze flags.qfrzdis)
