-- Records that are written one after the other.
use Rattle.std.proofs.Common.{◌≡◌, ◌<◌, ◌+◌, ℕ, List, [], ◌∷◌, ◌++◌, length, take, map, get_or, sym, ap, ◌∙◌, subst, append-nil}
use Rattle.std.specs.Io.KnownBytes.{Appends}
use Rattle.std.specs.List.{AllByRecursion}
use Rattle.std.proofs.KnownBytes.{Appends-trans}
use Rattle.std.proofs.lemmas.List.{map-append, take_more}
use Rattle.std.proofs.lemmas.List.Concat.{flat_map-append}
use Rattle.csv.specs.Writing.{default_writer, row_text}
use Rattle.csv.proofs.WriteFacts.{appends-none}
use Rattle.record_text.specs.Text.{Row}
use Rattle.record_text.specs.Writing.{IsBetween, TextWriter, Wrote, text_of, text_so_far}
use Rattle.record_text.proofs.ListLemmas.{all_push}

-- no record was written yet
pub wrote_none : (writer : TextWriter) → IsBetween writer → Wrote writer writer []
unfolding text_of
wrote_none writer between = record { between = between; text = appends-none (text_so_far writer) }

-- one record
pub wrote_one : (a b : TextWriter) (row : Row) → IsBetween b → Appends (text_so_far a) (text_so_far b) (row_text default_writer row) → Wrote a b (row ∷ [])
unfolding text_of
wrote_one a b row between text = record { between = between; text = subst (Appends (text_so_far a) (text_so_far b)) (sym (append-nil (row_text default_writer row))) text }

-- some records, and then some more
pub wrote_both : (a b c : TextWriter) (rows more : List Row) → Wrote a b rows → Wrote b c more → Wrote a c (rows ++ more)
unfolding text_of
wrote_both a b c rows more one other =
    record {
      between = other.between;
      text = subst (Appends (text_so_far a) (text_so_far c)) (sym (flat_map-append (row_text default_writer) rows more))
          (Appends-trans (text_so_far a) (text_so_far b) (text_so_far c) (text_of rows) (text_of more) one.text other.text);
    }

-- the record of one item more
pub wrote_more : {X : Type 0} (a b c : TextWriter) (row : X → Row) (items : List X) (i : ℕ) (x : X) → i < length items → get_or items i x ≡ x
    → Wrote a b (map row (take i items)) → Wrote b c (row x ∷ []) → Wrote a c (map row (take (i + 1) items))
wrote_more a b c row items i x h is one other =
    let more : map row (take (i + 1) items) ≡ map row (take i items) ++ row x ∷ [] =
    ap (map row) (take_more items i x h ∙ ap (λ (y : _). take i items ++ y ∷ []) is) ∙ map-append row (take i items) (x ∷ []) in
    subst (Wrote a c) (sym more) (wrote_both a b c (map row (take i items)) (row x ∷ []) one other)

-- one item more has the property
pub all_more : {X : Type 0} (P : X → Type 0) (items : List X) (i : ℕ) (x : X) → i < length items → get_or items i x ≡ x → AllByRecursion P (take i items) → P x → AllByRecursion P (take (i + 1) items)
all_more P items i x h is all one =
    let more = take_more items i x h ∙ ap (λ (y : _). take i items ++ y ∷ []) is in
    subst (AllByRecursion P) (sym more) (all_push P (take i items) x all one)
