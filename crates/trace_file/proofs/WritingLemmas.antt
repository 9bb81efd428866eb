-- Records that are written one after the other.
use Rattle.std.proofs.Common.{◌≡◌, ◌<◌, ◌+◌, ◌*◌, ◌/◌, ◌%◌, ℕ, List, [], ◌∷◌, ◌++◌, length, take, map, get_or, set, refl, sym, ap, ◌∙◌, subst, arith, append_assoc, length-set, Fits, w8, suc}
use Rattle.std.specs.Char.{digit_char}
use Rattle.std.specs.List.{AllByRecursion}
use Rattle.std.proofs.lemmas.List.{map-append, take_more, take_more_set}
use Rattle.std.proofs.lemmas.List.Elements.{All-from_recursion}
use Rattle.trace_file.specs.Records.{hex}
use Rattle.record_text.specs.Writing.{TextWriter, Wrote}
use Rattle.trace_file.specs.Script.{FitsRow}
use Rattle.trace_file.specs.ScriptRows.{script_row, ScriptRow}
use Rattle.trace_file.specs.ScriptWriting.{numbered}
use Rattle.record_text.proofs.ListLemmas.{all_push}
use Rattle.trace_file.proofs.ScriptNumbered.{all_both, numbered_more}
use Rattle.record_text.proofs.WritingLemmas.{wrote_both}

-- ---- hexadecimal digits

-- the items of a slice of bytes are bytes
pub all_bytes : (bytes : List ℕ) → ((i : ℕ) → Fits w8 (get_or bytes i 0)) → AllByRecursion (λ b. b < 256) bytes
all_bytes [] fits = tt
all_bytes (b ∷ bs) fits = ((fits 0).fits, all_bytes bs (λ i. fits (suc i)))

hex-append : (xs ys : List ℕ) → hex (xs ++ ys) ≡ hex xs ++ hex ys
hex-append [] ys = refl
hex-append (x ∷ xs) ys = rw (hex-append xs ys) refl

-- the digits of one byte more
pub hex_more : (text bytes : List ℕ) (i a b : ℕ) → 2 * i + 1 < length text → i < length bytes → a ≡ digit_char (get_or bytes i 0 / 16) → b ≡ digit_char (get_or bytes i 0 % 16)
    → take (2 * i) text ≡ hex (take i bytes) → take (2 * (i + 1)) (set (set text (2 * i) a) (2 * i + 1) b) ≡ hex (take (i + 1) bytes)
hex_more text bytes i a b h k ea eb e =
    let two : 2 * (i + 1) ≡ 2 * i + 1 + 1 = omega arith in
    let size = length-set text (2 * i) a in
    let written : take (2 * i + 1 + 1) (set (set text (2 * i) a) (2 * i + 1) b) ≡ (take (2 * i) text ++ a ∷ []) ++ b ∷ [] =
    take_more_set (set text (2 * i) a) (2 * i + 1) b (omega arith) ∙ ap (λ (l : List ℕ). l ++ b ∷ []) (take_more_set text (2 * i) a (omega arith)) in
    let spelled : hex (take (i + 1) bytes) ≡ hex (take i bytes) ++ a ∷ b ∷ [] =
    ap hex (take_more bytes i 0 k) ∙ hex-append (take i bytes) (get_or bytes i 0 ∷ []) ∙ rw (ea, eb) refl in
    rw (two, written, spelled, e) (append_assoc (hex (take i bytes)) (a ∷ []) (b ∷ []))

-- ---- the rows of a script

-- the record of one item's row more
pub wrote_row : {X : Type 0} (a b c : TextWriter) (row : X → ScriptRow) (items : List X) (i : ℕ) (x : X) → i < length items → get_or items i x ≡ x
    → Wrote a b (map script_row (map row (take i items))) → Wrote b c (script_row (row x) ∷ []) → Wrote a c (map script_row (map row (take (i + 1) items)))
wrote_row a b c row items i x h is one other =
    let items_more : map row (take (i + 1) items) ≡ map row (take i items) ++ row x ∷ [] =
    ap (map row) (take_more items i x h ∙ ap (λ (y : _). take i items ++ y ∷ []) is) ∙ map-append row (take i items) (x ∷ []) in
    let more = ap (map script_row) items_more ∙ map-append script_row (map row (take i items)) (row x ∷ []) in
    subst (Wrote a c) (sym more) (wrote_both a b c (map script_row (map row (take i items))) (script_row (row x) ∷ []) one other)

-- and its numbers fit
pub fits_row : {X : Type 0} (row : X → ScriptRow) (items : List X) (i : ℕ) (x : X) → i < length items → get_or items i x ≡ x → AllByRecursion FitsRow (map row (take i items)) → FitsRow (row x)
    → AllByRecursion FitsRow (map row (take (i + 1) items))
fits_row row items i x h is all one =
    let more : map row (take (i + 1) items) ≡ map row (take i items) ++ row x ∷ [] =
    ap (map row) (take_more items i x h ∙ ap (λ (y : _). take i items ++ y ∷ []) is) ∙ map-append row (take i items) (x ∷ []) in
    subst (AllByRecursion FitsRow) (sym more) (all_push FitsRow (map row (take i items)) (row x) all one)

one_list : {X : Type 0} (row : ℕ → X → ScriptRow) (lists : List (List X)) (i : ℕ) (here : List X) → i < length lists → get_or lists i [] ≡ here → numbered row 0 (take (i + 1) lists) ≡ numbered row 0 (take i lists) ++ map (row i) here
one_list row lists i here h is =
    let same : 0 + i ≡ i = omega arith in
    numbered_more row 0 lists i h ∙ ap (λ (k : ℕ). numbered row 0 (take i lists) ++ map (row k) (get_or lists i [])) same ∙ ap (λ (l : List _). numbered row 0 (take i lists) ++ map (row i) l) is

-- the records of one list's rows more
pub wrote_list : {X : Type 0} (a b c : TextWriter) (row : ℕ → X → ScriptRow) (lists : List (List X)) (i : ℕ) (here : List X) → i < length lists → get_or lists i [] ≡ here
    → Wrote a b (map script_row (numbered row 0 (take i lists))) → Wrote b c (map script_row (map (row i) here)) → Wrote a c (map script_row (numbered row 0 (take (i + 1) lists)))
wrote_list a b c row lists i here h is one other =
    let rows = one_list row lists i here h is in
    let more = ap (map script_row) rows ∙ map-append script_row (numbered row 0 (take i lists)) (map (row i) here) in
    subst (Wrote a c) (sym more) (wrote_both a b c (map script_row (numbered row 0 (take i lists))) (map script_row (map (row i) here)) one other)

-- and their numbers fit
pub fits_list : {X : Type 0} (row : ℕ → X → ScriptRow) (lists : List (List X)) (i : ℕ) (here : List X) → i < length lists → get_or lists i [] ≡ here → AllByRecursion FitsRow (numbered row 0 (take i lists)) → AllByRecursion FitsRow (map (row i) here)
    → AllByRecursion FitsRow (numbered row 0 (take (i + 1) lists))
fits_list row lists i here h is all one =
    let rows = one_list row lists i here h is in
    subst (AllByRecursion FitsRow) (sym rows) (all_both FitsRow (numbered row 0 (take i lists)) (map (row i) here) all one)

-- one driver's steps of those that all keep a rule
pub ruled_at : {X : Type 0} (P : X → Type 0) (xs : List X) (i : ℕ) (x : X) → i < length xs → get_or xs i x ≡ x → AllByRecursion P xs → P x
ruled_at P xs i x h is all = subst P is (All-from_recursion P xs all i x h)
