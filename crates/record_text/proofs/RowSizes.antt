-- How long the text of a record is.
use Rattle.std.proofs.Common.{◌≡◌, ◌≤◌, ◌+◌, ◌*◌, ℕ, List, [], ◌∷◌, ◌++◌, length, Bool, refl, arith, length-append, suc, decimal, if◌then◌else◌}
use Rattle.std.proofs.lemmas.Bool.Decides.{nat_tests}
use Rattle.std.proofs.lemmas.Fmt.{decimal_is_IsNumeral, length-decimal-le}
use Rattle.std.specs.Str.Parse.{AllDigits}
use Rattle.std.proofs.lemmas.Str.Parse.{digit_from_value}
use Rattle.csv.specs.Writing.{default_writer, escaped, field_text, fields_text, is_blank, row_text}
use Rattle.record_text.specs.Fields.{max_number}
use Rattle.record_text.specs.Text.{Row}

-- ---- fields

-- a byte is written as two at most
pub escaped-le : (field : List ℕ) → length (escaped default_writer field) ≤ 2 * length field
unfolding escaped
escaped-le [] = omega arith
escaped-le (b ∷ rest) = grind (arith, nat_tests, escaped-le rest)

-- a digit is written as one
escaped_digits : (ds : List ℕ) → AllDigits 10 ds → length (escaped default_writer ds) ≡ length ds
unfolding escaped
escaped_digits [] h = refl
escaped_digits (d ∷ ds) h =
    let range = digit_from_value d h.0 in
    grind (arith, nat_tests, escaped_digits ds h.1)

-- how many bytes a number has between quotation marks
abbrev pub FitsIn : ℕ → List ℕ → Type 0
FitsIn most field = length (escaped default_writer field) ≤ most

pub ten : (n : ℕ) → n ≤ max_number → FitsIn 10 (decimal n)
ten n h =
    let same = escaped_digits (decimal n) (decimal_is_IsNumeral n (omega arith)).0.1 in
    let few = length-decimal-le 10 n (omega arith) (omega arith) (omega arith) in
    omega arith

pub five : (n : ℕ) → n ≤ 65535 → FitsIn 5 (decimal n)
five n h =
    let same = escaped_digits (decimal n) (decimal_is_IsNumeral n (omega arith)).0.1 in
    let few = length-decimal-le 5 n (omega arith) (omega arith) (omega arith) in
    omega arith

pub nothing_in : FitsIn 0 []
unfolding escaped
nothing_in = omega arith

unquoted-le : (field : List ℕ) → length field ≤ length (escaped default_writer field)
unfolding escaped
unquoted-le [] = omega arith
unquoted-le (b ∷ rest) = grind (arith, nat_tests, unquoted-le rest)

-- quotation marks are two more
field-le : (field : List ℕ) → length (field_text default_writer field) ≤ length (escaped default_writer field) + 2
field-le field = grind (arith, length-append (escaped default_writer field) (34 ∷ []), unquoted-le field)

-- ---- records

-- the bytes of a record's fields between quotation marks
abbrev size : Row → ℕ
size [] = 0
size (field ∷ rest) = length (escaped default_writer field) + size rest

field_more : (one more : List ℕ) (n k m : ℕ) → length one ≤ n + 2 → length more ≤ k + 3 * m → length (44 ∷ (one ++ more)) ≤ (n + k) + 3 * suc m
field_more one more n k m a b = let both = length-append one more in omega arith

fields-le : (row : Row) → length (fields_text default_writer row) ≤ size row + 3 * length row
unfolding fields_text
fields-le [] = omega arith
fields-le (field ∷ rest) = field_more (field_text default_writer field) (fields_text default_writer rest) (length (escaped default_writer field)) (size rest) (length rest) (field-le field) (fields-le rest)

with_end : (one more end : List ℕ) (n k m : ℕ) → length one ≤ n + 2 → length more ≤ k + 3 * m → length end ≤ 3 → length ((one ++ more) ++ end) ≤ (n + k) + 3 * suc m + 2
with_end one more end n k m a b c =
    let both = length-append one more in
    let all = length-append (one ++ more) end in
    omega arith

end-le : (blank : Bool) → length {A = ℕ} ((if blank then 34 ∷ 34 ∷ [] else []) ++ 10 ∷ []) ≤ 3
end-le blank = grind arith

row-le : (field : List ℕ) (rest : Row) → length (row_text default_writer (field ∷ rest)) ≤ size (field ∷ rest) + 3 * length (field ∷ rest) + 2
row-le field rest =
    with_end (field_text default_writer field) (fields_text default_writer rest) _ (length (escaped default_writer field)) (size rest) (length rest) (field-le field) (fields-le rest) (end-le (is_blank default_writer (field ∷ rest)))

-- a record's text is at most so long
abbrev pub IsShort : ℕ → Row → Type 0
IsShort most row = length (row_text default_writer row) ≤ most

-- what eight fields need, each between quotation marks and with a comma or the end after it
pub eight : (a b c d e f g h : List ℕ) (i j k l m n o p : ℕ) → FitsIn i a → FitsIn j b → FitsIn k c → FitsIn l d → FitsIn m e → FitsIn n f → FitsIn o g → FitsIn p h
    → IsShort (i + j + k + l + m + n + o + p + 26) (a ∷ b ∷ c ∷ d ∷ e ∷ f ∷ g ∷ h ∷ [])
eight a b c d e f g h i j k l m n o p ai bj ck dl em fn go hp = let le = row-le a (b ∷ c ∷ d ∷ e ∷ f ∷ g ∷ h ∷ []) in omega arith
