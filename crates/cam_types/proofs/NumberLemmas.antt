-- The decimal spelling of a number, and the number that a text spells.
use Rattle.std.proofs.Common.{◌≡◌, ◌<◌, ◌≤◌, ◌^◌, ◌+◌, ◌*◌, ◌-◌, ℕ, List, [], ◌∷◌, Bool, true, false, take, length, get_or, Option, Some, None, refl, sym, ◌∙◌, ap, arith, rules, zero, suc, IfSome, if◌then◌else◌, decimal, nat_lt, nat_le, not, ◌&&◌}
use Rattle.std.specs.Char.{is_ascii_digit}
use Rattle.std.specs.List.{list_all}
use Rattle.std.specs.Str.Parse.{digits_value}
use Rattle.std.proofs.lemmas.Bool.{and_parts, and_right, leb-true, le-leb, lt-ltb, ltb-true, ne_eqb}
use Rattle.std.proofs.lemmas.Int.Digits.{digits_value_more}
use Rattle.std.proofs.lemmas.Str.{digit_value_digit}
use Rattle.std.proofs.lemmas.Str.Parse.{IsNumeralModel, numerals_by_value}
use Rattle.std.proofs.lemmas.Fmt.{decimal-digits_value, digits_value-decimal, digits_decimal, decimal_nonempty, first_decimal, decimal_digit}
use Rattle.std.proofs.lemmas.Bool.Decides.{nat_tests}
use Rattle.cam_types.specs.Number.{has_leading_zero, is_decimal, number_of}

-- digits, as the library's lemmas take them
own : IsNumeralModel (λ ds. list_all is_ascii_digit ds ≡ true) (digits_value 10)
own = numerals_by_value _ (search rules)

-- what passes as one of all
passes_at : (p : ℕ → Bool) (xs : List ℕ) (i : ℕ) → list_all p xs ≡ true → i < length xs → p (get_or xs i 0) ≡ true
passes_at p [] i e h = absurd (omega arith)
passes_at p (x ∷ xs) zero e h = (and_parts _ _ e).0
passes_at p (x ∷ xs) (suc i) e h = passes_at p xs i (and_parts _ _ e).1 (omega arith)

-- a byte of a text of digits
pub digit_at : (text : List ℕ) (i : ℕ) → is_decimal text ≡ true → i < length text → (48 ≤ get_or text i 0) × (get_or text i 0 ≤ 57)
digit_at text i e h =
    let digits = (and_parts _ _ e).1 in
    let one = and_parts _ _ (passes_at is_ascii_digit text i digits h) in
    (leb-true _ _ one.0, leb-true _ _ one.1)

-- one more digit
pub value_more : (text : List ℕ) (i n : ℕ) → is_decimal text ≡ true → i < length text → n ≡ digits_value 10 (take i text)
    → 10 * n + (get_or text i 0 - 48) ≡ digits_value 10 (take (i + 1) text)
value_more text i n e h is =
    let digit = digit_at text i e h in
    let value = digit_value_digit (get_or text i 0) digit in
    let more = digits_value_more 10 text i h in
    omega arith

only_zero : (text : List ℕ) → 0 < length text → not (has_leading_zero text) ≡ true → get_or text 0 0 ≡ 48 → length text ≡ 1
only_zero text some none first = grind (arith, nat_tests)

-- the parts of the test
parts : (text : List ℕ) → is_decimal text ≡ true → (0 < length text) × (get_or text 0 0 ≡ 48 → length text ≡ 1) × (list_all is_ascii_digit text ≡ true)
parts text e =
    let a = and_parts _ _ e in
    let b = and_parts _ _ a.0 in
    (ltb-true _ _ b.0, only_zero text (ltb-true _ _ b.0) b.1, a.1)

spelled_if : (most : ℕ) (text : List ℕ) (b : Bool) → most < 2 ^ 64 → (b ≡ true → is_decimal text ≡ true) → (b ≡ true → digits_value 10 text ≤ most)
    → IfSome (if b then Some (digits_value 10 text) else None) (λ n. text ≡ decimal n)
spelled_if most text true fits digits small =
    let p = parts text (digits refl) in
    let s = small refl in
    sym (decimal-digits_value own text p.2 p.0 p.1 (omega arith))
spelled_if most text false fits digits small = tt

-- what is read is spelled so
pub number_of-spelled : (most : ℕ) (text : List ℕ) (r : Option ℕ) → most < 2 ^ 64 → r ≡ number_of most text → IfSome r (λ n. text ≡ decimal n)
unfolding number_of
number_of-spelled most text r fits e =
    rw e (spelled_if most text (is_decimal text && nat_le (digits_value 10 text) most) fits (λ t. (and_parts _ _ t).0) (λ t. leb-true _ _ (and_parts _ _ t).1))

no_zero_first : (n : ℕ) → n < 2 ^ 64 → not (has_leading_zero (decimal n)) ≡ true
no_zero_first zero h = rw (decimal_digit 0 (omega arith)) refl
no_zero_first (suc n) h =
    let first = first_decimal (suc n) (omega arith) h in
    rw (ne_eqb (get_or (decimal (suc n)) 0 0) 48 (λ e. omega arith), and_right (nat_lt 1 (length (decimal (suc n)))) false refl) refl

-- what is spelled so is read
pub number_of-decimal : (most : ℕ) (n : ℕ) → most < 2 ^ 64 → n ≤ most → number_of most (decimal n) ≡ Some n
unfolding number_of
number_of-decimal most n fits le =
    let h : n < 2 ^ 64 = omega arith in
    let value = digits_value-decimal own n h in
    let some = lt-ltb 0 (length (decimal n)) (decimal_nonempty n h) in
    let small = le-leb n most le in
    rw (some, no_zero_first n h, digits_decimal own n h, value, small) refl

pub read_law : (most n : ℕ) (text : List ℕ) (r : Option ℕ) → most < 2 ^ 64 → r ≡ number_of most text → n ≤ most → text ≡ decimal n → r ≡ Some n
read_law most n text r fits e le is = e ∙ ap (number_of most) is ∙ number_of-decimal most n fits le

within_if : (most n value : ℕ) (b : Bool) → (b ≡ true → value ≤ most) → (if b then Some value else None) ≡ Some n → n ≤ most
within_if most n value true small e = let same : value ≡ n = cc in omega (arith, small refl)
within_if most n value false small e = absurd cc

-- what is read is at most what may be
pub number_of-within : (most n : ℕ) (text : List ℕ) → number_of most text ≡ Some n → n ≤ most
unfolding number_of
number_of-within most n text e =
    within_if most n (digits_value 10 text) (is_decimal text && nat_le (digits_value 10 text) most) (λ t. leb-true _ _ (and_parts _ _ t).1) e
