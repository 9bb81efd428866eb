-- A field that is parsed is spelled so, and what is spelled so is parsed.
use Rattle.std.proofs.Common.{◌≡◌, ◌<◌, ◌≤◌, ◌+◌, ℕ, List, length, Bool, true, false, cond, refl, ap, ◌∙◌, arith, rules, ◌==◌, nat_le, nat_lt, Option, Some, None, Result, Ok, Err, ok_or, find, bytes_eq, decimal, IfSome, eqb-true, ne_eqb, leb-true, le-leb, ltb-true, lt-ltb}
use Rattle.std.proofs.lemmas.Fmt.{decimal_nonempty}
use Rattle.std.proofs.lemmas.List.{nil_from_length}
use Rattle.std.proofs.lemmas.Slice.Eq.{bytes_eq-Decides}
use Rattle.cam_types.specs.Number.{number_of}
use Rattle.cam_types.proofs.NumberLemmas.{number_of-spelled, number_of-decimal, number_of-within}
use Rattle.cam_types.proofs.LeastLemmas.{find_passes}
use Rattle.record_text.specs.ConfigRows.{optional_text}
use Rattle.record_text.specs.Fields.{field_of, formed, max_number, number_at, optional_at, within_at, below_at}
use Rattle.record_text.specs.Steps.{◌>>=◌}
use Rattle.record_text.specs.Text.{Row}
use Rattle.record_text.proofs.StepLemmas.{ok_or_ok}

pub same_bytes : (xs ys : List ℕ) → bytes_eq xs ys ≡ true → xs ≡ ys
same_bytes xs ys e = search (rules, bytes_eq-Decides)

-- ---- words

-- the word that is found is spelled so
pub found_spelled : {X : Type 0} (text : X → List ℕ) (field : List ℕ) (words : List X) (w : X) → find (λ v. bytes_eq field (text v)) words ≡ Some w → field ≡ text w
found_spelled text field words w e = same_bytes field (text w) (find_passes (λ v. bytes_eq field (text v)) words w e)

-- a word at a place
pub formed_takes : {X : Type 0} (text : X → List ℕ) (of : List ℕ → Option X) → ((field : List ℕ) (x : X) → of field ≡ Some x → field ≡ text x)
    → (row : Row) (at : ℕ) (x : X) → formed (of (field_of row at)) at ≡ Ok x → field_of row at ≡ text x
formed_takes text of spells row at x e = spells (field_of row at) x (ok_or_ok (of (field_of row at)) (at + 1) x e)

-- ---- numbers

some_at : (r : Option ℕ) (n : ℕ) (P : ℕ → Type 0) → r ≡ Some n → IfSome r P → P n
some_at r n P e h = rw e at h

pub number_takes : (row : Row) (at most n : ℕ) → most ≤ max_number → number_at row at most ≡ Ok n → (field_of row at ≡ decimal n) × (n ≤ most)
unfolding number_at
number_takes row at most n le e =
    let some = ok_or_ok (number_of most (field_of row at)) (at + 1) n e in (
      some_at _ n (λ m. field_of row at ≡ decimal m) some (number_of-spelled most (field_of row at) _ (omega arith) refl),
      number_of-within most n (field_of row at) some,
    )

pub number_again : (row : Row) (at most n : ℕ) → most ≤ max_number → n ≤ most → field_of row at ≡ decimal n → number_at row at most ≡ Ok n
unfolding number_at
number_again row at most n le small e =
    ap (λ (f : List ℕ). ok_or (number_of most f) (at + 1)) e ∙ ap (λ (o : Option ℕ). ok_or o (at + 1)) (number_of-decimal most n (omega arith) small)

-- a number, or none where there is no byte
pub optional_takes : (row : Row) (at most : ℕ) (x : Option ℕ) → most ≤ max_number → optional_at row at most ≡ Ok x → (field_of row at ≡ optional_text x) × IfSome x (λ n. n ≤ most)
unfolding optional_at
optional_takes row at most x le e = by (length (field_of row at) == 0) refl e
  where
    read : (r : Result ℕ ℕ) → number_at row at most ≡ r → (r >>= λ n. Ok (Some n)) ≡ Ok x → (field_of row at ≡ optional_text x) × IfSome x (λ n. n ≤ most)
    read (Ok n) is k =
        let one : Some n ≡ x = cc in
        rw (← one) (number_takes row at most n le is)
    read (Err d) is k = absurd cc

    by : (b : Bool) → (length (field_of row at) == 0) ≡ b → cond b (Ok None) (number_at row at most >>= λ n. Ok (Some n)) ≡ Ok x → (field_of row at ≡ optional_text x) × IfSome x (λ n. n ≤ most)
    by true is k =
        let none : None ≡ x = cc in
        rw (← none) (nil_from_length (field_of row at) (eqb-true _ _ is), tt)
    by false is k = read (number_at row at most) refl k

pub optional_again : (row : Row) (at most : ℕ) (x : Option ℕ) → most ≤ max_number → IfSome x (λ n. n ≤ most) → field_of row at ≡ optional_text x → optional_at row at most ≡ Ok x
unfolding optional_at
optional_again row at most None le small e = rw e refl
optional_again row at most (Some n) le small e =
    let some : (length (decimal n) == 0) ≡ false = (let k = decimal_nonempty n (omega arith) in ne_eqb _ _ (λ z. omega arith)) in
    rw (e, some, number_again row at most n le small e) refl

-- a number between two others, and one below another
pub within_takes : (row : Row) (at least most n : ℕ) → most ≤ max_number → within_at row at least most ≡ Ok n → (field_of row at ≡ decimal n) × (least ≤ n) × (n ≤ most)
unfolding within_at
within_takes row at least most n le e = read (number_at row at most) refl e
  where
    test : (m : ℕ) → number_at row at most ≡ Ok m → (b : Bool) → nat_le least m ≡ b → cond b (Ok m) (Err (at + 1)) ≡ Ok n → (field_of row at ≡ decimal n) × (least ≤ n) × (n ≤ most)
    test m is true low k =
        let one : m ≡ n = cc in
        let t = number_takes row at most m le is in
        rw (← one) (t.0, leb-true least m low, t.1)
    test m is false low k = absurd cc

    read : (r : Result ℕ ℕ) → number_at row at most ≡ r → (r >>= λ m. cond (nat_le least m) (Ok m) (Err (at + 1))) ≡ Ok n → (field_of row at ≡ decimal n) × (least ≤ n) × (n ≤ most)
    read (Ok m) is k = test m is (nat_le least m) refl k
    read (Err d) is k = absurd cc

pub within_again : (row : Row) (at least most n : ℕ) → most ≤ max_number → least ≤ n → n ≤ most → field_of row at ≡ decimal n → within_at row at least most ≡ Ok n
unfolding within_at
within_again row at least most n le low high e = rw (number_again row at most n le high e, le-leb least n low) refl

pub below_takes : (row : Row) (at count n : ℕ) → below_at row at count ≡ Ok n → (field_of row at ≡ decimal n) × (n < count)
unfolding below_at
below_takes row at count n e = read (number_at row at max_number) refl e
  where
    test : (m : ℕ) → number_at row at max_number ≡ Ok m → (b : Bool) → nat_lt m count ≡ b → cond b (Ok m) (Err (at + 1)) ≡ Ok n → (field_of row at ≡ decimal n) × (n < count)
    test m is true low k =
        let one : m ≡ n = cc in
        let t = number_takes row at max_number m (omega arith) is in
        rw (← one) (t.0, ltb-true m count low)
    test m is false low k = absurd cc

    read : (r : Result ℕ ℕ) → number_at row at max_number ≡ r → (r >>= λ m. cond (nat_lt m count) (Ok m) (Err (at + 1))) ≡ Ok n → (field_of row at ≡ decimal n) × (n < count)
    read (Ok m) is k = test m is (nat_lt m count) refl k
    read (Err d) is k = absurd cc

pub below_again : (row : Row) (at count n : ℕ) → n < count → n ≤ max_number → field_of row at ≡ decimal n → below_at row at count ≡ Ok n
unfolding below_at
below_again row at count n low high e = rw (number_again row at max_number n (omega arith) high e, lt-ltb n count low) refl
