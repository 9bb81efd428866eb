-- runs of rounds with one number
use Rattle.std.proofs.Common.{◌≡◌, ℕ, zero, suc, ◌+◌, ◌-◌, ◌<◌, ◌≤◌, Bool, true, false, cond, [], ◌∷◌, ◌++◌, refl, sym, ap, ◌∙◌, arith, Some, None, inl, inr, not, ◌==◌, filter, find}
use Rattle.std.specs.List.{range_with_len}
use Rattle.std.specs.Option.{option_map_or}
use Rattle.std.proofs.lemmas.Bool.{and_parts, and_from, or_right, or_cases, eqb-true, eqb-false, eq-eqb, ne_eqb, cases_eq, cases_lt, not-true, not-false, not_from_false}
use Rattle.std.proofs.lemmas.List.{append-nil}
use Rattle.std.proofs.lemmas.List.Elements.{filter-append}
use Rattle.std.proofs.lemmas.List.Folds.{find-append}
use Rattle.recording_file.specs.Runs.{begins_run, run_starts, run_last}
use Rattle.recording_file.proofs.ListLemmas.{none_passes, each_of_range, range_more, found_longer}

-- the first number of a range that passes
found_first : (t : ℕ → Bool) (a n r : ℕ) → find t (range_with_len a n) ≡ Some r → (a ≤ r) × ((r < a + n) × ((t r ≡ true) × ((q : ℕ) → a ≤ q → q < r → t q ≡ false)))
found_first t a zero r e = absurd cc
found_first t a (suc n) r e = elim (t a) as (λ b. t a ≡ b → cond b (Some a) (find t (range_with_len (a + 1) n)) ≡ Some r → (a ≤ r) × ((r < a + suc n) × ((t r ≡ true) × ((q : ℕ) → a ≤ q → q < r → t q ≡ false)))) [
  | true ↦ λ is g. let same : a ≡ r = cc in (omega arith, (omega arith, (rw (← same) is, λ q le lt. absurd (omega arith))))
  | false ↦ λ is g.
      let rest = found_first t (a + 1) n r g in
      let after = rest.0 in
      let within = rest.1.0 in (
        omega arith,
        (
          omega arith,
          (
            rest.1.1.0,
            λ q le lt. elim (cases_eq a q) [
              | inl same ↦ rw (← same) is
              | inr other ↦ rest.1.1.1 q (let ne = other in omega arith) lt
            ],
          ),
        ),
      )
] refl e

-- the last round of a run: the number is one from the first up to it, and another in the round behind it, if there is one
pub record IsRunLast (number : ℕ → ℕ) (rounds first last : ℕ) : Type 0 where
  pub after : first ≤ last
  pub within : last ≤ rounds
  pub same : (q : ℕ) → first ≤ q → q ≤ last → number q ≡ number first
  pub longest : last < rounds → number (last + 1) ≡ number first → ⊥

one_number : (number : ℕ → ℕ) (first q : ℕ) → not (number q == number first) ≡ false → number q ≡ number first
one_number number first q e = eqb-true (number q) (number first) (not-false (number q == number first) e)

another_number : (number : ℕ → ℕ) (first q : ℕ) → not (number q == number first) ≡ true → number q ≡ number first → ⊥
another_number number first q e = eqb-false (number q) (number first) (not-true (number q == number first) e)

pub run_last_is : (number : ℕ → ℕ) (rounds first : ℕ) → first ≤ rounds → IsRunLast number rounds first (run_last number rounds first)
unfolding run_last
run_last_is number rounds first le =
    let t : ℕ → Bool = λ r. not (number r == number first) in
    let span : ℕ = rounds - first in
    elim (find t (range_with_len (first + 1) span)) as (λ o. find t (range_with_len (first + 1) span) ≡ o → IsRunLast number rounds first (option_map_or (λ r. r - 1) o rounds)) [
      | None ↦ λ e. record {
        after = le;
        within = omega arith;
        same = λ q from to. elim (cases_eq first q) [
          | inl here ↦ ap number (sym here)
          | inr other ↦ one_number number first q (each_of_range (λ r. t r ≡ false) (first + 1) span (none_passes t (range_with_len (first + 1) span) e) q (let ne = other in omega arith) (omega arith))
        ];
        longest = λ lt same. absurd (omega arith);
      }
      | Some r ↦ λ e.
          let found = found_first t (first + 1) span r e in
          let from = found.0 in
          let to = found.1.0 in
          let back : r - 1 + 1 ≡ r = omega arith in
          record {
            after = omega arith;
            within = omega arith;
            same = λ q low high. elim (cases_eq first q) [
              | inl here ↦ ap number (sym here)
              | inr other ↦ one_number number first q (found.1.1.1 q (let ne = other in omega arith) (omega arith))
            ];
            longest = λ lt same. another_number number first r found.1.1.0 (ap number (sym back) ∙ same);
          }
    ] refl

-- each round whose number isn't the usual one lies in a run
pub record HasStart (number : ℕ → ℕ) (usual r : ℕ) : Type 0 where
  pub start : ℕ
  pub some : 1 ≤ start
  pub before : start ≤ r
  pub begins : begins_run number usual start ≡ true
  pub same : (q : ℕ) → start ≤ q → q ≤ r → number q ≡ number r

starts_at_first : (number : ℕ → ℕ) (usual : ℕ) → (number 1 ≡ usual → ⊥) → begins_run number usual 1 ≡ true
unfolding begins_run
starts_at_first number usual ne = rw (ne_eqb (number 1) usual ne) refl

starts_at_change : (number : ℕ → ℕ) (usual r : ℕ) → (number (r + 1) ≡ usual → ⊥) → (number r ≡ number (r + 1) → ⊥) → begins_run number usual (r + 1) ≡ true
unfolding begins_run
starts_at_change number usual r ne change =
    let back : r + 1 - 1 ≡ r = omega arith in
    let other : (number (r + 1 - 1) == number (r + 1)) ≡ false = rw back (ne_eqb (number r) (number (r + 1)) change) in
    and_from (not (number (r + 1) == usual)) _ (not_from_false _ (ne_eqb (number (r + 1)) usual ne)) (or_right (r + 1 == 1) _ (not_from_false _ other))

pub has_start : (number : ℕ → ℕ) (usual r : ℕ) → 1 ≤ r → (number r ≡ usual → ⊥) → HasStart number usual r
has_start number usual zero some ne = absurd (omega arith)
has_start number usual (suc zero) some ne = record {
  start = 1;
  some = omega arith;
  before = omega arith;
  begins = starts_at_first number usual ne;
  same = λ q low high. let here : q ≡ 1 = omega arith in ap number here;
}
has_start number usual (suc (suc r)) some ne =
    let one : suc r + 1 ≡ suc (suc r) = omega arith in
    elim (cases_eq (number (suc r)) (number (suc (suc r)))) [
      | inl kept ↦
          let rest = has_start number usual (suc r) (omega arith) (λ usually. ne (sym kept ∙ usually)) in
          let low = rest.before in
          record {
            start = rest.start;
            some = rest.some;
            before = omega arith;
            begins = rest.begins;
            same = λ q from to. elim (cases_eq q (suc (suc r))) [
              | inl here ↦ ap number here
              | inr other ↦ rest.same q from (let ne' = other in omega arith) ∙ kept
            ];
          }
      | inr change ↦ record {
        start = suc (suc r);
        some = omega arith;
        before = omega arith;
        begins = rw one at (starts_at_change number usual (suc r) (λ usually. ne (ap number (sym one) ∙ usually)) (λ kept. change (kept ∙ ap number one)));
        same = λ q from to. let here : q ≡ suc (suc r) = omega arith in ap number here;
      }
    ]

-- nor, after the first round, that of the round before
pub begins_change : (number : ℕ → ℕ) (usual r : ℕ) → 1 < r → begins_run number usual r ≡ true → number (r - 1) ≡ number r → ⊥
unfolding begins_run
begins_change number usual r later e = elim (or_cases (r == 1) _ (and_parts (not (number r == usual)) _ e).1) [
  | inl first ↦ let one = eqb-true r 1 first in absurd (omega arith)
  | inr change ↦ eqb-false (number (r - 1)) (number r) (not-true _ change)
]

-- a run is over before a later one begins
pub run_over : (number : ℕ → ℕ) (usual rounds first next : ℕ) → 1 ≤ first → first < next → next ≤ rounds → begins_run number usual next ≡ true → run_last number rounds first < next
run_over number usual rounds first next some lt few begins =
    let is = run_last_is number rounds first (omega arith) in
    elim (cases_lt (run_last number rounds first) next) [
      | inl over ↦ over
      | inr still ↦
          let here = is.same next (omega arith) still in
          let before = is.same (next - 1) (omega arith) (omega arith) in
          absurd (begins_change number usual next (omega arith) begins (before ∙ sym here))
    ]

-- the starts of one round more
from_one : (n : ℕ) → range_with_len 1 (n + 1) ≡ range_with_len 1 n ++ (n + 1) ∷ []
from_one n = let one : 1 + n ≡ n + 1 = omega arith in range_more 1 n ∙ ap (λ k. range_with_len 1 n ++ k ∷ []) one

pub starts_none : (number : ℕ → ℕ) (usual : ℕ) → run_starts number usual 0 ≡ []
unfolding run_starts
starts_none number usual = refl

pub starts_more : (number : ℕ → ℕ) (usual n : ℕ) → begins_run number usual (n + 1) ≡ true → run_starts number usual (n + 1) ≡ run_starts number usual n ++ (n + 1) ∷ []
unfolding run_starts
starts_more number usual n begins =
    ap (filter (begins_run number usual)) (from_one n) ∙ filter-append (begins_run number usual) (range_with_len 1 n) ((n + 1) ∷ []) ∙ rw begins refl

pub starts_same : (number : ℕ → ℕ) (usual n : ℕ) → begins_run number usual (n + 1) ≡ false → run_starts number usual (n + 1) ≡ run_starts number usual n
unfolding run_starts
starts_same number usual n begins =
    ap (filter (begins_run number usual)) (from_one n) ∙ filter-append (begins_run number usual) (range_with_len 1 n) ((n + 1) ∷ []) ∙ rw begins (append-nil (filter (begins_run number usual) (range_with_len 1 n)))

-- where no later number is another so far, and where the next one is
pub none_more : (number : ℕ → ℕ) (first n : ℕ) → find (λ r. not (number r == number first)) (range_with_len (first + 1) n) ≡ None → number (first + 1 + n) ≡ number first → find (λ r. not (number r == number first)) (range_with_len (first + 1) (n + 1)) ≡ None
none_more number first n so_far same =
    let t : ℕ → Bool = λ r. not (number r == number first) in
    let here : t (first + 1 + n) ≡ false = rw (eq-eqb (number (first + 1 + n)) (number first) same) refl in
    ap (find t) (range_more (first + 1) n) ∙ find-append t (range_with_len (first + 1) n) ((first + 1 + n) ∷ []) ∙ rw (so_far, here) refl

pub none_all : (number : ℕ → ℕ) (rounds first : ℕ) → find (λ r. not (number r == number first)) (range_with_len (first + 1) (rounds - first)) ≡ None → rounds ≡ run_last number rounds first
unfolding run_last
none_all number rounds first e = rw e refl

pub found_next : (number : ℕ → ℕ) (rounds first n : ℕ) → n < rounds - first → find (λ r. not (number r == number first)) (range_with_len (first + 1) n) ≡ None → (number (first + 1 + n) ≡ number first → ⊥) → first + n ≡ run_last number rounds first
unfolding run_last
found_next number rounds first n lt so_far other =
    let t : ℕ → Bool = λ r. not (number r == number first) in
    let here : t (first + 1 + n) ≡ true = rw (ne_eqb (number (first + 1 + n)) (number first) other) refl in
    let more : find t (range_with_len (first + 1) (n + 1)) ≡ Some (first + 1 + n) = ap (find t) (range_more (first + 1) n) ∙ find-append t (range_with_len (first + 1) n) ((first + 1 + n) ∷ []) ∙ rw (so_far, here) refl in
    let all = found_longer t (first + 1) (n + 1) (rounds - first) (first + 1 + n) (omega arith) more in
    let back : first + 1 + n - 1 ≡ first + n = omega arith in
    rw (all, back) refl
