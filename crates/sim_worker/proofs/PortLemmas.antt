-- what a script's port has served, after one command more
use Rattle.std.proofs.Common.{◌≡◌, ℕ, suc, ◌+◌, true, List, [], ◌∷◌, ◌++◌, length, map, get_or, refl, sym, ap, ◌∙◌, arith, length-append, zero-add, add-zero}
use Rattle.std.proofs.lemmas.List.{map-append}
use Rattle.std.specs.List.{AllByRecursion, range_with_len}
use Rattle.sim_worker.specs.Words.{Outcome, is_answer}
use Rattle.event_rules.proofs.ListFacts.{range_with_len-push}
use Rattle.sim_worker.specs.Ports.{answer_at, first_answers, outcomes, IsPort, Served}

pub first_answers-push : (answers : List Outcome) (n : ℕ) → first_answers answers (n + 1) ≡ first_answers answers n ++ answer_at answers n ∷ []
first_answers-push answers n = ap (map (answer_at answers)) (range_with_len-push 0 n) ∙ map-append (answer_at answers) (range_with_len 0 n) ((0 + n) ∷ []) ∙ ap (λ k. first_answers answers n ++ answer_at answers k ∷ []) (zero-add n)

pub given-push : (answers : List Outcome) (served : List Served) (one : Served) → one.outcome ≡ answer_at answers (length served) → outcomes served ≡ first_answers answers (length served) →
    outcomes (served ++ one ∷ []) ≡ first_answers answers (length (served ++ one ∷ []))
given-push answers served one next given = map-append (λ (s : Served). s.outcome) served (one ∷ [])
    ∙ ap (λ front. front ++ one.outcome ∷ []) given
    ∙ ap (λ o. first_answers answers (length served) ++ o ∷ []) next
    ∙ sym (ap (first_answers answers) (length-append served (one ∷ [])) ∙ first_answers-push answers (length served))

pub port-push : (answers : List Outcome) (served : List Served) (one : Served) → one.outcome ≡ answer_at answers (length served) → IsPort answers served → IsPort answers (served ++ one ∷ [])
port-push answers served one next h = record { answered = h.answered; given = given-push answers served one next h.given }

pub port-none : (answers : List Outcome) → AllByRecursion (λ outcome. is_answer outcome ≡ true) answers → IsPort answers []
port-none answers h = record { answered = h; given = refl }

-- ---- ports that come back at their lanes

-- one lane more
pub answers_more : {X : Type 0} → (f : X → List Outcome) (of : ℕ → List Outcome) (xs : List X) (x : X) (lane : ℕ) → lane ≡ length xs → f x ≡ of lane → map f xs ≡ map of (range_with_len 0 (length xs)) →
    map f (xs ++ x ∷ []) ≡ map of (range_with_len 0 (length (xs ++ x ∷ [])))
answers_more f of xs x lane at is h =
    let n = length xs in
    map-append f xs (x ∷ [])
    ∙ ap (λ front. front ++ f x ∷ []) h
    ∙ ap (λ o. map of (range_with_len 0 n) ++ o ∷ []) (is ∙ ap of (at ∙ sym (zero-add n)))
    ∙ sym (map-append of (range_with_len 0 n) ((0 + n) ∷ []))
    ∙ sym (ap (map of) (range_with_len-push 0 n))
    ∙ sym (ap (λ k. map of (range_with_len 0 k)) (length-append xs (x ∷ [])))

-- what stands behind the first of a list
pub in_middle : {X : Type 0} → (f : X → List Outcome) (front : List X) (x : X) (rest : List X) → get_or (map f (front ++ x ∷ rest)) (length front) [] ≡ f x
in_middle f [] x rest = refl
in_middle f (y ∷ ys) x rest = in_middle f ys x rest

as_from : (of : ℕ → List Outcome) (k : ℕ) (xs : List (List Outcome)) → ((i : ℕ) → of (k + i) ≡ get_or xs i []) → map of (range_with_len k (length xs)) ≡ xs
as_from of k [] h = refl
as_from of k (x ∷ xs) h =
    let front : of k ≡ x = ap of (sym (add-zero k)) ∙ h 0 in
    ap (λ y. y ∷ map of (range_with_len (k + 1) (length xs))) front ∙ ap (λ ys. x ∷ ys) (as_from of (k + 1) xs (λ i. let same : (k + 1) + i ≡ k + suc i = omega arith in ap of same ∙ h (suc i)))

-- what was handed in, lane by lane
pub as_handed : (of : ℕ → List Outcome) (xs : List (List Outcome)) → ((lane : ℕ) → of lane ≡ get_or xs lane []) → map of (range_with_len 0 (length xs)) ≡ xs
as_handed of xs h = as_from of 0 xs (λ i. ap of (zero-add i) ∙ h i)
