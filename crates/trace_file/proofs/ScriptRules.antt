-- lists of steps and of answers that keep the rules of a script
use Rattle.std.proofs.Common.{◌≡◌, ℕ, zero, suc, ◌+◌, ◌<◌, Bool, true, false, List, [], ◌∷◌, length, map, get_or, nat_le, Vec, Global, refl, sym, ap, ◌∙◌, arith, sum_by}
use Rattle.std.specs.List.{AllByRecursion, list_all}
use Rattle.std.proofs.lemmas.Bool.{and_parts, leb-false, leb-true, le-leb}
use Rattle.std.proofs.lemmas.List.{get_or-map, get_or_past, length-map}
use Rattle.std.proofs.lemmas.List.Folds.{list_all-map}
use Rattle.std.proofs.lemmas.List.Sums.{sum_by-cons}
use Rattle.cam_types.specs.Bounds.{Bounds}
use Rattle.record_text.proofs.ListLemmas.{all_true}
use Rattle.trace_file.specs.Histories.{Outcome, Topology}
use Rattle.trace_file.specs.Scenarios.{IsScenario, scenario_by, is_ruled, is_answer, MAX_ROWS, Step}

-- a vector of a list, as contracts see it
pub items_at : {X : Type 0} (xs : List (Vec X Global)) (i : ℕ) (x : Vec X Global) (here : List X) → i < length xs → x ≡ get_or xs i x → here ≡ x.items → get_or (map (λ l. l.items) xs) i [] ≡ here
items_at xs i x here lt is value = get_or-map (λ (l : Vec _ Global). l.items) xs i x [] lt ∙ ap (λ l. l.items) (sym is) ∙ sym value

-- a test that answers what it shouldn't
pub not_both : (answer holds : Bool) → answer ≡ holds → holds ≡ true → answer ≡ false → ⊥
not_both true holds e h n = absurd cc
not_both false true e h n = absurd cc
not_both false false e h n = absurd cc

-- one driver more whose steps keep the rules
pub ruled_more : (c : Topology) (lists : List (List Step)) (n : ℕ) (here : List Step) (answer : Bool) → get_or lists n [] ≡ here → answer ≡ list_all (is_ruled c n) here → answer ≡ true →
    ((driver : ℕ) → driver < n → list_all (is_ruled c driver) (get_or lists driver []) ≡ true) → (driver : ℕ) → driver < n + 1 → list_all (is_ruled c driver) (get_or lists driver []) ≡ true
ruled_more c lists n here answer at is good before driver lt = elim (nat_le n driver) as (λ b. nat_le n driver ≡ b → list_all (is_ruled c driver) (get_or lists driver []) ≡ true) [
  | true ↦ λ le. let same : n ≡ driver = omega (arith, lt, leb-true n driver le) in rw (← same, at) (sym is ∙ good)
  | false ↦ λ less. before driver (leb-false n driver less)
] refl

passes : {X : Type 0} (p : X → Bool) (xs : List X) → AllByRecursion (λ x. p x ≡ true) xs → list_all p xs ≡ true
passes p [] h = refl
passes p (x ∷ xs) h = rw (h.0) (passes p xs h.1)

pub sum_by-map : {X Y : Type 0} (f : X → Y) (g : Y → ℕ) (xs : List X) → sum_by g (map f xs) ≡ sum_by (λ x. g (f x)) xs
sum_by-map f g [] = refl
sum_by-map f g (x ∷ xs) = sum_by-cons g (f x) (map f xs) ∙ ap (λ n. g (f x) + n) (sum_by-map f g xs) ∙ sym (sum_by-cons (λ y. g (f y)) x xs)

-- what is asked of some vectors is asked of their lists
pub few_items : {X : Type 0} (xs : List (Vec X Global)) → sum_by (λ l. length l.items) xs ≡ sum_by length (map (λ l. l.items) xs)
few_items xs = sym (sum_by-map (λ (l : Vec _ Global). l.items) length xs)

pub all_items : {X : Type 0} (p : X → Bool) (xs : List (Vec X Global)) → list_all (λ l. list_all p l.items) xs ≡ list_all (list_all p) (map (λ l. l.items) xs)
all_items p xs = sym (list_all-map (list_all p) (λ (l : Vec _ Global). l.items) xs)

each_passes : {X : Type 0} (p : X → Bool) (xs : List (List X)) (i : ℕ) → list_all (list_all p) xs ≡ true → AllByRecursion (λ x. p x ≡ true) (get_or xs i [])
each_passes p [] i h = tt
each_passes p (x ∷ xs) zero h = all_true p x (and_parts (list_all p x) (list_all (list_all p) xs) h).0
each_passes p (x ∷ xs) (suc i) h = each_passes p xs i (and_parts (list_all p x) (list_all (list_all p) xs) h).1

all_pass : {X : Type 0} (p : X → Bool) (xs : List (List X)) → ((i : ℕ) → AllByRecursion (λ x. p x ≡ true) (get_or xs i [])) → list_all (list_all p) xs ≡ true
all_pass p [] h = refl
all_pass p (x ∷ xs) h = rw (passes p x (h 0)) (all_pass p xs (λ i. h (suc i)))

-- a scenario of lists that keep the rules
module _ (c : Topology) (limits : Bounds) (drivers : List (List Step)) (answers : List (List Outcome)) where
  ruled_at : length drivers ≡ 8 → ((driver : ℕ) → driver < 8 → list_all (is_ruled c driver) (get_or drivers driver []) ≡ true) → (driver : ℕ) → AllByRecursion (λ one. is_ruled c driver one ≡ true) (get_or drivers driver [])
  ruled_at eight good driver = elim (nat_le 8 driver) as (λ b. nat_le 8 driver ≡ b → AllByRecursion (λ one. is_ruled c driver one ≡ true) (get_or drivers driver [])) [
    | true ↦ λ le. rw (get_or_past drivers driver [] (omega (arith, eight, leb-true 8 driver le))) tt
    | false ↦ λ less. all_true (is_ruled c driver) (get_or drivers driver []) (good driver (leb-false 8 driver less))
  ] refl

  pub scenario_kept : length drivers ≡ 8 → length answers ≡ length c.lanes → nat_le (sum_by length drivers) MAX_ROWS ≡ true → nat_le (sum_by length answers) MAX_ROWS ≡ true →
      list_all (list_all is_answer) answers ≡ true → ((driver : ℕ) → driver < 8 → list_all (is_ruled c driver) (get_or drivers driver []) ≡ true) → IsScenario (scenario_by c limits drivers answers)
  scenario_kept eight lanes few_steps few_answers answered good = record {
    eight = eight;
    lanes = lanes;
    ruled = ruled_at eight good;
    answered = λ lane. each_passes is_answer answers lane answered;
    few_steps = leb-true _ _ few_steps;
    few_answers = leb-true _ _ few_answers;
  }

  pub ruled_in : IsScenario (scenario_by c limits drivers answers) → (driver : ℕ) → driver < 8 → list_all (is_ruled c driver) (get_or drivers driver []) ≡ true
  ruled_in is driver lt = passes (is_ruled c driver) (get_or drivers driver []) (is.ruled driver)

  pub answered_in : IsScenario (scenario_by c limits drivers answers) → list_all (list_all is_answer) answers ≡ true
  answered_in is = all_pass is_answer answers is.answered

  pub few_in : IsScenario (scenario_by c limits drivers answers) → nat_le (sum_by length answers) MAX_ROWS ≡ true
  few_in is = le-leb _ _ is.few_answers

  pub few_steps_in : IsScenario (scenario_by c limits drivers answers) → nat_le (sum_by length drivers) MAX_ROWS ≡ true
  few_steps_in is = le-leb _ _ is.few_steps

-- the same of the vectors
pub rules_kept : (c : Topology) (limits : Bounds) (drivers : List (Vec Step Global)) (answers : List (Vec Outcome Global)) → length drivers ≡ 8 → length answers ≡ length c.lanes →
    nat_le (sum_by (λ l. length l.items) drivers) MAX_ROWS ≡ true → nat_le (sum_by (λ l. length l.items) answers) MAX_ROWS ≡ true → list_all (λ l. list_all is_answer l.items) answers ≡ true →
    ((driver : ℕ) → driver < 8 → list_all (is_ruled c driver) (get_or (map (λ l. l.items) drivers) driver []) ≡ true) → IsScenario (scenario_by c limits (map (λ l. l.items) drivers) (map (λ l. l.items) answers))
rules_kept c limits drivers answers eight lanes few_steps few_answers answered good =
    scenario_kept c limits (map (λ l. l.items) drivers) (map (λ l. l.items) answers)
    (length-map drivers (λ (l : Vec Step Global). l.items) ∙ eight)
    (length-map answers (λ (l : Vec Outcome Global). l.items) ∙ lanes)
    (rw (← few_items drivers) few_steps)
    (rw (← few_items answers) few_answers)
    (rw (← all_items is_answer answers) answered)
    good
