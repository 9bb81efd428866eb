-- Lists of lists, one of which grows at its end.
use Rattle.std.proofs.Common.{◌≡◌, ◌<◌, ◌≤◌, ◌+◌, ℕ, List, [], ◌∷◌, ◌++◌, length, map, get_or, set, refl, sym, ap, ◌∙◌, arith, length-set, inl, inr, true, ◌==◌, cond, append-nil, subst}
use Rattle.std.specs.List.{AllByRecursion, sum_by}
use Rattle.std.proofs.lemmas.Bool.{cases_Bool, eqb-true, ltb-true}
use Rattle.std.proofs.lemmas.List.{map-set, get_or-map}
use Rattle.std.proofs.lemmas.Bool.Decides.{nat_tests}
use Rattle.std.proofs.lemmas.Grind.{common_steps}
use Rattle.trace_file.specs.Scenarios.{IsScenario, Scenario, is_answer, is_ruled, push_at, Step, MAX_ROWS}
use Rattle.cam_types.specs.Questions.{names_lane}
use Rattle.trace_file.specs.Histories.{Outcome}
use Rattle.record_text.proofs.ListLemmas.{all_push}

-- one list grows by an item
pub pushed : {V X : Type 0} (f : V → List X) (lists : List V) (i : ℕ) (old new : V) (x : X) → i < length lists → old ≡ get_or lists i old → f new ≡ f old ++ x ∷ []
    → map f (set lists i new) ≡ push_at (map f lists) i x
pushed f lists i old new x h is grows =
    let here : get_or (map f lists) i [] ≡ f old = get_or-map f lists i old [] h ∙ ap f (sym is) in
    map-set f lists i new ∙ rw (grows, here) refl

pub length-pushed : {X : Type 0} (lists : List (List X)) (i : ℕ) (x : X) → length (push_at lists i x) ≡ length lists
length-pushed lists i x = length-set lists i (get_or lists i [] ++ x ∷ [])

-- a list among others, of which one has grown
pub grown : {X : Type 0} (lists : List (List X)) (i j : ℕ) (x : X) → (i ≡ j → j < length lists) → get_or (push_at lists i x) j [] ≡ get_or lists j [] ++ cond (i == j) (x ∷ []) []
grown {X = X} lists i j x h = grind (arith, nat_tests, common_steps, append-nil (get_or lists j []))

-- what each list keeps, it keeps with an item more that keeps it
pub all_pushed : {X : Type 0} (P : ℕ → X → Type 0) (lists : List (List X)) (i : ℕ) (x : X) → i < length lists → ((j : ℕ) → AllByRecursion (P j) (get_or lists j [])) → P i x
    → (j : ℕ) → AllByRecursion (P j) (get_or (push_at lists i x) j [])
all_pushed P lists i x h all one j = elim (cases_Bool (i == j)) [
  | inl same ↦ rw (grown lists i j x (λ e. omega arith), same) (all_push (P j) (get_or lists j []) x (all j) (subst (λ (k : ℕ). P k x) (eqb-true i j same) one))
  | inr other ↦ rw (grown lists i j x (λ e. omega arith), other, append-nil (get_or lists j [])) (all j)
]

-- the lists together hold one item more
pub sum_pushed : {X : Type 0} (lists : List (List X)) (i : ℕ) (x : X) → i < length lists → sum_by length (push_at lists i x) ≡ sum_by length lists + 1
sum_pushed lists i x h = grind (arith, common_steps)

-- a driver's step more keeps the rules
pub ruled_step : (s : Scenario) (driver : ℕ) (one : Step) → IsScenario s → driver ≤ 7 → is_ruled s.config driver one ≡ true → sum_by length s.drivers < MAX_ROWS → IsScenario (record s { drivers = push_at s.drivers driver one })
ruled_step s driver one h there ruled room =
    let eight = h.eight in
    let more = sum_pushed s.drivers driver one (omega arith) in
    record {
      eight = length-pushed s.drivers driver one ∙ h.eight;
      lanes = h.lanes;
      ruled = all_pushed (λ d o. is_ruled s.config d o ≡ true) s.drivers driver one (omega arith) h.ruled ruled;
      answered = h.answered;
      few_steps = omega arith;
      few_answers = h.few_answers;
    }

-- and so does a lane's answer more
pub ruled_answer : (s : Scenario) (lane : ℕ) (outcome : Outcome) → IsScenario s → names_lane s.config lane ≡ true → is_answer outcome ≡ true → sum_by length s.answers < MAX_ROWS → IsScenario (record s { answers = push_at s.answers lane outcome })
ruled_answer s lane outcome h named good room =
    let there : lane < length s.config.lanes = ltb-true _ _ named in
    let lanes = h.lanes in
    let more = sum_pushed s.answers lane outcome (omega arith) in
    record {
      eight = h.eight;
      lanes = length-pushed s.answers lane outcome ∙ h.lanes;
      ruled = h.ruled;
      answered = all_pushed (λ l o. is_answer o ≡ true) s.answers lane outcome (omega arith) h.answered good;
      few_steps = h.few_steps;
      few_answers = omega arith;
    }
