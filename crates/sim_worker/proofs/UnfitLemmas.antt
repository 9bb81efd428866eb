-- where a driver's log doesn't go by its rows
use Rattle.std.proofs.Common.{◌≡◌, ◌≢◌, ℕ, zero, suc, ◌<◌, ◌≤◌, true, false, List, [], ◌∷◌, ◌++◌, length, refl, sym, ap, ◌∙◌, subst, arith, Some, inl, inr, take, drop, slice_get, length-append}
use Rattle.std.specs.List.{list_all}
use Rattle.std.proofs.lemmas.Bool.{and_parts}
use Rattle.event_rules.proofs.QueueLaws.{test_le}
use Rattle.sim_worker.specs.Words.{round, Event, Tick, rules_of, Scenario, Step, Receipt, refusal, is_tick}
use Rattle.trace_file.specs.declared.step.Step.TheVariants as step
use Rattle.sim_worker.specs.Logs.{StandsAt, FollowsRows, IsDriverLog, LetsRest, Rests, WasRefused, acts, is_of_rules, made_before}
use Rattle.sim_worker.specs.Runs.{is_over}
use Rattle.sim_worker.specs.Walks.{IsBehindPauses, IsSettled, Walk}
use Rattle.sim_worker.proofs.RunListFacts.{take_front, take_whole, less_or_not}

-- Of two rows by which the same calls are made, the first is a call or a pause that isn't over. So the second is no later.
not_passed : (steps : List Step) (now a b : ℕ) → a < b → b ≤ length steps → IsBehindPauses steps now a → acts (take a steps) ≡ acts (take b steps) → list_all (is_over now) (take b steps) ≡ true → ⊥
not_passed [] now a b lt le behind same over = absurd (omega arith)
not_passed (x ∷ xs) now (suc a) zero lt le behind same over = absurd (omega arith)
not_passed (x ∷ xs) now zero zero lt le behind same over = absurd (omega arith)
not_passed (step.Act e ∷ xs) now zero (suc b) lt le behind same over = absurd (cc)
not_passed (step.Pause n ∷ xs) now zero (suc b) lt le behind same over =
    let later : now < n = behind n refl in
    let passed : n ≤ now = test_le n now (and_parts (is_over now (step.Pause n)) (list_all (is_over now) (take b xs)) over).0 in
    absurd (omega arith)
not_passed (step.Act e ∷ xs) now (suc a) (suc b) lt le behind same over =
    not_passed xs now a b (omega arith) (omega arith) behind (ap (drop 1) same) (and_parts true (list_all (is_over now) (take b xs)) over).1
not_passed (step.Pause n ∷ xs) now (suc a) (suc b) lt le behind same over =
    not_passed xs now a b (omega arith) (omega arith) behind same (and_parts (is_over now (step.Pause n)) (list_all (is_over now) (take b xs)) over).1

-- a driver stands at one row that isn't a pause that is over
same_row : (steps : List Step) (made : List Event) (now a b : ℕ) → StandsAt steps made now a → StandsAt steps made now b → IsBehindPauses steps now a → IsBehindPauses steps now b → a ≡ b
same_row steps made now a b at_a at_b behind_a behind_b = elim (less_or_not a b) [
  | inl less ↦ absurd (not_passed steps now a b less at_b.within behind_a (sym at_a.made ∙ at_b.made) at_b.over)
  | inr rest ↦ elim (less_or_not b a) [
    | inl less ↦ absurd (not_passed steps now b a less at_a.within behind_b (sym at_b.made ∙ at_a.made) at_a.over)
    | inr other ↦ omega arith
  ]
]

-- ---- resting

-- a row that lets its driver rest isn't a pause that is over
rests_behind : (s : Scenario) (steps : List Step) (log : List Receipt) (before : List Event) (row : ℕ) → LetsRest s log before (slice_get steps row) → IsBehindPauses steps (round before) row
rests_behind s steps log before row rests n there = subst (LetsRest s log before) there rests

-- a settled driver whose row doesn't let it rest doesn't rest
pub not_resting : (s : Scenario) (steps : List Step) (log : List Receipt) (before : List Event) (w : Walk) → IsSettled s steps log before w → (LetsRest s log before (slice_get steps w.row) → ⊥) → Rests s steps log before → ⊥
not_resting s steps log before w h busy rests =
    let same : rests.row ≡ w.row = same_row steps (made_before (length before) log) (round before) rests.row w.row rests.stands h.walk.stands (rests_behind s steps log before rests.row rests.rests) h.behind in
    busy (subst (λ row. LetsRest s log before (slice_get steps row)) same rests.rests)

last_at : {X : Type 0} → (xs : List X) (x : X) → slice_get (xs ++ x ∷ []) (length xs) ≡ Some x
last_at [] x = refl
last_at (y ∷ ys) x = last_at ys x

tick_is : (e : Event) → is_tick e ≡ true → Tick ≡ e
tick_is Tick h = refl
tick_is _ h = absurd (cc)

all_before : {X : Type 0} → (xs : List X) (x : X) → take (length xs) (xs ++ x ∷ []) ≡ xs
all_before xs x = take_front xs (x ∷ []) (length xs) (omega arith) ∙ take_whole xs (length xs) (omega arith)

-- it doesn't go by its rows, if a round opens
pub no_round : (s : Scenario) (steps : List Step) (log : List Receipt) (before : List Event) (e : Event) (w : Walk) → is_tick e ≡ true → IsSettled s steps log before w → (LetsRest s log before (slice_get steps w.row) → ⊥) → IsDriverLog s steps log (before ++ e ∷ []) → ⊥
no_round s steps log before e w tick h busy its =
    let at : slice_get (before ++ e ∷ []) (length before) ≡ Some Tick = last_at before e ∙ ap (λ x. Some x) (sym (tick_is e tick)) in
    not_resting s steps log before w h busy (subst (Rests s steps log) (all_before before e) (its.rests (length before) at))

-- ---- calls

-- it doesn't, if its next call is another than its row's
pub other_call : (s : Scenario) (steps : List Step) (log : List Receipt) (before : List Event) (e : Event) (w : Walk) (r : Receipt) → IsSettled s steps log before w → slice_get log w.made ≡ Some r → r.at ≡ length before → slice_get steps w.row ≢ Some (step.Act r.event) →
    FollowsRows steps log (before ++ e ∷ []) → ⊥
other_call s steps log before e w r h there at other follows =
    let known = follows w.made r there (omega (arith, at, length-append before (e ∷ []))) in
    let prefix : take r.at (before ++ e ∷ []) ≡ before = ap (λ n. take n (before ++ e ∷ [])) at ∙ all_before before e in
    let stands : StandsAt steps (made_before (length before) log) (round before) known.0 =
    subst (λ es. StandsAt steps (made_before (length before) log) (round es) known.0) prefix (subst (λ n. StandsAt steps (made_before n log) (round (take r.at (before ++ e ∷ []))) known.0) at known.1) in
    let same : known.0 ≡ w.row = same_row steps (made_before (length before) log) (round before) known.0 w.row stands h.walk.stands (λ n pause. absurd (no_pause n r.event (sym pause ∙ known.2))) h.behind in
    other (ap (slice_get steps) (sym same) ∙ known.2)
  where
    no_pause : (n : ℕ) (x : Event) → Some (step.Pause n) ≡ Some (step.Act x) → ⊥
    no_pause n x e = cc
