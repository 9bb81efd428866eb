-- the outcomes of what lanes sent in a legal history
use Rattle.std.proofs.Common.{◌≡◌, drop, get_or, append_assoc, option_to_list, ℕ, zero, suc, ◌+◌, ◌<◌, ◌≤◌, Bool, true, false, cond, List, [], ◌∷◌, ◌++◌, length, map, refl, sym, ap, ◌∙◌, arith, append-nil, Option, Some, None, not, ◌==◌, ◌&&◌, count_by, sum_by, find, unwrap_or, option_and_then}
use Rattle.std.specs.List.{list_all, range_with_len}
use Rattle.std.proofs.lemmas.Bool.{and_parts, and_from, eqb-true}
use Rattle.std.proofs.lemmas.Bool.Decides.{nat_tests}
use Rattle.std.proofs.lemmas.List.{drop_more, drop_all}
use Rattle.std.proofs.lemmas.List.Folds.{list_all-append}
use Rattle.std.proofs.lemmas.List.Sums.{sum_by-cons}
use Rattle.cam_types.specs.Topology.{Topology}
use Rattle.cam_types.specs.declared.outcome.Outcome.{Outcome}
use Rattle.cam_types.specs.declared.limits.TheConstants.{MAX_STAYS}
use Rattle.event_rules.specs.Counts.{is_in_flight}
use Rattle.event_rules.specs.Event.{is_done_of, is_send_of, outcome_of}
use Rattle.event_rules.specs.Legal.{Rules, history_rules, is_legal, is_legal_event, names_ccb}
use Rattle.event_rules.specs.Stays.{stays_begun, stay_begun, waiting}
use Rattle.event_rules.specs.declared.passage.Passage.{Passage}
use Rattle.event_rules.specs.declared.event.Event.{Event}
use Rattle.event_rules.specs.declared.event.Event.TheVariants.{Send, Done}
use Rattle.event_rules.proofs.FirstLemmas.{first-legal, stands}
use Rattle.event_rules.proofs.LawLemmas.{allowed-legal_event}
use Rattle.event_rules.proofs.LimitLemmas.{legal-induction, stays_most}
use Rattle.event_rules.proofs.ListFacts.{count_by-push}
use Rattle.event_rules.proofs.StandLemmas.{AreStates, asks-send, states_step, states_none}
use Rattle.event_rules.proofs.TotalLaws.{waiting-send, some_waits, waiting-none, waiting-one, begun-none, begun-one}
use Rattle.sense_class.specs.Classes.{status_of}
use Rattle.trace_file.specs.Scenarios.{is_answer}
use Rattle.conversions.specs.Answers.{plain, outcome_in, sent_outcome, served, lane_answers}
use Rattle.conversions.proofs.AnswerLemmas.{up_to_within, up_to_passes}

-- a completion doesn't have status 00
abbrev pub is_finished : Event → Bool
is_finished (Done ccb outcome) = is_answer outcome
is_finished _ = true

abbrev pub is_send : Event → Bool
is_send (Send lane ccb) = true
is_send _ = false

-- ---- one event more

pub served-more : (lane : ℕ) (es : List Event) (i : ℕ) (d : Event) → i < length es → served lane (drop i es) ≡ option_to_list (sent_outcome lane (get_or es i d) (drop (i + 1) es)) ++ served lane (drop (i + 1) es)
unfolding served
served-more lane es i d lt = ap (served lane) (drop_more es i d lt)

pub outcomes_more : (lane : ℕ) (es : List Event) (i : ℕ) (e : Event) (old new : List Outcome) (o : Option Outcome) → i < length es → e ≡ get_or es i e → old ++ served lane (drop i es) ≡ served lane es → o ≡ sent_outcome lane e (drop (i + 1) es) →
    new ≡ old ++ option_to_list o → new ++ served lane (drop (i + 1) es) ≡ served lane es
outcomes_more lane es i e old new o lt item so_far here is =
    ap (λ os. os ++ served lane (drop (i + 1) es)) is
    ∙ append_assoc old (option_to_list o) (served lane (drop (i + 1) es))
    ∙ ap (λ x. old ++ (option_to_list x ++ served lane (drop (i + 1) es))) (here ∙ ap (λ x. sent_outcome lane x (drop (i + 1) es)) item)
    ∙ ap (λ os. old ++ os) (sym (served-more lane es i e lt))
    ∙ so_far

pub outcomes_all : (lane : ℕ) (es : List Event) (i : ℕ) (all : List Outcome) → length es ≤ i → all ++ served lane (drop i es) ≡ served lane es → all ≡ served lane es
unfolding served
outcomes_all lane es i all end so_far =
    let none : all ++ served lane (drop i es) ≡ all = ap (λ xs. all ++ served lane xs) (drop_all i es end) ∙ append-nil all in
    sym none ∙ so_far

-- ---- none has status 00

pub finished_legal : (rules : Rules) (c : Topology) (es : List Event) → is_legal rules c es ≡ true → list_all is_finished es ≡ true
unfolding is_legal
finished_legal rules c es legal = legal-induction rules c (λ xs. list_all is_finished xs ≡ true) finished_step [] es legal refl
  where
    finished_one : (before : List Event) (e : Event) → is_legal_event rules c (before, e) ≡ true → is_finished e ≡ true
    finished_one before (Done ccb outcome) h =
        let asked = (allowed-legal_event rules c before (Done ccb outcome) h).1 in
        (and_parts (names_ccb before ccb) (not (status_of outcome == 0)) (and_parts (names_ccb before ccb && not (status_of outcome == 0)) (is_in_flight before ccb) asked).0).1
    finished_one before _ h = refl

    finished_step : (before : List Event) (e : Event) → is_legal_event rules c (before, e) ≡ true → list_all is_finished before ≡ true → list_all is_finished (before ++ e ∷ []) ≡ true
    finished_step before e h all = rw list_all-append (and_from _ _ all (and_from _ _ (finished_one before e h) refl))

outcome_answers : (ccb : ℕ) (later : List Event) → list_all is_finished later ≡ true → is_answer (outcome_in ccb later) ≡ true
unfolding outcome_in
outcome_answers ccb [] h = refl
outcome_answers ccb (Done by outcome ∷ later) h =
    let parts = and_parts (is_answer outcome) (list_all is_finished later) h in
    elim (by == ccb) as (λ b. is_answer (unwrap_or (option_and_then outcome_of (cond b (Some (Done by outcome)) (find (is_done_of ccb) later))) plain) ≡ true) [
      | true ↦ parts.0
      | false ↦ outcome_answers ccb later parts.1
    ]
outcome_answers ccb (_ ∷ later) h = outcome_answers ccb later h

pub served_answers : (lane : ℕ) (es : List Event) → list_all is_finished es ≡ true → list_all is_answer (served lane es) ≡ true
unfolding served
served_answers lane [] h = refl
served_answers lane (Send by ccb ∷ later) h =
    elim (by == lane) as (λ b. list_all is_answer (option_to_list (cond b (Some (outcome_in ccb later)) None) ++ served lane later) ≡ true) [
      | true ↦ and_from _ _ (outcome_answers ccb later h) (served_answers lane later h)
      | false ↦ served_answers lane later h
    ]
served_answers lane (Done by outcome ∷ later) h = served_answers lane later (and_parts (is_answer outcome) (list_all is_finished later) h).1
served_answers lane (_ ∷ later) h = served_answers lane later h

pub lane_answers_pass : (es : List Event) (lane : ℕ) → list_all is_finished es ≡ true → list_all is_answer (lane_answers es lane) ≡ true
unfolding lane_answers
lane_answers_pass es lane h = up_to_passes is_answer (served lane es) (served_answers lane es h)

pub answers_pass : (es : List Event) (a n : ℕ) → list_all is_finished es ≡ true → list_all (list_all is_answer) (map (lane_answers es) (range_with_len a n)) ≡ true
answers_pass es a zero h = refl
answers_pass es a (suc n) h = and_from _ _ (lane_answers_pass es a h) (answers_pass es (a + 1) n h)

-- ---- there are no more than sends, and no more of these than stays

sums_past : (f g : ℕ → ℕ) (by a n : ℕ) → by < a → ((l : ℕ) → g l ≤ f l + cond (by == l) 1 0) → sum_by g (range_with_len a n) ≤ sum_by f (range_with_len a n)
sums_past f g by a zero lt h = omega arith
sums_past f g by a (suc n) lt h =
    let apart : (by == a) ≡ false = grind (arith, nat_tests) in
    let bit : ◌≡◌ {A = ℕ} (cond (by == a) 1 0) 0 = ap (λ b. cond {A = ℕ} b 1 0) apart in
    omega (arith, sum_by-cons g a (range_with_len (a + 1) n), sum_by-cons f a (range_with_len (a + 1) n), h a, bit, sums_past f g by (a + 1) n (omega arith) h)

sums_one : (f g : ℕ → ℕ) (by a n : ℕ) → ((l : ℕ) → g l ≤ f l + cond (by == l) 1 0) → sum_by g (range_with_len a n) ≤ sum_by f (range_with_len a n) + 1
sums_one f g by a zero h = omega arith
sums_one f g by a (suc n) h =
    let gs = sum_by-cons g a (range_with_len (a + 1) n) in
    let fs = sum_by-cons f a (range_with_len (a + 1) n) in
    let here = h a in
    elim (by == a) as (λ b. (by == a) ≡ b → sum_by g (a ∷ range_with_len (a + 1) n) ≤ sum_by f (a ∷ range_with_len (a + 1) n) + 1) [
      | true ↦ λ is.
          let same : by ≡ a = eqb-true by a is in
          let bit : ◌≡◌ {A = ℕ} (cond (by == a) 1 0) 1 = ap (λ b. cond {A = ℕ} b 1 0) is in
          let rest = sums_past f g by (a + 1) n (omega arith) h in
          omega arith
      | false ↦ λ is.
          let bit : ◌≡◌ {A = ℕ} (cond (by == a) 1 0) 0 = ap (λ b. cond {A = ℕ} b 1 0) is in
          let rest = sums_one f g by (a + 1) n h in
          omega arith
    ] refl

sums_le : (f g : ℕ → ℕ) (a n : ℕ) → ((l : ℕ) → g l ≤ f l) → sum_by g (range_with_len a n) ≤ sum_by f (range_with_len a n)
sums_le f g a zero h = omega arith
sums_le f g a (suc n) h = omega (arith, sum_by-cons g a (range_with_len (a + 1) n), sum_by-cons f a (range_with_len (a + 1) n), h a, sums_le f g (a + 1) n h)

sums_none : (a n : ℕ) → sum_by (λ (l : ℕ). 0) (range_with_len a n) ≡ 0
sums_none a zero = refl
sums_none a (suc n) = omega (arith, sum_by-cons (λ (l : ℕ). 0) a (range_with_len (a + 1) n), sums_none (a + 1) n)

-- how many outcomes that many lanes have
abbrev served_in : List Event → ℕ → ℕ
served_in es n = sum_by (λ lane. length (served lane es)) (range_with_len 0 n)

bit_length : (b : Bool) (o : Outcome) (os : List Outcome) → length (option_to_list (cond b (Some o) None) ++ os) ≤ length os + cond b 1 0
bit_length true o os = omega arith
bit_length false o os = omega arith

served_most : (es : List Event) (n : ℕ) → served_in es n ≤ count_by is_send es
unfolding served
served_most [] n = omega (arith, sums_none 0 n)
served_most (Send by ccb ∷ later) n =
    let more = sums_one (λ lane. length (served lane later)) (λ lane. length (served lane (Send by ccb ∷ later))) by 0 n (λ lane. bit_length (by == lane) (outcome_in ccb later) (served lane later)) in
    omega (arith, more, served_most later n, sum_by-cons (λ e. cond {A = ℕ} (is_send e) 1 0) (Send by ccb) later)
served_most (e ∷ later) n = omega (arith, served_most later n, sum_by-cons (λ x. cond {A = ℕ} (is_send x) 1 0) e later)

-- sends and stays that wait are as many as stays
record AreCounted (es : List Event) : Type 0 where
  states : AreStates es
  all : count_by is_send es + length (waiting es) ≡ length (stays_begun es)

other_step : (es : List Event) (e : Event) → is_send e ≡ false → ((x : Passage) → not (is_send_of x.ccb e) ≡ true) → count_by is_send es + length (waiting es) ≡ length (stays_begun es) →
    count_by is_send (es ++ e ∷ []) + length (waiting (es ++ e ∷ [])) ≡ length (stays_begun (es ++ e ∷ []))
other_step es e none unsent h =
    let sends : count_by is_send (es ++ e ∷ []) ≡ count_by is_send es = count_by-push is_send es e ∙ rw none (omega arith) in
    elim (stay_begun (es, e)) as (λ o. stay_begun (es, e) ≡ o → count_by is_send (es ++ e ∷ []) + length (waiting (es ++ e ∷ [])) ≡ length (stays_begun (es ++ e ∷ []))) [
      | None ↦ λ is. omega (arith, sends, h, waiting-none es e unsent is, begun-none es e is)
      | Some p ↦ λ is. omega (arith, sends, h, waiting-one es e p unsent is, begun-one es e p is)
    ] refl

count_step : (rules : Rules) (c : Topology) (es : List Event) (e : Event) → is_legal_event rules c (es, e) ≡ true → AreStates es → count_by is_send es + length (waiting es) ≡ length (stays_begun es) →
    count_by is_send (es ++ e ∷ []) + length (waiting (es ++ e ∷ [])) ≡ length (stays_begun (es ++ e ∷ []))
count_step rules c es (Send lane ccb) legal states h =
    let asked = asks-send rules c es lane ccb legal in
    let turn = first-legal c es lane ccb asked.1 in
    let one = (stands c es ccb turn.0 states turn.1).unsent in
    omega (arith, h, count_by-push is_send es (Send lane ccb), waiting-send es lane ccb one, some_waits es ccb one, begun-none es (Send lane ccb) refl)
count_step rules c es e legal states h = other_step es e refl (λ x. refl) h

counted_step : (rules : Rules) (c : Topology) (es : List Event) (e : Event) → is_legal_event rules c (es, e) ≡ true → AreCounted es → AreCounted (es ++ e ∷ [])
counted_step rules c es e legal h = record { states = states_step rules c es e legal h.states; all = count_step rules c es e legal h.states h.all }

counted_legal : (rules : Rules) (c : Topology) (es : List Event) → is_legal rules c es ≡ true → AreCounted es
unfolding is_legal waiting stays_begun
counted_legal rules c es legal = legal-induction rules c AreCounted (counted_step rules c) [] es legal (record { states = states_none; all = refl })

pub few_answers : (c : Topology) (es : List Event) (n : ℕ) → is_legal history_rules c es ≡ true → sum_by (λ lane. length (lane_answers es lane)) (range_with_len 0 n) ≤ MAX_STAYS
unfolding lane_answers
few_answers c es n legal =
    let cut = sums_le (λ lane. length (served lane es)) (λ lane. length (lane_answers es lane)) 0 n (λ lane. up_to_within (served lane es)) in
    let all = (counted_legal history_rules c es legal).all in
    omega (arith, cut, served_most es n, all, stays_most c es legal)
