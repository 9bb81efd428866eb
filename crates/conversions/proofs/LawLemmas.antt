-- what a script asks for, and what it answers
use Rattle.std.proofs.Common.{◌≡◌, ℕ, zero, suc, ◌+◌, ◌<◌, ◌≤◌, Bool, true, false, cond, max, List, [], ◌∷◌, ◌++◌, map, filter, filter_map, fold, get_or, refl, sym, ap, ◌∙◌, arith, zero-add, Option, Some, None, ◌==◌, ◌&&◌, ◌||◌, nat_lt, option_map, count_by, sum_by}
use Rattle.std.specs.List.{AllByRecursion, cons_option, flat_map, range_with_len}
use Rattle.std.proofs.lemmas.Bool.{ltb-true, ltb-false}
use Rattle.std.proofs.lemmas.Grind.{fold-append}
use Rattle.std.proofs.lemmas.List.Concat.{flat_map-cons}
use Rattle.std.proofs.lemmas.List.Elements.{filter_map-append}
use Rattle.std.proofs.lemmas.List.Sums.{sum_by-cons}
use Rattle.cam_types.specs.Lists.{prefixed_after}
use Rattle.event_rules.specs.Counts.{round}
use Rattle.event_rules.specs.Event.{submission_of}
use Rattle.event_rules.specs.Sorted.{insert_by}
use Rattle.event_rules.specs.declared.event.Event.{Event}
use Rattle.event_rules.specs.declared.event.Event.TheVariants.{Submit}
use Rattle.event_rules.specs.declared.submission.Submission.{Submission}
use Rattle.event_rules.proofs.PushLaws.{round-push}
use Rattle.event_rules.proofs.LimitLemmas.{round_first}
use Rattle.recording_file.specs.declared.request.Request.{Request}
use Rattle.trace_file.specs.declared.step.Step.{Step}
use Rattle.trace_file.proofs.ScriptRules.{sum_by-map}
use Rattle.trace_file.specs.declared.step.Step.TheVariants.{Act, Pause}
use Rattle.conversions.specs.Answers.{plain, is_other, served, up_to_other, lane_answers, answers_of, others}
use Rattle.conversions.specs.Arrivals.{Arrival, arrivals, arrival_by, arrival_of, in_round, requested, round_key}
use Rattle.conversions.specs.Laws.{act, asked, is_submit_by, timed}
use Rattle.conversions.specs.Steps.{is_by, last_round, steps_at, steps_for, steps_from, steps_of, submit}
use Rattle.conversions.proofs.AnswerLemmas.{same_answers, none_left}

-- ---- each driver's submits, and nothing else

acts_from : (now : ℕ) (a : Arrival) → filter_map act (steps_from now a) ≡ submit a.submission ∷ []
acts_from now a = elim (nat_lt now a.round) as (λ b. filter_map act (cond b (Pause a.round ∷ []) [] ++ Act (submit a.submission) ∷ []) ≡ submit a.submission ∷ []) [ true ↦ refl | false ↦ refl ]

acts_at : (before own : List Arrival) → filter_map act (flat_map steps_at (prefixed_after before own)) ≡ map (λ (a : Arrival). submit a.submission) own
acts_at before [] = refl
acts_at before (a ∷ own) =
    let rest = flat_map steps_at (prefixed_after (before ++ a ∷ []) own) in
    ap (filter_map act) (flat_map-cons steps_at (before, a) (prefixed_after (before ++ a ∷ []) own))
    ∙ filter_map-append act (steps_from (last_round before) a) rest
    ∙ ap (λ xs. xs ++ filter_map act rest) (acts_from (last_round before) a)
    ∙ ap (λ xs. submit a.submission ∷ xs) (acts_at (before ++ a ∷ []) own)

own_submits : (d : ℕ) (before es : List Event) → map (λ (a : Arrival). submit a.submission) (filter (is_by d) (filter_map arrival_of (prefixed_after before es))) ≡ filter (is_submit_by d) es
own_submits d before [] = refl
own_submits d before (Submit driver device priority retries flags ∷ es) =
    let e = Submit driver device priority retries flags in
    let as' = filter_map arrival_of (prefixed_after (before ++ e ∷ []) es) in
    let a : Arrival = record { round = round before; submission = record { driver = driver; device = device; priority = priority; retries = retries; flags = flags } } in
    elim (driver == d) as (λ b. map (λ (x : Arrival). submit x.submission) (cond b (a ∷ filter (is_by d) as') (filter (is_by d) as')) ≡ cond b (e ∷ filter (is_submit_by d) es) (filter (is_submit_by d) es)) [
      | true ↦ ap (λ xs. e ∷ xs) (own_submits d (before ++ e ∷ []) es)
      | false ↦ own_submits d (before ++ e ∷ []) es
    ]
own_submits d before (e ∷ es) = own_submits d (before ++ e ∷ []) es

pub in_order : (events : List Event) (d : ℕ) → filter_map act (steps_of (arrivals events) d) ≡ filter (is_submit_by d) events
unfolding steps_of steps_for arrivals
in_order events d = acts_at [] (filter (is_by d) (filter_map arrival_of (prefixed_after [] events))) ∙ own_submits d [] events

-- ---- in their rounds

-- rounds that never fall, from this one on
pub Rises : ℕ → List Arrival → Type 0
Rises now [] = Unit {0}
Rises now (a ∷ as') = (now ≤ a.round) × Rises a.round as'

rises_lower : (low now : ℕ) (as' : List Arrival) → low ≤ now → Rises now as' → Rises low as'
unfolding Rises
rises_lower low now [] le h = tt
rises_lower low now (a ∷ as') le h = (omega (arith, h.0), h.1)

rises_filter : (p : Arrival → Bool) (now : ℕ) (as' : List Arrival) → Rises now as' → Rises now (filter p as')
unfolding Rises
rises_filter p now [] h = tt
rises_filter p now (a ∷ as') h = elim (p a) as (λ b. Rises now (cond b (a ∷ filter p as') (filter p as'))) [
  | true ↦ (h.0, rises_filter p a.round as' h.1)
  | false ↦ rises_filter p now as' (rises_lower now a.round as' h.0 h.1)
]

asked_one : (now : ℕ) (a : Arrival) (rest : List Step) → now ≤ a.round → asked now (steps_from now a ++ rest) ≡ timed a ∷ asked a.round rest
asked_one now a rest le = elim (nat_lt now a.round) as (λ b. nat_lt now a.round ≡ b → asked now ((cond b (Pause a.round ∷ []) [] ++ Act (submit a.submission) ∷ []) ++ rest) ≡ timed a ∷ asked a.round rest) [
  | true ↦ λ is.
      let lt = ltb-true now a.round is in
      let most : max now a.round ≡ a.round = omega arith in
      ap (λ r. (r, submit a.submission) ∷ asked r rest) most
  | false ↦ λ is.
      let past = ltb-false now a.round is in
      let same : now ≡ a.round = omega arith in
      ap (λ r. (r, submit a.submission) ∷ asked r rest) same
] refl

asked_at : (before own : List Arrival) → Rises (last_round before) own → asked (last_round before) (flat_map steps_at (prefixed_after before own)) ≡ map timed own
unfolding Rises
asked_at before [] h = refl
asked_at before (a ∷ own) h =
    let rest = flat_map steps_at (prefixed_after (before ++ a ∷ []) own) in
    let last : last_round (before ++ a ∷ []) ≡ a.round = fold-append (λ r (x : Arrival). x.round) 1 before (a ∷ []) in
    ap (asked (last_round before)) (flat_map-cons steps_at (before, a) (prefixed_after (before ++ a ∷ []) own))
    ∙ asked_one (last_round before) a rest h.0
    ∙ ap (λ r. timed a ∷ asked r rest) (sym last)
    ∙ ap (λ xs. timed a ∷ xs) (asked_at (before ++ a ∷ []) own (rw last h.1))

pub in_rounds : (all : List Arrival) (d : ℕ) → Rises 1 all → asked 1 (steps_of all d) ≡ map timed (filter (is_by d) all)
unfolding steps_of steps_for
in_rounds all d h = asked_at [] (filter (is_by d) all) (rises_filter (is_by d) 1 all h)

-- those of a history
rises_none : (r : ℕ) (o : Option Submission) (as' : List Arrival) → Rises r as' → Rises r (cons_option (option_map (in_round r) o) as')
unfolding Rises
rises_none r None as' h = h
rises_none r (Some s) as' h = (omega arith, h)

history_rises : (before es : List Event) → Rises (round before) (filter_map arrival_of (prefixed_after before es))
unfolding Rises
history_rises before [] = tt
history_rises before (e ∷ es) =
    let later : round before ≤ round (before ++ e ∷ []) = omega (arith, round-push before e) in
    rises_none (round before) (submission_of e) (filter_map arrival_of (prefixed_after (before ++ e ∷ []) es)) (rises_lower (round before) (round (before ++ e ∷ [])) _ later (history_rises (before ++ e ∷ []) es))

pub history_in_rounds : (events : List Event) (d : ℕ) → asked 1 (steps_of (arrivals events) d) ≡ map timed (filter (is_by d) (arrivals events))
unfolding arrivals
history_in_rounds events d = in_rounds (filter_map arrival_of (prefixed_after [] events)) d (rises_lower 1 (round []) _ (round_first []) (history_rises [] events))

-- those of a recording
less_one : (x y : Bool) → (x || (y && false)) ≡ x
less_one true y = refl
less_one false true = refl
less_one false false = refl

rises_insert : (now : ℕ) (ys : List Arrival) (x : Arrival) → now ≤ x.round → Rises now ys → Rises now (insert_by round_key ys x)
unfolding Rises
rises_insert now [] x le h = (le, tt)
rises_insert now (y ∷ ys) x le h =
    rw (less_one (nat_lt x.round y.round) (x.round == y.round)) (elim (nat_lt x.round y.round) as (λ b. nat_lt x.round y.round ≡ b → Rises now (cond b (x ∷ y ∷ ys) (y ∷ insert_by round_key ys x))) [
      | true ↦ λ is. let lt = ltb-true x.round y.round is in (le, (omega arith, h.1))
      | false ↦ λ is. (h.0, rises_insert y.round ys x (ltb-false x.round y.round is) h.1)
    ] refl)

rises_all : (ys : List Arrival) (qs : List Request) → AllByRecursion (λ (q : Request). 1 ≤ q.arrival) qs → Rises 1 ys → Rises 1 (fold (insert_by round_key) ys (map arrival_by qs))
rises_all ys [] all h = h
rises_all ys (q ∷ qs) all h = rises_all (insert_by round_key ys (arrival_by q)) qs all.1 (rises_insert 1 ys (arrival_by q) all.0 h)

no_arrivals : Rises 1 []
unfolding Rises
no_arrivals = tt

pub requests_in_rounds : (requests : List Request) (d : ℕ) → AllByRecursion (λ (q : Request). 1 ≤ q.arrival) requests → asked 1 (steps_of (requested requests) d) ≡ map timed (filter (is_by d) (requested requests))
unfolding requested
requests_in_rounds requests d all = in_rounds (fold (insert_by round_key) [] (map arrival_by requests)) d (rises_all [] requests all no_arrivals)

-- ---- answers

pub those_served : (events : List Event) (lane k : ℕ) → get_or (lane_answers events lane) k plain ≡ get_or (served lane events) k plain
unfolding lane_answers
those_served events lane k = same_answers (served lane events) k

none_of_sum : (f : ℕ → ℕ) (a n k : ℕ) → sum_by f (range_with_len a n) ≡ 0 → k < n → f (a + k) ≡ 0
none_of_sum f a zero k none lt = absurd (omega arith)
none_of_sum f a (suc n) zero none lt =
    let same : a + 0 ≡ a = omega arith in
    rw same (omega (arith, none, sum_by-cons f a (range_with_len (a + 1) n)))
none_of_sum f a (suc n) (suc k) none lt =
    let same : a + suc k ≡ (a + 1) + k = omega arith in
    rw same (none_of_sum f (a + 1) n k (omega (arith, none, sum_by-cons f a (range_with_len (a + 1) n))) (omega arith))

pub exact : (events : List Event) (lanes lane k : ℕ) → lane < lanes → others (answers_of events lanes) ≡ 0 → (lane_answers events lane ≡ []) × (get_or (served lane events) k plain ≡ plain)
unfolding answers_of lane_answers
exact events lanes lane k lt none =
    let sum : sum_by (λ l. count_by is_other (lane_answers events l)) (range_with_len 0 lanes) ≡ 0 = sym (sum_by-map (lane_answers events) (count_by is_other) (range_with_len 0 lanes)) ∙ none in
    let one : count_by is_other (up_to_other (served lane events)) ≡ 0 = ap (λ l. count_by is_other (lane_answers events l)) (sym (zero-add lane)) ∙ none_of_sum (λ l. count_by is_other (lane_answers events l)) 0 lanes lane sum lt in
    let empty = none_left (served lane events) one in
    (empty, sym (same_answers (served lane events) k) ∙ ap (λ os. get_or os k plain) empty)
