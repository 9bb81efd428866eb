-- what a legal history gives a script
use Rattle.std.proofs.Common.{◌≡◌, ℕ, zero, suc, ◌+◌, ◌≤◌, true, List, [], ◌∷◌, ◌++◌, length, map, refl, sym, ap, ◌∙◌, arith, Option, Some, None, Vec, Global, option_map, sum_by, count_by}
use Rattle.std.specs.List.{cons_option, list_all, filter_map, range_with_len}
use Rattle.std.proofs.lemmas.List.{length-map}
use Rattle.std.proofs.lemmas.List.Folds.{list_all-map}
use Rattle.cam_types.specs.Lists.{prefixed_after}
use Rattle.cam_types.specs.Topology.{Topology}
use Rattle.cam_types.specs.declared.outcome.Outcome.{Outcome}
use Rattle.event_rules.specs.Counts.{round, submissions}
use Rattle.event_rules.specs.Event.{submission_of}
use Rattle.event_rules.specs.Laws.{is_in_range}
use Rattle.event_rules.specs.Legal.{history_rules, is_legal}
use Rattle.event_rules.specs.declared.event.Event.{Event}
use Rattle.event_rules.specs.declared.submission.Submission.{Submission}
use Rattle.event_rules.proofs.ListFacts.{length-filter_map, length-prefixed_after}
use Rattle.event_rules.proofs.RangeLemmas.{submissions_in_range}
use Rattle.trace_file.specs.Scenarios.{is_answer}
use Rattle.trace_file.specs.declared.script_parser.TheConstants.{MAX_ROWS}
use Rattle.trace_file.proofs.ScriptRules.{all_items, few_items, sum_by-map}
use Rattle.conversions.specs.Answers.{is_other, lane_answers, answers_of, others}
use Rattle.conversions.specs.Arrivals.{Arrival, arrival_of, arrivals, in_round}
use Rattle.conversions.proofs.ServedLemmas.{answers_pass, few_answers, finished_legal}

pub arrivals_few : (es : List Event) → length (arrivals es) ≤ length es
unfolding arrivals
arrivals_few es = omega (arith, length-filter_map arrival_of (prefixed_after [] es), length-prefixed_after [] es)

same_one : (r : ℕ) (o : Option Submission) (as' : List Arrival) (ss : List Submission) → map (λ (a : Arrival). a.submission) as' ≡ ss → map (λ (a : Arrival). a.submission) (cons_option (option_map (in_round r) o) as') ≡ cons_option o ss
same_one r None as' ss h = h
same_one r (Some s) as' ss h = ap (λ xs. s ∷ xs) h

same_submissions : (before es : List Event) → map (λ (a : Arrival). a.submission) (filter_map arrival_of (prefixed_after before es)) ≡ filter_map submission_of es
same_submissions before [] = refl
same_submissions before (e ∷ es) = same_one (round before) (submission_of e) (filter_map arrival_of (prefixed_after (before ++ e ∷ []) es)) (filter_map submission_of es) (same_submissions (before ++ e ∷ []) es)

pub arrivals_ranged : (c : Topology) (es : List Event) → is_legal history_rules c es ≡ true → list_all (λ (a : Arrival). is_in_range c a.submission) (arrivals es) ≡ true
unfolding arrivals submissions
arrivals_ranged c es legal =
    sym (list_all-map (is_in_range c) (λ (a : Arrival). a.submission) (filter_map arrival_of (prefixed_after [] es)))
    ∙ ap (list_all (is_in_range c)) (same_submissions [] es)
    ∙ submissions_in_range history_rules c es legal

-- ---- the answers of lanes, as vectors

abbrev pub lists : List (Vec Outcome Global) → List (List Outcome)
lists vs = map (λ v. v.items) vs

length_range : (a n : ℕ) → length (range_with_len a n) ≡ n
length_range a zero = refl
length_range a (suc n) = ap suc (length_range (a + 1) n)

pub lanes_many : (es : List Event) (n : ℕ) (vs : List (Vec Outcome Global)) → lists vs ≡ answers_of es n → length vs ≡ n
unfolding answers_of
lanes_many es n vs same = sym (length-map vs (λ (v : Vec Outcome Global). v.items)) ∙ ap length same ∙ length-map (range_with_len 0 n) (lane_answers es) ∙ length_range 0 n

pub lanes_answer : (c : Topology) (es : List Event) (n : ℕ) (vs : List (Vec Outcome Global)) → is_legal history_rules c es ≡ true → lists vs ≡ answers_of es n → list_all (λ v. list_all is_answer v.items) vs ≡ true
unfolding answers_of
lanes_answer c es n vs legal same = all_items is_answer vs ∙ ap (list_all (list_all is_answer)) same ∙ answers_pass es 0 n (finished_legal history_rules c es legal)

pub lanes_few : (c : Topology) (es : List Event) (n : ℕ) (vs : List (Vec Outcome Global)) → is_legal history_rules c es ≡ true → lists vs ≡ answers_of es n → sum_by (λ v. length v.items) vs ≤ MAX_ROWS
unfolding answers_of
lanes_few c es n vs legal same =
    let sum : sum_by (λ (v : Vec Outcome Global). length v.items) vs ≡ sum_by (λ lane. length (lane_answers es lane)) (range_with_len 0 n) =
    few_items vs ∙ ap (sum_by length) same ∙ sum_by-map (lane_answers es) length (range_with_len 0 n) in
    omega (arith, sum, few_answers c es n legal)

pub others_in : (vs : List (Vec Outcome Global)) (answers : List (List Outcome)) → lists vs ≡ answers → sum_by (λ v. count_by is_other v.items) vs ≡ others answers
others_in vs answers same = sym (sum_by-map (λ (v : Vec Outcome Global). v.items) (count_by is_other) vs) ∙ ap (sum_by (count_by is_other)) same
