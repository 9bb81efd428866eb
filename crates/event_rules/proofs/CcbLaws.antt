-- what one event more makes of a CCB's results, requeues and end
use Rattle.std.proofs.Common.{◌≡◌, ℕ, ◌+◌, ◌≤◌, Bool, true, false, cond, List, [], ◌∷◌, ◌++◌, refl, ap, ◌∙◌, arith, Option, Some, append-nil, append_assoc, ◌&&◌, ◌||◌, not, count_by, option_and_then}
use Rattle.std.specs.List.{list_any}
use Rattle.std.proofs.lemmas.List.Folds.{list_any-append}
use Rattle.cam_types.specs.Lists.{prefixed}
use Rattle.cam_types.proofs.ListLemmas.{prefixed-push}
use Rattle.sense_class.specs.Classes.{is_counted, kind_of}
use Rattle.event_rules.specs.Event.{is_some_and, is_done_of, is_requeue_of, outcome_of, ends, Event}
use Rattle.event_rules.specs.Counts.{last, last_result, is_counted_requeue, counted_requeues}
use Rattle.event_rules.proofs.ListFacts.{count_by-push}
use Rattle.event_rules.proofs.StateLaws.{last-push}

-- what holds of no events, and after one event more, holds of all lists
induction-from : (P : List Event → Type 0) → ((es : List Event) (e : Event) → P es → P (es ++ e ∷ [])) → (before after : List Event) → P before → P (before ++ after)
induction-from P step before [] h = rw (append-nil before) h
induction-from P step before (e ∷ after) h = rw (← append_assoc before (e ∷ []) after) (induction-from P step (before ++ e ∷ []) after (step before e h))

pub event-induction : (P : List Event → Type 0) → P [] → ((es : List Event) (e : Event) → P es → P (es ++ e ∷ [])) → (es : List Event) → P es
event-induction P start step es = induction-from P step [] es start

result_cases : (e : Event) (t : Bool) (o : Option Event) → option_and_then outcome_of (cond t (Some e) o) ≡ cond t (outcome_of e) (option_and_then outcome_of o)
result_cases e true o = refl
result_cases e false o = refl

pub last_result-push : (es : List Event) (e : Event) (c : ℕ) → last_result (es ++ e ∷ []) c ≡ cond (is_done_of c e) (outcome_of e) (last_result es c)
unfolding last_result
last_result-push es e c = ap (option_and_then outcome_of) (last-push (is_done_of c) es e) ∙ result_cases e (is_done_of c e) (last (is_done_of c) es)

pub counted_requeues-push : (es : List Event) (e : Event) (c : ℕ) → counted_requeues (es ++ e ∷ []) c ≡ counted_requeues es c + cond (is_counted_requeue c (es, e)) 1 0
unfolding counted_requeues
counted_requeues-push es e c = rw prefixed-push (count_by-push (is_counted_requeue c) (prefixed es) (es, e))

pub requeues-push : (es : List Event) (e : Event) (c : ℕ) → count_by (is_requeue_of c) (es ++ e ∷ []) ≡ count_by (is_requeue_of c) es + cond (is_requeue_of c e) 1 0
requeues-push es e c = count_by-push (is_requeue_of c) es e

-- some event more may end it
or_one : (a b : Bool) → (a || (b || false)) ≡ (a || b)
or_one true b = refl
or_one false true = refl
or_one false false = refl

pub ends-push : (es : List Event) (e : Event) (c : ℕ) → list_any (ends c) (es ++ e ∷ []) ≡ (list_any (ends c) es || ends c e)
ends-push es e c = list_any-append (ends c) es (e ∷ []) ∙ or_one (list_any (ends c) es) (ends c e)

not_or : (a b : Bool) → not (a || b) ≡ (not a && not b)
not_or true b = refl
not_or false b = refl

-- it has not ended where it had not and the event does not end it
pub not_ended-push : (es : List Event) (e : Event) (c : ℕ) → not (list_any (ends c) (es ++ e ∷ [])) ≡ (not (list_any (ends c) es) && not (ends c e))
not_ended-push es e c = ap not (ends-push es e c) ∙ not_or (list_any (ends c) es) (ends c e)

-- no more requeues count than there are
counted_le : (t u : Bool) → cond (t && u) 1 0 ≤ cond {A = ℕ} t 1 0
counted_le true true = omega arith
counted_le true false = omega arith
counted_le false u = omega arith

counted_step : (c : ℕ) (es : List Event) (e : Event) → counted_requeues es c ≤ count_by (is_requeue_of c) es → counted_requeues (es ++ e ∷ []) c ≤ count_by (is_requeue_of c) (es ++ e ∷ [])
counted_step c es e h = omega (arith, counted_requeues-push es e c, requeues-push es e c, counted_le (is_requeue_of c e) (is_some_and (λ o. is_counted (kind_of o)) (last_result es c)))

counted_none : (c : ℕ) → counted_requeues [] c ≤ count_by (is_requeue_of c) []
unfolding counted_requeues
counted_none c = omega arith

pub few_counted : (es : List Event) (c : ℕ) → counted_requeues es c ≤ count_by (is_requeue_of c) es
few_counted es c = event-induction (λ xs. counted_requeues xs c ≤ count_by (is_requeue_of c) xs) (counted_none c) (counted_step c) es
