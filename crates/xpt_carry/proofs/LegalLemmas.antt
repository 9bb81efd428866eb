-- events that are legal one after another, by the rules of these limits
use Rattle.std.proofs.Common.{◌≡◌, ℕ, zero, suc, ◌+◌, ◌<◌, ◌≤◌, true, List, [], ◌∷◌, ◌++◌, length, map, refl, sym, ap, ◌∙◌, arith, append_assoc, append-nil, length-append, Option, Some, None, not, filter_map, option_to_list}
use Rattle.std.specs.List.{list_all, list_any, range_with_len}
use Rattle.std.proofs.lemmas.Bool.{and_parts, and_from, lt-ltb}
use Rattle.std.proofs.lemmas.List.FromFn.{length-range_with_len}
use Rattle.std.proofs.lemmas.List.Sums.{count_by-le-length}
use Rattle.cam_types.specs.Bounds.{Bounds}
use Rattle.cam_types.specs.Lists.{prefixed_after, first_answer}
use Rattle.cam_types.specs.Topology.{Topology}
use Rattle.event_rules.specs.Counts.{alive, ccbs, commands}
use Rattle.event_rules.specs.Event.{ends}
use Rattle.event_rules.specs.Laws.{is_in_range}
use Rattle.event_rules.specs.Legal.{Rules, rules_of, is_allowed, is_legal, is_legal_event}
use Rattle.event_rules.specs.Stays.{stays_begun}
use Rattle.event_rules.specs.declared.event.Event.{Event}
use Rattle.event_rules.specs.declared.submission.Submission.{Submission}
use Rattle.event_rules.proofs.LawLemmas.{legal-push}
use Rattle.event_rules.proofs.LegalLemmas.{none-legal}
use Rattle.event_rules.proofs.TotalLaws.{begun-one, commands-submit}
use Rattle.xpt_carry.specs.Carry.{submit, refusal_at, first_refusal}
use Rattle.xpt_carry.proofs.EventLemmas.{range_more}

-- no event of a legal list is refused
unrefused_after : (rules : Rules) (c : Topology) (before xs : List Event) → list_all (is_legal_event rules c) (prefixed_after before xs) ≡ true →
    first_answer (refusal_at rules c) (prefixed_after before xs) ≡ None
unrefused_after rules c before [] h = refl
unrefused_after rules c before (x ∷ xs) h =
    let parts = and_parts (is_legal_event rules c (before, x)) (list_all (is_legal_event rules c) (prefixed_after (before ++ x ∷ []) xs)) h in
    rw (none-legal rules c before x parts.0) (unrefused_after rules c (before ++ x ∷ []) xs parts.1)

pub legal_unrefused : (rules : Rules) (c : Topology) (xs : List Event) → is_legal rules c xs ≡ true → first_refusal rules c xs ≡ None
unfolding first_refusal is_legal
legal_unrefused rules c xs h = unrefused_after rules c [] xs h

few_alive : (es : List Event) → alive es ≤ commands es
unfolding alive
few_alive es = omega (arith, count_by-le-length (λ ccb. not (list_any (ends ccb) es)) (ccbs es), length-range_with_len 0 (commands es))

module _ (limits : Bounds) (c : Topology) where
  abbrev pub rules : Rules
  rules = rules_of limits

  allowed_legal : (before : List Event) (e : Event) → length before < limits.events → is_allowed rules c before e ≡ true → is_legal_event rules c (before, e) ≡ true
  unfolding is_legal_event
  allowed_legal before e lt h = and_from _ _ (lt-ltb (length before) limits.events lt) h

  -- one event more
  pub legal_more : (es : List Event) (e : Event) → is_legal rules c es ≡ true → length (es ++ e ∷ []) ≤ limits.events → is_allowed rules c es e ≡ true → is_legal rules c (es ++ e ∷ []) ≡ true
  legal_more es e legal short h = legal-push rules c es e legal (allowed_legal es e (omega (arith, short, length-append es (e ∷ []))) h)

  option_more : (o : Option Event) (es : List Event) → is_legal rules c es ≡ true → length (es ++ option_to_list o) ≤ limits.events → ((e : Event) → o ≡ Some e → is_allowed rules c es e ≡ true) →
      is_legal rules c (es ++ option_to_list o) ≡ true
  option_more None es legal short h = ap (is_legal rules c) (append-nil es) ∙ legal
  option_more (Some e) es legal short h = legal_more es e legal short (h e refl)

  -- the events of numbers
  module _ (f : ℕ → Option Event) (start : List Event) where
    abbrev pub numbered : ℕ → List Event
    numbered n = start ++ filter_map f (range_with_len 0 n)

    pub legal_numbered : (n : ℕ) → is_legal rules c start ≡ true → length (numbered n) ≤ limits.events → ((k : ℕ) (e : Event) → k < n → f k ≡ Some e → is_allowed rules c (numbered k) e ≡ true) →
        is_legal rules c (numbered n) ≡ true
    legal_numbered zero legal short h = ap (is_legal rules c) (append-nil start) ∙ legal
    legal_numbered (suc n) legal short h =
        let one : suc n ≡ n + 1 = omega arith in
        let whole : numbered (suc n) ≡ numbered n ++ option_to_list (f n) =
        ap numbered one ∙ sym (range_more f start (numbered n) (numbered n ++ option_to_list (f n)) n (f n) refl refl refl) in
        let long : length (numbered n ++ option_to_list (f n)) ≤ limits.events = omega (arith, short, ap length whole) in
        let less : length (numbered n) ≤ limits.events = omega (arith, long, length-append (numbered n) (option_to_list (f n))) in
        ap (is_legal rules c) whole ∙ option_more (f n) (numbered n) (legal_numbered n legal less (λ k e lt is. h k e (omega arith) is)) long (λ e is. h n e (omega arith) is)

  -- submits
  submit_allowed : (es : List Event) (s : Submission) → is_in_range c s ≡ true → commands es < limits.ccbs → length (stays_begun es) < limits.stays → is_allowed rules c es (submit s) ≡ true
  submit_allowed es s range ccb stay =
      let most : alive es < limits.ccbs = omega (arith, few_alive es) in
      and_from _ _ (and_from _ _ range (lt-ltb (alive es) limits.ccbs most)) (lt-ltb (length (stays_begun es)) limits.stays stay)

  pub legal_submits : (ss : List Submission) (es : List Event) → is_legal rules c es ≡ true → list_all (is_in_range c) ss ≡ true →
      commands es + length ss ≤ limits.ccbs → length (stays_begun es) + length ss ≤ limits.stays → length es + length ss ≤ limits.events → is_legal rules c (es ++ map submit ss) ≡ true
  legal_submits [] es legal range few_ccbs few_stays few_events = ap (is_legal rules c) (append-nil es) ∙ legal
  legal_submits (s ∷ ss) es legal range few_ccbs few_stays few_events =
      let parts = and_parts (is_in_range c s) (list_all (is_in_range c) ss) range in
      let next = es ++ submit s ∷ [] in
      let here = legal_more es (submit s) legal (omega (arith, few_events, length-append es (submit s ∷ []))) (submit_allowed es s parts.0 (omega (arith, few_ccbs)) (omega (arith, few_stays))) in
      let ccb = commands-submit es (submit s) s refl in
      let stay = begun-one es (submit s) _ refl in
      ap (is_legal rules c) (sym (append_assoc es (submit s ∷ []) (map submit ss)))
      ∙ legal_submits ss next here parts.1 (omega (arith, few_ccbs, ccb)) (omega (arith, few_stays, stay)) (omega (arith, few_events, length-append es (submit s ∷ [])))
