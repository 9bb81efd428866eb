-- legal events go no further than their rules
use Rattle.std.proofs.Common.{◌≡◌, ℕ, ◌+◌, ◌<◌, ◌≤◌, Bool, true, false, cond, List, [], ◌∷◌, ◌++◌, length, refl, sym, ap, ◌∙◌, arith, Option, Some, None, length-append, not, ◌&&◌, nat_lt, nat_le, count_by, IfSome}
use Rattle.std.specs.List.{list_any, range_with_len}
use Rattle.std.specs.Option.{option_map_or}
use Rattle.std.proofs.lemmas.Bool.{and_parts, ltb-true}
use Rattle.std.proofs.lemmas.List.Sums.{sum_by-cons}
use Rattle.cam_types.specs.Topology.{Topology}
use Rattle.cam_types.specs.declared.limits.TheConstants.{MAX_PRIORITY, MAX_RETRIES}
use Rattle.event_rules.specs.Event.{ends, submission_of, Event, Submit}
use Rattle.event_rules.specs.Counts.{commands, submissions, ccbs, alive, Submission}
use Rattle.event_rules.proofs.CcbLaws.{not_ended-push}
use Rattle.event_rules.proofs.ListFacts.{range_with_len-push, count_by-push}
use Rattle.event_rules.proofs.TotalLaws.{commands-submit, commands-none}
use Rattle.event_rules.specs.Laws.{IsWithinRules}
use Rattle.cam_types.specs.Questions.{names_device}
use Rattle.event_rules.specs.Legal.{Rules, has_ccb, has_stay, is_legal_event, is_legal}
use Rattle.event_rules.proofs.LawLemmas.{allowed-legal_event}
use Rattle.event_rules.proofs.LimitLemmas.{legal-induction, round-legal, stays-legal}

-- a test that passes nowhere else counts no more
count-weaker : {X : Type 0} (p q : X → Bool) (xs : List X) → ((x : X) → q x ≡ true → p x ≡ true) → count_by q xs ≤ count_by p xs
count-weaker p q [] h = omega arith
count-weaker p q (x ∷ xs) h =
    omega (arith, count-weaker p q xs h, one (q x) (p x) (h x), sum_by-cons (λ y. cond {A = ℕ} (q y) 1 0) x xs, sum_by-cons (λ y. cond {A = ℕ} (p y) 1 0) x xs)
  where
    one : (a b : Bool) → (a ≡ true → b ≡ true) → cond {A = ℕ} a 1 0 ≤ cond {A = ℕ} b 1 0
    one true b h = rw (h refl) (omega arith)
    one false true h = omega arith
    one false false h = omega arith

abbrev lives : List Event → ℕ → Bool
lives es n = not (list_any (ends n) es)

lived : (es : List Event) (e : Event) (n : ℕ) → lives (es ++ e ∷ []) n ≡ true → lives es n ≡ true
lived es e n h = (and_parts (lives es n) _ (sym (not_ended-push es e n) ∙ h)).0

alive-none : (es : List Event) (e : Event) → submission_of e ≡ None → alive (es ++ e ∷ []) ≤ alive es
unfolding alive
alive-none es e none =
    let same : count_by (lives (es ++ e ∷ [])) (ccbs (es ++ e ∷ [])) ≡ count_by (lives (es ++ e ∷ [])) (ccbs es) = ap (λ n. count_by (lives (es ++ e ∷ [])) (range_with_len 0 n)) (commands-none es e none) in
    omega (arith, same, count-weaker (lives es) (lives (es ++ e ∷ [])) (ccbs es) (lived es e))

alive-submit : (es : List Event) (e : Event) (s : Submission) → submission_of e ≡ Some s → alive (es ++ e ∷ []) ≤ alive es + 1
unfolding alive
alive-submit es e s is =
    let p : ℕ → Bool = lives (es ++ e ∷ []) in
    let more : count_by p (ccbs (es ++ e ∷ [])) ≡ count_by p (ccbs es) + cond (p (0 + commands es)) 1 0 =
    ap (λ n. count_by p (range_with_len 0 n)) (commands-submit es e s is) ∙ ap (count_by p) (range_with_len-push 0 (commands es)) ∙ count_by-push p (ccbs es) (0 + commands es) in
    omega (arith, more, bit_le (p (0 + commands es)), count-weaker (lives es) p (ccbs es) (lived es e))
  where
    bit_le : (b : Bool) → cond {A = ℕ} b 1 0 ≤ 1
    bit_le true = omega arith
    bit_le false = omega arith

-- as many are alive as are allowed, where they are counted
abbrev IsCounted : Rules → List Event → Type 0
IsCounted rules es = (most : ℕ) → rules.ccbs ≡ Some most → alive es ≤ most

has_one : (rules : Rules) (es : List Event) (most : ℕ) → has_ccb rules es ≡ true → rules.ccbs ≡ Some most → alive es < most
has_one rules es most has is = ltb-true (alive es) most (ap (λ o. option_map_or (λ m. nat_lt (alive es) m) o true) (sym is) ∙ has)

counted_by : (rules : Rules) (es : List Event) (e : Event) (o : Option Submission) → submission_of e ≡ o → (o ≡ None → IsCounted rules es) → ((s : Submission) → o ≡ Some s → has_ccb rules es ≡ true) → IsCounted rules (es ++ e ∷ [])
counted_by rules es e None is h has most counts = omega (arith, alive-none es e is, h refl most counts)
counted_by rules es e (Some s) is h has most counts = omega (arith, alive-submit es e s is, has_one rules es most (has s refl) counts)

asks_ccb : (rules : Rules) (c : Topology) (es : List Event) (e : Event) (s : Submission) → is_legal_event rules c (es, e) ≡ true → submission_of e ≡ Some s → has_ccb rules es ≡ true
asks_ccb rules c es (Submit driver device priority retries flags) s legal is =
    let asked = (allowed-legal_event rules c es (Submit driver device priority retries flags) legal).1 in
    let named = names_device c device && nat_le priority MAX_PRIORITY && nat_le retries MAX_RETRIES in
    (and_parts named (has_ccb rules es) (and_parts (named && has_ccb rules es) (has_stay rules es) asked).0).1
asks_ccb rules c es _ s legal is = absurd (cc)

counted_step : (rules : Rules) (c : Topology) (es : List Event) (e : Event) → is_legal_event rules c (es, e) ≡ true → IsCounted rules es → IsCounted rules (es ++ e ∷ [])
counted_step rules c es e legal h = counted_by rules es e (submission_of e) refl (λ _. h) (λ s is. asks_ccb rules c es e s legal is)

none_alive : (rules : Rules) → IsCounted rules []
unfolding alive submissions
none_alive rules most is = omega arith

counted-legal : (rules : Rules) (c : Topology) (es : List Event) → is_legal rules c es ≡ true → IsCounted rules es
unfolding is_legal
counted-legal rules c es legal = legal-induction rules c (IsCounted rules) (counted_step rules c) [] es legal (none_alive rules)

-- that many events
short_step : (rules : Rules) (c : Topology) (es : List Event) (e : Event) → is_legal_event rules c (es, e) ≡ true → length es ≤ rules.events → length (es ++ e ∷ []) ≤ rules.events
short_step rules c es e legal h = omega (arith, (allowed-legal_event rules c es e legal).0, length-append es (e ∷ []))

pub short-legal : (rules : Rules) (c : Topology) (es : List Event) → is_legal rules c es ≡ true → length es ≤ rules.events
unfolding is_legal
short-legal rules c es legal = legal-induction rules c (λ xs. length xs ≤ rules.events) (short_step rules c) [] es legal (omega arith)

some_counted : (o : Option ℕ) (n : ℕ) → ((most : ℕ) → o ≡ Some most → n ≤ most) → IfSome o (λ most. n ≤ most)
some_counted None n h = tt
some_counted (Some most) n h = h most refl

pub legal_is_within : (rules : Rules) (c : Topology) (es : List Event) → 1 ≤ rules.rounds → is_legal rules c es ≡ true → IsWithinRules rules es
legal_is_within rules c es some legal = record {
  few_events = short-legal rules c es legal;
  few_rounds = round-legal rules c es some legal;
  few_stays = stays-legal rules c es legal;
  few_alive = some_counted rules.ccbs (alive es) (counted-legal rules c es legal);
}
