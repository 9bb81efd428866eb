-- a stay without a send is its CCB's last: its try is the count of the CCB's requeues
use Rattle.std.proofs.Common.{◌≡◌, ℕ, suc, ◌≤◌, Bool, true, false, cond, List, [], ◌∷◌, refl, sym, ap, ◌∙◌, arith, Option, Some, None, inl, inr, slice_get, ◌==◌, ◌&&◌, nat_lt, filter, count_by, option_and_then}
use Rattle.std.specs.List.{list_any, list_all}
use Rattle.std.proofs.lemmas.Bool.{and_from, eq-eqb, eqb-true, or_cases}
use Rattle.std.proofs.lemmas.List.Sums.{sum_by-cons}
use Rattle.xpt_state.specs.Words.{Topology, is_requeue_of, commands, head, next, stays_begun, is_unsent, waiting, has_arrived, queue, first, Event, Passage, Rules, is_legal, is_alive}
use Rattle.event_rules.proofs.TotalLaws.{unsent_count}
use Rattle.event_rules.proofs.TestLemmas.{IsIn, in_found, in_filter, passes-all}
use Rattle.xpt_core.proofs.LatestLemmas.{AreLatest, latest-legal}

-- it is its CCB's last stay
abbrev is_last_try : List Event → Passage → Bool
is_last_try es p = p.attempt == count_by (is_requeue_of p.ccb) es

-- what each place's element passes, each element that a filter keeps does
kept_pass : {X : Type 0} → (p q : X → Bool) (xs : List X) → ((j : ℕ) (x : X) → slice_get xs j ≡ Some x → p x ≡ true → q x ≡ true) → list_all q (filter p xs) ≡ true
kept_pass p q [] h = refl
kept_pass p q (x ∷ xs) h = elim (p x) as (λ b. p x ≡ b → list_all q (cond b (x ∷ filter p xs) (filter p xs)) ≡ true) [
  | true ↦ λ is. and_from _ _ (h 0 x refl is) (kept_pass p q xs (λ j y at. h (suc j) y at))
  | false ↦ λ _. kept_pass p q xs (λ j y at. h (suc j) y at)
] refl

last_try : (es : List Event) → AreLatest es → (j : ℕ) (p : Passage) → slice_get (stays_begun es) j ≡ Some p → is_unsent es p ≡ true → is_last_try es p ≡ true
last_try es all j p at unsent =
    let kept = all.stays j p at in
    let latest = all.latest p.ccb kept.ccb in
    let here : Some p ≡ Some latest.stay = sym at ∙ ap (slice_get (stays_begun es)) (sym (kept.last (kept.alone unsent))) ∙ latest.there in
    let same : p ≡ latest.stay = cc in
    eq-eqb _ _ (ap (λ (x : Passage). x.attempt) same ∙ latest.attempt)

last_tries : (es : List Event) → AreLatest es → list_all (is_last_try es) (waiting es) ≡ true
unfolding waiting
last_tries es all = kept_pass (is_unsent es) (is_last_try es) (stays_begun es) (last_try es all)

-- the next stay is one without a send
first_in : (es : List Event) (d : ℕ) (p : Passage) → first es d ≡ Some p → IsIn p (waiting es)
unfolding first queue
first_in es d p h =
    let here = λ (q : Passage). (q.device == d) && has_arrived es q in
    in_filter here (waiting es) p (in_found _ (filter here (waiting es)) p h).0

next_cases : (es : List Event) (p : Passage) (o : Option ℕ) → option_and_then (first es) o ≡ Some p → IsIn p (waiting es)
next_cases es p None h = absurd (cc)
next_cases es p (Some d) h = first_in es d p h

next_in : (c : Topology) (es : List Event) (a : ℕ) (p : Passage) → next c es a ≡ Some p → IsIn p (waiting es)
unfolding next
next_in c es a p h = next_cases es p (head c es a) h

pub next_attempt : (rules : Rules) (c : Topology) (es : List Event) (a : ℕ) (p : Passage) → is_legal rules c es ≡ true → next c es a ≡ Some p → p.attempt ≡ count_by (is_requeue_of p.ccb) es
next_attempt rules c es a p legal is = eqb-true _ _ (passes-all p (waiting es) (is_last_try es) (next_in c es a p is) (last_tries es (latest-legal rules c es legal)))

-- and its CCB is alive
counted_any : {X : Type 0} → (q : X → Bool) (xs : List X) → list_any q xs ≡ true → 1 ≤ count_by q xs
counted_any q [] h = absurd (cc)
counted_any q (x ∷ xs) h = elim (or_cases (q x) (list_any q xs) h) [
  | inl here ↦ omega (arith, sum_by-cons (λ y. cond {A = ℕ} (q y) 1 0) x xs, ap (λ b. cond {A = ℕ} b 1 0) here)
  | inr later ↦ omega (arith, sum_by-cons (λ y. cond {A = ℕ} (q y) 1 0) x xs, counted_any q xs later)
]

unsent_in : (es : List Event) (p : Passage) → IsIn p (waiting es) → 1 ≤ unsent_count es p.ccb
unsent_in es p i = counted_any (λ (q : Passage). q.ccb == p.ccb) (waiting es) (i.passes (λ (q : Passage). q.ccb == p.ccb) (eq-eqb p.ccb p.ccb refl))

pub next_held : (rules : Rules) (c : Topology) (es : List Event) (a : ℕ) (p : Passage) → is_legal rules c es ≡ true → next c es a ≡ Some p → (nat_lt p.ccb (commands es) && is_alive es p.ccb) ≡ true
next_held rules c es a p legal is =
    let place = ((latest-legal rules c es legal).states.placed p.ccb).place in
    let some = unsent_in es p (next_in c es a p is) in
    one (nat_lt p.ccb (commands es) && is_alive es p.ccb) (omega (arith, place, some))
  where
    one : (b : Bool) → 1 ≤ cond {A = ℕ} b 1 0 → b ≡ true
    one true le = refl
    one false le = absurd (omega arith)
