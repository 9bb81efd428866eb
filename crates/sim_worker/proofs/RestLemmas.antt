-- what a transport's looks say of its events
use Rattle.std.proofs.Common.{◌≡◌, ℕ, ◌+◌, Bool, true, false, cond, List, [], ◌∷◌, length, refl, sym, ap, ◌∙◌, arith, Option, Some, None, not, ◌||◌, nat_le, count_by}
use Rattle.std.specs.List.{list_any}
use Rattle.std.specs.Option.{option_map_or}
use Rattle.std.proofs.lemmas.Bool.{and_from, and_parts}
use Rattle.std.proofs.lemmas.List.Sums.{sum_by-cons}
use Rattle.sim_worker.specs.Words.{Topology, asks_requeue, ccbs, is_in_flight, has_in_flight, is_recovering, stays_begun, waiting, Event, Requeue, Rules, first_cause, refusal, are_stays_full, Scenario, Transport, refused, look, next_case, Case, Look}
use Rattle.event_rules.specs.declared.refusal.Refusal.TheVariants as refusals
use Rattle.sim_worker.specs.Endings.{IsQuiet}
use Rattle.sim_worker.specs.Held.{is_for_stays, is_held_up}
use Rattle.sim_worker.specs.Runs.{is_stuck, may_recovery_rest, may_tick}
use Rattle.sim_worker.specs.Walks.{IsOf}

no : true ≡ false → ⊥
no e = cc

-- none of a count is none at all
pub none_counted : {X : Type 0} → (p : X → Bool) (xs : List X) → count_by p xs ≡ 0 → list_any p xs ≡ false
none_counted p [] h = refl
none_counted p (x ∷ xs) h =
    let all : cond {A = ℕ} (p x) 1 0 + count_by p xs ≡ 0 = sym (sum_by-cons (λ y. cond {A = ℕ} (p y) 1 0) x xs) ∙ h in
    elim (p x) as (λ b. cond {A = ℕ} b 1 0 + count_by p xs ≡ 0 → (b || list_any p xs) ≡ false) [
      | true ↦ λ some. absurd (omega arith)
      | false ↦ λ none. none_counted p xs (omega arith)
    ] all

none_there : {X : Type 0} → (xs : List X) → length xs ≡ 0 → xs ≡ []
none_there [] h = refl
none_there (x ∷ xs) h = absurd (omega arith)

pub quiet : (t : Transport) (seen : Look) → seen ≡ look t.config t.events → seen.waiting ≡ 0 → seen.in_flight ≡ 0 → seen.cases ≡ 0 → IsQuiet t.events
unfolding has_in_flight
quiet t seen is sent landed decided = record {
  sent = none_there (waiting t.events) (sym (ap (λ (l : Look). l.waiting) is) ∙ sent);
  landed = none_counted (is_in_flight t.events) (ccbs t.events) (sym (ap (λ (l : Look). l.in_flight) is) ∙ landed);
  decided = none_counted (is_recovering t.events) (ccbs t.events) (sym (ap (λ (l : Look). l.cases) is) ∙ decided);
}

-- none at all are none of a count
pub none_found : {X : Type 0} → (p : X → Bool) (xs : List X) → list_any p xs ≡ false → count_by p xs ≡ 0
none_found p [] h = refl
none_found p (x ∷ xs) h = sum_by-cons (λ y. cond {A = ℕ} (p y) 1 0) x xs ∙ elim (p x) as (λ b. (b || list_any p xs) ≡ false → cond {A = ℕ} b 1 0 + count_by p xs ≡ 0) [
  | true ↦ λ some. absurd (no some)
  | false ↦ λ none. omega (arith, none_found p xs none)
] h

-- what is quiet looks so
pub looks_quiet : (t : Transport) (seen : Look) → seen ≡ look t.config t.events → IsQuiet t.events → (seen.waiting ≡ 0) × (seen.in_flight ≡ 0) × (seen.cases ≡ 0)
unfolding has_in_flight
looks_quiet t seen is h = (
  ap (λ (l : Look). l.waiting) is ∙ ap length h.sent,
  ap (λ (l : Look). l.in_flight) is ∙ none_found (is_in_flight t.events) (ccbs t.events) h.landed,
  ap (λ (l : Look). l.cases) is ∙ none_found (is_recovering t.events) (ccbs t.events) h.decided,
)

-- StaysFull is answered where as many stays began as may
stays_at : (f n s r q : Bool) (k : ℕ) → is_for_stays (first_cause ((f, refusals.HistoryFull k) ∷ (n, refusals.NoCcb) ∷ (s, refusals.StaysFull) ∷ (r, refusals.NotRecovering) ∷ (q, refusals.WrongDecision) ∷ [])) ≡ true → s ≡ true
stays_at f n true r q k h = refl
stays_at true n false r q k h = absurd (no (sym h))
stays_at false true false r q k h = absurd (no (sym h))
stays_at false false false true q k h = absurd (no (sym h))
stays_at false false false false true k h = absurd (no (sym h))
stays_at false false false false false k h = absurd (no (sym h))

pub stays_full : (rules : Rules) (c : Topology) (es : List Event) (ccb : ℕ) → is_for_stays (refusal rules c es (Requeue ccb)) ≡ true → are_stays_full rules es ≡ true
unfolding refusal
stays_full rules c es ccb h = stays_at _ _ (are_stays_full rules es) _ _ (length es) h

-- a decision that is held up lets recovery rest
pub rests_held_up : (s : Scenario) (t : Transport) (o : Option Case) → IsOf s t → next_case t.events ≡ o → option_map_or (is_held_up t) o true ≡ true → may_recovery_rest s.limits t.events ≡ true
rests_held_up s t None of is held = ap (λ x. option_map_or (is_stuck s.limits t.events) x true) is
rests_held_up s t (Some case) of is held =
    let parts = and_parts (asks_requeue case.class) (is_for_stays (refused t (Requeue case.ccb))) held in
    let full = stays_full t.rules t.config t.events case.ccb parts.1 in
    ap (λ x. option_map_or (is_stuck s.limits t.events) x true) is ∙ and_from _ _ parts.0 (ap (λ (r : Rules). nat_le r.stays (length (stays_begun t.events))) (sym of.1) ∙ full)

pub opens : (s : Scenario) (t : Transport) (seen : Look) → IsOf s t → seen ≡ look t.config t.events → seen.heads ≡ 0 → may_recovery_rest s.limits t.events ≡ true → may_tick s.config s.limits t.events ≡ true
opens s t seen of is none rests =
    let idle = none_counted _ t.config.lanes (sym (ap (λ (l : Look). l.heads) is) ∙ none) in
    ap (λ c. may_tick c s.limits t.events) (sym of.0) ∙ and_from _ _ (ap not idle) rests
