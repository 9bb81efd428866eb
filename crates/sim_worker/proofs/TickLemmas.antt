-- where a round may not open
use Rattle.std.proofs.Common.{◌≡◌, ℕ, ◌<◌, Bool, true, false, cond, List, [], ◌∷◌, length, refl, sym, ap, ◌∙◌, subst, arith, Some, None, not, nat_le}
use Rattle.std.specs.Option.{option_map_or}
use Rattle.std.proofs.lemmas.Bool.{and_parts}
use Rattle.sim_worker.specs.Words.{Topology, asks_requeue, stays_begun, Event, Requeue, Finish, Rules, first_cause, refusal, Refusal, are_stays_full, Scenario, Transport, refused, look, next_case, Case, Look, is_legal, rules_of}
use Rattle.event_rules.specs.declared.refusal.Refusal.TheVariants as refusals
use Rattle.sim_worker.specs.Held.{is_held_up}
use Rattle.sim_worker.specs.Runs.{are_lanes_idle, is_stuck, may_recovery_rest, may_tick}
use Rattle.sim_worker.specs.Walks.{IsOf, IsSoFar}
use Rattle.sim_worker.specs.Work.{decision_of, is_full}
use Rattle.sim_worker.proofs.CaseLemmas.{decision_held}
use Rattle.sim_worker.proofs.FullLemmas.{false_true, full_at_limit, full_is, says_full}
use Rattle.sim_worker.proofs.RestLemmas.{none_found}

not_any : (b : Bool) → not b ≡ true → b ≡ false
not_any true h = absurd (false_true h)
not_any false h = refl

-- a lane could send
pub heads_left : (s : Scenario) (t : Transport) (seen : Look) → IsOf s t → seen ≡ look t.config t.events → (seen.heads ≡ 0 → ⊥) → may_tick s.config s.limits t.events ≡ true → ⊥
heads_left s t seen of is some may =
    let idle = and_parts (are_lanes_idle t.config t.events) (may_recovery_rest s.limits t.events) (ap (λ c. may_tick c s.limits t.events) of.0 ∙ may) in
    some (ap (λ (l : Look). l.heads) is ∙ none_found _ t.config.lanes (not_any _ idle.0))

-- recovery could decide
pub case_left : (s : Scenario) (t : Transport) (rest : Bool) → IsOf s t → (rest ≡ false → may_recovery_rest s.limits t.events ≡ true → ⊥) → rest ≡ false → may_tick s.config s.limits t.events ≡ true → ⊥
case_left s t rest of busy is may = busy is (and_parts (are_lanes_idle s.config t.events) (may_recovery_rest s.limits t.events) may).1

-- a requeue is refused, where as many stays began as may
stays_refuse : (f n s r q : Bool) (k : ℕ) → s ≡ true → first_cause ((f, refusals.HistoryFull k) ∷ (n, refusals.NoCcb) ∷ (s, refusals.StaysFull) ∷ (r, refusals.NotRecovering) ∷ (q, refusals.WrongDecision) ∷ []) ≡ None → ⊥
stays_refuse f n false r q k full h = false_true full
stays_refuse true n true r q k full h = cc
stays_refuse false true true r q k full h = cc
stays_refuse false false true r q k full h = cc

refused_for_stays : (rules : Rules) (c : Topology) (es : List Event) (ccb : ℕ) → are_stays_full rules es ≡ true → refusal rules c es (Requeue ccb) ≡ None → ⊥
unfolding refusal
refused_for_stays rules c es ccb full none = stays_refuse _ _ (are_stays_full rules es) _ _ (length es) full none

-- there is room, so a refusal isn't that the history is full
not_full : (rules : Rules) (c : Topology) (es : List Event) (e : Event) (why : Refusal) → length es < rules.events → refusal rules c es e ≡ Some why → is_full why ≡ false
not_full rules c es e why room stated = elim (is_full why) as (λ b. is_full why ≡ b → b ≡ false) [
  | true ↦ λ full. absurd (let at = full_at_limit rules c es e (ap says_full stated ∙ full_is why ∙ full) in omega arith)
  | false ↦ λ other. refl
] refl

-- a decision that could be made
pub not_held_up : (s : Scenario) (t : Transport) (case : Case) → IsOf s t → next_case t.events ≡ Some case → is_held_up t case ≡ false → IsSoFar s t.events → may_recovery_rest s.limits t.events ≡ true → ⊥
not_held_up s t case of is free sofar rest =
    let legal : is_legal t.rules t.config t.events ≡ true = subst (λ (r : Rules). is_legal r t.config t.events ≡ true) (sym of.1) (subst (λ (c : Topology). is_legal (rules_of s.limits) c t.events ≡ true) (sym of.0) sofar.legal) in
    let stuck = ap (λ o. option_map_or (is_stuck s.limits t.events) o true) (sym is) ∙ rest in
    let parts = and_parts (asks_requeue case.class) (nat_le s.limits.stays (length (stays_begun t.events))) stuck in
    let full : are_stays_full t.rules t.events ≡ true = ap (λ (r : Rules). nat_le r.stays (length (stays_begun t.events))) of.1 ∙ parts.1 in
    let room : length t.events < t.rules.events = subst (λ (r : Rules). length t.events < r.events) (sym of.1) sofar.room in
    elim (refused t (Requeue case.ccb)) as (λ o. refused t (Requeue case.ccb) ≡ o → ⊥) [
      | None ↦ λ none. refused_for_stays t.rules t.config t.events case.ccb full none
      | Some why ↦ λ stated.
          let decided : refused t (decision_of case) ≡ Some why = ap (λ b. refused t (cond b (Requeue case.ccb) (Finish case.ccb))) parts.0 ∙ stated in
          false_true (sym free ∙ decision_held t case why legal is decided (not_full t.rules t.config t.events (Requeue case.ccb) why room stated))
    ] refl
