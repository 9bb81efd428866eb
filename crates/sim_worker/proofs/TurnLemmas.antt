-- what a turn finds
use Rattle.std.proofs.Common.{◌≡◌, ℕ, zero, suc, ◌<◌, ◌≤◌, Bool, true, false, List, [], ◌∷◌, length, get_or, refl, ap, subst, arith, Option, Some, None, slice_get, Result, Ok, Err, is_err, MatchResult, IfSome, option_map, not, sum_by, cond}
use Rattle.sim_worker.specs.Words.{Topology, Event, Rules, Refusal, Step, Transport, refused, Bounds, asks_requeue, is_some_and, Case, is_in_flight, Done, Requeue, Finish, Scenario, is_answer}
use Rattle.event_rules.proofs.LegalLemmas.{legal-none}
use Rattle.event_rules.proofs.LawLemmas.{allowed-legal_event}
use Rattle.trace_file.specs.declared.step.Step.TheVariants as step
use Rattle.std.proofs.lemmas.Bool.{and_from, and_parts}
use Rattle.std.proofs.lemmas.List.Sums.{sum_by-cons}
use Rattle.sim_worker.specs.Endings.{is_call}
use Rattle.sim_worker.specs.Work.{Work, IsWork, call_of, is_driver_able, is_lane_able, decision_of, Driver, Hand, Lane}
use Rattle.sim_worker.proofs.LaneFacts.{is_lane_event}
use Rattle.event_rules.proofs.WithinLemmas.{short-legal}
use Rattle.event_rules.proofs.StandLemmas.{in_flight_held, states-legal}
use Rattle.sim_worker.specs.Runs.{sender, is_submit_by, is_in_time}
use Rattle.sim_worker.proofs.FullLemmas.{allowed_at_limit}
use Rattle.sim_worker.proofs.RunListFacts.{some_is}

-- an event that isn't refused has room
pub room_for : (t : Transport) (e : Event) → refused t e ≡ None → length t.events < t.rules.events
room_for t e none = (allowed-legal_event t.rules t.config t.events e (legal-none t.rules t.config t.events e none)).0

-- the step after a call
pub call_is : (o : Option Step) (e : Event) → call_of o ≡ Some e → o ≡ Some (step.Act e)
call_is None e h = absurd (cc)
call_is (Some (step.Pause n)) e h = absurd (cc)
call_is (Some (step.Act x)) e h = ap (λ v. Some (step.Act v)) cc

-- a result's cases
pub err_case : {A E : Type 0} → (P : A → Type 0) (Q : E → Type 0) (r : Result A E) → is_err r ≡ true → MatchResult r P Q → (e : E) × Q e
err_case P Q (Ok x) h m = absurd (cc)
err_case P Q (Err e) h m = (e, m)

pub ok_case : {A E : Type 0} → (P : A → Type 0) (Q : E → Type 0) (r : Result A E) → is_err r ≡ false → MatchResult r P Q → (x : A) × P x
ok_case P Q (Ok x) h m = (x, m)
ok_case P Q (Err e) h m = absurd (cc)

-- a full history has as many events as the script allows
pub at_limit : (w : Work) → IsWork w → w.transport.rules.events ≤ length w.transport.events → length w.transport.events ≡ w.script.limits.events
at_limit w h full = omega (arith, full, short-legal w.transport.rules w.transport.config w.transport.events h.legal, ap (λ (r : Rules). r.events) h.rules)

-- ---- completions

pub lane_with : (ls : List Lane) (lane : ℕ) (hand : Hand) → option_map (λ (w : Lane). w.hand) (slice_get ls lane) ≡ Some (Some hand) → (w : Lane) × (slice_get ls lane ≡ Some w) × (w.hand ≡ Some hand)
lane_with ls lane hand h = elim (slice_get ls lane) as (λ o. slice_get ls lane ≡ o → option_map (λ (w : Lane). w.hand) o ≡ Some (Some hand) → (w : Lane) × (slice_get ls lane ≡ Some w) × (w.hand ≡ Some hand)) [
  | None ↦ λ is has. absurd (cc)
  | Some w ↦ λ is has. (w, is, some_is w.hand (Some hand) has)
] refl h

pub done_full : (w : Work) (lane : ℕ) (x : Lane) (hand : Hand) (why : Refusal) → IsWork w → slice_get w.lanes lane ≡ Some x → x.hand ≡ Some hand → refused w.transport (Done hand.ccb hand.outcome) ≡ Some why → length w.transport.events ≡ w.script.limits.events
done_full w lane x hand why h here holds refusal_is =
    let at = h.lanes lane x here in
    let flies : IfSome (Some hand) (λ (v : Hand). (is_in_flight w.transport.events v.ccb ≡ true) × (sender w.transport.events v.ccb ≡ Some lane)) = subst (λ o. IfSome o (λ (v : Hand). (is_in_flight w.transport.events v.ccb ≡ true) × (sender w.transport.events v.ccb ≡ Some lane))) holds at.hand in
    let fine : IfSome (Some hand) (λ (v : Hand). is_answer v.outcome ≡ true) = subst (λ o. IfSome o (λ (v : Hand). is_answer v.outcome ≡ true)) holds at.answer in
    let named = in_flight_held w.transport.events hand.ccb ((states-legal w.transport.rules w.transport.config w.transport.events h.legal).placed hand.ccb) flies.0 in
    at_limit w h (allowed_at_limit w.transport.rules w.transport.config w.transport.events (Done hand.ccb hand.outcome) why (and_from _ _ (and_from _ _ named.0 fine) flies.0) refusal_is)

-- ---- calls of drivers

not_true : (b : Bool) → not b ≡ true → b ≡ false
not_true true h = absurd (cc)
not_true false h = refl

pub able_driver : (s : Scenario) (ds : List Driver) (d : ℕ) → is_some_and (is_driver_able s d) (slice_get ds d) ≡ true → (w : Driver) × (slice_get ds d ≡ Some w) × (w.refused ≡ false)
able_driver s ds d h = elim (slice_get ds d) as (λ o. slice_get ds d ≡ o → is_some_and (is_driver_able s d) o ≡ true → (w : Driver) × (slice_get ds d ≡ Some w) × (w.refused ≡ false)) [
  | None ↦ λ is able. absurd (cc)
  | Some w ↦ λ is able. (w, is, not_true w.refused (and_parts (not w.refused) _ able).0)
] refl h

pub few_at : (ls : List (List Step)) (d : ℕ) → length (get_or ls d []) ≤ sum_by (λ (l : List Step). length l) ls
few_at [] d = omega arith
few_at (l ∷ ls) zero = omega (arith, sum_by-cons (λ (x : List Step). length x) l ls)
few_at (l ∷ ls) (suc d) = omega (arith, sum_by-cons (λ (x : List Step). length x) l ls, few_at ls d)

-- ---- decisions

-- a decision is neither a lane's event nor a submit nor a tick
pub decision_apart : (case : Case) → is_lane_event (decision_of case) ≡ false
decision_apart case = elim (asks_requeue case.class) as (λ b. is_lane_event (cond b (Requeue case.ccb) (Finish case.ccb)) ≡ false) [ true ↦ refl | false ↦ refl ]

pub decision_no_call : (case : Case) → is_call (decision_of case) ≡ false
decision_no_call case = elim (asks_requeue case.class) as (λ b. is_call (cond b (Requeue case.ccb) (Finish case.ccb)) ≡ false) [ true ↦ refl | false ↦ refl ]

pub decision_no_submit : (case : Case) (d : ℕ) → is_submit_by d (decision_of case) ≡ false
decision_no_submit case d = elim (asks_requeue case.class) as (λ b. is_submit_by d (cond b (Requeue case.ccb) (Finish case.ccb)) ≡ false) [ true ↦ refl | false ↦ refl ]

pub decision_in_time : (c : Topology) (limits : Bounds) (es : List Event) (case : Case) → is_in_time c limits (es, decision_of case) ≡ true
decision_in_time c limits es case = elim (asks_requeue case.class) as (λ b. is_in_time c limits (es, cond b (Requeue case.ccb) (Finish case.ccb)) ≡ true) [ true ↦ refl | false ↦ refl ]

-- ---- lanes

pub able_lane : (t : Transport) (ls : List Lane) (lane : ℕ) → is_some_and (is_lane_able t lane) (slice_get ls lane) ≡ true → (w : Lane) × (slice_get ls lane ≡ Some w) × (is_lane_able t lane w ≡ true)
able_lane t ls lane h = elim (slice_get ls lane) as (λ o. slice_get ls lane ≡ o → is_some_and (is_lane_able t lane) o ≡ true → (w : Lane) × (slice_get ls lane ≡ Some w) × (is_lane_able t lane w ≡ true)) [
  | None ↦ λ is able. absurd (cc)
  | Some w ↦ λ is able. (w, is, able)
] refl h
