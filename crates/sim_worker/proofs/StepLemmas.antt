-- a run on one thread after one event more
use Rattle.std.proofs.Common.{◌≡◌, ℕ, ◌+◌, Bool, true, false, List, [], ◌∷◌, ◌++◌, length, set, map, refl, sym, ap, ◌∙◌, subst, arith, Some, None, zero, suc, inl, inr, slice_get, ◌==◌, IfSome, option_map, eqb-true, eq-eqb, length-set}
use Rattle.std.specs.List.{AllByRecursion}
use Rattle.sim_worker.specs.Words.{Bounds, Topology, is_in_flight, Event, Send, Done, Tick, Scenario, is_ruled, is_answer, Transport, is_legal, IsTaken}
use Rattle.trace_file.specs.declared.step.Step.TheVariants as step
use Rattle.event_rules.proofs.LawLemmas.{legal-push}
use Rattle.event_rules.proofs.LegalLemmas.{legal-none}
use Rattle.sim_worker.specs.Ports.{answer_at, first_answers, outcomes, Served}
use Rattle.sim_worker.specs.Runs.{outcomes_by, is_in_time, is_submit_by, may_tick}
use Rattle.sim_worker.specs.Work.{IsWork, HasDone, calls_of, HasServed, AreLanesAt, AreInHand, IsInHand, outcome_in_hand, steps_of, Driver, Hand, Lane}
use Rattle.sim_worker.proofs.ListFacts.{map_at, set_at}
use Rattle.sim_worker.proofs.PassLemmas.{ticks-push}
use Rattle.sim_worker.proofs.RunListFacts.{get_in_set, set_beside, some_is, there_is}
use Rattle.sim_worker.proofs.FullLemmas.{false_true}
use Rattle.sim_worker.specs.Endings.{is_call}
use Rattle.sim_worker.proofs.CallLemmas.{calls_done-same, calls_done-set, calls_of-act, no_call, one_call, ruled_call}
use Rattle.sim_worker.proofs.DriverLemmas.{drivers-call, drivers-other, drivers-set, strangers-call, strangers-other}
use Rattle.sim_worker.proofs.MadeLemmas.{made-call, made-other, made-same, made-set}
use Rattle.sim_worker.proofs.LaneFacts.{in_hand, is_lane_event, lanes-other, flights-other, lanes-done, flights-done, lanes-send, flights-send}

-- what a driver may ask for is its own, and no tick
ruled_apart : (c : Topology) (d : ℕ) (e : Event) → is_ruled c d (step.Act e) ≡ true → is_lane_event e ≡ false
ruled_apart c d (Send lane ccb) ruled = absurd (cc)
ruled_apart c d (Done ccb outcome) ruled = absurd (cc)
ruled_apart c d _ ruled = refl

ruled_in_time : (c : Topology) (limits : Bounds) (es : List Event) (d : ℕ) (e : Event) → is_ruled c d (step.Act e) ≡ true → is_in_time c limits (es, e) ≡ true
ruled_in_time c limits es d Tick ruled = absurd (cc)
ruled_in_time c limits es d _ ruled = refl

-- a step of a driver is one that it may ask for
at_place : {X : Type 0} → (P : X → Type 0) (xs : List X) (i : ℕ) (x : X) → slice_get xs i ≡ Some x → AllByRecursion P xs → P x
at_place P [] i x h all = absurd (cc)
at_place P (y ∷ ys) zero x h all = subst P (some_is y x h) all.0
at_place P (y ∷ ys) (suc i) x h all = at_place P ys i x h all.1

pub legal_more : (t : Transport) (e : Event) (new : Transport) → IsTaken t e new → is_legal t.rules t.config t.events ≡ true → is_legal t.rules t.config (t.events ++ e ∷ []) ≡ true
legal_more t e new made h = legal-push t.rules t.config t.events e h (legal-none t.rules t.config t.events e made.0)

-- the driver's call
pub call_step : (s : Scenario) (t new : Transport) (ds : List Driver) (ls : List Lane) (r after : Bool) (d : ℕ) (w y : Driver) (e : Event) →
    slice_get ds d ≡ Some w → slice_get (steps_of s d) w.done ≡ Some (step.Act e) → y.done ≡ w.done + 1 → IsTaken t e new →
    IsWork (record { script = s; transport = t; drivers = ds; lanes = ls; refused = r }) → IsWork (record { script = s; transport = new; drivers = set ds d y; lanes = ls; refused = after })
call_step s t new ds ls r after d w y e here there one made h =
    let ruled = at_place (λ x. is_ruled s.config d x ≡ true) (steps_of s d) w.done (step.Act e) there (h.scenario.ruled d) in
    subst (λ v. IsWork (record { script = s; transport = v; drivers = set ds d y; lanes = ls; refused = after })) (sym made.1) (record {
      scenario = h.scenario;
      a_round = h.a_round;
      legal = legal_more t e new made h.legal;
      config = h.config;
      rules = h.rules;
      eight = length-set ds d y ∙ h.eight;
      size = h.size;
      drivers = drivers-call s t.events e ds d w y ruled here there one h.drivers;
      made = made-call s t.events e ds d w y (ruled_call s.config d e ruled) (omega (arith, there_is ds d w here, h.eight)) here there one h.made;
      calls = omega (arith, one_call t.events e (ruled_call s.config d e ruled), h.calls, calls_done-set ds s.drivers d w y here, calls_of-act (steps_of s d) w.done e there, ap (calls_of (steps_of s d)) one);
      strangers = strangers-call s t.events e d ruled (omega (arith, there_is ds d w here, h.eight)) h.strangers;
      lanes = lanes-other s t.events e ls (ruled_apart s.config d e ruled) h.lanes;
      flights = flights-other t.events e ls (ruled_apart s.config d e ruled) h.flights;
      ticks = ticks-push s.config s.limits t.events e (ruled_in_time s.config s.limits t.events d e ruled) h.ticks;
    })

-- a driver that is marked, or put after pauses
pub driver_step : (s : Scenario) (t : Transport) (ds : List Driver) (ls : List Lane) (r after : Bool) (d : ℕ) (w y : Driver) → slice_get ds d ≡ Some w → calls_of (steps_of s d) y.done ≡ calls_of (steps_of s d) w.done → HasDone (steps_of s d) d t.events y.done →
    IsWork (record { script = s; transport = t; drivers = ds; lanes = ls; refused = r }) → IsWork (record { script = s; transport = t; drivers = set ds d y; lanes = ls; refused = after })
driver_step s t ds ls r after d w y here same done h = record {
  scenario = h.scenario;
  a_round = h.a_round;
  legal = h.legal;
  config = h.config;
  rules = h.rules;
  eight = length-set ds d y ∙ h.eight;
  size = h.size;
  drivers = drivers-set s t.events ds d y done h.drivers;
  made = made-set s t.events ds d w y here same h.made;
  calls = omega (arith, h.calls, calls_done-set ds s.drivers d w y here, same);
  strangers = h.strangers;
  lanes = h.lanes;
  flights = h.flights;
  ticks = h.ticks;
}

-- an event of neither a driver nor a lane
pub other_step : (s : Scenario) (t new : Transport) (ds : List Driver) (ls : List Lane) (r after : Bool) (e : Event) → is_lane_event e ≡ false → is_call e ≡ false → ((d : ℕ) → is_submit_by d e ≡ false) → is_in_time s.config s.limits (t.events, e) ≡ true → IsTaken t e new →
    IsWork (record { script = s; transport = t; drivers = ds; lanes = ls; refused = r }) → IsWork (record { script = s; transport = new; drivers = ds; lanes = ls; refused = after })
other_step s t new ds ls r after e apart uncalled none here made h =
    subst (λ v. IsWork (record { script = s; transport = v; drivers = ds; lanes = ls; refused = after })) (sym made.1) (record {
      scenario = h.scenario;
      a_round = h.a_round;
      legal = legal_more t e new made h.legal;
      config = h.config;
      rules = h.rules;
      eight = h.eight;
      size = h.size;
      drivers = drivers-other s t.events e ds none h.drivers;
      made = made-other s t.events e ds uncalled h.made;
      calls = no_call t.events e uncalled ∙ h.calls;
      strangers = strangers-other t.events e none h.strangers;
      lanes = lanes-other s t.events e ls apart h.lanes;
      flights = flights-other t.events e ls apart h.flights;
      ticks = ticks-push s.config s.limits t.events e here h.ticks;
    })

-- a completion
pub done_step : (s : Scenario) (t new : Transport) (ds : List Driver) (ls : List Lane) (r : Bool) (lane : ℕ) (w y : Lane) (hand : Hand) →
    slice_get ls lane ≡ Some w → w.hand ≡ Some hand → y.number ≡ w.number → y.port ≡ w.port → y.hand ≡ None → IsTaken t (Done hand.ccb hand.outcome) new →
    IsWork (record { script = s; transport = t; drivers = ds; lanes = ls; refused = r }) → IsWork (record { script = s; transport = new; drivers = ds; lanes = set ls lane y; refused = r })
done_step s t new ds ls r lane w y hand here holds number port empty made h =
    subst (λ v. IsWork (record { script = s; transport = v; drivers = ds; lanes = set ls lane y; refused = r })) (sym made.1) (record {
      scenario = h.scenario;
      a_round = h.a_round;
      legal = legal_more t (Done hand.ccb hand.outcome) new made h.legal;
      config = h.config;
      rules = h.rules;
      eight = h.eight;
      size = length-set ls lane y ∙ h.size;
      drivers = drivers-other s t.events (Done hand.ccb hand.outcome) ds (λ d. refl) h.drivers;
      made = made-other s t.events (Done hand.ccb hand.outcome) ds refl h.made;
      calls = no_call t.events (Done hand.ccb hand.outcome) refl ∙ h.calls;
      strangers = strangers-other t.events (Done hand.ccb hand.outcome) (λ d. refl) h.strangers;
      lanes = lanes-done s t.events ls lane w y hand here holds number port empty h.lanes;
      flights = flights-done t.events ls lane w y hand here holds h.flights;
      ticks = ticks-push s.config s.limits t.events (Done hand.ccb hand.outcome) refl h.ticks;
    })

-- a send
pub send_step : (s : Scenario) (t new : Transport) (ds : List Driver) (ls : List Lane) (r : Bool) (lane ccb : ℕ) (w y : Lane) (one : Served) →
    is_in_flight t.events ccb ≡ false → slice_get ls lane ≡ Some w → w.hand ≡ None → y.number ≡ w.number → y.port.answers ≡ w.port.answers → y.port.served ≡ w.port.served ++ one ∷ [] → one.outcome ≡ answer_at w.port.answers (length w.port.served) →
    y.hand ≡ Some (record { ccb = ccb; outcome = one.outcome }) → is_answer one.outcome ≡ true → IsTaken t (Send lane ccb) new →
    IsWork (record { script = s; transport = t; drivers = ds; lanes = ls; refused = r }) → IsWork (record { script = s; transport = new; drivers = ds; lanes = set ls lane y; refused = r })
send_step s t new ds ls r lane ccb w y one grounded here empty number answers served next holds fine made h =
    subst (λ v. IsWork (record { script = s; transport = v; drivers = ds; lanes = set ls lane y; refused = r })) (sym made.1) (record {
      scenario = h.scenario;
      a_round = h.a_round;
      legal = legal_more t (Send lane ccb) new made h.legal;
      config = h.config;
      rules = h.rules;
      eight = h.eight;
      size = length-set ls lane y ∙ h.size;
      drivers = drivers-other s t.events (Send lane ccb) ds (λ d. refl) h.drivers;
      made = made-other s t.events (Send lane ccb) ds refl h.made;
      calls = no_call t.events (Send lane ccb) refl ∙ h.calls;
      strangers = strangers-other t.events (Send lane ccb) (λ d. refl) h.strangers;
      lanes = lanes-send s t.events ls lane ccb w y one grounded here empty number answers served next holds fine h.lanes;
      flights = flights-send t.events ls lane ccb w y one.outcome here empty holds h.flights;
      ticks = ticks-push s.config s.limits t.events (Send lane ccb) refl h.ticks;
    })

-- a lane whose port made room
lanes-port : (s : Scenario) (es : List Event) (ws : List Lane) (lane : ℕ) (w new : Lane) → slice_get ws lane ≡ Some w → new.number ≡ w.number → new.port.answers ≡ w.port.answers → new.port.served ≡ w.port.served → new.hand ≡ w.hand → AreLanesAt s es ws → AreLanesAt s es (set ws lane new)
lanes-port s es ws lane w new here number answers served hand all =
    let old = all lane w here in
    λ k x at. elim (get_in_set ws lane k new x at) [
      | inl same ↦ subst (λ n. HasServed s n es x) (sym same.0) (subst (λ (v : Lane). HasServed s lane es v) (sym same.1) (record {
        number = number ∙ old.number;
        answers = answers ∙ old.answers;
        given = subst (λ a. outcomes new.port.served ≡ first_answers a (length new.port.served)) (sym answers) (subst (λ v. outcomes v ≡ first_answers w.port.answers (length v)) (sym served) old.given);
        served = ap outcomes served ∙ old.served ∙ ap (λ o. outcomes_by lane es ++ outcome_in_hand o) (sym hand);
        hand = subst (λ o. IfSome o (in_hand lane es)) (sym hand) old.hand;
        answer = subst (λ o. IfSome o (λ (h : Hand). is_answer h.outcome ≡ true)) (sym hand) old.answer;
      }))
      | inr other ↦ all k x other.1
    ]

flights-port : (es : List Event) (ws : List Lane) (lane : ℕ) (w new : Lane) → slice_get ws lane ≡ Some w → new.hand ≡ w.hand → AreInHand es ws → AreInHand es (set ws lane new)
flights-port es ws lane w new here hand all = λ c flies.
    let old = all c flies in
    elim (old.0 == lane) as (λ b. (old.0 == lane) ≡ b → IsInHand (set ws lane new) c) [
      | true ↦ λ same.
          let at = eqb-true old.0 lane same in
          let is : old.1 ≡ w = some_is old.1 w (sym old.2 ∙ ap (slice_get ws) at ∙ here) in
          (lane, new, set_at ws lane new w here, ap (option_map (λ (h : Hand). h.ccb)) (hand ∙ sym (ap (λ (v : Lane). v.hand) is)) ∙ old.3)
      | false ↦ λ apart. (old.0, old.1, set_beside ws lane old.0 new (λ e. false_true (sym apart ∙ eq-eqb old.0 lane e)) ∙ old.2, old.3)
    ] refl

pub port_step : (s : Scenario) (t : Transport) (ds : List Driver) (ls : List Lane) (r : Bool) (lane : ℕ) (w y : Lane) → slice_get ls lane ≡ Some w → y.number ≡ w.number → y.port.answers ≡ w.port.answers → y.port.served ≡ w.port.served → y.hand ≡ w.hand →
    IsWork (record { script = s; transport = t; drivers = ds; lanes = ls; refused = r }) → IsWork (record { script = s; transport = t; drivers = ds; lanes = set ls lane y; refused = r })
port_step s t ds ls r lane w y here number answers served hand h = record {
  scenario = h.scenario;
  a_round = h.a_round;
  legal = h.legal;
  config = h.config;
  rules = h.rules;
  eight = h.eight;
  size = length-set ls lane y ∙ h.size;
  drivers = h.drivers;
  made = h.made;
  calls = h.calls;
  strangers = h.strangers;
  lanes = lanes-port s t.events ls lane w y here number answers served hand h.lanes;
  flights = flights-port t.events ls lane w y here hand h.flights;
  ticks = h.ticks;
}

-- recovery is marked
pub mark_step : (s : Scenario) (t : Transport) (ds : List Driver) (ls : List Lane) (r after : Bool) → IsWork (record { script = s; transport = t; drivers = ds; lanes = ls; refused = r }) → IsWork (record { script = s; transport = t; drivers = ds; lanes = ls; refused = after })
mark_step s t ds ls r after h = record {
  scenario = h.scenario;
  a_round = h.a_round;
  legal = h.legal;
  config = h.config;
  rules = h.rules;
  eight = h.eight;
  size = h.size;
  drivers = h.drivers;
  made = h.made;
  calls = h.calls;
  strangers = h.strangers;
  lanes = h.lanes;
  flights = h.flights;
  ticks = h.ticks;
}

-- the next round opens, and what was refused may be tried again
pub tick_step : (s : Scenario) (t new : Transport) (ds after : List Driver) (ls : List Lane) (r refused : Bool) → map (λ (w : Driver). w.done) after ≡ map (λ (w : Driver). w.done) ds → length after ≡ length ds → may_tick s.config s.limits t.events ≡ true → IsTaken t Tick new →
    IsWork (record { script = s; transport = t; drivers = ds; lanes = ls; refused = r }) → IsWork (record { script = s; transport = new; drivers = after; lanes = ls; refused = refused })
tick_step s t new ds after ls r refused done len may made h =
    subst (λ v. IsWork (record { script = s; transport = v; drivers = after; lanes = ls; refused = refused })) (sym made.1) (record {
      scenario = h.scenario;
      a_round = h.a_round;
      legal = legal_more t Tick new made h.legal;
      config = h.config;
      rules = h.rules;
      eight = len ∙ h.eight;
      size = h.size;
      drivers = λ d w at.
          let old = map_at (λ (x : Driver). x.done) after ds d w done at in
          subst (λ n. HasDone (steps_of s d) d (t.events ++ Tick ∷ []) n) (sym old.2) (drivers-other s t.events Tick ds (λ k. refl) h.drivers d old.0 old.1);
      made = made-other s t.events Tick after refl (made-same s t.events ds after done h.made);
      calls = no_call t.events Tick refl ∙ h.calls ∙ sym (calls_done-same after ds s.drivers done);
      strangers = strangers-other t.events Tick (λ d. refl) h.strangers;
      lanes = lanes-other s t.events Tick ls refl h.lanes;
      flights = flights-other t.events Tick ls refl h.flights;
      ticks = ticks-push s.config s.limits t.events Tick may h.ticks;
    })
