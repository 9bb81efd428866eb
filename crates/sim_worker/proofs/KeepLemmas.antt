-- where no one is able to act
use Rattle.std.proofs.Common.{◌≡◌, ℕ, zero, suc, ◌+◌, ◌-◌, ◌<◌, ◌≤◌, Bool, true, false, List, [], ◌∷◌, ◌++◌, length, get_or, refl, sym, ap, ◌∙◌, arith, Option, Some, None, not, ◌||◌, nat_le, nat_lt, slice_get, is_some, take, drop}
use Rattle.std.specs.Option.{option_map, option_map_or}
use Rattle.std.specs.List.{list_any, list_all}
use Rattle.std.proofs.lemmas.Bool.{and_parts, and_from, lt-ltb, ltb-true, ltb-false}
use Rattle.std.proofs.lemmas.List.Elements.{filter_map-append}
use Rattle.sim_worker.specs.Words.{Topology, asks_requeue, is_some_and, round, ccbs, has_in_flight, is_in_flight, head, stays_begun, Requeue, Rules, Step, refused, next_case, has_head}
use Rattle.sim_worker.specs.Endings.{IsDrained}
use Rattle.sim_worker.specs.Runs.{submits, submit_asked, submits_asked, is_over, are_lanes_idle, is_stuck, may_recovery_rest, may_tick, IsPrefix}
use Rattle.sim_worker.specs.Work.{Work, AreBehindPauses, IsWork, IsAtEnd, actor_at, is_able, steps_of, Hand, Lane}
use Rattle.sim_worker.specs.Held.{is_for_stays, is_held_up}
use Rattle.sim_worker.specs.declared.actor.Actor.TheVariants as actors
use Rattle.sim_worker.proofs.CallLemmas.{all_done}
use Rattle.sim_worker.proofs.CaseLemmas.{none_recovers}
use Rattle.sim_worker.proofs.DrainLemmas.{left_to_call, left_to_decide}
use Rattle.sim_worker.proofs.FullLemmas.{false_true}
use Rattle.event_rules.proofs.QueueLaws.{test_le}
use Rattle.trace_file.specs.declared.step.Step.TheVariants as step
use Rattle.sim_worker.proofs.ListFacts.{any_some, none_any, take_and_drop}
use Rattle.sim_worker.proofs.RestLemmas.{stays_full}
use Rattle.sim_worker.proofs.RunListFacts.{all_at, get_there, take_whole, there_is}

abbrev pub AllRest : Work → Type 0
AllRest w = (i : ℕ) → i < 9 + length w.lanes → is_able w (actor_at (length w.lanes) i) ≡ false

past_drivers : (lanes k : ℕ) → k < lanes → actor_at lanes (8 + k) ≡ actors.Lane k
past_drivers lanes k lt =
    let one : nat_lt (8 + k) 8 ≡ false = grind (arith) in
    let two : nat_lt (8 + k) (8 + lanes) ≡ true = lt-ltb (8 + k) (8 + lanes) (omega arith) in
    let three : 8 + k - 8 ≡ k = omega arith in
    rw (one, two, three) refl

past_lanes : (lanes : ℕ) → actor_at lanes (8 + lanes) ≡ actors.Recovery
past_lanes lanes =
    let one : nat_lt (8 + lanes) 8 ≡ false = grind (arith) in
    let two : nat_lt (8 + lanes) (8 + lanes) ≡ false = grind (arith) in
    rw (one, two) refl

or_none : (a b : Bool) → (a || b) ≡ false → (a ≡ false) × (b ≡ false)
or_none true b h = absurd (cc)
or_none false b h = (refl, h)

lane_rests : (w : Work) → AllRest w → (k : ℕ) (x : Lane) → slice_get w.lanes k ≡ Some x → (is_some x.hand ≡ false) × (has_head w.transport.config w.transport.events x.number ≡ false)
lane_rests w rest k x at =
    let lt = there_is w.lanes k x at in
    let able = sym (ap (is_able w) (past_drivers (length w.lanes) k lt)) ∙ rest (8 + k) (omega (arith, lt)) in
    or_none (is_some x.hand) _ (sym (ap (λ o. is_some_and (λ (v : Lane). is_some v.hand || has_head w.transport.config w.transport.events v.number) o) at) ∙ able)

held_none : (o : Option Hand) (c : ℕ) → is_some o ≡ false → option_map (λ (h : Hand). h.ccb) o ≡ Some c → ⊥
held_none None c h is = absurd (cc)
held_none (Some x) c h is = false_true (sym h)

pub landed : (w : Work) → IsWork w → AllRest w → has_in_flight w.transport.events ≡ false
unfolding has_in_flight
landed w h rest = elim (list_any (is_in_flight w.transport.events) (ccbs w.transport.events)) as (λ b. list_any (is_in_flight w.transport.events) (ccbs w.transport.events) ≡ b → b ≡ false) [
  | true ↦ λ some.
      let one = any_some (is_in_flight w.transport.events) (ccbs w.transport.events) some in
      let hand = h.flights one.0 one.1 in
      absurd (held_none hand.1.hand one.0 (lane_rests w rest hand.0 hand.1 hand.2).0 hand.3)
  | false ↦ λ none. refl
] refl

lanes_idle : (w : Work) → IsWork w → AllRest w → are_lanes_idle w.transport.config w.transport.events ≡ true
lanes_idle w h rest = ap not (none_any (λ a. is_some (head w.transport.config w.transport.events a)) w.transport.config.lanes (λ k a at.
    let size : length w.transport.config.lanes ≡ length w.lanes = ap (λ (c : Topology). length c.lanes) h.config ∙ sym h.size in
    let lane = get_there w.lanes k (omega (arith, there_is w.transport.config.lanes k a at, size)) in
    let none = (lane_rests w rest k lane.0 lane.1).1 in
    sym (ap (is_some_and (λ b. is_some (head w.transport.config w.transport.events b))) at) ∙ ap (has_head w.transport.config w.transport.events) (sym (h.lanes k lane.0 lane.1).number) ∙ none))

not_both : (marked held : Bool) → (not marked || not held) ≡ false → held ≡ true
not_both true true h = refl
not_both true false h = absurd (false_true (sym h))
not_both false held h = absurd (false_true (sym h))

recovery_rests : (w : Work) → IsWork w → AllRest w → may_recovery_rest w.script.limits w.transport.events ≡ true
recovery_rests w h rest =
    let able = sym (ap (is_able w) (past_lanes (length w.lanes))) ∙ rest (8 + length w.lanes) (omega arith) in
    elim (next_case w.transport.events) as (λ o. is_some_and (λ case. not w.refused || not (is_held_up w.transport case)) o ≡ false → option_map_or (is_stuck w.script.limits w.transport.events) o true ≡ true) [
      | None ↦ λ none. refl
      | Some case ↦ λ none.
          let held = not_both w.refused (is_held_up w.transport case) none in
          let parts = and_parts (asks_requeue case.class) (is_for_stays (refused w.transport (Requeue case.ccb))) held in
          let full = stays_full w.transport.rules w.transport.config w.transport.events case.ccb parts.1 in
          and_from _ _ parts.0 (ap (λ (r : Rules). nat_le r.stays (length (stays_begun w.transport.events))) (sym h.rules) ∙ full)
    ] able

pub round_may_open : (w : Work) → IsWork w → AllRest w → may_tick w.script.config w.script.limits w.transport.events ≡ true
round_may_open w h rest = ap (λ c. may_tick c w.script.limits w.transport.events) (sym h.config) ∙ and_from _ _ (lanes_idle w h rest) (recovery_rests w h rest)

-- the steps of a driver that isn't there
no_steps : (ls : List (List Step)) (d : ℕ) → length ls ≤ d → get_or ls d [] ≡ []
no_steps [] d le = refl
no_steps (l ∷ ls) zero le = absurd (omega arith)
no_steps (l ∷ ls) (suc d) le = no_steps ls d (omega arith)

-- what each driver submitted is a prefix of what it was to submit
pub prefixes : (w : Work) → IsWork w → (d : ℕ) → IsPrefix (submits d w.transport.events) (submits_asked (steps_of w.script d))
prefixes w h d = elim (nat_lt d 8) as (λ b. nat_lt d 8 ≡ b → IsPrefix (submits d w.transport.events) (submits_asked (steps_of w.script d))) [
  | true ↦ λ lt.
      let x = get_there w.drivers d (omega (arith, ltb-true d 8 lt, h.eight)) in
      let done = h.drivers d x.0 x.1 in
      (submits_asked (drop x.0.done (steps_of w.script d)), ap (λ front. front ++ submits_asked (drop x.0.done (steps_of w.script d))) done.submits ∙ sym (filter_map-append submit_asked (take x.0.done (steps_of w.script d)) (drop x.0.done (steps_of w.script d))) ∙ ap submits_asked (take_and_drop (steps_of w.script d) x.0.done))
  | false ↦ λ ge. (submits_asked (steps_of w.script d), ap (λ front. front ++ submits_asked (steps_of w.script d)) (h.strangers d (ltb-false d 8 ge)))
] refl

pub drained : (w : Work) → IsWork w → AllRest w → IsAtEnd w → IsDrained w.script w.transport.events
drained w h rest end = record {
  calls = h.calls ∙ all_done w.drivers w.script.drivers (h.eight ∙ sym h.scenario.eight) end.rows;
  submits = λ d. elim (nat_lt d 8) as (λ b. nat_lt d 8 ≡ b → submits d w.transport.events ≡ submits_asked (steps_of w.script d)) [
    | true ↦ λ lt.
        let x = get_there w.drivers d (omega (arith, ltb-true d 8 lt, h.eight)) in
        (h.drivers d x.0 x.1).submits ∙ ap submits_asked (take_whole (steps_of w.script d) x.0.done (end.rows d x.0 x.1))
    | false ↦ λ ge. h.strangers d (ltb-false d 8 ge) ∙ sym (ap submits_asked (no_steps w.script.drivers d (omega (arith, ltb-false d 8 ge, h.scenario.eight))))
  ] refl;
  pauses = λ d. elim (nat_lt d 8) as (λ b. nat_lt d 8 ≡ b → list_all (is_over (round w.transport.events)) (steps_of w.script d) ≡ true) [
    | true ↦ λ lt.
        let x = get_there w.drivers d (omega (arith, ltb-true d 8 lt, h.eight)) in
        ap (list_all (is_over (round w.transport.events))) (sym (take_whole (steps_of w.script d) x.0.done (end.rows d x.0 x.1))) ∙ (h.drivers d x.0 x.1).pauses
    | false ↦ λ ge. ap (list_all (is_over (round w.transport.events))) (no_steps w.script.drivers d (omega (arith, ltb-false d 8 ge, h.scenario.eight)))
  ] refl;
  quiet = record {
    sent = end.sent;
    landed = landed w h rest;
    decided = none_recovers w.transport.rules w.transport.config w.transport.events h.legal end.cases;
  };
}

-- where all rest, and no driver stands at a pause that is over, what is drained is at its end
pub at_end : (w : Work) → IsWork w → AllRest w → AreBehindPauses w → IsDrained w.script w.transport.events → IsAtEnd w
at_end w h rest behind drained = record {
  rows = λ d x at. elim (slice_get (steps_of w.script d) x.done) as (λ o. slice_get (steps_of w.script d) x.done ≡ o → length (steps_of w.script d) ≤ x.done) [
    | None ↦ λ is. past_all (steps_of w.script d) x.done is
    | Some (step.Act e) ↦ λ is. absurd (left_to_call w d x e h at is drained)
    | Some (step.Pause r) ↦ λ is. absurd (omega (arith, behind d x r at is, test_le r (round w.transport.events) (all_at (is_over (round w.transport.events)) (steps_of w.script d) x.done (step.Pause r) (drained.pauses d) is)))
  ] refl;
  cases = elim (next_case w.transport.events) as (λ o. next_case w.transport.events ≡ o → o ≡ None) [
    | None ↦ λ is. refl
    | Some case ↦ λ is. absurd (left_to_decide w case h is drained)
  ] refl;
  sent = drained.quiet.sent;
}
  where
    past_all : {X : Type 0} → (xs : List X) (n : ℕ) → slice_get xs n ≡ None → length xs ≤ n
    past_all [] n is = omega arith
    past_all (x ∷ xs) zero is = absurd (cc)
    past_all (x ∷ xs) (suc n) is = omega (arith, past_all xs n is)
