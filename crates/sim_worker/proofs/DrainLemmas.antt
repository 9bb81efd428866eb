-- where something is left to do
use Rattle.std.proofs.Common.{◌≡◌, ℕ, zero, suc, ◌+◌, ◌<◌, Bool, true, false, List, [], refl, sym, ap, ◌∙◌, arith, Some, None, ltb-true, is_some, slice_get, ◌&&◌}
use Rattle.std.specs.List.{list_any, range_with_len}
use Rattle.std.proofs.lemmas.Bool.{and_parts}
use Rattle.cam_types.specs.Questions.{devices, is_on}
use Rattle.event_rules.specs.Head.{may_send, is_ready}
use Rattle.event_rules.specs.Counts.{commands}
use Rattle.event_rules.specs.Stays.{first, queue}
use Rattle.event_rules.proofs.StandLemmas.{in_flight_held, recovering_held, states-legal}
use Rattle.xpt_core.proofs.StayPlaceLemmas.{any_at}
use Rattle.xpt_state.proofs.IdleLemmas.{is_some-head}
use Rattle.sim_worker.specs.Words.{Topology, Event, ccbs, is_in_flight, has_in_flight, is_recovering, waiting, next_case, has_head, head, is_some_and, Case}
use Rattle.trace_file.specs.declared.step.Step.TheVariants as step
use Rattle.sim_worker.specs.Endings.{IsDrained}
use Rattle.sim_worker.specs.Work.{Work, IsWork, steps_of, Driver}
use Rattle.sim_worker.proofs.CallLemmas.{fewer_done}
use Rattle.sim_worker.proofs.CaseLemmas.{case_is}
use Rattle.sim_worker.proofs.FullLemmas.{false_true}
use Rattle.sim_worker.proofs.ListFacts.{none_any}

-- a driver stands at a call
pub left_to_call : (w : Work) (d : ℕ) (x : Driver) (e : Event) → IsWork w → slice_get w.drivers d ≡ Some x → slice_get (steps_of w.script d) x.done ≡ Some (step.Act e) → IsDrained w.script w.transport.events → ⊥
left_to_call w d x e h here there drained = absurd (omega (arith, fewer_done w.drivers w.script.drivers d x e here there, h.calls, drained.calls))

at_range : (a n k : ℕ) → k < n → slice_get (range_with_len a n) k ≡ Some (a + k)
at_range a zero k lt = absurd (omega arith)
at_range a (suc n) zero lt = ap (λ i. Some i) (omega arith)
at_range a (suc n) (suc k) lt = at_range (a + 1) n k (omega arith) ∙ ap (λ i. Some i) (omega arith)

among_ccbs : (p : ℕ → Bool) (es : List Event) (ccb : ℕ) → ccb < commands es → p ccb ≡ true → list_any p (ccbs es) ≡ true
among_ccbs p es ccb lt h = any_at p (ccbs es) ccb ccb (at_range 0 (commands es) ccb lt ∙ ap (λ i. Some i) (omega arith)) h

-- a command is in flight
pub left_in_flight : (w : Work) (ccb : ℕ) → IsWork w → is_in_flight w.transport.events ccb ≡ true → IsDrained w.script w.transport.events → ⊥
unfolding has_in_flight
left_in_flight w ccb h flies drained =
    let held = in_flight_held w.transport.events ccb ((states-legal w.transport.rules w.transport.config w.transport.events h.legal).placed ccb) flies in
    false_true (sym drained.quiet.landed ∙ among_ccbs (is_in_flight w.transport.events) w.transport.events ccb (ltb-true _ _ held.0) flies)

-- a CCB waits for a decision
pub left_to_decide : (w : Work) (case : Case) → IsWork w → next_case w.transport.events ≡ Some case → IsDrained w.script w.transport.events → ⊥
left_to_decide w case h is drained =
    let recovers = (case_is w.transport.rules w.transport.config w.transport.events case h.legal is).recovers in
    let held = recovering_held w.transport.events case.ccb ((states-legal w.transport.rules w.transport.config w.transport.events h.legal).placed case.ccb) recovers in
    false_true (sym drained.quiet.decided ∙ among_ccbs (is_recovering w.transport.events) w.transport.events case.ccb (ltb-true _ _ held.0) recovers)

-- where nothing waits no device is ready
none_ready : (c : Topology) (es : List Event) (a d : ℕ) → waiting es ≡ [] → may_send c es a d ≡ false
unfolding is_ready first queue
none_ready c es a d none = rw none (and_false (is_on c a d))
  where
    and_false : (b : Bool) → (b && false) ≡ false
    and_false true = refl
    and_false false = refl

-- an adapter has something to send
pub left_to_send : (c : Topology) (es : List Event) (lane : ℕ) → has_head c es lane ≡ true → waiting es ≡ [] → ⊥
left_to_send c es lane h none = elim (slice_get c.lanes lane) as (λ o. is_some_and (λ a. is_some (head c es a)) o ≡ true → ⊥) [
  | None ↦ λ is. absurd (cc)
  | Some a ↦ λ is.
      let may = (and_parts _ (list_any (may_send c es a) (devices c)) (sym (is_some-head c es a) ∙ is)).1 in
      false_true (sym (none_any (may_send c es a) (devices c) (λ k d at. none_ready c es a d none)) ∙ may)
] h
