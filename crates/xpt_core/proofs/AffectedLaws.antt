-- the devices that an event leaves as they were
use Rattle.std.proofs.Common.{◌≡◌, ◌≢◌, ℕ, true, false, cond, List, [], ◌∷◌, ◌++◌, sym, ap, ◌∙◌, arith, Option, Some, None, ◌==◌, slice_get, option_map}
use Rattle.std.proofs.lemmas.Bool.Decides.{nat_tests}
use Rattle.xpt_core.specs.Words.{Topology, is_tick, submission, first, is_ready, Event, Submit, Send, Done, Requeue, Finish, FreezeDev, ReleaseDev, FreezeSim, ReleaseSim, Adjust, Tick, Submission, Passage, Rules, is_legal_event, is_legal, Device, Waiting}
use Rattle.event_rules.proofs.StandLemmas.{AreStates, states-legal, asks-send, asks-done, asks-requeue, asks-finish}
use Rattle.event_rules.proofs.CoverLemmas.{AreCovered, covered-legal}
use Rattle.event_rules.proofs.FirstLemmas.{first-legal}
use Rattle.dev_queue.specs.Device as dev
use Rattle.xpt_core.specs.Device.{device_state, entry}
use Rattle.xpt_core.specs.Ready.{ready_priority}
use Rattle.xpt_core.proofs.DeviceLaws.{state-submit, state-send, state-done, state-requeue, state-finish, state-freeze, state-release, state-adjust, state-freeze_sim, state-release_sim}
use Rattle.xpt_core.proofs.RoomLemmas.{submitted, ready-state}
use Rattle.xpt_core.proofs.DeviceSoundLemmas.{entry_priority, first-state}

-- the device that an event names, or that its CCB was submitted to
abbrev pub affected : List Event → Event → Option ℕ
affected es (Submit driver device priority retries flags) = Some device
affected es (Send lane ccb) = option_map (λ (s : Submission). s.device) (submission es ccb)
affected es (Done ccb outcome) = option_map (λ (s : Submission). s.device) (submission es ccb)
affected es (Requeue ccb) = option_map (λ (s : Submission). s.device) (submission es ccb)
affected es (Finish ccb) = option_map (λ (s : Submission). s.device) (submission es ccb)
affected es (FreezeDev device count) = Some device
affected es (ReleaseDev device count) = Some device
affected es (Adjust device openings) = Some device
affected es _ = None

-- where the change doesn't hit the device
other_number : (a b : ℕ) → a ≢ b → (a == b) ≡ false
other_number a b ne = grind (arith, nat_tests)

missed : (target d : ℕ) (made q q' : Device) → q' ≡ cond (target == d) made q → target ≢ d → q' ≡ q
missed target d made q q' e ne = e ∙ ap (λ b. cond b made q) (other_number target d ne)

own : (es : List Event) (ccb d : ℕ) (s : Submission) → submission es ccb ≡ Some s → option_map (λ (x : Submission). x.device) (submission es ccb) ≢ Some d → s.device ≢ d
own es ccb d s is ne = λ same. ne (ap (option_map (λ (x : Submission). x.device)) is ∙ ap Some same)

module _ (rules : Rules) (c : Topology) (n : ℕ) (es : List Event) (legal : is_legal rules c es ≡ true) (d : ℕ) where
  states : AreStates es
  states = states-legal rules c es legal

  covered : AreCovered es
  covered = covered-legal rules c es legal

  pub state-unaffected : (e : Event) → is_legal_event rules c (es, e) ≡ true → is_tick e ≡ false → affected es e ≢ Some d → device_state c n (es ++ e ∷ []) d ≡ device_state c n es d
  state-unaffected (Submit driver device priority retries flags) allowed still ne =
      missed device d _ _ _ (state-submit c n es d driver device priority retries flags states) (λ same. ne (ap Some same))
  state-unaffected (Send lane ccb) allowed still ne =
      let asks = asks-send rules c es lane ccb allowed in
      let one = submitted es ccb asks.0 in
      let turn = first-legal c es lane ccb asks.1 in
      missed one.0.device d _ _ _ (state-send c n es d ccb one.0 one.1 asks.0 turn.0 lane states covered turn.1) (own es ccb d one.0 one.1 ne)
  state-unaffected (Done ccb o) allowed still ne =
      let asks = asks-done rules c es ccb o allowed in
      let one = submitted es ccb asks.0 in
      missed one.0.device d _ _ _ (state-done c n es d ccb one.0 one.1 asks.0 o states asks.1) (own es ccb d one.0 one.1 ne)
  state-unaffected (Requeue ccb) allowed still ne =
      let asks = asks-requeue rules c es ccb allowed in
      let one = submitted es ccb asks.0 in
      missed one.0.device d _ _ _ (state-requeue c n es d ccb one.0 one.1 asks.0 states asks.1) (own es ccb d one.0 one.1 ne)
  state-unaffected (Finish ccb) allowed still ne =
      let asks = asks-finish rules c es ccb allowed in
      let one = submitted es ccb asks.0 in
      missed one.0.device d _ _ _ (state-finish c n es d ccb one.0 one.1 asks.0 states asks.1) (own es ccb d one.0 one.1 ne)
  state-unaffected (FreezeDev device count) allowed still ne = missed device d _ _ _ (state-freeze c n es d device count covered) (λ same. ne (ap Some same))
  state-unaffected (ReleaseDev device count) allowed still ne = missed device d _ _ _ (state-release c n es d device count) (λ same. ne (ap Some same))
  state-unaffected (Adjust device openings) allowed still ne = missed device d _ _ _ (state-adjust c n es d device openings) (λ same. ne (ap Some same))
  state-unaffected (FreezeSim sim count) allowed still ne = state-freeze_sim c n es d sim count
  state-unaffected (ReleaseSim sim) allowed still ne = state-release_sim c n es d sim
  state-unaffected Tick allowed still ne = absurd (cc)

  -- it is ready as before, and the first of its queue is of the same CCB and priority
  pub ready-unaffected : (e : Event) → is_legal_event rules c (es, e) ≡ true → is_tick e ≡ false → affected es e ≢ Some d → is_ready c (es ++ e ∷ []) d ≡ is_ready c es d
  ready-unaffected e allowed still ne = sym (ready-state c n (es ++ e ∷ []) d) ∙ ap dev.is_ready (state-unaffected e allowed still ne) ∙ ready-state c n es d

  pub first-unaffected : (e : Event) → is_legal_event rules c (es, e) ≡ true → is_tick e ≡ false → affected es e ≢ Some d → option_map entry (first (es ++ e ∷ []) d) ≡ option_map entry (first es d)
  first-unaffected e allowed still ne =
      sym (first-state c n (es ++ e ∷ []) d) ∙ ap (λ (q : Device). slice_get q.waiting 0) (state-unaffected e allowed still ne) ∙ first-state c n es d

  pub ready_priority-unaffected : (e : Event) → is_legal_event rules c (es, e) ≡ true → is_tick e ≡ false → affected es e ≢ Some d → ready_priority c (es ++ e ∷ []) d ≡ ready_priority c es d
  ready_priority-unaffected e allowed still ne =
      ap (λ b. cond b (option_map (λ (p : Passage). p.priority) (first (es ++ e ∷ []) d)) None) (ready-unaffected e allowed still ne)
      ∙ ap (λ o. cond (is_ready c es d) o None)
      (sym (entry_priority (first (es ++ e ∷ []) d)) ∙ ap (option_map (λ (w : Waiting). w.priority)) (first-unaffected e allowed still ne) ∙ entry_priority (first es d))
