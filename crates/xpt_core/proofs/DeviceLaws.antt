-- what one event more makes of each device's state
use Rattle.std.proofs.Common.{◌≡◌, ℕ, ◌+◌, ◌-◌, ◌<◌, Bool, true, false, cond, List, [], ◌∷◌, ◌++◌, length, refl, sym, ap, ◌∙◌, arith, Some, None, add-zero, map, drop, not, ◌==◌, ◌&&◌, ◌||◌, count_by}
use Rattle.std.proofs.lemmas.Bool.{eqb-true, eqb-false}
use Rattle.std.specs.Option.{option_map, option_map_or}
use Rattle.xpt_core.specs.Words.{Topology, Flags, Outcome, is_some_and, is_tick, is_send_of, is_erring, submission_of, round, commands, ccbs, submission, is_in_flight, is_recovering, sending_of, goes_to, caller_count, error_count, stay_begun, openings, Event, Submit, Send, Done, Requeue, Finish, FreezeDev, ReleaseDev, FreezeSim, ReleaseSim, Adjust, Tick, Submission, Passage, Sending, device_of, Device, enter, Waiting}
use Rattle.event_rules.proofs.StateLaws.{is_in_flight-push, is_recovering-push}
use Rattle.event_rules.proofs.QueueLaws.{later-tick}
use Rattle.event_rules.proofs.ShareLaws.{error_count-share, share-same, share-submit, share-gain, share-lose, flying-other, recovering-other, same_number, flies-send, lands-done}
use Rattle.event_rules.proofs.TotalLaws.{submitted_stay, requeued_stay}
use Rattle.event_rules.proofs.StandLemmas.{AreStates, new-states, flying-states}
use Rattle.event_rules.proofs.FirstLemmas.{IsFirst, stands, in_order-first, in_order-elsewhere, later-send}
use Rattle.xpt_core.specs.Device.{entry, in_order, later, next_openings, is_in_flight_at, device_state}
use Rattle.xpt_core.specs.DeviceUpdates.{with_stay, with_send, with_done, with_requeue, with_finish, with_freezes, less_freezes, with_openings, in_next_round}
use Rattle.xpt_core.proofs.FieldLaws.{entered, entered-push, next_openings-push, openings-still, openings-tick, sent_now, sent-push, sent-tick}
use Rattle.event_rules.proofs.CoverLemmas.{AreCovered, callers-same, callers-freeze, callers-release, callers-send}
use Rattle.xpt_core.proofs.OrderLaws.{in_order-same, later-same, waiting-submit, later-submit, in_order-requeue, later-requeue, waiting-tick, entries-drop}

-- how many CCBs are in flight to the device
abbrev pub flying_count : List Event → ℕ → ℕ
flying_count es d = count_by (is_in_flight_at es d) (ccbs es)

abbrev to_device : ℕ → Submission → Bool
to_device d s = s.device == d

abbrev frozen_device : ℕ → Submission → Bool
frozen_device d s = (s.device == d) && not s.flags.qfrzdis

-- a device by its parts
abbrev device : List Waiting → List Waiting → ℕ → ℕ → ℕ → ℕ → ℕ → ℕ → ℕ → ℕ → Device
device w l n o p s f a r k = record {
  waiting = w;
  later = l;
  capacity = n;
  openings = o;
  next_openings = p;
  sent = s;
  in_flight = f;
  callers = a;
  errors = r;
  entered = k;
}

device-same : (w w' l l' : List Waiting) (n o o' p p' s s' f f' a a' r r' k k' : ℕ) → w ≡ w' → l ≡ l' → o ≡ o' → p ≡ p' → s ≡ s' → f ≡ f' → a ≡ a' → r ≡ r' → k ≡ k' →
    device w l n o p s f a r k ≡ device w' l' n o' p' s' f' a' r' k'
device-same w w' l l' n o o' p p' s s' f f' a a' r r' k k' ew el eo ep es ef ea er ek = rw (ew, el, eo, ep, es, ef, ea, er, ek) refl

-- the state of a device after one event more, by its parts
parts : (c : Topology) (n : ℕ) (es : List Event) (d : ℕ) (w l : List Waiting) (o p s f a r k : ℕ) → map entry (in_order es d) ≡ w → map entry (later es d) ≡ l → openings c es d ≡ o → next_openings c es d ≡ p →
    sent_now es d ≡ s → flying_count es d ≡ f → caller_count es d ≡ a → error_count es d ≡ r → entered es d ≡ k → device_state c n es d ≡ device w l n o p s f a r k
unfolding device_state
parts c n es d w l o p s f a r k ew el eo ep en ef ea er ek = device-same _ _ _ _ n _ _ _ _ _ _ _ _ _ _ _ _ _ _ ew el eo ep en ef ea er ek

own_parts : (c : Topology) (n : ℕ) (es : List Event) (d : ℕ) →
    device_state c n es d ≡ device (map entry (in_order es d)) (map entry (later es d)) n (openings c es d) (next_openings c es d) (sent_now es d) (flying_count es d) (caller_count es d) (error_count es d) (entered es d)
own_parts c n es d = parts c n es d _ _ _ _ _ _ _ _ _ refl refl refl refl refl refl refl refl refl

-- a device where a change hits it, or doesn't
abbrev hits : Bool → (Device → Device) → Device → Device
hits b change q = cond b (change q) q

-- an event that concerns no CCB, and begins and sends no stay
module _ (c : Topology) (n : ℕ) (es : List Event) (d : ℕ) where
  abbrev state : Device
  state = device_state c n es d

  -- the callers' freezes and the next openings may change
  quiet : (e : Event) (a p : ℕ) → is_tick e ≡ false → stay_begun (es, e) ≡ None → ((x : Passage) → not (is_send_of x.ccb e) ≡ true) → submission_of e ≡ None → sending_of (es, e) ≡ None →
      ((k : ℕ) → is_in_flight (es ++ e ∷ []) k ≡ is_in_flight es k) → ((k : ℕ) → is_recovering (es ++ e ∷ []) k ≡ is_recovering es k) →
      caller_count (es ++ e ∷ []) d ≡ a → next_openings c (es ++ e ∷ []) d ≡ p → device_state c n (es ++ e ∷ []) d ≡ record state { callers = a; next_openings = p }
  unfolding device_state
  quiet e a p still begins sends none send flying recovers ea ep =
      parts c n (es ++ e ∷ []) d _ _ _ _ _ _ _ _ _
      (ap (map entry) (in_order-same es e d still begins sends)) (ap (map entry) (later-same es e d still begins sends)) (openings-still c es e d still) ep
      (sent-push es e d still ∙ ap (λ o. sent_now es d + cond (is_some_and (goes_to d) o) 1 0) send ∙ add-zero (sent_now es d))
      (share-same is_in_flight (to_device d) es e none flying) ea
      (error_count-share (es ++ e ∷ []) d ∙ share-same is_recovering (frozen_device d) es e none recovers ∙ sym (error_count-share es d))
      (entered-push es e d None begins ∙ add-zero (entered es d))

  freeze_cases : (b : Bool) (count : ℕ) (q : Device) → record q { callers = q.callers + cond b count 0 } ≡ hits b (with_freezes count) q
  freeze_cases true count q = refl
  freeze_cases false count q = ap (λ k. record q { callers = k }) (add-zero q.callers)

  pub state-freeze : (target count : ℕ) → AreCovered es → device_state c n (es ++ FreezeDev target count ∷ []) d ≡ hits (target == d) (with_freezes count) state
  unfolding device_state
  state-freeze target count covered =
      let e = FreezeDev target count in
      quiet e _ _ refl refl (λ x. refl) refl refl (λ k. is_in_flight-push es e k) (λ k. is_recovering-push es e k) (callers-freeze es target count d covered) (next_openings-push c es e d)
      ∙ freeze_cases (target == d) count state

  release_cases : (b : Bool) (count : ℕ) (q : Device) → record q { callers = q.callers - cond b count 0 } ≡ hits b (less_freezes count) q
  release_cases true count q = refl
  release_cases false count q = ap (λ k. record q { callers = k }) (omega arith)

  pub state-release : (target count : ℕ) → device_state c n (es ++ ReleaseDev target count ∷ []) d ≡ hits (target == d) (less_freezes count) state
  unfolding device_state
  state-release target count =
      let e = ReleaseDev target count in
      quiet e _ _ refl refl (λ x. refl) refl refl (λ k. is_in_flight-push es e k) (λ k. is_recovering-push es e k) (callers-release es target count d) (next_openings-push c es e d)
      ∙ release_cases (target == d) count state

  adjust_cases : (b : Bool) (count : ℕ) (q : Device) → record q { next_openings = cond b count q.next_openings } ≡ hits b (with_openings count) q
  adjust_cases true count q = refl
  adjust_cases false count q = refl

  pub state-adjust : (target count : ℕ) → device_state c n (es ++ Adjust target count ∷ []) d ≡ hits (target == d) (with_openings count) state
  unfolding device_state
  state-adjust target count =
      let e = Adjust target count in
      quiet e _ _ refl refl (λ x. refl) refl refl (λ k. is_in_flight-push es e k) (λ k. is_recovering-push es e k) (callers-same es e d refl) (next_openings-push c es e d)
      ∙ adjust_cases (target == d) count state

  pub state-freeze_sim : (sim count : ℕ) → device_state c n (es ++ FreezeSim sim count ∷ []) d ≡ state
  unfolding device_state
  state-freeze_sim sim count =
      let e = FreezeSim sim count in
      quiet e _ _ refl refl (λ x. refl) refl refl (λ k. is_in_flight-push es e k) (λ k. is_recovering-push es e k) (callers-same es e d refl) (next_openings-push c es e d)

  pub state-release_sim : (sim : ℕ) → device_state c n (es ++ ReleaseSim sim ∷ []) d ≡ state
  unfolding device_state
  state-release_sim sim =
      let e = ReleaseSim sim in
      quiet e _ _ refl refl (λ x. refl) refl refl (λ k. is_in_flight-push es e k) (λ k. is_recovering-push es e k) (callers-same es e d refl) (next_openings-push c es e d)

  -- a tick
  pub state-tick : device_state c n (es ++ Tick ∷ []) d ≡ in_next_round state
  unfolding device_state
  state-tick =
      parts c n (es ++ Tick ∷ []) d _ _ _ _ _ _ _ _ _
      (waiting-tick es d) (ap (map entry) (later-tick es d)) (openings-tick c es d) (next_openings-push c es Tick d) (sent-tick es d)
      (share-same is_in_flight (to_device d) es Tick refl (λ k. is_in_flight-push es Tick k)) (callers-same es Tick d refl)
      (error_count-share (es ++ Tick ∷ []) d ∙ share-same is_recovering (frozen_device d) es Tick refl (λ k. is_recovering-push es Tick k) ∙ sym (error_count-share es d))
      (entered-push es Tick d None refl ∙ add-zero (entered es d))

  -- a submit
  submit_cases : (b : Bool) (w : Waiting) (q : Device) → record q { waiting = cond b (enter q.waiting w) q.waiting; entered = q.entered + cond b 1 0 } ≡ hits b (with_stay w) q
  submit_cases true w q = refl
  submit_cases false w q = ap (λ k. record q { entered = k }) (add-zero q.entered)

  pub state-submit : (driver target priority retries : ℕ) (flags : Flags) → AreStates es →
      device_state c n (es ++ Submit driver target priority retries flags ∷ []) d ≡ hits (target == d) (with_stay (record { ccb = commands es; priority = priority })) state
  unfolding device_state
  state-submit driver target priority retries flags states =
      let e = Submit driver target priority retries flags in
      let s : Submission = record { driver = driver; device = target; priority = priority; retries = retries; flags = flags } in
      let new = new-states es (commands es) states (omega arith) in
      parts c n (es ++ e ∷ []) d _ _ _ _ _ _ _ _ _
      (waiting-submit es d driver target priority retries flags) (ap (map entry) (later-submit es d driver target priority retries flags)) (openings-still c es e d refl) (next_openings-push c es e d)
      (sent-push es e d refl ∙ add-zero (sent_now es d))
      (share-submit is_in_flight (to_device d) es e s refl (λ k. is_in_flight-push es e k) new.in_flight) (callers-same es e d refl)
      (error_count-share (es ++ e ∷ []) d ∙ share-submit is_recovering (frozen_device d) es e s refl (λ k. is_recovering-push es e k) new.recovering ∙ sym (error_count-share es d))
      (entered-push es e d (Some (submitted_stay es target priority)) refl)
      ∙ submit_cases (target == d) (record { ccb = commands es; priority = priority }) state

still_false : (b x : Bool) → x ≡ false → cond b false x ≡ false
still_false true x e = refl
still_false false x e = e

taken_new : (b x y : Bool) → b ≡ true → cond b y x ≡ y
taken_new true x y e = refl
taken_new false x y e = absurd (cc)

or-left : (a b : Bool) → a ≡ true → (a || b) ≡ true
or-left true b e = refl
or-left false b e = absurd (cc)

or-right : (a b : Bool) → b ≡ true → (a || b) ≡ true
or-right true b e = refl
or-right false b e = e

-- what is known of the CCB that an event concerns
module _ (c : Topology) (n : ℕ) (es : List Event) (d ccb : ℕ) (s : Submission) (is : submission es ccb ≡ Some s) (lt : ccb < commands es) where
  abbrev own_state : Device
  own_state = device_state c n es d

  own_device : device_of es ccb ≡ s.device
  own_device = ap (λ o. option_map_or (λ (x : Submission). x.device) o 0) is

  hit_device : is_some_and (to_device d) (submission es ccb) ≡ (s.device == d)
  hit_device = ap (is_some_and (to_device d)) is

  hit_frozen : is_some_and (frozen_device d) (submission es ccb) ≡ ((s.device == d) && not s.flags.qfrzdis)
  hit_frozen = ap (is_some_and (frozen_device d)) is

  -- a send
  waiting_cases : (p : Passage) (lane : ℕ) (b : Bool) → (s.device == d) ≡ b → AreStates es → IsFirst c es ccb p →
      map entry (in_order (es ++ Send lane ccb ∷ []) d) ≡ cond b (drop 1 (map entry (in_order es d))) (map entry (in_order es d))
  waiting_cases p lane true at states turn =
      let here : device_of es ccb ≡ d = own_device ∙ eqb-true s.device d at in
      ap (λ k. map entry (in_order (es ++ Send lane ccb ∷ []) k)) (sym here) ∙ ap (map entry) (in_order-first c es ccb p states turn lane)
      ∙ entries-drop (in_order es (device_of es ccb)) ∙ ap (λ k. drop 1 (map entry (in_order es k))) here
  waiting_cases p lane false at states turn =
      ap (map entry) (in_order-elsewhere c es ccb p states turn lane d (λ same. eqb-false s.device d at (sym own_device ∙ sym same)))

  send_cases : (b f : Bool) (q : Device) →
      record q { waiting = cond b (drop 1 q.waiting) q.waiting; sent = q.sent + cond b 1 0; in_flight = q.in_flight + cond b 1 0; callers = q.callers + cond b (cond f 1 0) 0; errors = q.errors + 0 } ≡ hits b (with_send f) q
  send_cases true f q = ap (λ k. record (with_send f q) { errors = k }) (add-zero q.errors)
  send_cases false f q = rw (add-zero q.sent, add-zero q.in_flight, add-zero q.callers, add-zero q.errors) refl

  pub state-send : (p : Passage) (lane : ℕ) → AreStates es → AreCovered es → IsFirst c es ccb p →
      device_state c n (es ++ Send lane ccb ∷ []) d ≡ hits (s.device == d) (with_send s.flags.qfreeze) own_state
  unfolding device_state
  state-send p lane states covered turn =
      let e = Send lane ccb in
      let sending : Sending = record { device = s.device; qfreeze = s.flags.qfreeze; round = round es; place = length es } in
      let sends : sending_of (es, e) ≡ Some sending = ap (option_map (λ (x : Submission). record { device = x.device; qfreeze = x.flags.qfreeze; round = round es; place = length es })) is in
      let w = stands c es ccb p states turn in
      let flies : is_in_flight (es ++ e ∷ []) ccb ≡ true = flies-send es lane ccb in
      let recovers : is_recovering (es ++ e ∷ []) ccb ≡ false = is_recovering-push es e ccb ∙ still_false _ (is_recovering es ccb) w.recovering in
      parts c n (es ++ e ∷ []) d _ _ _ _ _ _ _ _ _
      (waiting_cases p lane (s.device == d) refl states turn) (ap (map entry) (later-send c es ccb p states turn lane d)) (openings-still c es e d refl) (next_openings-push c es e d)
      (sent-push es e d refl ∙ ap (λ o. sent_now es d + cond (is_some_and (goes_to d) o) 1 0) sends)
      (share-gain is_in_flight (to_device d) es e refl ccb lt (λ k ne. flying-other es e ccb k refl ne) true (s.device == d) w.in_flight flies hit_device)
      (callers-send es lane ccb d sending sends covered)
      (error_count-share (es ++ e ∷ []) d ∙ share-gain is_recovering (frozen_device d) es e refl ccb lt (λ k ne. recovering-other es e ccb k refl ne) false _ w.recovering recovers hit_frozen
      ∙ ap (λ k. k + 0) (sym (error_count-share es d)))
      (entered-push es e d None refl ∙ add-zero (entered es d))
      ∙ send_cases (s.device == d) s.flags.qfreeze own_state

  -- a completion
  done_cases : (b g f : Bool) (q : Device) →
      record q { in_flight = q.in_flight - cond b 1 0; errors = q.errors + cond (g && (b && f)) 1 0 } ≡ hits b (with_done (g && f)) q
  done_cases true g f q = refl
  done_cases false true f q = rw (add-zero q.errors) (ap (λ k. record q { in_flight = k }) (omega arith))
  done_cases false false f q = rw (add-zero q.errors) (ap (λ k. record q { in_flight = k }) (omega arith))

  pub state-done : (o : Outcome) → AreStates es → is_in_flight es ccb ≡ true →
      device_state c n (es ++ Done ccb o ∷ []) d ≡ hits (s.device == d) (with_done (is_erring (Done ccb o) && not s.flags.qfrzdis)) own_state
  unfolding device_state
  state-done o states flying =
      let e = Done ccb o in
      let w = flying-states es ccb states flying in
      let lands : is_in_flight (es ++ e ∷ []) ccb ≡ false = lands-done es ccb o in
      let recovers : is_recovering (es ++ e ∷ []) ccb ≡ is_erring e = is_recovering-push es e ccb ∙ taken_new _ (is_recovering es ccb) (is_erring e) (or-left _ _ (or-left _ _ (same_number ccb))) in
      parts c n (es ++ e ∷ []) d _ _ _ _ _ _ _ _ _
      (ap (map entry) (in_order-same es e d refl refl (λ x. refl))) (ap (map entry) (later-same es e d refl refl (λ x. refl))) (openings-still c es e d refl) (next_openings-push c es e d)
      (sent-push es e d refl ∙ add-zero (sent_now es d))
      (share-lose is_in_flight (to_device d) es e refl ccb lt (λ k ne. flying-other es e ccb k refl ne) (s.device == d) flying lands hit_device)
      (callers-same es e d refl)
      (error_count-share (es ++ e ∷ []) d ∙ share-gain is_recovering (frozen_device d) es e refl ccb lt (λ k ne. recovering-other es e ccb k refl ne) (is_erring e) _ w.recovering recovers hit_frozen
      ∙ ap (λ k. k + cond (is_erring e && ((s.device == d) && not s.flags.qfrzdis)) 1 0) (sym (error_count-share es d)))
      (entered-push es e d None refl ∙ add-zero (entered es d))
      ∙ done_cases (s.device == d) (is_erring e) (not s.flags.qfrzdis) own_state

  -- a requeue
  requeue_cases : (b f : Bool) (w : Waiting) (q : Device) →
      record q { later = cond b (q.later ++ w ∷ []) q.later; errors = q.errors - cond (b && f) 1 0; entered = q.entered + cond b 1 0 } ≡ hits b (with_requeue w f) q
  requeue_cases true f w q = refl
  requeue_cases false f w q = rw (add-zero q.entered) (ap (λ k. record q { errors = k }) (omega arith))

  pub state-requeue : AreStates es → is_recovering es ccb ≡ true →
      device_state c n (es ++ Requeue ccb ∷ []) d ≡ hits (s.device == d) (with_requeue (record { ccb = ccb; priority = s.priority }) (not s.flags.qfrzdis)) own_state
  unfolding device_state
  state-requeue states recovering =
      let e = Requeue ccb in
      let begins : stay_begun (es, e) ≡ Some (requeued_stay es ccb s) = ap (option_map (requeued_stay es ccb)) is in
      let leaves : is_recovering (es ++ e ∷ []) ccb ≡ false = is_recovering-push es e ccb ∙ taken_new _ (is_recovering es ccb) false (or-left _ _ (same_number ccb)) in
      parts c n (es ++ e ∷ []) d _ _ _ _ _ _ _ _ _
      (ap (map entry) (in_order-requeue es d ccb s is)) (later-requeue es d ccb s is) (openings-still c es e d refl) (next_openings-push c es e d)
      (sent-push es e d refl ∙ add-zero (sent_now es d))
      (share-same is_in_flight (to_device d) es e refl (λ k. is_in_flight-push es e k)) (callers-same es e d refl)
      (error_count-share (es ++ e ∷ []) d ∙ share-lose is_recovering (frozen_device d) es e refl ccb lt (λ k ne. recovering-other es e ccb k refl ne) _ recovering leaves hit_frozen
      ∙ ap (λ k. k - cond ((s.device == d) && not s.flags.qfrzdis) 1 0) (sym (error_count-share es d)))
      (entered-push es e d (Some (requeued_stay es ccb s)) begins)
      ∙ requeue_cases (s.device == d) (not s.flags.qfrzdis) (record { ccb = ccb; priority = s.priority }) own_state

  -- a finish
  finish_cases : (b f : Bool) (q : Device) → record q { errors = q.errors - cond (b && f) 1 0 } ≡ hits b (with_finish f) q
  finish_cases true f q = refl
  finish_cases false f q = ap (λ k. record q { errors = k }) (omega arith)

  pub state-finish : AreStates es → is_recovering es ccb ≡ true →
      device_state c n (es ++ Finish ccb ∷ []) d ≡ hits (s.device == d) (with_finish (not s.flags.qfrzdis)) own_state
  unfolding device_state
  state-finish states recovering =
      let e = Finish ccb in
      let leaves : is_recovering (es ++ e ∷ []) ccb ≡ false = is_recovering-push es e ccb ∙ taken_new _ (is_recovering es ccb) false (or-right false _ (same_number ccb)) in
      parts c n (es ++ e ∷ []) d _ _ _ _ _ _ _ _ _
      (ap (map entry) (in_order-same es e d refl refl (λ x. refl))) (ap (map entry) (later-same es e d refl refl (λ x. refl))) (openings-still c es e d refl) (next_openings-push c es e d)
      (sent-push es e d refl ∙ add-zero (sent_now es d))
      (share-same is_in_flight (to_device d) es e refl (λ k. is_in_flight-push es e k)) (callers-same es e d refl)
      (error_count-share (es ++ e ∷ []) d ∙ share-lose is_recovering (frozen_device d) es e refl ccb lt (λ k ne. recovering-other es e ccb k refl ne) _ recovering leaves hit_frozen
      ∙ ap (λ k. k - cond ((s.device == d) && not s.flags.qfrzdis) 1 0) (sym (error_count-share es d)))
      (entered-push es e d None refl ∙ add-zero (entered es d))
      ∙ finish_cases (s.device == d) (not s.flags.qfrzdis) own_state
