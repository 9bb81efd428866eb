-- what one legal event more makes of a transport's devices
use Rattle.std.proofs.Common.{◌≡◌, ℕ, ◌+◌, ◌<◌, ◌≤◌, true, cond, List, [], ◌∷◌, ◌++◌, length, refl, sym, ap, subst, ◌∙◌, arith, Some, map, not, ◌==◌, ◌&&◌, nat_lt, nat_le}
use Rattle.std.specs.Option.{option_map_or}
use Rattle.std.proofs.lemmas.Bool.{and_parts, and_from, eq-eqb, ltb-true, leb-true, not-true}
use Rattle.xpt_core.specs.Words.{Topology, are_openings, MAX_PRIORITY, MAX_RETRIES, MAX_FREEZES, is_some_and, is_erring, round, commands, submission, submissions, is_in_flight, is_recovering, has_in_flight, caller_count, names_device, devices, is_ready, stays_begun, Event, Submit, Send, Done, Requeue, Finish, FreezeDev, ReleaseDev, FreezeSim, ReleaseSim, Adjust, Tick, Submission, Passage, Rules, IsWithinHistory, is_count, is_legal_event, is_legal, is_in_range, device_of}
use Rattle.event_rules.proofs.PushLaws.{few_commands}
use Rattle.event_rules.proofs.LawLemmas.{allowed-legal_event}
use Rattle.event_rules.proofs.LimitLemmas.{room_submit, room_requeue}
use Rattle.event_rules.proofs.RangeLemmas.{range_submit, submissions_in_range, passes-slice_get}
use Rattle.dev_queue.specs.Device.{Device, held_count}
use Rattle.dev_queue.specs.Device as dev
use Rattle.event_rules.proofs.ShareLaws.{error_count-share, some-share}
use Rattle.event_rules.proofs.StandLemmas.{AreStates, states-legal, asks-send, asks-done, asks-requeue, asks-finish}
use Rattle.event_rules.proofs.FirstLemmas.{IsFirst, first-legal}
use Rattle.xpt_core.specs.Device.{device_state}
use Rattle.xpt_core.specs.Places.{at_place, HasAt}
use Rattle.xpt_core.specs.DeviceUpdates.{updated, updated_ccb, CanUpdate, HasCcb, HasRoom, HasError, with_stay, with_send, with_done, with_requeue, with_finish, with_freezes, less_freezes, with_openings, in_next_round}
use Rattle.event_rules.proofs.CoverLemmas.{AreCovered, covered-legal}
use Rattle.xpt_core.proofs.DeviceLaws.{state-submit, state-send, state-done, state-requeue, state-finish, state-freeze, state-release, state-adjust, state-freeze_sim, state-release_sim, state-tick}
use Rattle.xpt_core.proofs.PlaceLemmas.{at_range, all_range, has_range, All-range}
use Rattle.xpt_core.proofs.RoomLemmas.{held-few, entered-few, none-flying, submitted, ready-state}

-- what is known of the CCB that a legal event names
pub record IsCcb (c : Topology) (es : List Event) (ccb : ℕ) (s : Submission) : Type 0 where
  pub is : submission es ccb ≡ Some s
  pub device : s.device < length c.devices
  pub priority : s.priority ≤ MAX_PRIORITY

pub ccb_known : (rules : Rules) (c : Topology) (es : List Event) (ccb : ℕ) → is_legal rules c es ≡ true → ccb < commands es → (s : Submission) × IsCcb c es ccb s
ccb_known rules c es ccb legal lt =
    let one = submitted es ccb lt in
    let s = one.0 in
    let range = passes-slice_get (is_in_range c) (submissions es) ccb s (submissions_in_range rules c es legal) one.1 in
    let two = and_parts (names_device c s.device && nat_le s.priority MAX_PRIORITY) (nat_le s.retries MAX_RETRIES) range in
    let three = and_parts (names_device c s.device) (nat_le s.priority MAX_PRIORITY) two.0 in
    (s, record { is = one.1; device = ltb-true _ _ three.0; priority = leb-true _ _ three.1 })

-- a change of the CCB's device is one of that device
ccb_change : (es : List Event) (ccb : ℕ) (s : Submission) (change : Submission → Device → Device) (qs : List Device) → submission es ccb ≡ Some s → updated_ccb (submissions es) ccb change qs ≡ at_place s.device (change s) qs
ccb_change es ccb s change qs is = ap (λ o. option_map_or (λ (x : Submission). at_place x.device (change x) qs) o qs) is

map_same : (qs : List Device) → map (λ (q : Device). q) qs ≡ qs
map_same [] = refl
map_same (q ∷ qs) = ap (λ rest. q ∷ rest) (map_same qs)

module _ (rules : Rules) (c : Topology) (n : ℕ) (es : List Event) (legal : is_legal rules c es ≡ true) where
  abbrev queues : List Device
  queues = map (device_state c n es) (devices c)

  states : AreStates es
  states = states-legal rules c es legal

  covered : AreCovered es
  covered = covered-legal rules c es legal

  -- the queues after an event that changes one device
  changed : (e : Event) (target : ℕ) (change : Device → Device) → ((d : ℕ) → device_state c n (es ++ e ∷ []) d ≡ cond (target == d) (change (device_state c n es d)) (device_state c n es d)) →
      map (device_state c n (es ++ e ∷ [])) (devices c) ≡ at_place target change queues
  changed e target change h = at_range (device_state c n es) (device_state c n (es ++ e ∷ [])) (length c.devices) target change h

  unchanged : (e : Event) → ((d : ℕ) → device_state c n (es ++ e ∷ []) d ≡ device_state c n es d) → map (device_state c n (es ++ e ∷ [])) (devices c) ≡ queues
  unchanged e h = all_range (device_state c n es) (device_state c n (es ++ e ∷ [])) (length c.devices) (λ q. q) h 0 (length c.devices) ∙ map_same queues

  pub updated-push : (e : Event) → is_legal_event rules c (es, e) ≡ true → map (device_state c n (es ++ e ∷ [])) (devices c) ≡ updated (submissions es) e queues
  updated-push (Submit driver device priority retries flags) allowed =
      changed (Submit driver device priority retries flags) device (with_stay (record { ccb = commands es; priority = priority })) (λ d. state-submit c n es d driver device priority retries flags states)
  updated-push (Send lane ccb) allowed =
      let asks = asks-send rules c es lane ccb allowed in
      let one = ccb_known rules c es ccb legal asks.0 in
      let turn = first-legal c es lane ccb asks.1 in
      changed (Send lane ccb) one.0.device (with_send one.0.flags.qfreeze) (λ d. state-send c n es d ccb one.0 one.1.is asks.0 turn.0 lane states covered turn.1)
      ∙ sym (ccb_change es ccb one.0 (λ s. with_send s.flags.qfreeze) queues one.1.is)
  updated-push (Done ccb o) allowed =
      let asks = asks-done rules c es ccb o allowed in
      let one = ccb_known rules c es ccb legal asks.0 in
      changed (Done ccb o) one.0.device (with_done (is_erring (Done ccb o) && not one.0.flags.qfrzdis)) (λ d. state-done c n es d ccb one.0 one.1.is asks.0 o states asks.1)
      ∙ sym (ccb_change es ccb one.0 (λ s. with_done (is_erring (Done ccb o) && not s.flags.qfrzdis)) queues one.1.is)
  updated-push (Requeue ccb) allowed =
      let asks = asks-requeue rules c es ccb allowed in
      let one = ccb_known rules c es ccb legal asks.0 in
      changed (Requeue ccb) one.0.device (with_requeue (record { ccb = ccb; priority = one.0.priority }) (not one.0.flags.qfrzdis)) (λ d. state-requeue c n es d ccb one.0 one.1.is asks.0 states asks.1)
      ∙ sym (ccb_change es ccb one.0 (λ s. with_requeue (record { ccb = ccb; priority = s.priority }) (not s.flags.qfrzdis)) queues one.1.is)
  updated-push (Finish ccb) allowed =
      let asks = asks-finish rules c es ccb allowed in
      let one = ccb_known rules c es ccb legal asks.0 in
      changed (Finish ccb) one.0.device (with_finish (not one.0.flags.qfrzdis)) (λ d. state-finish c n es d ccb one.0 one.1.is asks.0 states asks.1)
      ∙ sym (ccb_change es ccb one.0 (λ s. with_finish (not s.flags.qfrzdis)) queues one.1.is)
  updated-push (FreezeDev device count) allowed = changed (FreezeDev device count) device (with_freezes count) (λ d. state-freeze c n es d device count covered)
  updated-push (ReleaseDev device count) allowed = changed (ReleaseDev device count) device (less_freezes count) (λ d. state-release c n es d device count)
  updated-push (Adjust device openings) allowed = changed (Adjust device openings) device (with_openings openings) (λ d. state-adjust c n es d device openings)
  updated-push (FreezeSim sim count) allowed = unchanged (FreezeSim sim count) (λ d. state-freeze_sim c n es d sim count)
  updated-push (ReleaseSim sim) allowed = unchanged (ReleaseSim sim) (λ d. state-release_sim c n es d sim)
  updated-push Tick allowed = all_range (device_state c n es) (device_state c n (es ++ Tick ∷ [])) (length c.devices) in_next_round (λ d. state-tick c n es d) 0 (length c.devices)

-- what a legal event finds in the queues
module _ (b : Rules) (within : IsWithinHistory b) (c : Topology) (es : List Event) (legal : is_legal b c es ≡ true) where
  abbrev found : List Device
  found = map (device_state c b.stays es) (devices c)

  at_found : (P : Device → Type 0) (d : ℕ) → d < length c.devices → P (device_state c b.stays es d) → HasAt P found d
  at_found P d lt h = has_range P (device_state c b.stays es) (length c.devices) d lt h

  has_room : (d : ℕ) → length (stays_begun es) < b.stays → HasRoom (device_state c b.stays es d)
  unfolding device_state
  has_room d lt = record {
    room = omega (arith, lt, held-few c b.stays es d);
    few = omega (arith, lt, entered-few c b.stays es d, within.stays);
  }

  -- of a CCB that recovers
  has_error : (ccb : ℕ) (s : Submission) → submission es ccb ≡ Some s → ccb < commands es → is_recovering es ccb ≡ true → HasError (not s.flags.qfrzdis) (device_state c b.stays es s.device)
  unfolding device_state
  has_error ccb s is lt recovers = record {
    stands = λ frozen.
        let q = λ (x : Submission). (x.device == s.device) && not x.flags.qfrzdis in
        let hit : is_some_and q (submission es ccb) ≡ true = ap (is_some_and q) is ∙ and_from (s.device == s.device) _ (eq-eqb s.device s.device refl) frozen in
        omega (arith, error_count-share es s.device, some-share is_recovering q es ccb lt (and_from _ _ recovers hit));
  }

  -- of a CCB in flight
  has_flying : (ccb : ℕ) (s : Submission) → submission es ccb ≡ Some s → ccb < commands es → is_in_flight es ccb ≡ true → 0 < (device_state c b.stays es s.device).in_flight
  unfolding device_state
  has_flying ccb s is lt flies =
      let q = λ (x : Submission). x.device == s.device in
      let hit : is_some_and q (submission es ccb) ≡ true = ap (is_some_and q) is ∙ eq-eqb s.device s.device refl in
      omega (arith, some-share is_in_flight q es ccb lt (and_from _ _ flies hit))

  has_ready : (ccb : ℕ) (s : Submission) (p : Passage) → submission es ccb ≡ Some s → IsFirst c es ccb p → dev.is_ready (device_state c b.stays es s.device) ≡ true
  has_ready ccb s p is turn =
      let at : device_of es ccb ≡ s.device = ap (λ o. option_map_or (λ (x : Submission). x.device) o 0) is in
      ready-state c b.stays es s.device ∙ ap (is_ready c es) (sym at) ∙ turn.ready

  few_callers : (d count : ℕ) → caller_count es d + count ≤ 65535 → (device_state c b.stays es d).callers + count ≤ 65535
  unfolding device_state
  few_callers d count le = le

  enough_callers : (d count : ℕ) → count ≤ caller_count es d → count ≤ (device_state c b.stays es d).callers
  unfolding device_state
  enough_callers d count le = le

  has_ccb : (P : Submission → Type 0) (ccb : ℕ) (s : Submission) → submission es ccb ≡ Some s → ccb < commands es → P s → HasCcb P (submissions es) ccb
  has_ccb P ccb s is lt h = record {
    there = lt;
    so = λ x e. let same : Some s ≡ Some x = sym is ∙ e in let s' : s ≡ x = cc in subst P s' h;
  }

  pub can-update : (e : Event) → is_legal_event b c (es, e) ≡ true → CanUpdate (submissions es) e found
  can-update (Submit driver device priority retries flags) allowed =
      let range = range_submit b c es driver device priority retries flags allowed in
      let one = and_parts (names_device c device && nat_le priority MAX_PRIORITY) (nat_le retries MAX_RETRIES) range in
      let two = and_parts (names_device c device) (nat_le priority MAX_PRIORITY) one.0 in
      let room = room_submit b c es driver device priority retries flags allowed in (
        at_found HasRoom device (ltb-true _ _ two.0) (has_room device room),
        leb-true _ _ two.1,
        omega (arith, few_commands es, (allowed-legal_event b c es (Submit driver device priority retries flags) allowed).0, within.events),
      )
  can-update (Send lane ccb) allowed =
      let asks = asks-send b c es lane ccb allowed in
      let one = ccb_known b c es ccb legal asks.0 in
      let turn = first-legal c es lane ccb asks.1 in
      has_ccb (λ s. HasAt (λ q. dev.is_ready q ≡ true) found s.device) ccb one.0 one.1.is asks.0
      (at_found (λ q. dev.is_ready q ≡ true) one.0.device one.1.device (has_ready ccb one.0 turn.0 one.1.is turn.1))
  can-update (Done ccb o) allowed =
      let asks = asks-done b c es ccb o allowed in
      let one = ccb_known b c es ccb legal asks.0 in
      has_ccb (λ s. HasAt (λ q. 0 < q.in_flight) found s.device) ccb one.0 one.1.is asks.0
      (at_found (λ q. 0 < q.in_flight) one.0.device one.1.device (has_flying ccb one.0 one.1.is asks.0 asks.1))
  can-update (Requeue ccb) allowed =
      let asks = asks-requeue b c es ccb allowed in
      let one = ccb_known b c es ccb legal asks.0 in
      has_ccb (λ s. HasAt (λ q. HasRoom q × HasError (not s.flags.qfrzdis) q) found s.device × (s.priority ≤ MAX_PRIORITY)) ccb one.0 one.1.is asks.0 (
        at_found (λ q. HasRoom q × HasError (not one.0.flags.qfrzdis) q) one.0.device one.1.device
            (has_room one.0.device (room_requeue b c es ccb allowed), has_error ccb one.0 one.1.is asks.0 asks.1),
        one.1.priority,
      )
  can-update (Finish ccb) allowed =
      let asks = asks-finish b c es ccb allowed in
      let one = ccb_known b c es ccb legal asks.0 in
      has_ccb (λ s. HasAt (HasError (not s.flags.qfrzdis)) found s.device) ccb one.0 one.1.is asks.0
      (at_found (HasError (not one.0.flags.qfrzdis)) one.0.device one.1.device (has_error ccb one.0 one.1.is asks.0 asks.1))
  can-update (FreezeDev device count) allowed =
      let asked = (allowed-legal_event b c es (FreezeDev device count) allowed).1 in
      let one = and_parts (names_device c device && is_count count) (nat_le (caller_count es device + count) MAX_FREEZES) asked in
      let two = and_parts (names_device c device) (is_count count) one.0 in
      at_found (λ q. q.callers + count ≤ 65535) device (ltb-true _ _ two.0) (few_callers device count (leb-true _ _ one.1))
  can-update (ReleaseDev device count) allowed =
      let asked = (allowed-legal_event b c es (ReleaseDev device count) allowed).1 in
      let one = and_parts (names_device c device && is_count count) (nat_le count (caller_count es device)) asked in
      let two = and_parts (names_device c device) (is_count count) one.0 in
      at_found (λ q. count ≤ q.callers) device (ltb-true _ _ two.0) (enough_callers device count (leb-true _ _ one.1))
  can-update (Adjust device openings) allowed =
      let asked = (allowed-legal_event b c es (Adjust device openings) allowed).1 in
      let one = and_parts (names_device c device) (are_openings openings) asked in
      (at_found (λ q. Unit) device (ltb-true _ _ one.0) tt).there
  can-update (FreezeSim sim count) allowed = tt
  can-update (ReleaseSim sim) allowed = tt
  can-update Tick allowed =
      let asked = (allowed-legal_event b c es Tick allowed).1 in
      let one = and_parts (not (has_in_flight es)) (nat_lt (round es) b.rounds) asked in
      All-range (λ q. q.in_flight ≡ 0) (device_state c b.stays es) (λ d. none-flying c b.stays es d (not-true (has_in_flight es) one.0)) 0 (length c.devices)
