-- what one event more makes of what adapters know, apart from which devices are ready
use Rattle.std.proofs.Common.{◌≡◌, ℕ, ◌+◌, ◌-◌, ◌<◌, ◌≤◌, Bool, true, false, cond, List, [], ◌∷◌, ◌++◌, length, refl, sym, ap, subst, ◌∙◌, arith, Some, None, map, add-zero, ◌==◌, ◌&&◌, nat_le, nat_lt, count_by, slice_get, is_some, option_and_then}
use Rattle.std.specs.Option.{option_map, option_map_or}
use Rattle.std.proofs.lemmas.Bool.{and_parts, eqb-true, ltb-true, leb-true}
use Rattle.std.proofs.lemmas.Option.{slice_get_within}
use Rattle.xpt_core.specs.Words.{Topology, is_some_and, is_tick, round, submission, sendings, sending_of, goes_to, adapter_freezes, first, names_adapter, is_on, device_adapter, lane_adapter, adapter_openings, goes_now_to_adapter, adapter_has_opening, last_sent, head, next, Event, Send, FreezeSim, ReleaseSim, Tick, Passage, Sending, Submission, Rules, is_count, is_next, is_legal_event, is_legal, device_of, MAX_FREEZES, sent_at, with_send, best_ready, Row}
use Rattle.cam_types.specs.declared.adapter.Adapter as cam
use Rattle.event_rules.specs.Head as Head
use Rattle.event_rules.proofs.StateLaws.{map-range_same}
use Rattle.event_rules.proofs.TallyLaws.{Tally, sim_tally, sim_change, tallied, sim_tally-push}
use Rattle.event_rules.proofs.TurnLaws.{last_sent-push, sends_now-push, sends_now-tick}
use Rattle.event_rules.proofs.LawLemmas.{allowed-legal_event}
use Rattle.event_rules.proofs.LimitLemmas.{legal-induction}
use Rattle.event_rules.proofs.NextLemmas.{head_stands, queued-first, device-of_its_ccb}
use Rattle.event_rules.proofs.StandLemmas.{asks-send}
use Rattle.xpt_core.specs.Ready.{ready_priority}
use Rattle.xpt_core.proofs.RoomLemmas.{submitted}
use Rattle.xpt_core.specs.Known.{Known, known, devices_on, row_of, adapter_of, adapters_of}
use Rattle.xpt_core.specs.AdapterUpdates.{with_turn, with_freezes, less_freeze, in_next_round, updated, CanUpdate}
use Rattle.xpt_core.specs.Places.{at_place, HasAt}
use Rattle.xpt_core.proofs.HeadLaws.{best_ready-turn}
use Rattle.xpt_core.proofs.PlaceLemmas.{at_range, all_range, has_range}
use Rattle.xpt_core.proofs.RowLemmas.{adapter, adapter-same, known-same, row-same, row-sent, rows_where, rows_change, on-bus, on-there}

-- the sends of this round on an adapter
abbrev sent_on : Topology → List Event → ℕ → ℕ
sent_on c es a = count_by (goes_now_to_adapter c es a) (sendings es)

-- what is known after one event more, apart from which devices are ready
abbrev pub unrefreshed : Topology → List Event → Event → Known
unrefreshed c es e = record {
  turn = last_sent (es ++ e ∷ []);
  ready = ready_priority c es;
  sent = sent_on c (es ++ e ∷ []);
  callers = adapter_freezes (es ++ e ∷ []);
}

-- an adapter's freezes
abbrev standing : Tally → ℕ
standing t = t.added - t.taken

freezes-standing : (es : List Event) (a : ℕ) → adapter_freezes es a ≡ standing (sim_tally es a)
unfolding adapter_freezes
freezes-standing es a = refl

freezes-push : (es : List Event) (e : Event) (a : ℕ) → adapter_freezes (es ++ e ∷ []) a ≡ standing (option_map_or (λ c. tallied a c (sim_tally es a)) (sim_change e) (sim_tally es a))
freezes-push es e a = freezes-standing (es ++ e ∷ []) a ∙ ap standing (sim_tally-push es e a)

callers-still : (es : List Event) (e : Event) (a : ℕ) → sim_change e ≡ None → adapter_freezes (es ++ e ∷ []) a ≡ adapter_freezes es a
callers-still es e a none =
    freezes-push es e a ∙ ap (λ o. standing (option_map_or (λ c. tallied a c (sim_tally es a)) o (sim_tally es a))) none ∙ sym (freezes-standing es a)

-- no more were taken away than were added
abbrev Covered : List Event → Type 0
Covered es = (a : ℕ) → (sim_tally es a).taken ≤ (sim_tally es a).added

freeze_cover : (t c : Tally) (b : Bool) → c.taken ≡ 0 → t.taken ≤ t.added → (cond b (record { number = t.number; added = t.added + c.added; taken = t.taken + c.taken }) t).taken ≤ (cond b (record { number = t.number; added = t.added + c.added; taken = t.taken + c.taken }) t).added
freeze_cover t c true none h = omega (arith, none, h)
freeze_cover t c false none h = h

release_cover : (t : Tally) (b : Bool) → (b ≡ true → 1 ≤ standing t) → t.taken ≤ t.added → (cond b (record { number = t.number; added = t.added + 0; taken = t.taken + 1 }) t).taken ≤ (cond b (record { number = t.number; added = t.added + 0; taken = t.taken + 1 }) t).added
release_cover t true some h = omega (arith, some refl, h)
release_cover t false some h = h

asks-release : (rules : Rules) (c : Topology) (es : List Event) (sim : ℕ) → is_legal_event rules c (es, ReleaseSim sim) ≡ true → (sim < length c.adapters) × (1 ≤ adapter_freezes es sim)
asks-release rules c es sim allowed =
    let one = and_parts (names_adapter c sim) (nat_le 1 (adapter_freezes es sim)) (allowed-legal_event rules c es (ReleaseSim sim) allowed).1 in
    (ltb-true _ _ one.0, leb-true _ _ one.1)

asks-freeze : (rules : Rules) (c : Topology) (es : List Event) (sim count : ℕ) → is_legal_event rules c (es, FreezeSim sim count) ≡ true → (sim < length c.adapters) × (adapter_freezes es sim + count ≤ 65535)
asks-freeze rules c es sim count allowed =
    let one = and_parts (names_adapter c sim && is_count count) (nat_le (adapter_freezes es sim + count) MAX_FREEZES) (allowed-legal_event rules c es (FreezeSim sim count) allowed).1 in
    (ltb-true _ _ (and_parts (names_adapter c sim) (is_count count) one.0).0, leb-true _ _ one.1)

module _ (rules : Rules) (c : Topology) where
  covered_still : (es : List Event) (e : Event) → sim_change e ≡ None → Covered es → Covered (es ++ e ∷ [])
  covered_still es e none h a =
      let same : sim_tally (es ++ e ∷ []) a ≡ sim_tally es a = sim_tally-push es e a ∙ ap (λ o. option_map_or (λ t. tallied a t (sim_tally es a)) o (sim_tally es a)) none in
      subst (λ (t : Tally). t.taken ≤ t.added) (sym same) (h a)

  covered_step : (es : List Event) (e : Event) → is_legal_event rules c (es, e) ≡ true → Covered es → Covered (es ++ e ∷ [])
  covered_step es (FreezeSim sim count) allowed h a =
      subst (λ (t : Tally). t.taken ≤ t.added) (sym (sim_tally-push es (FreezeSim sim count) a)) (freeze_cover (sim_tally es a) (record { number = sim; added = count; taken = 0 }) (sim == a) refl (h a))
  covered_step es (ReleaseSim sim) allowed h a =
      subst (λ (t : Tally). t.taken ≤ t.added) (sym (sim_tally-push es (ReleaseSim sim) a))
      (release_cover (sim_tally es a) (sim == a)
      (λ same. let at : sim ≡ a = eqb-true sim a same in
      omega (arith, (asks-release rules c es sim allowed).1, ap (adapter_freezes es) at, freezes-standing es a)) (h a))
  covered_step es e allowed h a = covered_still es e refl h a

  covered-legal : (es : List Event) → is_legal rules c es ≡ true → Covered es
  unfolding is_legal
  covered-legal es legal = legal-induction rules c Covered covered_step [] es legal (λ a. omega arith)

freeze_cases : (t : Tally) (count : ℕ) (b : Bool) → t.taken ≤ t.added →
    standing (cond b (record { number = t.number; added = t.added + count; taken = t.taken + 0 }) t) ≡ cond b (standing t + count) (standing t)
freeze_cases t count true h = omega (arith, h)
freeze_cases t count false h = refl

release_cases : (t : Tally) (b : Bool) →
    standing (cond b (record { number = t.number; added = t.added + 0; taken = t.taken + 1 }) t) ≡ cond b (standing t - 1) (standing t)
release_cases t true = omega arith
release_cases t false = refl

callers-freeze : (es : List Event) (sim count a : ℕ) → Covered es → adapter_freezes (es ++ FreezeSim sim count ∷ []) a ≡ cond (sim == a) (adapter_freezes es a + count) (adapter_freezes es a)
callers-freeze es sim count a covered =
    freezes-push es (FreezeSim sim count) a ∙ freeze_cases (sim_tally es a) count (sim == a) (covered a)
    ∙ ap (λ n. cond (sim == a) (n + count) n) (sym (freezes-standing es a))

callers-release : (es : List Event) (sim a : ℕ) → adapter_freezes (es ++ ReleaseSim sim ∷ []) a ≡ cond (sim == a) (adapter_freezes es a - 1) (adapter_freezes es a)
callers-release es sim a =
    freezes-push es (ReleaseSim sim) a ∙ release_cases (sim_tally es a) (sim == a) ∙ ap (λ n. cond (sim == a) (n - 1) n) (sym (freezes-standing es a))

-- sends
turn-still : (es : List Event) (e : Event) (d : ℕ) → sending_of (es, e) ≡ None → last_sent (es ++ e ∷ []) d ≡ last_sent es d
turn-still es e d none = last_sent-push es e d ∙ ap (λ o. cond (is_some_and (goes_to d) o) (length es + 1) (last_sent es d)) none

sent-still : (c : Topology) (es : List Event) (e : Event) (a : ℕ) → is_tick e ≡ false → sending_of (es, e) ≡ None → sent_on c (es ++ e ∷ []) a ≡ sent_on c es a
sent-still c es e a still none =
    sends_now-push (λ (s : Sending). is_on c a s.device) es e still
    ∙ ap (λ o. sent_on c es a + cond (is_some_and (λ (s : Sending). is_on c a s.device) o) 1 0) none ∙ add-zero (sent_on c es a)

-- an adapter that has an opening is there
opening_there : (c : Topology) (es : List Event) (a : ℕ) → adapter_has_opening c es a ≡ true → a < length c.adapters
unfolding adapter_has_opening
opening_there c es a h = elim (slice_get c.adapters a) as (λ o. slice_get c.adapters a ≡ o → nat_lt (sent_on c es a) (option_map_or (λ (x : cam.Adapter). x.openings) o 0) ≡ true → a < length c.adapters) [
  | None ↦ λ e g. absurd (omega (arith, ltb-true _ 0 g))
  | Some x ↦ λ e g. slice_get_within c.adapters a x e
] refl h

-- the turn that a legal send takes
pub record IsTurn (c : Topology) (es : List Event) (lane ccb a d : ℕ) : Type 0 where
  pub over : slice_get c.lanes lane ≡ Some a
  pub head : head c es a ≡ Some d
  pub device : device_of es ccb ≡ d

turn_next : (c : Topology) (es : List Event) (lane a ccb : ℕ) (p : Passage) → slice_get c.lanes lane ≡ Some a → next c es a ≡ Some p → (p.ccb == ccb) ≡ true → (d : ℕ) × IsTurn c es lane ccb a d
unfolding next
turn_next c es lane a ccb p on e same =
    elim (head c es a) as (λ o. head c es a ≡ o → option_and_then (first es) o ≡ Some p → (d : ℕ) × IsTurn c es lane ccb a d) [
      | None ↦ λ h g. absurd (cc)
      | Some d ↦ λ h g.
          let q = queued-first es d p g in
          (d, record { over = on; head = h; device = ap (device_of es) (sym (eqb-true p.ccb ccb same)) ∙ device-of_its_ccb es p q.of_its_ccb ∙ q.at })
    ] refl e

turn-legal : (c : Topology) (es : List Event) (lane ccb : ℕ) → is_next c es lane ccb ≡ true → (a : ℕ) × (d : ℕ) × IsTurn c es lane ccb a d
unfolding is_next
turn-legal c es lane ccb h = elim (slice_get c.lanes lane) as (λ o. slice_get c.lanes lane ≡ o → is_some_and (λ a. is_some_and (λ (p : Passage). p.ccb == ccb) (next c es a)) o ≡ true → (a : ℕ) × (d : ℕ) × IsTurn c es lane ccb a d) [
  | None ↦ λ i g. absurd (cc)
  | Some a ↦ λ i g. elim (next c es a) as (λ o. next c es a ≡ o → is_some_and (λ (p : Passage). p.ccb == ccb) o ≡ true → (a : ℕ) × (d : ℕ) × IsTurn c es lane ccb a d) [
    | None ↦ λ e k. absurd (cc)
    | Some p ↦ λ e k. let t = turn_next c es lane a ccb p i e k in (a, t.0, t.1)
  ] refl g
] refl h

-- an adapter where a change hits it, or doesn't
turn_cases : (rows rows' : List Row) (o s f d n : ℕ) (b : Bool) → (b ≡ true → best_ready (adapter rows o s f) ≡ Some d) → rows' ≡ cond b (with_send d n rows) rows →
    adapter rows' o (s + cond b 1 0) f ≡ cond b (with_turn n (adapter rows o s f)) (adapter rows o s f)
turn_cases rows rows' o s f d n true is e =
    let a = adapter rows o s f in
    ap (λ r. adapter r o (s + 1) f) e ∙ sym (ap (λ h. option_map_or (λ x. record a { rows = with_send x n a.rows; sent = a.sent + 1 }) h a) (is refl))
turn_cases rows rows' o s f d n false is e = ap (λ r. adapter r o (s + 0) f) e ∙ ap (λ k. adapter rows o k f) (add-zero s)

callers_cases : (rows : List Row) (o s f f' : ℕ) (b : Bool) → adapter rows o s (cond b f' f) ≡ cond b (adapter rows o s f') (adapter rows o s f)
callers_cases rows o s f f' true = refl
callers_cases rows o s f f' false = refl

module _ (rules : Rules) (c : Topology) (es : List Event) where
  abbrev before : Known
  before = known c es

  -- an event that is no send and no tick, and of no adapter
  quiet : (e : Event) → is_tick e ≡ false → sending_of (es, e) ≡ None → sim_change e ≡ None → adapters_of c (unrefreshed c es e) ≡ adapters_of c before
  unfolding known
  quiet e still sends sims =
      map-range_same (adapter_of c before) (adapter_of c (unrefreshed c es e)) 0 (length c.adapters)
      (λ a low lt. known-same c before (unrefreshed c es e) a (λ d. turn-still es e d sends) (λ d. refl) (sent-still c es e a still sends) (callers-still es e a sims))

  same_rows : (e : Event) (a : ℕ) → sending_of (es, e) ≡ None → map (row_of (unrefreshed c es e)) (devices_on c a) ≡ map (row_of before) (devices_on c a)
  unfolding known
  same_rows e a sends = rows_where before (unrefreshed c es e) (is_on c a) (λ x at. row-same x _ _ _ _ (turn-still es e x sends) refl) _

  update-tick : adapters_of c (unrefreshed c es Tick) ≡ map in_next_round (adapters_of c before)
  unfolding known
  update-tick =
      all_range (adapter_of c before) (adapter_of c (unrefreshed c es Tick)) (length c.adapters) in_next_round
      (λ a. adapter-same _ _ (adapter_openings c a) _ _ _ _ (same_rows Tick a refl) (sends_now-tick (λ (s : Sending). is_on c a s.device) es) (callers-still es Tick a refl)) 0 (length c.adapters)

  update-freeze : (sim count : ℕ) → Covered es → adapters_of c (unrefreshed c es (FreezeSim sim count)) ≡ updated c (length es) (FreezeSim sim count) (adapters_of c before)
  unfolding known
  update-freeze sim count covered =
      let e = FreezeSim sim count in
      at_range (adapter_of c before) (adapter_of c (unrefreshed c es e)) (length c.adapters) sim (with_freezes count)
      (λ a. adapter-same _ _ (adapter_openings c a) _ _ _ _ (same_rows e a refl) (sent-still c es e a refl refl) (callers-freeze es sim count a covered) ∙ callers_cases _ _ _ _ _ (sim == a))

  update-release : (sim : ℕ) → adapters_of c (unrefreshed c es (ReleaseSim sim)) ≡ updated c (length es) (ReleaseSim sim) (adapters_of c before)
  unfolding known
  update-release sim =
      let e = ReleaseSim sim in
      at_range (adapter_of c before) (adapter_of c (unrefreshed c es e)) (length c.adapters) sim less_freeze
      (λ a. adapter-same _ _ (adapter_openings c a) _ _ _ _ (same_rows e a refl) (sent-still c es e a refl refl) (callers-release es sim a) ∙ callers_cases _ _ _ _ _ (sim == a))

  -- a send
  module _ (lane ccb a d : ℕ) (s : Submission) (is : submission es ccb ≡ Some s) (turn : IsTurn c es lane ccb a d) where
    own : s.device ≡ d
    own = sym (ap (λ o. option_map_or (λ (x : Submission). x.device) o 0) is) ∙ turn.device

    sends : (f : Sending → Bool) (v : ℕ → Bool) → ((x : Sending) → f x ≡ v x.device) → is_some_and f (sending_of (es, Send lane ccb)) ≡ v d
    sends f v h =
        ap (λ o. is_some_and f (option_map (λ (x : Submission). record { device = x.device; qfreeze = x.flags.qfreeze; round = round es; place = length es }) o)) is
        ∙ h _ ∙ ap v own

    bus : device_adapter c d ≡ a
    bus = let on = (head_stands c es a d turn.head).on in eqb-true (device_adapter c d) a (sym (on-bus c d (on-there c a d on) a) ∙ on)

    on : (x : ℕ) → is_on c x d ≡ (a == x)
    on x = on-bus c d (on-there c a d (head_stands c es a d turn.head).on) x ∙ ap (λ b. b == x) bus

    last : (x : ℕ) → last_sent (es ++ Send lane ccb ∷ []) x ≡ cond (d == x) (length es + 1) (last_sent es x)
    last x = last_sent-push es (Send lane ccb) x ∙ ap (λ b. cond b (length es + 1) (last_sent es x)) (sends (goes_to x) (λ k. k == x) (λ y. refl))

    rows-send : (x : ℕ) → map (row_of (unrefreshed c es (Send lane ccb))) (devices_on c x) ≡ cond (a == x) (with_send d (length es) (map (row_of before) (devices_on c x))) (map (row_of before) (devices_on c x))
    unfolding known
    rows-send x =
        rows_change c before (unrefreshed c es (Send lane ccb)) d a on (sent_at d (length es)) (row-sent before (unrefreshed c es (Send lane ccb)) d (length es) last (λ y. refl))
        (λ y far. row-same y _ _ _ _ (last y ∙ ap (λ b. cond b (length es + 1) (last_sent es y)) far) refl) x (a == x) refl

    sent-send : (x : ℕ) → sent_on c (es ++ Send lane ccb ∷ []) x ≡ sent_on c es x + cond (a == x) 1 0
    sent-send x =
        sends_now-push (λ (y : Sending). is_on c x y.device) es (Send lane ccb) refl
        ∙ ap (λ b. sent_on c es x + cond b 1 0) (sends (λ (y : Sending). is_on c x y.device) (is_on c x) (λ y. refl) ∙ on x)

    update-send : adapters_of c (unrefreshed c es (Send lane ccb)) ≡ updated c (length es) (Send lane ccb) (adapters_of c before)
    unfolding known
    update-send =
        let e = Send lane ccb in
        at_range (adapter_of c before) (adapter_of c (unrefreshed c es e)) (length c.adapters) a (with_turn (length es))
        (λ x.
        adapter-same _ _ (adapter_openings c x) _ _ _ _ refl (sent-send x) (callers-still es e x refl)
        ∙ turn_cases (map (row_of before) (devices_on c x)) _ (adapter_openings c x) (sent_on c es x) (adapter_freezes es x) d (length es) (a == x)
        (λ same. best_ready-turn c es x ∙ ap (Head.turn c es) (sym (eqb-true a x same)) ∙ (head_stands c es a d turn.head).turn_is) (rows-send x))
        ∙ ap (λ k. at_place k (with_turn (length es)) (adapters_of c before)) (sym (ap (λ o. option_map_or (λ n. n) o 0) turn.over))

    can_send : (place : ℕ) → place < 65535 → lane < length c.lanes → CanUpdate c place (Send lane ccb) (adapters_of c before)
    can_send place lt named =
        let there = opening_there c es a (head_stands c es a d turn.head).adapter_opening in
        let ready : is_some (best_ready (adapter_of c before a)) ≡ true = ap is_some (best_ready-turn c es a ∙ (head_stands c es a d turn.head).turn_is) in
        let at : lane_adapter c lane ≡ a = ap (λ o. option_map_or (λ n. n) o 0) turn.over in
        (named, lt, subst (HasAt (λ s. is_some (best_ready s) ≡ true) (adapters_of c before)) (sym at) (has_range (λ s. is_some (best_ready s) ≡ true) (adapter_of c before) (length c.adapters) a there ready))

  module _ (legal : is_legal rules c es ≡ true) where
    pub update-push : (e : Event) → is_legal_event rules c (es, e) ≡ true → adapters_of c (unrefreshed c es e) ≡ updated c (length es) e (adapters_of c before)
    update-push (Send lane ccb) allowed =
        let asks = asks-send rules c es lane ccb allowed in
        let one = submitted es ccb asks.0 in
        let turn = turn-legal c es lane ccb asks.1 in
        update-send lane ccb turn.0 turn.1 one.0 one.1 turn.2
    update-push (FreezeSim sim count) allowed = update-freeze sim count (covered-legal rules c es legal)
    update-push (ReleaseSim sim) allowed = update-release sim
    update-push Tick allowed = update-tick
    update-push e allowed = quiet e refl refl refl

    -- what a legal event finds in the queues
    pub can-update : (e : Event) → length es < 65535 → is_legal_event rules c (es, e) ≡ true → CanUpdate c (length es) e (adapters_of c before)
    unfolding known
    can-update (Send lane ccb) lt allowed =
        let asks = asks-send rules c es lane ccb allowed in
        let one = submitted es ccb asks.0 in
        let turn = turn-legal c es lane ccb asks.1 in
        can_send lane ccb turn.0 turn.1 one.0 one.1 turn.2 (length es) lt (slice_get_within c.lanes lane turn.0 turn.2.over)
    can-update (FreezeSim sim count) lt allowed =
        let asks = asks-freeze rules c es sim count allowed in
        has_range (λ s. s.callers + count ≤ 65535) (adapter_of c before) (length c.adapters) sim asks.0 asks.1
    can-update (ReleaseSim sim) lt allowed =
        let asks = asks-release rules c es sim allowed in
        has_range (λ s. 0 < s.callers) (adapter_of c before) (length c.adapters) sim asks.0 (omega (arith, asks.1))
    can-update _ lt allowed = tt
