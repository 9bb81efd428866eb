-- which devices are ready after one event more
use Rattle.std.proofs.Common.{◌≡◌, ◌≢◌, ℕ, ◌+◌, ◌<◌, Bool, true, false, cond, List, [], ◌∷◌, ◌++◌, length, refl, sym, ap, subst, ◌∙◌, Option, Some, None, map, ◌==◌, ◌&&◌, nat_le, slice_get}
use Rattle.std.specs.Option.{option_map, option_map_or}
use Rattle.std.proofs.lemmas.Bool.{and_parts, eqb-true, eqb-false, ltb-true}
use Rattle.xpt_core.specs.Words.{Topology, MAX_PRIORITY, MAX_RETRIES, MAX_FREEZES, is_tick, commands, submission, caller_count, names_device, device_adapter, adapter_openings, Event, Submit, Send, Done, Requeue, Finish, FreezeDev, ReleaseDev, FreezeSim, ReleaseSim, Adjust, Tick, Submission, Rules, is_count, is_legal_event, is_legal, prioritized, Row, Device, Waiting, first, is_ready, Passage}
use Rattle.event_rules.proofs.StateLaws.{map-range_same}
use Rattle.event_rules.proofs.LawLemmas.{allowed-legal_event}
use Rattle.event_rules.proofs.RangeLemmas.{range_submit}
use Rattle.event_rules.proofs.StandLemmas.{asks-send, asks-done, asks-requeue, asks-finish}
use Rattle.xpt_core.specs.Ready.{ready_priority}
use Rattle.dev_queue.specs.Device as dev
use Rattle.xpt_core.specs.Device.{device_state, entry}
use Rattle.xpt_core.specs.DeviceUpdates.{with_openings}
use Rattle.xpt_core.proofs.DeviceLaws.{state-adjust}
use Rattle.xpt_core.proofs.TransportLemmas.{ccb_known}
use Rattle.xpt_core.proofs.RoomLemmas.{ready-state}
use Rattle.xpt_core.proofs.DeviceSoundLemmas.{entry_priority, first-state}
use Rattle.xpt_core.proofs.AffectedLaws as device
use Rattle.xpt_core.proofs.AffectedLaws.{ready_priority-unaffected}
use Rattle.xpt_core.specs.Known.{Known, known, devices_on, adapter_of, adapters_of, set_at}
use Rattle.xpt_core.specs.Affected.{affected_by, affected_ccb, Affected, Nothing, One, All}
use Rattle.xpt_core.specs.AdapterUpdates.{with_ready, fresh_row, all_ready, refreshed, IsThere}
use Rattle.xpt_core.specs.Places.{at_place}
use Rattle.xpt_core.proofs.UpdateLaws.{unrefreshed}
use Rattle.xpt_core.proofs.PlaceLemmas.{at_range, all_range}
use Rattle.xpt_core.proofs.RowLemmas.{adapter, known-same, row-same, row-ready, rows_all, rows_change, on-bus}

-- a device that was affected is there
there_ccb : (rules : Rules) (c : Topology) (es : List Event) (ccb : ℕ) → is_legal rules c es ≡ true → ccb < commands es → IsThere c (affected_ccb es ccb)
there_ccb rules c es ccb legal lt =
    let known = ccb_known rules c es ccb legal lt in
    subst (λ o. IsThere c (option_map_or (λ (x : Submission). One x.device) o Nothing)) (sym known.1.is) known.1.device

pub affected-there : (rules : Rules) (c : Topology) (es : List Event) (e : Event) → is_legal rules c es ≡ true → is_legal_event rules c (es, e) ≡ true → IsThere c (affected_by es e)
affected-there rules c es (Submit driver device priority retries flags) legal allowed =
    let range = range_submit rules c es driver device priority retries flags allowed in
    let one = and_parts (names_device c device && nat_le priority MAX_PRIORITY) (nat_le retries MAX_RETRIES) range in
    ltb-true _ _ (and_parts (names_device c device) (nat_le priority MAX_PRIORITY) one.0).0
affected-there rules c es (Send lane ccb) legal allowed = there_ccb rules c es ccb legal (asks-send rules c es lane ccb allowed).0
affected-there rules c es (Done ccb o) legal allowed = there_ccb rules c es ccb legal (asks-done rules c es ccb o allowed).0
affected-there rules c es (Requeue ccb) legal allowed = there_ccb rules c es ccb legal (asks-requeue rules c es ccb allowed).0
affected-there rules c es (Finish ccb) legal allowed = there_ccb rules c es ccb legal (asks-finish rules c es ccb allowed).0
affected-there rules c es (FreezeDev device count) legal allowed =
    let one = and_parts (names_device c device && is_count count) (nat_le (caller_count es device + count) MAX_FREEZES) (allowed-legal_event rules c es (FreezeDev device count) allowed).1 in
    ltb-true _ _ (and_parts (names_device c device) (is_count count) one.0).0
affected-there rules c es (ReleaseDev device count) legal allowed =
    let one = and_parts (names_device c device && is_count count) (nat_le count (caller_count es device)) (allowed-legal_event rules c es (ReleaseDev device count) allowed).1 in
    ltb-true _ _ (and_parts (names_device c device) (is_count count) one.0).0
affected-there rules c es _ legal allowed = tt

-- an event that affects no device, or another
abbrev Misses : ℕ → Affected → Type 0
Misses x (One d) = d ≢ x
Misses x Nothing = Unit
Misses x All = ⊥

ccb_misses : (o : Option Submission) (x : ℕ) → Misses x (option_map_or (λ (s : Submission). One s.device) o Nothing) → option_map (λ (s : Submission). s.device) o ≢ Some x
ccb_misses None x h e = absurd (cc)
ccb_misses (Some s) x h e = let same : s.device ≡ x = cc in h same

abbrev is_adjust : Event → Bool
is_adjust (Adjust d openings) = true
is_adjust _ = false

misses : (es : List Event) (e : Event) (x : ℕ) → is_adjust e ≡ false → Misses x (affected_by es e) → (is_tick e ≡ false) × (device.affected es e ≢ Some x)
misses es (Submit driver d priority retries flags) x other h = (refl, λ e. let same : d ≡ x = cc in h same)
misses es (Send lane ccb) x other h = (refl, ccb_misses (submission es ccb) x h)
misses es (Done ccb o) x other h = (refl, ccb_misses (submission es ccb) x h)
misses es (Requeue ccb) x other h = (refl, ccb_misses (submission es ccb) x h)
misses es (Finish ccb) x other h = (refl, ccb_misses (submission es ccb) x h)
misses es (FreezeDev d count) x other h = (refl, λ e. let same : d ≡ x = cc in h same)
misses es (ReleaseDev d count) x other h = (refl, λ e. let same : d ≡ x = cc in h same)
misses es (Adjust d openings) x other h = absurd (cc)
misses es (FreezeSim sim count) x other h = (refl, λ e. absurd (cc))
misses es (ReleaseSim sim) x other h = (refl, λ e. absurd (cc))
misses es Tick x other h = absurd h

-- an adjustment changes the readiness of none before the tick
adjusted_ready : (b : Bool) (n : ℕ) (q : Device) → dev.is_ready (cond b (with_openings n q) q) ≡ dev.is_ready q
adjusted_ready true n q = refl
adjusted_ready false n q = refl

adjusted_first : (b : Bool) (n : ℕ) (q : Device) → slice_get (cond b (with_openings n q) q).waiting 0 ≡ slice_get q.waiting 0
adjusted_first true n q = refl
adjusted_first false n q = refl

ready-adjust : (c : Topology) (es : List Event) (d n x : ℕ) → ready_priority c (es ++ Adjust d n ∷ []) x ≡ ready_priority c es x
ready-adjust c es d n x =
    let e = Adjust d n in
    let ready : is_ready c (es ++ e ∷ []) x ≡ is_ready c es x =
    sym (ready-state c 0 (es ++ e ∷ []) x) ∙ ap dev.is_ready (state-adjust c 0 es x d n) ∙ adjusted_ready (d == x) n (device_state c 0 es x) ∙ ready-state c 0 es x in
    let stay : option_map entry (first (es ++ e ∷ []) x) ≡ option_map entry (first es x) =
    sym (first-state c 0 (es ++ e ∷ []) x) ∙ ap (λ (q : Device). slice_get q.waiting 0) (state-adjust c 0 es x d n) ∙ adjusted_first (d == x) n (device_state c 0 es x) ∙ first-state c 0 es x in
    ap (λ b. cond b (option_map (λ (p : Passage). p.priority) (first (es ++ e ∷ []) x)) None) ready
    ∙ ap (λ o. cond (is_ready c es x) o None)
    (sym (entry_priority (first (es ++ e ∷ []) x)) ∙ ap (option_map (λ (w : Waiting). w.priority)) stay ∙ entry_priority (first es x))

rows_cases : (rows rows' rows'' : List Row) (o s f : ℕ) (b : Bool) → rows'' ≡ cond b rows' rows → adapter rows'' o s f ≡ cond b (adapter rows' o s f) (adapter rows o s f)
rows_cases rows rows' rows'' o s f true e = ap (λ r. adapter r o s f) e
rows_cases rows rows' rows'' o s f false e = ap (λ r. adapter r o s f) e

-- one device's readiness set anew
pub one-ready : (c : Topology) (k : Known) (es : List Event) (d : ℕ) → d < length c.devices →
    at_place (device_adapter c d) (with_ready c es d) (adapters_of c k) ≡ adapters_of c (record k { ready = set_at d (ready_priority c es d) k.ready })
one-ready c k es d lt =
    let k' : Known = record k { ready = set_at d (ready_priority c es d) k.ready } in
    sym (at_range (adapter_of c k) (adapter_of c k') (length c.adapters) (device_adapter c d) (with_ready c es d)
    (λ a. rows_cases _ _ _ (adapter_openings c a) (k.sent a) (k.callers a) (device_adapter c d == a)
    (rows_change c k k' d (device_adapter c d) (on-bus c d lt) (prioritized d (ready_priority c es d)) (row-ready k k' d (ready_priority c es d) (λ x. refl) (λ x. refl))
    (λ x far. row-same x _ _ _ _ refl (ap (λ b. cond b (ready_priority c es d) (k.ready x)) far)) a (device_adapter c d == a) refl)))

-- and that of each device
pub each-ready : (c : Topology) (k : Known) (es : List Event) → map (all_ready c es) (adapters_of c k) ≡ adapters_of c (record k { ready = ready_priority c es })
each-ready c k es =
    let k' : Known = record k { ready = ready_priority c es } in
    sym (all_range (adapter_of c k) (adapter_of c k') (length c.adapters) (all_ready c es)
    (λ a. ap (λ r. adapter r (adapter_openings c a) (k.sent a) (k.callers a)) (rows_all k k' (fresh_row c es) (λ x. refl) (devices_on c a))) 0 (length c.adapters))

missed : (rules : Rules) (c : Topology) (es : List Event) → is_legal rules c es ≡ true → (e : Event) → is_legal_event rules c (es, e) ≡ true → (x : ℕ) → Misses x (affected_by es e) → ready_priority c (es ++ e ∷ []) x ≡ ready_priority c es x
missed rules c es legal (Adjust d n) allowed x h = ready-adjust c es d n x
missed rules c es legal e allowed x h = let m = misses es e x refl h in ready_priority-unaffected rules c 0 es legal x e allowed m.0 m.1

module _ (rules : Rules) (c : Topology) (es : List Event) (legal : is_legal rules c es ≡ true) (e : Event) (allowed : is_legal_event rules c (es, e) ≡ true) where
  same_all : (k : Known) → ((x : ℕ) → ready_priority c (es ++ e ∷ []) x ≡ k.ready x) → adapters_of c (record k { ready = ready_priority c (es ++ e ∷ []) }) ≡ adapters_of c k
  same_all k h =
      map-range_same (adapter_of c k) (adapter_of c (record k { ready = ready_priority c (es ++ e ∷ []) })) 0 (length c.adapters)
      (λ a low lt. known-same c k (record k { ready = ready_priority c (es ++ e ∷ []) }) a (λ x. refl) h refl refl)

  one_cases : (d x : ℕ) (b : Bool) → (d == x) ≡ b → (d ≢ x → ready_priority c (es ++ e ∷ []) x ≡ ready_priority c es x) →
      ready_priority c (es ++ e ∷ []) x ≡ cond b (ready_priority c (es ++ e ∷ []) d) (ready_priority c es x)
  one_cases d x true is h = ap (ready_priority c (es ++ e ∷ [])) (sym (eqb-true d x is))
  one_cases d x false is h = h (eqb-false d x is)

  refresh_cases : (t : Affected) → IsThere c t → ((x : ℕ) → Misses x t → ready_priority c (es ++ e ∷ []) x ≡ ready_priority c es x) →
      adapters_of c (record (unrefreshed c es e) { ready = ready_priority c (es ++ e ∷ []) }) ≡ refreshed c (es ++ e ∷ []) t (adapters_of c (unrefreshed c es e))
  refresh_cases Nothing there h = same_all (unrefreshed c es e) (λ x. h x tt)
  refresh_cases All there h = sym (each-ready c (unrefreshed c es e) (es ++ e ∷ []))
  refresh_cases (One d) there h =
      let p = ready_priority c (es ++ e ∷ []) d in
      same_all (record (unrefreshed c es e) { ready = set_at d p (ready_priority c es) }) (λ x. one_cases d x (d == x) refl (h x)) ∙ sym (one-ready c (unrefreshed c es e) (es ++ e ∷ []) d there)

  pub refresh-push : adapters_of c (known c (es ++ e ∷ [])) ≡ refreshed c (es ++ e ∷ []) (affected_by es e) (adapters_of c (unrefreshed c es e))
  unfolding known
  refresh-push = refresh_cases (affected_by es e) (affected-there rules c es e legal allowed) (missed rules c es legal e allowed)
