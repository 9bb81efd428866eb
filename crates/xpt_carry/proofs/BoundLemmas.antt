-- how many freezes and openings legal events make at the most
use Rattle.std.proofs.Common.{◌≡◌, ℕ, ◌+◌, ◌-◌, ◌≤◌, Bool, true, false, cond, List, [], ◌∷◌, ◌++◌, length, refl, sym, ap, ◌∙◌, arith, Option, Some, None, ◌==◌, ◌&&◌, nat_le}
use Rattle.std.specs.Option.{option_map_or}
use Rattle.std.proofs.lemmas.Bool.{and_parts, leb-true, eqb-true}
use Rattle.cam_types.specs.Questions.{names_device, names_adapter}
use Rattle.cam_types.specs.Topology.{Topology, are_openings}
use Rattle.cam_types.specs.declared.limits.TheConstants.{MAX_FREEZES}
use Rattle.event_rules.specs.Counts.{round, submission, sendings, caller_count, adapter_freezes, freeze_count, error_count, last}
use Rattle.event_rules.specs.Event.{is_adjust_of, adjusts_to}
use Rattle.event_rules.specs.Legal.{Rules, is_count, is_legal, is_legal_event}
use Rattle.event_rules.specs.declared.event.Event.{Event}
use Rattle.event_rules.specs.declared.event.Event.TheVariants.{Send, FreezeDev, ReleaseDev, FreezeSim, ReleaseSim, Adjust}
use Rattle.event_rules.specs.declared.sending.Sending.{Sending}
use Rattle.event_rules.specs.declared.submission.Submission.{Submission}
use Rattle.event_rules.proofs.CoverLemmas.{AreCovered, covered-legal, callers-same, callers-freeze, callers-release, callers-send}
use Rattle.event_rules.proofs.LawLemmas.{allowed-legal_event, legal-push}
use Rattle.event_rules.proofs.LimitLemmas.{legal-induction}
use Rattle.event_rules.proofs.SendLemmas.{send_from_next}
use Rattle.event_rules.proofs.StandLemmas.{asks-send}
use Rattle.event_rules.proofs.StateLaws.{last-push}
use Rattle.event_rules.proofs.TallyLaws.{Tally, sim_tally, sim_change, tallied, sim_tally-push}

pub none_legal : (rules : Rules) (c : Topology) → is_legal rules c [] ≡ true
unfolding is_legal
none_legal rules c = refl

-- a device's freezes by callers
pub record AreFew (rules : Rules) (c : Topology) (es : List Event) : Type 0 where
  pub legal : is_legal rules c es ≡ true
  pub few : (d : ℕ) → caller_count es d ≤ MAX_FREEZES

module _ (rules : Rules) (c : Topology) (es : List Event) (h : AreFew rules c es) where
  covered : AreCovered es
  covered = covered-legal rules c es (h.legal)

  freeze_few : (device count d : ℕ) → is_legal_event rules c (es, FreezeDev device count) ≡ true → caller_count (es ++ FreezeDev device count ∷ []) d ≤ MAX_FREEZES
  freeze_few device count d legal =
      let asked = (allowed-legal_event rules c es (FreezeDev device count) legal).1 in
      let room = leb-true _ _ (and_parts (names_device c device && is_count count) (nat_le (caller_count es device + count) MAX_FREEZES) asked).1 in
      let more = callers-freeze es device count d covered in
      elim (device == d) as (λ b. (device == d) ≡ b → caller_count (es ++ FreezeDev device count ∷ []) d ≤ MAX_FREEZES) [
        | true ↦ λ at.
            let same : caller_count es device ≡ caller_count es d = ap (caller_count es) (eqb-true device d at) in
            omega (arith, more, same, room, ap (λ b. cond {A = ℕ} b count 0) at)
        | false ↦ λ at. omega (arith, more, h.few d, ap (λ b. cond {A = ℕ} b count 0) at)
      ] refl

  release_few : (device count d : ℕ) → caller_count (es ++ ReleaseDev device count ∷ []) d ≤ MAX_FREEZES
  release_few device count d = omega (arith, callers-release es device count d, h.few d)

  bump : (n : ℕ) (b q : Bool) → (b ≡ true → n ≡ 0) → n ≤ MAX_FREEZES → n + cond {A = ℕ} b (cond q 1 0) 0 ≤ MAX_FREEZES
  bump n true true none le = let k = none refl in omega arith
  bump n true false none le = omega arith
  bump n false q none le = omega arith

  send_cases : (lane ccb d : ℕ) (o : Option Submission) → submission es ccb ≡ o → (freeze_count es (option_map_or (λ (s : Submission). s.device) o 0) == 0) ≡ true →
      caller_count (es ++ Send lane ccb ∷ []) d ≤ MAX_FREEZES
  send_cases lane ccb d None is free =
      let same : caller_count (es ++ Send lane ccb ∷ []) d ≡ caller_count es d = callers-same es (Send lane ccb) d (rw is refl) in
      omega (arith, same, h.few d)
  send_cases lane ccb d (Some s) is free =
      let sending : Sending = record { device = s.device; qfreeze = s.flags.qfreeze; round = round es; place = length es } in
      let more = callers-send es lane ccb d sending (rw is refl) covered in
      let none : caller_count es s.device + error_count es s.device ≡ 0 = eqb-true (freeze_count es s.device) 0 free in
      let own : (s.device == d) ≡ true → caller_count es d ≡ 0 = λ at. let same : caller_count es s.device ≡ caller_count es d = ap (caller_count es) (eqb-true s.device d at) in omega arith in
      let le = bump (caller_count es d) (s.device == d) s.flags.qfreeze own (h.few d) in
      omega (arith, more, le)

  send_few : (lane ccb d : ℕ) → is_legal_event rules c (es, Send lane ccb) ≡ true → caller_count (es ++ Send lane ccb ∷ []) d ≤ MAX_FREEZES
  send_few lane ccb d legal =
      send_cases lane ccb d (submission es ccb) refl (send_from_next c es lane ccb (asks-send rules c es lane ccb legal).1).sendable.device_free

few_count : (rules : Rules) (c : Topology) (es : List Event) (e : Event) → is_legal_event rules c (es, e) ≡ true → AreFew rules c es → (d : ℕ) → caller_count (es ++ e ∷ []) d ≤ MAX_FREEZES
few_count rules c es (FreezeDev device count) legal h d = freeze_few rules c es h device count d legal
few_count rules c es (ReleaseDev device count) legal h d = release_few rules c es h device count d
few_count rules c es (Send lane ccb) legal h d = send_few rules c es h lane ccb d legal
few_count rules c es e legal h d = omega (arith, callers-same es e d refl, h.few d)

few_none : (d : ℕ) → caller_count [] d ≤ MAX_FREEZES
unfolding caller_count sendings
few_none d = omega arith

pub callers_most : (rules : Rules) (c : Topology) (es : List Event) (d : ℕ) → is_legal rules c es ≡ true → caller_count es d ≤ MAX_FREEZES
unfolding is_legal
callers_most rules c es d legal =
    (legal-induction rules c (AreFew rules c) (λ before e here h. record { legal = legal-push rules c before e h.legal here; few = few_count rules c before e here h }) [] es legal
    (record { legal = none_legal rules c; few = few_none })).few d

-- an adapter's freezes
standing-sim : (es : List Event) (a : ℕ) → adapter_freezes es a ≡ (sim_tally es a).added - (sim_tally es a).taken
unfolding adapter_freezes
standing-sim es a = refl

sim-push : (es : List Event) (e : Event) (a : ℕ) →
    adapter_freezes (es ++ e ∷ []) a
    ≡ (option_map_or (λ x. tallied a x (sim_tally es a)) (sim_change e) (sim_tally es a)).added - (option_map_or (λ x. tallied a x (sim_tally es a)) (sim_change e) (sim_tally es a)).taken
sim-push es e a = standing-sim (es ++ e ∷ []) a ∙ ap (λ (t : Tally). t.added - t.taken) (sim_tally-push es e a)

module _ (rules : Rules) (c : Topology) where
  sim_freeze_cases : (n k a t : ℕ) (b : Bool) → (b ≡ true → (a - t) + k ≤ MAX_FREEZES) → a - t ≤ MAX_FREEZES →
      (cond b (record { number = n; added = a + k; taken = t + 0 }) (let x : Tally = record { number = n; added = a; taken = t } in x)).added
      - (cond b (record { number = n; added = a + k; taken = t + 0 }) (let x : Tally = record { number = n; added = a; taken = t } in x)).taken ≤ MAX_FREEZES
  sim_freeze_cases n k a t true h le = let m = h refl in omega arith
  sim_freeze_cases n k a t false h le = le

  few_sim : (es : List Event) (e : Event) → is_legal_event rules c (es, e) ≡ true → ((a : ℕ) → adapter_freezes es a ≤ MAX_FREEZES) → (a : ℕ) → adapter_freezes (es ++ e ∷ []) a ≤ MAX_FREEZES
  few_sim es (FreezeSim sim count) legal h a =
      let asked = (allowed-legal_event rules c es (FreezeSim sim count) legal).1 in
      let room = leb-true _ _ (and_parts (names_adapter c sim && is_count count) (nat_le (adapter_freezes es sim + count) MAX_FREEZES) asked).1 in
      let t = sim_tally es a in
      let here = standing-sim es a in
      let own : (sim == a) ≡ true → (t.added - t.taken) + count ≤ MAX_FREEZES = λ at. let same : adapter_freezes es sim ≡ adapter_freezes es a = ap (adapter_freezes es) (eqb-true sim a at) in omega (arith, same, here, room) in
      let most : t.added - t.taken ≤ MAX_FREEZES = omega (arith, here, h a) in
      rw (sim-push es (FreezeSim sim count) a) (sim_freeze_cases t.number count t.added t.taken (sim == a) own most)
  few_sim es (ReleaseSim sim) legal h a =
      let t = sim_tally es a in
      let most : t.added - t.taken ≤ MAX_FREEZES = omega (arith, standing-sim es a, h a) in
      rw (sim-push es (ReleaseSim sim) a) (less (sim == a) t most)
    where
      less : (b : Bool) (t : Tally) → t.added - t.taken ≤ MAX_FREEZES →
          (cond b (record { number = t.number; added = t.added + 0; taken = t.taken + 1 }) t).added - (cond b (record { number = t.number; added = t.added + 0; taken = t.taken + 1 }) t).taken ≤ MAX_FREEZES
      less true t le = omega arith
      less false t le = le
  few_sim es e legal h a = let same : adapter_freezes (es ++ e ∷ []) a ≡ adapter_freezes es a = sim-push es e a ∙ sym (standing-sim es a) in omega (arith, same, h a)

sims_none : (a : ℕ) → adapter_freezes [] a ≤ MAX_FREEZES
unfolding adapter_freezes
sims_none a = omega arith

pub adapters_most : (rules : Rules) (c : Topology) (es : List Event) (a : ℕ) → is_legal rules c es ≡ true → adapter_freezes es a ≤ MAX_FREEZES
unfolding is_legal
adapters_most rules c es a legal = legal-induction rules c (λ xs. (k : ℕ) → adapter_freezes xs k ≤ MAX_FREEZES) (λ before e here h. few_sim rules c before e here h) [] es legal sims_none a

-- a device's openings by an adjustment
adjusted : (rules : Rules) (c : Topology) (es : List Event) (e : Event) (d : ℕ) → is_legal_event rules c (es, e) ≡ true → is_adjust_of d e ≡ true → are_openings (adjusts_to e) ≡ true
adjusted rules c es (Adjust device openings) d legal is =
    (and_parts (names_device c device) (are_openings openings) (allowed-legal_event rules c es (Adjust device openings) legal).1).1
adjusted rules c es _ d legal is = absurd (cc)

abbrev are_last_openings : List Event → ℕ → Bool
are_last_openings es d = option_map_or (λ e. are_openings (adjusts_to e)) (last (is_adjust_of d) es) true

adjusted_more : (rules : Rules) (c : Topology) (es : List Event) (e : Event) → is_legal_event rules c (es, e) ≡ true → ((d : ℕ) → are_last_openings es d ≡ true) → (d : ℕ) → are_last_openings (es ++ e ∷ []) d ≡ true
adjusted_more rules c es e legal h d =
    rw (last-push (is_adjust_of d) es e) (elim (is_adjust_of d e) as (λ b. is_adjust_of d e ≡ b → option_map_or (λ x. are_openings (adjusts_to x)) (cond b (Some e) (last (is_adjust_of d) es)) true ≡ true) [
      | true ↦ λ is. adjusted rules c es e d legal is
      | false ↦ λ is. h d
    ] refl)

pub last_openings : (rules : Rules) (c : Topology) (es : List Event) (d : ℕ) → is_legal rules c es ≡ true → option_map_or (λ e. are_openings (adjusts_to e)) (last (is_adjust_of d) es) true ≡ true
unfolding is_legal
last_openings rules c es d legal = legal-induction rules c (λ xs. (k : ℕ) → are_last_openings xs k ≡ true) (adjusted_more rules c) [] es legal (λ k. refl) d
