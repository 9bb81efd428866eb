-- decisions that are refused, and commands that a lane sends
use Rattle.std.proofs.Common.{◌≡◌, ℕ, zero, suc, ◌<◌, ◌≤◌, Bool, true, false, cond, List, [], ◌∷◌, length, refl, sym, ap, ◌∙◌, subst, arith, Option, Some, None, not, nat_lt, ◌==◌, ◌&&◌, ◌||◌, nat_le, slice_get, option_and_then, is_some, MatchOption, option_map, lt-ltb}
use Rattle.std.specs.List.{list_any}
use Rattle.sim_worker.specs.Words.{Topology, lane_adapter, names_lane, Outcome, status_of, is_one_of, sense_kind, scsi_kind, kind_of, class_of, classify, asks_requeue, asks_finish, read_sense, Sense, Kind, CountedRequeue, Fail, is_some_and, is_done_of, concerns, outcome_of, is_erring, ccbs, last_result, counted_requeues, retries_of, is_recovering, is_in_flight, head, next, Event, Send, Done, Requeue, Finish, Rules, is_legal, last_class, first_cause, refusal, Refusal, cases, is_for_room, Transport, refused, lane_refused, idle, next_case, case_of, has_head, Idle, Case}
use Rattle.sense_class.specs.declared.class.Kind.TheVariants as kinds
use Rattle.sense_class.specs.declared.class.Why.TheVariants as whys
use Rattle.sense_class.specs.declared.class.Class as class
use Rattle.event_rules.proofs.CcbLaws.{event-induction, last_result-push}
use Rattle.event_rules.proofs.StateLaws.{is_recovering-push}
use Rattle.event_rules.specs.declared.refusal.Refusal.TheVariants as refusals
use Rattle.event_rules.proofs.LegalLemmas.{legal-none}
use Rattle.event_rules.proofs.StandLemmas.{asks-send, states-legal}
use Rattle.event_rules.proofs.FirstLemmas.{first-legal, stands}
use Rattle.xpt_core.proofs.LawLemmas.{first_case_recovers, asked_decisions_are_taken}
use Rattle.xpt_state.proofs.IdleLemmas.{idle_is_no_next, is_some-next_head}
use Rattle.cam_types.proofs.LaneLemmas.{lane_named}
use Rattle.event_rules.proofs.QueueLaws.{test_le}
use Rattle.sim_worker.specs.Work.{decision_of, is_full}
use Rattle.sim_worker.specs.Held.{is_for_stays, is_held_up}
use Rattle.sim_worker.proofs.RunListFacts.{some_is}
use Rattle.sim_worker.proofs.FullLemmas.{false_true}

-- a CCB that is sent wasn't in flight
pub send_grounded : (t : Transport) (lane ccb : ℕ) → is_legal t.rules t.config t.events ≡ true → refused t (Send lane ccb) ≡ None → is_in_flight t.events ccb ≡ false
send_grounded t lane ccb legal free =
    let allowed = legal-none t.rules t.config t.events (Send lane ccb) free in
    let turn = first-legal t.config t.events lane ccb (asks-send t.rules t.config t.events lane ccb allowed).1 in
    (stands t.config t.events ccb turn.0 (states-legal t.rules t.config t.events legal) turn.1).in_flight

-- a result of a CCB that waits for a decision isn't status 01
is_bad : Outcome → Bool
is_bad o = not (status_of o == 1)

bad_at : (es : List Event) (e : Event) (c : ℕ) → (is_recovering es c ≡ true → is_some_and is_bad (last_result es c) ≡ true) → cond (concerns c e) (is_erring e) (is_recovering es c) ≡ true → is_some_and is_bad (cond (is_done_of c e) (outcome_of e) (last_result es c)) ≡ true
unfolding is_bad
bad_at es (Done ccb o) c h r = elim (ccb == c) as (λ b. cond (false || b || false || false) (not (status_of o == 1)) (is_recovering es c) ≡ true → is_some_and is_bad (cond b (Some o) (last_result es c)) ≡ true) [
  | true ↦ λ k. k
  | false ↦ λ k. h k
] r
bad_at es (Send lane ccb) c h r = elim (ccb == c) as (λ b. cond (b || false || false || false) false (is_recovering es c) ≡ true → is_some_and is_bad (last_result es c) ≡ true) [
  | true ↦ λ k. absurd (false_true k)
  | false ↦ λ k. h k
] r
bad_at es (Requeue ccb) c h r = elim (ccb == c) as (λ b. cond (false || false || b || false) false (is_recovering es c) ≡ true → is_some_and is_bad (last_result es c) ≡ true) [
  | true ↦ λ k. absurd (false_true k)
  | false ↦ λ k. h k
] r
bad_at es (Finish ccb) c h r = elim (ccb == c) as (λ b. cond (false || false || false || b) false (is_recovering es c) ≡ true → is_some_and is_bad (last_result es c) ≡ true) [
  | true ↦ λ k. absurd (false_true k)
  | false ↦ λ k. h k
] r
bad_at es _ c h r = h r

none : (c : ℕ) → is_recovering [] c ≡ true → is_some_and is_bad (last_result [] c) ≡ true
unfolding is_recovering
none c h = absurd (false_true h)

recovers_bad : (c : ℕ) (es : List Event) → is_recovering es c ≡ true → is_some_and is_bad (last_result es c) ≡ true
recovers_bad c es = event-induction (λ v. is_recovering v c ≡ true → is_some_and is_bad (last_result v c) ≡ true) (none c) (λ v e h r. ap (is_some_and is_bad) (last_result-push v e c) ∙ bad_at v e c h (sym (is_recovering-push v e c) ∙ r)) es

-- the class of such a result asks for one decision or the other
abbrev pub is_good : Kind → Bool
is_good kinds.Good = true
is_good _ = false

either : (b : Bool) (x y : Kind) → is_good x ≡ false → is_good y ≡ false → is_good (cond b x y) ≡ false
either true x y h k = h
either false x y h k = k

sense_not_good : (o : Option Sense) → is_good (sense_kind o) ≡ false
unfolding sense_kind
sense_not_good None = refl
sense_not_good (Some s) = either s.deferred _ _ refl (either (is_one_of (2 ∷ 3 ∷ 4 ∷ 6 ∷ 11 ∷ []) s.key) _ _ refl (either (nat_lt s.key 2) _ _ refl refl))

scsi_not_good : (o : Outcome) → is_good (scsi_kind o) ≡ false
unfolding scsi_kind
scsi_not_good o = either (o.scsi == 0x28) _ _ refl (either (o.scsi == 0x08) _ _ refl (either (o.scsi == 0x02) _ _ (sense_not_good (read_sense o.sense)) refl))

bad_not_good : (o : Outcome) → is_bad o ≡ true → is_good (kind_of o) ≡ false
unfolding is_bad kind_of
bad_not_good o bad = elim (status_of o == 0x01) as (λ b. not b ≡ true → is_good (cond b kinds.Good (cond (status_of o == 0x1b) kinds.Free (cond (is_one_of (0x05 ∷ 0x0a ∷ 0x0b ∷ 0x0e ∷ 0x0f ∷ 0x13 ∷ 0x17 ∷ []) (status_of o)) kinds.Counted (cond (status_of o == 0x0c) (scsi_kind o) kinds.Other)))) ≡ false) [
  | true ↦ λ h. absurd (false_true h)
  | false ↦ λ h. either (status_of o == 0x1b) _ _ refl (either (is_one_of (0x05 ∷ 0x0a ∷ 0x0b ∷ 0x0e ∷ 0x0f ∷ 0x13 ∷ 0x17 ∷ []) (status_of o)) _ _ refl (either (status_of o == 0x0c) _ _ (scsi_not_good o) refl))
] bad

class_asks : (counted retries : ℕ) (k : Kind) → is_good k ≡ false → (asks_requeue (class_of counted retries k) || asks_finish (class_of counted retries k)) ≡ true
class_asks counted retries kinds.Good h = absurd (false_true (sym h))
class_asks counted retries kinds.Free h = refl
class_asks counted retries kinds.Counted h = elim (counted == retries) as (λ b. (asks_requeue (cond b (Fail whys.Spent) CountedRequeue) || asks_finish (cond b (Fail whys.Spent) CountedRequeue)) ≡ true) [ true ↦ refl | false ↦ refl ]
class_asks counted retries kinds.Recovered h = refl
class_asks counted retries kinds.Other h = refl

last_asks : (es : List Event) (c : ℕ) (o : Option Outcome) (known : class.Class) → is_some_and is_bad o ≡ true → option_map (λ (x : Outcome). classify x (counted_requeues es c) (retries_of es c)) o ≡ Some known → (asks_requeue known || asks_finish known) ≡ true
last_asks es c None known bad is = absurd (false_true bad)
last_asks es c (Some o) known bad is =
    let at = some_is (classify o (counted_requeues es c) (retries_of es c)) known is in
    subst (λ k. (asks_requeue k || asks_finish k) ≡ true) at (class_asks (counted_requeues es c) (retries_of es c) (kind_of o) (bad_not_good o bad))

-- the first case: its CCB is recovering, and its class is that of the CCB's last result
pub record IsCase (es : List Event) (case : Case) : Type 0 where
  pub recovers : is_recovering es case.ccb ≡ true
  pub known : last_class es case.ccb ≡ Some case.class
  pub asks : (asks_requeue case.class || asks_finish case.class) ≡ true

case_parts : (es : List Event) (ccb : ℕ) (o : Option class.Class) (case : Case) → case_of ccb o ≡ Some case → (case.ccb ≡ ccb) × (o ≡ Some case.class)
case_parts es ccb None case h = absurd (cc)
case_parts es ccb (Some k) case h =
    let is = some_is (record { ccb = ccb; class = k }) case h in
    (sym (ap (λ (x : Case). x.ccb) is), ap (λ (x : Case). Some x.class) is)

pub case_is : (rules : Rules) (c : Topology) (es : List Event) (case : Case) → is_legal rules c es ≡ true → next_case es ≡ Some case → IsCase es case
case_is rules c es case legal is = elim (slice_get (cases es) 0) as (λ o. MatchOption o (list_any (is_recovering es) (ccbs es) ≡ false) (λ ccb. is_recovering es ccb ≡ true) → option_and_then (λ ccb. case_of ccb (last_class es ccb)) o ≡ Some case → IsCase es case) [
  | None ↦ λ first stated. absurd (cc)
  | Some ccb ↦ λ first stated.
      let parts = case_parts es ccb (last_class es ccb) case stated in
      let recovers : is_recovering es case.ccb ≡ true = ap (is_recovering es) parts.0 ∙ first in
      let known : last_class es case.ccb ≡ Some case.class = ap (last_class es) parts.0 ∙ parts.1 in
      record {
        recovers = recovers;
        known = known;
        asks = last_asks es case.ccb (last_result es case.ccb) case.class (recovers_bad case.ccb es recovers) known;
      }
] (first_case_recovers rules c es legal) is

some_class : (es : List Event) (ccb : ℕ) (o : Option Outcome) → is_some_and is_bad o ≡ true → case_of ccb (option_map (λ (x : Outcome). classify x (counted_requeues es ccb) (retries_of es ccb)) o) ≡ None → ⊥
some_class es ccb None bad h = false_true bad
some_class es ccb (Some o) bad h = absurd (cc)

-- where no case is first, no CCB waits for a decision
pub none_recovers : (rules : Rules) (c : Topology) (es : List Event) → is_legal rules c es ≡ true → next_case es ≡ None → list_any (is_recovering es) (ccbs es) ≡ false
none_recovers rules c es legal is = elim (slice_get (cases es) 0) as (λ o. slice_get (cases es) 0 ≡ o → MatchOption o (list_any (is_recovering es) (ccbs es) ≡ false) (λ ccb. is_recovering es ccb ≡ true) → option_and_then (λ ccb. case_of ccb (last_class es ccb)) o ≡ None → list_any (is_recovering es) (ccbs es) ≡ false) [
  | None ↦ λ at first stated. first
  | Some ccb ↦ λ at first stated. absurd (some_class es ccb (last_result es ccb) (recovers_bad ccb es first) stated)
] refl (first_case_recovers rules c es legal) is

-- a refusal for want of room that isn't the history's is that of stays
stays_only : (why : Refusal) → is_for_room (Some why) ≡ true → is_full why ≡ false → is_for_stays (Some why) ≡ true
stays_only (refusals.HistoryFull n) room full = absurd (false_true (sym full))
stays_only refusals.StaysFull room full = refl
stays_only _ room full = room

-- a finish isn't refused for stays
finish_no_stays : (full n r w : Bool) (k : ℕ) (why : Refusal) → first_cause ((full, refusals.HistoryFull k) ∷ (n, refusals.NoCcb) ∷ (r, refusals.NotRecovering) ∷ (w, refusals.WrongDecision) ∷ []) ≡ Some why → is_for_stays (Some why) ≡ false
finish_no_stays true n r w k why h = subst (λ o. is_for_stays o ≡ false) h refl
finish_no_stays false true r w k why h = subst (λ o. is_for_stays o ≡ false) h refl
finish_no_stays false false true w k why h = subst (λ o. is_for_stays o ≡ false) h refl
finish_no_stays false false false true k why h = subst (λ o. is_for_stays o ≡ false) h refl
finish_no_stays false false false false k why h = absurd (cc)

finish_never : (rules : Rules) (c : Topology) (es : List Event) (ccb : ℕ) (why : Refusal) → refusal rules c es (Finish ccb) ≡ Some why → is_for_stays (Some why) ≡ false
unfolding refusal
finish_never rules c es ccb why h = finish_no_stays _ _ _ _ (length es) why h

-- a decision that is refused though the history isn't full is held up
pub decision_held : (t : Transport) (case : Case) (why : Refusal) → is_legal t.rules t.config t.events ≡ true → next_case t.events ≡ Some case → refused t (decision_of case) ≡ Some why → is_full why ≡ false → is_held_up t case ≡ true
decision_held t case why legal is stated full =
    let known = case_is t.rules t.config t.events case legal is in
    let taken = asked_decisions_are_taken t.rules t.config t.events case.ccb legal known.recovers in
    elim (asks_requeue case.class) as (λ b. asks_requeue case.class ≡ b → (b || asks_finish case.class) ≡ true → refused t (cond b (Requeue case.ccb) (Finish case.ccb)) ≡ Some why → (b && is_for_stays (refused t (Requeue case.ccb))) ≡ true) [
      | true ↦ λ asks either_one refused_so.
          let room = taken.0 (ap (is_some_and asks_requeue) known.known ∙ asks) in
          ap is_for_stays refused_so ∙ stays_only why (sym (ap is_for_room refused_so) ∙ room) full
      | false ↦ λ asks either_one refused_so.
          let room = taken.1 (ap (is_some_and asks_finish) known.known ∙ either_one) in
          absurd (false_true (sym (finish_never t.rules t.config t.events case.ccb why refused_so) ∙ stays_only why (sym (ap is_for_room refused_so) ∙ room) full))
    ] refl known.asks stated

pub free_before : (marked held : Bool) → held ≡ true → (not marked || not held) ≡ true → marked ≡ false
free_before true true h able = absurd (false_true able)
free_before true false h able = absurd (false_true h)
free_before false held h able = refl

-- ---- lanes

lane_says : (c : Topology) (es : List Event) (lane : ℕ) (o : Option ℕ) → is_some_and (λ a. is_some (head c es a)) o ≡ true → (a : ℕ) × (o ≡ Some a) × (is_some (head c es a) ≡ true)
lane_says c es lane None h = absurd (false_true h)
lane_says c es lane (Some a) h = (a, refl, h)

named_there : (xs : List ℕ) (i a : ℕ) → slice_get xs i ≡ Some a → i < length xs
named_there [] i a h = absurd (cc)
named_there (x ∷ xs) zero a h = omega arith
named_there (x ∷ xs) (suc i) a h = omega (arith, named_there xs i a h)

pub head_named : (c : Topology) (es : List Event) (lane : ℕ) → has_head c es lane ≡ true → (names_lane c lane ≡ true) × (is_some (head c es (lane_adapter c lane)) ≡ true)
head_named c es lane h =
    let says = lane_says c es lane (slice_get c.lanes lane) h in
    let named = lt-ltb lane (length c.lanes) (named_there c.lanes lane says.0 says.1) in
    let same : says.0 ≡ lane_adapter c lane = some_is says.0 (lane_adapter c lane) (sym says.1 ∙ lane_named c lane named) in
    (named, ap (λ a. is_some (head c es a)) (sym same) ∙ says.2)

-- a lane whose adapter has a head isn't idle
pub never_idle : (c : Topology) (es : List Event) (lane : ℕ) (why : Idle) → has_head c es lane ≡ true → idle c es (lane_adapter c lane) ≡ Some why → ⊥
never_idle c es lane why h is =
    let a = lane_adapter c lane in
    let some : is_some (next c es a) ≡ true = is_some-next_head c es a ∙ (head_named c es lane h).1 in
    false_true (ap not (sym some) ∙ sym (idle_is_no_next c es a) ∙ ap is_some is)

-- it is refused where the history is full
lane_full_at : (full there : Bool) (k : ℕ) (why : Refusal) → there ≡ true → first_cause ((full, refusals.HistoryFull k) ∷ (not there, refusals.NoLane) ∷ []) ≡ Some why → full ≡ true
lane_full_at true there k why named h = refl
lane_full_at false true k why named h = absurd (cc)
lane_full_at false false k why named h = absurd (false_true named)

pub lane_full : (t : Transport) (lane : ℕ) (why : Refusal) → has_head t.config t.events lane ≡ true → lane_refused t lane ≡ Some why → t.rules.events ≤ length t.events
lane_full t lane why h stated = test_le t.rules.events (length t.events) (lane_full_at (nat_le t.rules.events (length t.events)) (names_lane t.config lane) (length t.events) why (head_named t.config t.events lane h).0 stated)
