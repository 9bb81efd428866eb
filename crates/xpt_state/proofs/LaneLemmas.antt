-- why a lane that asks for the next command is refused
use Rattle.std.proofs.Common.{◌≡◌, ℕ, ◌<◌, Bool, true, false, List, [], ◌∷◌, length, Option, Some, None, refl, sym, ◌∙◌, not, nat_le, is_none, leb-false}
use Rattle.xpt_state.specs.Words.{Topology, next, has_queued, Event, Send, Passage, names_lane, lane_adapter, Rules, names_ccb, device_of, turn_causes, first_cause, refusal, Refusal, HistoryFull, NoLane, NoCcb, NotQueued}
use Rattle.event_rules.proofs.LegalLemmas.{legal-unrefused}
use Rattle.xpt_state.specs.Sends.{lane_refusal}
use Rattle.xpt_state.proofs.SendLemmas.{next_is_legal}

-- two causes that hold stand before all others, and where neither does the others decide
lane_cases : (full there : Bool) (h why : Refusal) (rest : List (Bool × Refusal)) → first_cause ((full, h) ∷ (not there, NoLane) ∷ []) ≡ Some why → first_cause ((full, h) ∷ (not there, NoLane) ∷ rest) ≡ Some why
lane_cases true there h why rest e = e
lane_cases false false h why rest e = e
lane_cases false true h why rest e = absurd (cc)

pub lane_refused : (rules : Rules) (c : Topology) (es : List Event) (lane ccb : ℕ) (why : Refusal) → lane_refusal rules c es lane ≡ Some why → refusal rules c es (Send lane ccb) ≡ Some why
unfolding refusal
lane_refused rules c es lane ccb why h =
    lane_cases (nat_le rules.events (length es)) (names_lane c lane) (HistoryFull (length es)) why
    ((not (names_ccb es ccb), NoCcb) ∷ (not (has_queued es ccb), NotQueued) ∷ turn_causes c es (device_of es ccb) (lane_adapter c lane) ccb) h

pub free_cases : (full there : Bool) (h : Refusal) → first_cause ((full, h) ∷ (not there, NoLane) ∷ []) ≡ None → (full ≡ false) × (there ≡ true)
free_cases true there h e = absurd (cc)
free_cases false false h e = absurd (cc)
free_cases false true h e = (refl, refl)

none_there : (o : Option Refusal) → is_none o ≡ true → o ≡ None
none_there None h = refl
none_there (Some r) h = absurd (cc)

pub next_unrefused : (rules : Rules) (c : Topology) (es : List Event) (lane : ℕ) (p : Passage) → lane_refusal rules c es lane ≡ None → next c es (lane_adapter c lane) ≡ Some p → refusal rules c es (Send lane p.ccb) ≡ None
next_unrefused rules c es lane p free is =
    let parts = free_cases (nat_le rules.events (length es)) (names_lane c lane) (HistoryFull (length es)) free in
    let short : length es < rules.events = leb-false rules.events (length es) parts.0 in
    none_there (refusal rules c es (Send lane p.ccb)) (sym (legal-unrefused rules c es (Send lane p.ccb)) ∙ next_is_legal rules c es lane p short parts.1 is)
