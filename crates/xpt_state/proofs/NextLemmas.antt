-- the adapter of a lane, and the send whose turn it is there
use Rattle.std.proofs.Common.{◌≡◌, ℕ, ◌<◌, ◌≤◌, Bool, true, false, List, length, Option, Some, None, refl, sym, ap, arith, ◌∙◌, ◌==◌, ◌&&◌, nat_le, is_some}
use Rattle.std.specs.List.{list_any}
use Rattle.std.specs.Option.{option_map}
use Rattle.std.proofs.lemmas.Bool.{and_left, le-ltb}
use Rattle.std.proofs.lemmas.Option.{slice_get_past}
use Rattle.xpt_state.specs.Words.{Topology, IsConfig, adapter_freezes, names_lane, lane_adapter, devices, adapter_has_opening, link_has_opening, head, may_send, next, Event, Send, Passage, HistoryFull, next_of, Next, Transport, refused}
use Rattle.xpt_state.specs.Idle.{takes_more}
use Rattle.xpt_state.specs.Sends.{lane_refusal}
use Rattle.xpt_state.proofs.IdleLemmas.{is_some-head, is_some-next_head}
use Rattle.xpt_state.proofs.LaneLemmas.{free_cases, next_unrefused}
use Rattle.cam_types.proofs.LaneLemmas.{lane_adapter_within}

pub free_lane_within : (t : Transport) (lane a : ℕ) → IsConfig t.config → a ≡ lane_adapter t.config lane → lane_refusal t.rules t.config t.events lane ≡ None → a < length t.config.adapters
free_lane_within t lane a is at free =
    rw at (lane_adapter_within t.config lane is (free_cases (nat_le t.rules.events (length t.events)) (names_lane t.config lane) (HistoryFull (length t.events)) free).1)

-- where there is a next stay, a send of its CCB isn't refused
turn_cases : (o : Option Passage) (next_command : Next) → Some next_command ≡ option_map next_of o → (p : Passage) × (o ≡ Some p) × (p.ccb ≡ next_command.ccb)
turn_cases None next_command h = absurd (cc)
turn_cases (Some p) next_command h = let same : next_command ≡ next_of p = cc in (p, refl, sym (ap (λ (x : Next). x.ccb) same))

pub turn_free : (t : Transport) (lane : ℕ) (next_command : Next) → lane_refusal t.rules t.config t.events lane ≡ None →
    Some next_command ≡ option_map next_of (next t.config t.events (lane_adapter t.config lane)) → refused t (Send lane next_command.ccb) ≡ None
turn_free t lane next_command free is =
    let by = turn_cases (next t.config t.events (lane_adapter t.config lane)) next_command is in
    ap (λ n. refused t (Send lane n)) (sym by.2) ∙ next_unrefused t.rules t.config t.events lane by.0 free by.1

-- an adapter has a head where it has a next stay
some_turn : (o : Option Passage) → is_some (option_map next_of o) ≡ is_some o
some_turn None = refl
some_turn (Some p) = refl

pub head_where_next : (c : Topology) (es : List Event) (a : ℕ) → is_some (option_map next_of (next c es a)) ≡ is_some (head c es a)
head_where_next c es a = some_turn (next c es a) ∙ is_some-next_head c es a

-- an adapter that isn't there has no opening, and so no head
none_left : (left may : Bool) (free : Bool) → left ≡ false → (free && left && may) ≡ false
none_left left may true h = rw h refl
none_left left may false h = refl

no_opening : (c : Topology) (es : List Event) (a : ℕ) → length c.adapters ≤ a → adapter_has_opening c es a ≡ false
unfolding adapter_has_opening
no_opening c es a past = rw (slice_get_past c.adapters a past) (le-ltb _ 0 (omega arith))

pub no_head : (c : Topology) (es : List Event) (a : ℕ) → length c.adapters ≤ a → is_some (head c es a) ≡ false
no_head c es a past =
    is_some-head c es a ∙ none_left (takes_more c es a) (list_any (may_send c es a) (devices c)) (adapter_freezes es a == 0) (and_left (adapter_has_opening c es a) (link_has_opening c es a) (no_opening c es a past))
