-- what legal events come to
use Rattle.std.proofs.Common.{◌≡◌, ℕ, ◌+◌, ◌<◌, ◌≤◌, true, List, [], ◌∷◌, ◌++◌, length, take, drop, get_or, refl, sym, ap, ◌∙◌, arith, append_assoc, append-nil, length-append, Option, Some, None, ◌&&◌, not, nat_lt, nat_le, option_to_list}
use Rattle.std.specs.List.{list_all}
use Rattle.std.proofs.lemmas.Bool.{and_parts, and_from, ltb-true}
use Rattle.std.proofs.lemmas.List.{take-append-drop, drop_more}
use Rattle.cam_types.specs.Lists.{prefixed_after}
use Rattle.cam_types.specs.Topology.{Topology}
use Rattle.event_rules.specs.Counts.{round, has_in_flight, is_recovering, wants_requeue}
use Rattle.event_rules.specs.Stays.{stays_begun, stay_begun, Passage}
use Rattle.event_rules.specs.Event.{Event, Submit, Requeue, Tick}
use Rattle.event_rules.proofs.PushLaws.{round-push, stays_begun-push}
use Rattle.cam_types.specs.Questions.{names_device}
use Rattle.event_rules.specs.Legal.{Rules, history_rules, names_ccb, has_ccb, has_stay, is_legal_event, is_legal}
use Rattle.cam_types.specs.declared.flags.Flags.{Flags}
use Rattle.cam_types.specs.declared.limits.TheConstants.{MAX_PRIORITY, MAX_RETRIES, MAX_ROUNDS, MAX_STAYS}
use Rattle.event_rules.proofs.LawLemmas.{allowed-legal_event}

-- what a legal event leads to, where it holds before it, holds after all of a legal list
pub legal-induction : (rules : Rules) (c : Topology) (P : List Event → Type 0) → ((before : List Event) (event : Event) → is_legal_event rules c (before, event) ≡ true → P before → P (before ++ event ∷ [])) → (before after : List Event) → list_all (is_legal_event rules c) (prefixed_after before after) ≡ true → P before → P (before ++ after)
legal-induction rules c P step before [] legal h = rw (append-nil before) h
legal-induction rules c P step before (event ∷ after) legal h =
    let parts = and_parts (is_legal_event rules c (before, event)) (list_all (is_legal_event rules c) (prefixed_after (before ++ event ∷ []) after)) legal in
    rw (← append_assoc before (event ∷ []) after) (legal-induction rules c P step (before ++ event ∷ []) after parts.1 (step before event parts.0 h))

-- a tick opens a round that there may be
round_step : (rules : Rules) (c : Topology) (before : List Event) (event : Event) → is_legal_event rules c (before, event) ≡ true → round before ≤ rules.rounds → round (before ++ event ∷ []) ≤ rules.rounds
round_step rules c before Tick legal h =
    let asked = (allowed-legal_event rules c before Tick legal).1 in
    let lt = ltb-true _ _ (and_parts (not (has_in_flight before)) (nat_lt (round before) rules.rounds) asked).1 in
    omega (arith, round-push before Tick)
round_step rules c before e legal h = omega (arith, round-push before e)

pub round-legal : (rules : Rules) (c : Topology) (events : List Event) → 1 ≤ rules.rounds → is_legal rules c events ≡ true → round events ≤ rules.rounds
unfolding is_legal round
round-legal rules c events some legal = legal-induction rules c (λ es. round es ≤ rules.rounds) (round_step rules c) [] events legal some

-- a stay begins where there may be one more
one_more : (ps : List Passage) (o : Option Passage) (most : ℕ) → length ps < most → length (ps ++ option_to_list o) ≤ most
one_more ps None most lt = omega (arith, length-append ps [])
one_more ps (Some p) most lt = omega (arith, length-append ps (p ∷ []))

pub room_submit : (rules : Rules) (c : Topology) (before : List Event) (driver device priority retries : ℕ) (flags : Flags) → is_legal_event rules c (before, Submit driver device priority retries flags) ≡ true → length (stays_begun before) < rules.stays
room_submit rules c before driver device priority retries flags legal =
    let asked = (allowed-legal_event rules c before (Submit driver device priority retries flags) legal).1 in
    let named = names_device c device && nat_le priority MAX_PRIORITY && nat_le retries MAX_RETRIES && has_ccb rules before in
    ltb-true _ _ (and_parts named (has_stay rules before) asked).1

pub room_requeue : (rules : Rules) (c : Topology) (before : List Event) (ccb : ℕ) → is_legal_event rules c (before, Requeue ccb) ≡ true → length (stays_begun before) < rules.stays
room_requeue rules c before ccb legal =
    let asked = (allowed-legal_event rules c before (Requeue ccb) legal).1 in
    let one = and_parts (names_ccb before ccb && has_stay rules before && is_recovering before ccb) (wants_requeue before ccb) asked in
    let two = and_parts (names_ccb before ccb && has_stay rules before) (is_recovering before ccb) one.0 in
    ltb-true _ _ (and_parts (names_ccb before ccb) (has_stay rules before) two.0).1

stays_step : (rules : Rules) (c : Topology) (before : List Event) (event : Event) → is_legal_event rules c (before, event) ≡ true → length (stays_begun before) ≤ rules.stays → length (stays_begun (before ++ event ∷ [])) ≤ rules.stays
stays_step rules c before (Submit driver device priority retries flags) legal h =
    rw stays_begun-push (one_more (stays_begun before) (stay_begun (before, Submit driver device priority retries flags)) rules.stays (room_submit rules c before driver device priority retries flags legal))
stays_step rules c before (Requeue ccb) legal h =
    rw stays_begun-push (one_more (stays_begun before) (stay_begun (before, Requeue ccb)) rules.stays (room_requeue rules c before ccb legal))
stays_step rules c before _ legal h = rw stays_begun-push (rw (append-nil (stays_begun before)) h)

pub stays-legal : (rules : Rules) (c : Topology) (events : List Event) → is_legal rules c events ≡ true → length (stays_begun events) ≤ rules.stays
unfolding is_legal stays_begun
stays-legal rules c events legal = legal-induction rules c (λ es. length (stays_begun es) ≤ rules.stays) (stays_step rules c) [] events legal (omega arith)

-- a history's last round, and how many stays it has
pub round_most : (c : Topology) (events : List Event) → is_legal history_rules c events ≡ true → round events ≤ MAX_ROUNDS
round_most c events legal = round-legal history_rules c events (omega arith) legal

pub round_first : (events : List Event) → 1 ≤ round events
unfolding round
round_first events = omega arith

pub stays_most : (c : Topology) (events : List Event) → is_legal history_rules c events ≡ true → length (stays_begun events) ≤ MAX_STAYS
stays_most c events legal = stays-legal history_rules c events legal

-- the front of a legal list is legal, and so is what follows it
legal-parts : (rules : Rules) (c : Topology) (before front back : List Event) → list_all (is_legal_event rules c) (prefixed_after before (front ++ back)) ≡ true → (list_all (is_legal_event rules c) (prefixed_after before front) ≡ true) × (list_all (is_legal_event rules c) (prefixed_after (before ++ front) back) ≡ true)
legal-parts rules c before [] back legal = (refl, rw (append-nil before) legal)
legal-parts rules c before (event ∷ front) back legal =
    let parts = and_parts (is_legal_event rules c (before, event)) _ legal in
    let rest = legal-parts rules c (before ++ event ∷ []) front back parts.1 in
    (and_from _ _ parts.0 rest.0, rw append_assoc at rest.1)

pub legal-front : (rules : Rules) (c : Topology) (front back : List Event) → is_legal rules c (front ++ back) ≡ true → is_legal rules c front ≡ true
unfolding is_legal
legal-front rules c front back legal = (legal-parts rules c [] front back legal).0

pub legal-next : (rules : Rules) (c : Topology) (front : List Event) (event : Event) (back : List Event) → is_legal rules c (front ++ event ∷ back) ≡ true → is_legal_event rules c (front, event) ≡ true
unfolding is_legal
legal-next rules c front event back legal = (and_parts (is_legal_event rules c (front, event)) _ (legal-parts rules c [] front (event ∷ back) legal).1).0

-- the event at a place of a legal list is legal after those before it
pub legal-at : (rules : Rules) (c : Topology) (events : List Event) (i : ℕ) (d : Event) → i < length events → is_legal rules c events ≡ true → is_legal_event rules c (take i events, get_or events i d) ≡ true
legal-at rules c events i d lt legal =
    let parts : events ≡ take i events ++ get_or events i d ∷ drop (i + 1) events =
    sym (take-append-drop i events) ∙ ap (λ es. take i events ++ es) (drop_more events i d lt) in
    legal-next rules c (take i events) (get_or events i d) (drop (i + 1) events) (rw (← parts) legal)
