-- an adapter is idle exactly where it has no next stay
use Rattle.std.proofs.Common.{◌≡◌, ℕ, Bool, true, false, cond, List, [], ◌∷◌, Option, Some, None, refl, sym, ap, ◌∙◌, is_some, ◌==◌, not, ◌&&◌, ◌||◌, filter, option_and_then}
use Rattle.std.specs.List.{list_any, list_all}
use Rattle.xpt_state.specs.Words.{first_answer, least_by, Topology, freeze_count, adapter_freezes, first, is_on, devices, has_opening, adapter_has_opening, link_has_opening, is_ready, may_send, turn_key, turn, head, next, Event}
use Rattle.std.proofs.lemmas.Bool.{and_parts, and_from}
use Rattle.std.proofs.Math.Bool.{not-not}
use Rattle.event_rules.proofs.LeastLemmas.{is_some-least_by-filter}
use Rattle.event_rules.proofs.TestLemmas.{same_tests, list_any-weaker}
use Rattle.event_rules.proofs.NextLemmas.{is_some-next}
use Rattle.xpt_state.specs.Idle.{has_stay_on, is_held_back, idle_causes, idle_named, idle, idle_by, takes_more, Idle, Empty, AdapterFrozen, AdapterBusy, DevicesHeld}

-- there is a first cause where one holds
is_some-first : (ms : List (Bool × Idle)) → is_some (first_answer idle_named ms) ≡ list_any (λ m. m.0) ms
is_some-first [] = refl
is_some-first ((holds, name) ∷ ms) = elim holds as (λ b. is_some (first_answer idle_named ((b, name) ∷ ms)) ≡ (b || list_any (λ m. m.0) ms)) [
  | true ↦ refl
  | false ↦ is_some-first ms
]

-- a device with a queued stay may send where it isn't held back
not_held : (on some free left : Bool) → (not (on && some) || (not free || not left)) ≡ not (on && (some && free && left))
not_held true true true true = refl
not_held true true true false = refl
not_held true true false left = refl
not_held true false free left = refl
not_held false some free left = refl

held_cases : (c : Topology) (es : List Event) (a d : ℕ) → (not (has_stay_on c es a d) || is_held_back c es d) ≡ not (may_send c es a d)
unfolding is_ready
held_cases c es a d = not_held (is_on c a d) (is_some (first es d)) (freeze_count es d == 0) (has_opening c es d)

none_passes : {X : Type 0} → (p q : X → Bool) (xs : List X) → ((x : X) → p x ≡ not (q x)) → list_all p xs ≡ not (list_any q xs)
none_passes p q [] h = refl
none_passes p q (x ∷ xs) h = rw (h x, none_passes p q xs h) (neither (q x) (list_any q xs))
  where
    neither : (b c : Bool) → (not b && not c) ≡ not (b || c)
    neither true c = refl
    neither false c = refl

has_stay : (on some free left : Bool) → (on && (some && free && left)) ≡ true → (on && some) ≡ true
has_stay on some free left h =
    let one = and_parts on (some && free && left) h in
    let two = and_parts (some && free) left one.1 in
    and_from on some one.0 (and_parts some free two.0).0

has_stay_where : (c : Topology) (es : List Event) (a d : ℕ) → may_send c es a d ≡ true → has_stay_on c es a d ≡ true
unfolding is_ready
has_stay_where c es a d h = has_stay (is_on c a d) (is_some (first es d)) (freeze_count es d == 0) (has_opening c es d) h

-- an adapter has a next stay where it is free and one of its devices may send
head_cases : (b : Bool) (o : Option ℕ) → is_some (cond b o None) ≡ (b && is_some o)
head_cases true o = refl
head_cases false o = refl

some_turn : (c : Topology) (es : List Event) (a : ℕ) → is_some (turn c es a) ≡ ((adapter_freezes es a == 0) && adapter_has_opening c es a && list_any (may_send c es a) (devices c))
unfolding turn
some_turn c es a =
    head_cases ((adapter_freezes es a == 0) && adapter_has_opening c es a) (least_by (turn_key es) (filter (may_send c es a) (devices c)))
    ∙ ap (λ b. ((adapter_freezes es a == 0) && adapter_has_opening c es a) && b) (is_some-least_by-filter (turn_key es) (may_send c es a) (devices c))

link_first : (free left link may : Bool) → (link && ((free && left) && may)) ≡ ((free && (left && link)) && may)
link_first true true link may = refl
link_first true false true may = refl
link_first true false false may = refl
link_first false left true may = refl
link_first false left false may = refl

pub is_some-head : (c : Topology) (es : List Event) (a : ℕ) → is_some (head c es a) ≡ ((adapter_freezes es a == 0) && takes_more c es a && list_any (may_send c es a) (devices c))
unfolding head
is_some-head c es a =
    head_cases (link_has_opening c es a) (turn c es a) ∙ ap (λ b. link_has_opening c es a && b) (some_turn c es a)
    ∙ link_first (adapter_freezes es a == 0) (adapter_has_opening c es a) (link_has_opening c es a) (list_any (may_send c es a) (devices c))

from_head : (es : List Event) (o : Option ℕ) → is_some (option_and_then (first es) o) ≡ true → is_some o ≡ true
from_head es (Some d) h = refl
from_head es None h = h

pub is_some-next_head : (c : Topology) (es : List Event) (a : ℕ) → is_some (next c es a) ≡ is_some (head c es a)
unfolding next
is_some-next_head c es a = same_tests _ _ (from_head es (head c es a)) (is_some-next c es a)

idle_cases : (stays free left may : Bool) → (may ≡ true → stays ≡ true) → (not stays || (not free || (not left || (not may || false)))) ≡ not (free && left && may)
idle_cases true true true true h = refl
idle_cases true true true false h = refl
idle_cases true true false may h = refl
idle_cases true false left may h = refl
idle_cases false free left true h = let e : false ≡ true = h refl in absurd (cc)
idle_cases false true true false h = refl
idle_cases false true false false h = refl
idle_cases false false left false h = refl

pub idle_is_no_next : (c : Topology) (es : List Event) (a : ℕ) → is_some (idle c es a) ≡ not (is_some (next c es a))
idle_is_no_next c es a =
    let may = list_any (may_send c es a) (devices c) in
    let stays = list_any (has_stay_on c es a) (devices c) in
    let free = (adapter_freezes es a == 0) in
    let left = takes_more c es a in
    is_some-first (idle_causes c es a)
    ∙ ap (λ b. not stays || (not free || (not left || (b || false)))) (none_passes (λ d. not (has_stay_on c es a d) || is_held_back c es d) (may_send c es a) (devices c) (held_cases c es a))
    ∙ idle_cases stays free left may (list_any-weaker (may_send c es a) (has_stay_on c es a) (devices c) (has_stay_where c es a))
    ∙ ap not (sym (is_some-next_head c es a ∙ is_some-head c es a))

-- the cause by three tests
by_tests : (queued free left held : Bool) → (not queued || (not free || (not left || (held || false)))) ≡ true →
    first_answer idle_named ((not queued, Empty) ∷ (not free, AdapterFrozen) ∷ (not left, AdapterBusy) ∷ (held, DevicesHeld) ∷ []) ≡ Some (idle_by queued free left)
by_tests false free left held h = refl
by_tests true false left held h = refl
by_tests true true false held h = refl
by_tests true true true true h = refl
by_tests true true true false h = absurd (cc)

pub idle_is_by_tests : (c : Topology) (es : List Event) (a : ℕ) → next c es a ≡ None →
    idle c es a ≡ Some (idle_by (list_any (has_stay_on c es a) (devices c)) (adapter_freezes es a == 0) (takes_more c es a))
idle_is_by_tests c es a none =
    by_tests (list_any (has_stay_on c es a) (devices c)) (adapter_freezes es a == 0) (takes_more c es a) (list_all (λ d. not (has_stay_on c es a d) || is_held_back c es d) (devices c))
    (sym (is_some-first (idle_causes c es a)) ∙ idle_is_no_next c es a ∙ ap (λ o. not (is_some o)) none)

-- the same of what the tests were found to be
pub idle_found : (c : Topology) (es : List Event) (a : ℕ) (queued frozen left : Bool) → next c es a ≡ None → queued ≡ list_any (has_stay_on c es a) (devices c) → frozen ≡ not (adapter_freezes es a == 0) → left ≡ takes_more c es a →
    idle c es a ≡ Some (idle_by queued (not frozen) left)
idle_found c es a queued frozen left none i j k =
    idle_is_by_tests c es a none ∙ ap Some (rw (i, j, k, not-not (adapter_freezes es a == 0)) refl)
