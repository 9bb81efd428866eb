-- events one by one into a transport
use Rattle.std.proofs.Common.{◌≡◌, ℕ, ◌+◌, ◌<◌, ◌≤◌, true, List, [], ◌∷◌, ◌++◌, length, take, drop, get_or, refl, sym, ap, ◌∙◌, Option, Some, None, slice_index_or}
use Rattle.std.specs.Option.{option_or}
use Rattle.std.proofs.lemmas.List.{take_more, take_all, drop_more, drop_all}
use Rattle.cam_types.specs.Lists.{prefixed_after, first_answer}
use Rattle.event_rules.specs.Legal.{is_legal, is_legal_event}
use Rattle.event_rules.specs.declared.event.Event.{Event}
use Rattle.event_rules.proofs.LegalLemmas.{none-legal}
use Rattle.event_rules.proofs.LimitLemmas.{legal-at}
use Rattle.xpt_core.specs.Takes.{refused, with_event}
use Rattle.xpt_core.specs.Transport.{Transport}
use Rattle.xpt_carry.specs.Carry.{refusal_at, first_refusal}
use Rattle.event_rules.specs.declared.refusal.Refusal.{Refusal}

-- the transport with these events
abbrev pub with_events : Transport → List Event → Transport
with_events t events = record t { events = events }

one_more : (items : List Event) (i : ℕ) (e : Event) → i < length items → e ≡ slice_index_or items i e → take i items ++ e ∷ [] ≡ take (i + 1) items
one_more items i e lt item = ap (λ (x : Event). take i items ++ x ∷ []) item ∙ sym (take_more items i e lt)

-- the next of legal events isn't refused
pub next_unrefused : (start now : Transport) (items : List Event) (i : ℕ) (e : Event) → is_legal start.rules start.config items ≡ true →
    now ≡ with_events start (take i items) → i < length items → e ≡ slice_index_or items i e → refused now e ≡ None
next_unrefused start now items i e legal so_far lt item =
    let there : is_legal_event start.rules start.config (take i items, get_or items i e) ≡ true = legal-at start.rules start.config items i e lt legal in
    let here : is_legal_event start.rules start.config (take i items, e) ≡ true =
    ap (λ (x : Event). is_legal_event start.rules start.config (take i items, x)) item ∙ there in
    ap (λ (t : Transport). refused t e) so_far ∙ none-legal start.rules start.config (take i items) e here

-- after it there is one more of them, and in the end all are there
pub taken_more : (start now next : Transport) (items : List Event) (i : ℕ) (e : Event) →
    now ≡ with_events start (take i items) → i < length items → e ≡ slice_index_or items i e → next ≡ with_event now e → next ≡ with_events start (take (i + 1) items)
taken_more start now next items i e so_far lt item is =
    is ∙ ap (λ (t : Transport). with_event t e) so_far ∙ ap (with_events start) (one_more items i e lt item)

pub taken_all : (start now : Transport) (items : List Event) (i : ℕ) → now ≡ with_events start (take i items) → length items ≤ i → now ≡ with_events start items
taken_all start now items i so_far end = so_far ∙ ap (with_events start) (take_all i items end)

pub taken_none : (start : Transport) → start.events ≡ [] → start ≡ with_events start []
taken_none start none = rw (← none) refl

-- why the first is refused that is, of those that are left after these
abbrev pub left_refusal : Transport → List Event → List Event → Option Refusal
left_refusal t before after = first_answer (refusal_at t.rules t.config) (prefixed_after before after)

left_is : (start : Transport) (items : List Event) (i : ℕ) (e : Event) → i < length items → e ≡ slice_index_or items i e →
    left_refusal start (take i items) (drop i items) ≡ option_or (refused (with_events start (take i items)) e) (left_refusal start (take (i + 1) items) (drop (i + 1) items))
left_is start items i e lt item =
    let rest : drop i items ≡ e ∷ drop (i + 1) items = drop_more items i e lt ∙ ap (λ (x : Event). x ∷ drop (i + 1) items) (sym item) in
    rw (rest, one_more items i e lt item) refl

pub left_all : (start : Transport) (items : List Event) → left_refusal start [] items ≡ first_refusal start.rules start.config items
unfolding first_refusal
left_all start items = refl

-- where the next is refused, that is why; else it is in those that are left
pub refused_here : (start now : Transport) (items : List Event) (i : ℕ) (e : Event) (why : Refusal) → now ≡ with_events start (take i items) →
    left_refusal start (take i items) (drop i items) ≡ first_refusal start.rules start.config items → i < length items → e ≡ slice_index_or items i e → refused now e ≡ Some why →
    first_refusal start.rules start.config items ≡ Some why
refused_here start now items i e why so_far left lt item is =
    let here : refused (with_events start (take i items)) e ≡ Some why = ap (λ (t : Transport). refused t e) (sym so_far) ∙ is in
    sym left ∙ left_is start items i e lt item ∙ ap (λ o. option_or o (left_refusal start (take (i + 1) items) (drop (i + 1) items))) here

pub left_more : (start now : Transport) (items : List Event) (i : ℕ) (e : Event) → now ≡ with_events start (take i items) →
    left_refusal start (take i items) (drop i items) ≡ first_refusal start.rules start.config items → i < length items → e ≡ slice_index_or items i e → refused now e ≡ None →
    left_refusal start (take (i + 1) items) (drop (i + 1) items) ≡ first_refusal start.rules start.config items
left_more start now items i e so_far left lt item is =
    let here : refused (with_events start (take i items)) e ≡ None = ap (λ (t : Transport). refused t e) (sym so_far) ∙ is in
    let whole = left_is start items i e lt item ∙ ap (λ o. option_or o (left_refusal start (take (i + 1) items) (drop (i + 1) items))) here in
    sym whole ∙ left

pub left_none : (start : Transport) (items : List Event) (i : ℕ) → left_refusal start (take i items) (drop i items) ≡ first_refusal start.rules start.config items → length items ≤ i →
    first_refusal start.rules start.config items ≡ None
left_none start items i left end = sym left ∙ ap (λ es. left_refusal start (take i items) es) (drop_all i items end)
