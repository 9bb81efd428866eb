-- a transport by the rules of histories takes each event of a history, and so gets the receipts of one thread
use Rattle.std.proofs.Common.{◌≡◌, ℕ, ◌+◌, ◌<◌, ◌≤◌, true, List, [], ◌∷◌, ◌++◌, length, take, map, Some, None, Result, Ok, Err, refl, sym, ap, subst, ◌∙◌, arith, length-take, IsOk, slice_index_or}
use Rattle.std.proofs.lemmas.List.{take_more, map_push, length-map}
use Rattle.event_rules.proofs.ListFacts.{length-prefixed_after}
use Rattle.cam_types.proofs.ListLemmas.{prefixed-push}
use Rattle.cam_types.specs.Lists.{prefixed}
use Rattle.cam_types.specs.Topology.{Topology}
use Rattle.event_rules.specs.declared.event.Event.{Event}
use Rattle.event_rules.specs.Legal.{history_rules, is_legal, is_legal_event}
use Rattle.event_rules.specs.declared.refusal.Refusal.{Refusal}
use Rattle.event_rules.proofs.LegalLemmas.{none-legal}
use Rattle.event_rules.proofs.LimitLemmas.{legal-at}
use Rattle.xpt_core.specs.Transport.{Transport}
use Rattle.xpt_core.specs.Takes.{refused, with_event}
use Rattle.xpt_state.specs.Replies.{reply_of}
use Rattle.xpt_state.specs.Steps.{IsStep}
use Rattle.xpt_state.specs.declared.reply.Reply.{Reply}
use Rattle.xpt_lock.specs.Receipts.{receipts_of, Receipt}

-- the transport after the first i events
abbrev pub at_place : Topology → List Event → ℕ → Transport
at_place c all i = record { config = c; rules = history_rules; events = take i all }

-- it takes the next one
pub takes_next : (c : Topology) (all : List Event) (i : ℕ) (old new : Transport) (e : Event) (r : Result Reply Refusal) → is_legal history_rules c all ≡ true → old ≡ at_place c all i → i < length all → e ≡ slice_index_or all i e →
    IsStep (λ (reply : Reply). reply) old e new r → IsOk r
takes_next c all i old new e (Ok reply) legal so_far lt item step = refl
takes_next c all i old new e (Err why) legal so_far lt item step =
    let here : is_legal_event history_rules c (take i all, e) ≡ true = ap (λ (x : Event). is_legal_event history_rules c (take i all, x)) item ∙ legal-at history_rules c all i e lt legal in
    let free : refused (at_place c all i) e ≡ None = none-legal history_rules c (take i all) e here in
    let why_not : refused (at_place c all i) e ≡ Some why = subst (λ (t : Transport). refused t e ≡ Some why) so_far step.0 in
    absurd (differ (sym free ∙ why_not))
  where
    differ : {x : Refusal} → None ≡ Some x → ⊥
    differ same = cc

-- and is then after one more, with its receipt after the others
pub next_place : (c : Topology) (all : List Event) (i : ℕ) (old new : Transport) (e : Event) (reply : Reply) → old ≡ at_place c all i → i < length all → e ≡ slice_index_or all i e → new ≡ with_event old e → new ≡ at_place c all (i + 1)
next_place c all i old new e reply so_far lt item made =
    let more : take i all ++ e ∷ [] ≡ take (i + 1) all = ap (λ (x : Event). take i all ++ x ∷ []) item ∙ sym (take_more all i e lt) in
    rw (made, so_far, more) refl

pub next_receipt : (c : Topology) (all : List Event) (i : ℕ) (old : Transport) (e : Event) (reply : Reply) (at : ℕ) (before after : List Receipt) → old ≡ at_place c all i → i < length all → e ≡ slice_index_or all i e →
    at ≡ length old.events → reply ≡ reply_of old.config old.events e → before ≡ receipts_of c (take i all) → after ≡ before ++ record { at = at; event = e; reply = reply } ∷ [] → after ≡ receipts_of c (take (i + 1) all)
next_receipt c all i old e reply at before after so_far lt item place its kept made =
    let more : take (i + 1) all ≡ take i all ++ e ∷ [] = take_more all i e lt ∙ ap (λ (x : Event). take i all ++ x ∷ []) (sym item) in
    let f : List Event × Event → Receipt = λ m. record { at = length m.0; event = m.1; reply = reply_of c m.0 m.1 } in
    let parts : receipts_of c (take i all ++ e ∷ []) ≡ receipts_of c (take i all) ++ f (take i all, e) ∷ [] = ap (map f) (prefixed-push (take i all) e) ∙ map_push f (prefixed (take i all)) (take i all, e) in
    rw (made, kept, more, parts, place, its, so_far) refl

-- there are as many receipts as events
pub length_receipts_of : (c : Topology) (events : List Event) → length (receipts_of c events) ≡ length events
length_receipts_of c events = length-map (prefixed events) (λ (m : List Event × Event). let r : Receipt = record { at = length m.0; event = m.1; reply = reply_of c m.0 m.1 } in r) ∙ length-prefixed_after [] events

pub few_receipts : (c : Topology) (events taken : List Event) (receipts : List Receipt) (n most : ℕ) → receipts ≡ receipts_of c (take n taken) → taken ≡ events → length taken ≤ most → length receipts ≤ most
few_receipts c events taken receipts n most is same few =
    let size : length receipts ≡ length (take n taken) = ap length is ∙ length_receipts_of c (take n taken) in
    omega (arith, size, few, length-take {A = Event})
