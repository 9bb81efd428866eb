-- a transport's events one by one into a history
use Rattle.std.proofs.Common.{◌≡◌, ℕ, ◌+◌, ◌<◌, ◌≤◌, true, List, [], ◌∷◌, ◌++◌, length, take, get_or, Option, Some, None, Result, Ok, Err, refl, sym, ap, ◌∙◌, MatchOption, IsOk, slice_index_or}
use Rattle.std.proofs.lemmas.List.{take_more, take_all}
use Rattle.xpt_state.specs.Words.{Topology, Event, Past, history_rules, is_legal, is_legal_event, Refusal, PushFault, Refused}
use Rattle.event_rules.proofs.LimitLemmas.{legal-at}

-- what isn't refused is pushed
pub unrefused_push : (o : Option Refusal) (r : Result (Unit {0}) PushFault) → o ≡ None → MatchOption o (r ≡ Ok tt) (λ x. r ≡ Err (Refused x)) → IsOk r
unrefused_push None r free is = rw is refl
unrefused_push (Some x) r free is = absurd (cc)

-- after the first of them the next is legal, and is one more of them; in the end all are there
pub next_is_legal_there : (c d : Topology) (all items es : List Event) (i : ℕ) (e : Event) → is_legal history_rules c all ≡ true → d ≡ c → items ≡ all → es ≡ take i items → i < length items → e ≡ slice_index_or items i e →
    is_legal_event history_rules d (es, e) ≡ true
next_is_legal_there c d all items es i e legal config same so_far lt item =
    let here : is_legal_event history_rules c (take i items, get_or items i e) ≡ true = legal-at history_rules c items i e lt (rw same legal) in
    rw (config, so_far) (ap (λ (x : Event). is_legal_event history_rules c (take i items, x)) item ∙ here)

pub one_more_there : (items es : List Event) (i : ℕ) (e : Event) → es ≡ take i items → i < length items → e ≡ slice_index_or items i e → es ++ e ∷ [] ≡ take (i + 1) items
one_more_there items es i e so_far lt item =
    ap (λ (xs : List Event). xs ++ e ∷ []) so_far ∙ ap (λ (x : Event). take i items ++ x ∷ []) item ∙ sym (take_more items i e lt)

pub all_there : (c : Topology) (all items : List Event) (h : Past) (i : ℕ) → h.config ≡ c → h.events ≡ take i items → length items ≤ i → items ≡ all → h ≡ record { config = c; events = all }
all_there c all items h i config so_far end same =
    let events : h.events ≡ all = so_far ∙ take_all i items end ∙ same in
    rw (← config, ← events) refl
