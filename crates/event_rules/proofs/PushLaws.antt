-- what one event more changes
use Rattle.std.proofs.Common.{◌≡◌, ℕ, ◌+◌, ◌<◌, ◌≤◌, Bool, true, false, cond, List, [], ◌∷◌, ◌++◌, length, drop, refl, sym, ap, ◌∙◌, arith, Option, Some, None, length-append, not, ◌&&◌, ◌||◌, filter, option_to_list, All, option_map}
use Rattle.std.specs.List.{list_any}
use Rattle.std.proofs.lemmas.List.{drop-append-le, drop_all}
use Rattle.std.proofs.lemmas.List.Elements.{filter-append, All-weaker}
use Rattle.std.proofs.lemmas.List.Folds.{list_any-append}
use Rattle.std.proofs.lemmas.List.Sums.{count_by-le-length}
use Rattle.cam_types.specs.Lists.{prefixed}
use Rattle.cam_types.proofs.ListLemmas.{prefixed-push}
use Rattle.event_rules.specs.Event.{is_tick, is_send_of, submission_of, Event, Submit, Requeue}
use Rattle.event_rules.specs.Counts.{round, submissions, submission, sendings, sending_of, Submission}
use Rattle.event_rules.specs.Stays.{stays_begun, stay_begun, is_unsent, waiting, Passage}
use Rattle.event_rules.proofs.ListFacts.{filter_map-push, count_by-push, filter-same, filter-both, All-filter_map-prefixed, length-filter_map, length-prefixed_after}

pub submissions-push : (es : List Event) (e : Event) → submissions (es ++ e ∷ []) ≡ submissions es ++ option_to_list (submission_of e)
unfolding submissions
submissions-push es e = filter_map-push submission_of es e

pub stays_begun-push : (es : List Event) (e : Event) → stays_begun (es ++ e ∷ []) ≡ stays_begun es ++ option_to_list (stay_begun (es, e))
unfolding stays_begun
stays_begun-push es e = rw prefixed-push (filter_map-push stay_begun (prefixed es) (es, e))

pub sendings-push : (es : List Event) (e : Event) → sendings (es ++ e ∷ []) ≡ sendings es ++ option_to_list (sending_of (es, e))
unfolding sendings
sendings-push es e = rw prefixed-push (filter_map-push sending_of (prefixed es) (es, e))

pub round-push : (es : List Event) (e : Event) → round (es ++ e ∷ []) ≡ round es + cond (is_tick e) 1 0
unfolding round
round-push es e = omega (arith, count_by-push is_tick es e)

-- a stay begins at its place
requeued-place : (s : Option Submission) (f : Submission → Passage) (n : ℕ) (p : Passage) → ((x : Submission) → (f x).place ≡ n) → option_map f s ≡ Some p → p.place ≡ n
requeued-place None f n p h e = absurd (cc)
requeued-place (Some x) f n p h e = let e' : f x ≡ p = cc in ap (λ (q : Passage). q.place) (sym e') ∙ h x

submitted-place : (before : List Event) (q p : Passage) → q.place ≡ length before → Some q ≡ Some p → p.place ≡ length before
submitted-place before q p h e = let e' : q ≡ p = cc in ap (λ (r : Passage). r.place) (sym e') ∙ h

pub place-stay_begun : (m : List Event × Event) (p : Passage) → stay_begun m ≡ Some p → p.place ≡ length m.0
place-stay_begun (before, Submit driver device priority retries flags) p e = submitted-place before _ p refl e
place-stay_begun (before, Requeue ccb) p e = requeued-place (submission before ccb) _ (length before) p (λ x. refl) e
place-stay_begun (before, _) p e = absurd (cc)

-- each stay begins at a place of the history
pub places-stays_begun : (es : List Event) → All (λ (p : Passage). p.place < length es) (stays_begun es)
unfolding stays_begun
places-stays_begun es = All-filter_map-prefixed (λ (p : Passage). p.place < length es) stay_begun (length es)
    (λ before x p lt e. let at : p.place ≡ length before = place-stay_begun (before, x) p e in omega arith) [] es (omega arith)

-- a stay that began before is without a send where it was and the event doesn't send it
pub not_both : (a b : Bool) → not (a || (b || false)) ≡ (not a && not b)
not_both true b = refl
not_both false true = refl
not_both false false = refl

pub is_unsent-push : (es : List Event) (e : Event) (p : Passage) → p.place < length es → is_unsent (es ++ e ∷ []) p ≡ (is_unsent es p && not (is_send_of p.ccb e))
is_unsent-push es e p lt =
    let le : p.place + 1 ≤ length es = omega arith in
    rw (drop-append-le (p.place + 1) es (e ∷ []) le) (rw (list_any-append (is_send_of p.ccb) (drop (p.place + 1) es) (e ∷ []))
    (not_both (list_any (is_send_of p.ccb) (drop (p.place + 1) es)) (is_send_of p.ccb e)))

-- the stay that the event begins is without a send
pub born_unsent : (es : List Event) (e : Event) (p : Passage) → p.place ≡ length es → is_unsent (es ++ e ∷ []) p ≡ true
born_unsent es e p at =
    let past : length (es ++ e ∷ []) ≤ p.place + 1 = omega (arith, length-append es (e ∷ [])) in
    rw (drop_all (p.place + 1) (es ++ e ∷ []) past) refl

new_unsent : (es : List Event) (e : Event) (o : Option Passage) → ((p : Passage) → o ≡ Some p → p.place ≡ length es) → filter (is_unsent (es ++ e ∷ [])) (option_to_list o) ≡ option_to_list o
new_unsent es e None h = refl
new_unsent es e (Some p) h = rw (born_unsent es e p (h p refl)) refl

-- the stays that wait are those that the event doesn't send, and the one that it begins
pub waiting-push : (es : List Event) (e : Event) → waiting (es ++ e ∷ []) ≡ filter (λ (p : Passage). not (is_send_of p.ccb e)) (waiting es) ++ option_to_list (stay_begun (es, e))
unfolding waiting
waiting-push es e =
    rw stays_begun-push (rw (filter-append (is_unsent (es ++ e ∷ [])) (stays_begun es) (option_to_list (stay_begun (es, e))))
    (rw (filter-same (is_unsent (es ++ e ∷ [])) (λ (p : Passage). is_unsent es p && not (is_send_of p.ccb e)) (stays_begun es)
    (All-weaker _ _ (λ (p : Passage) lt. is_unsent-push es e p lt) (stays_begun es) (places-stays_begun es)))
    (rw (filter-both (is_unsent es) (λ (p : Passage). not (is_send_of p.ccb e)) (stays_begun es))
    (ap (λ ps. filter (λ (p : Passage). not (is_send_of p.ccb e)) (filter (is_unsent es) (stays_begun es)) ++ ps)
    (new_unsent es e (stay_begun (es, e)) (λ p is. place-stay_begun (es, e) p is))))))

-- a round opens by an event
pub few_rounds : (es : List Event) → round es ≤ length es + 1
unfolding round
few_rounds es = omega (arith, count_by-le-length is_tick es)

pub few_stays : (es : List Event) → length (stays_begun es) ≤ length es
unfolding stays_begun
few_stays es = omega (arith, length-filter_map stay_begun (prefixed es), length-prefixed_after [] es)

pub few_commands : (es : List Event) → length (submissions es) ≤ length es
unfolding submissions
few_commands es = length-filter_map submission_of es
