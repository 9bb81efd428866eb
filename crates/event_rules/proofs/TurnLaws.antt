-- what one event more changes of the sends: those of this round, and the last to a device
use Rattle.std.proofs.Common.{◌≡◌, ℕ, ◌+◌, ◌≤◌, Bool, true, false, cond, List, [], ◌∷◌, ◌++◌, length, reverse, refl, sym, ap, ◌∙◌, arith, Option, Some, None, append-nil, append_assoc, add-zero, ◌==◌, ◌&&◌, find, count_by, option_to_list, All}
use Rattle.std.specs.List.{filter_map, cons_option}
use Rattle.std.specs.Option.{option_map, option_map_or}
use Rattle.std.proofs.lemmas.Bool.Decides.{nat_tests}
use Rattle.std.proofs.lemmas.List.{reverse-append}
use Rattle.std.proofs.lemmas.List.Elements.{All-nil, All-cons, All-head, All-tail}
use Rattle.std.proofs.lemmas.List.Sums.{sum_by-append, sum_by-cons}
use Rattle.std.proofs.Math.Bool.{and-false, and-true}
use Rattle.cam_types.specs.Lists.{prefixed_after}
use Rattle.event_rules.specs.Event.{is_some_and, is_tick, Event, Send, Tick}
use Rattle.event_rules.specs.Counts.{round, submission, sendings, sending_of, goes_to, Submission, Sending}
use Rattle.event_rules.specs.Head.{last_sent}
use Rattle.event_rules.proofs.PushLaws.{sendings-push, round-push}
use Rattle.event_rules.proofs.ListFacts.{count_by-push}

-- a send stands at its place, in its place's round
module _ {F : Type 0} (f : Sending → F) where
  sent_cases : (o : Option Submission) (make : Submission → Sending) (v : F) → ((x : Submission) → f (make x) ≡ v) → (s : Sending) → option_map make o ≡ Some s → f s ≡ v
  sent_cases None make v h s e = absurd (cc)
  sent_cases (Some x) make v h s e = let same : make x ≡ s = cc in ap f (sym same) ∙ h x

pub place-sending_of : (m : List Event × Event) (s : Sending) → sending_of m ≡ Some s → s.place ≡ length m.0
place-sending_of (before, Send lane ccb) s e = sent_cases (λ (x : Sending). x.place) (submission before ccb) _ (length before) (λ x. refl) s e
place-sending_of (before, _) s e = absurd (cc)

pub round-sending_of : (m : List Event × Event) (s : Sending) → sending_of m ≡ Some s → s.round ≡ round m.0
round-sending_of (before, Send lane ccb) s e = sent_cases (λ (x : Sending). x.round) (submission before ccb) _ (round before) (λ x. refl) s e
round-sending_of (before, _) s e = absurd (cc)

-- the last send to a device, which is the event where that is one
last_cases : (ss : List Sending) (d n : ℕ) (o : Option Sending) → ((s : Sending) → o ≡ Some s → s.place ≡ n) →
    option_map_or (λ (s : Sending). s.place + 1) (find (goes_to d) (reverse (ss ++ option_to_list o))) 0
    ≡ cond (is_some_and (goes_to d) o) (n + 1) (option_map_or (λ (s : Sending). s.place + 1) (find (goes_to d) (reverse ss)) 0)
last_cases ss d n None at = rw (append-nil ss) refl
last_cases ss d n (Some s) at =
    rw (reverse-append ss (s ∷ []))
    (elim (goes_to d s) as (λ t. option_map_or (λ (x : Sending). x.place + 1) (cond t (Some s) (find (goes_to d) (reverse ss))) 0 ≡ cond t (n + 1) (option_map_or (λ (x : Sending). x.place + 1) (find (goes_to d) (reverse ss)) 0)) [
      | true ↦ ap (λ k. k + 1) (at s refl)
      | false ↦ refl
    ])

pub last_sent-push : (es : List Event) (e : Event) (d : ℕ) → last_sent (es ++ e ∷ []) d ≡ cond (is_some_and (goes_to d) (sending_of (es, e))) (length es + 1) (last_sent es d)
unfolding last_sent
last_sent-push es e d =
    ap (λ ss. option_map_or (λ (s : Sending). s.place + 1) (find (goes_to d) (reverse ss)) 0) (sendings-push es e)
    ∙ last_cases (sendings es) d (length es) (sending_of (es, e)) (λ s is. place-sending_of (es, e) s is)

-- no send is of a later round
pub round-more : (es more : List Event) → round es ≤ round (es ++ more)
unfolding round
round-more es more = omega (arith, sum_by-append (λ e. cond (is_tick e) 1 0) es more)

kept_round : (n : ℕ) (o : Option Sending) (ss : List Sending) → ((s : Sending) → o ≡ Some s → s.round ≤ n) → All (λ (s : Sending). s.round ≤ n) ss → All (λ (s : Sending). s.round ≤ n) (cons_option o ss)
kept_round n None ss h a = a
kept_round n (Some s) ss h a = All-cons (λ (x : Sending). x.round ≤ n) s ss (h s refl) a

rounds_after : (before xs : List Event) → All (λ (s : Sending). s.round ≤ round (before ++ xs)) (filter_map sending_of (prefixed_after before xs))
rounds_after before [] = All-nil _
rounds_after before (x ∷ xs) =
    kept_round (round (before ++ x ∷ xs)) (sending_of (before, x)) (filter_map sending_of (prefixed_after (before ++ x ∷ []) xs))
    (λ s is. omega (arith, round-sending_of (before, x) s is, round-more before (x ∷ xs)))
    (rw (← append_assoc before (x ∷ []) xs) (rounds_after (before ++ x ∷ []) xs))

pub rounds-sendings : (es : List Event) → All (λ (s : Sending). s.round ≤ round es) (sendings es)
unfolding sendings
rounds-sendings es = rounds_after [] es

-- how many of the sends pass a test and are of a round
abbrev pub sends_in : (Sending → Bool) → ℕ → List Sending → ℕ
sends_in q r ss = count_by (λ (s : Sending). q s && (s.round == r)) ss

other_round : (a n : ℕ) → a ≤ n → (a == n + 1) ≡ false
other_round a n le = grind (arith, nat_tests)

none_yet : (q : Sending → Bool) (n : ℕ) (ss : List Sending) → All (λ (s : Sending). s.round ≤ n) ss → sends_in q (n + 1) ss ≡ 0
none_yet q n [] h = refl
none_yet q n (s ∷ ss) h =
    let here : (q s && (s.round == n + 1)) ≡ false = ap (λ b. q s && b) (other_round s.round n (All-head (λ (x : Sending). x.round ≤ n) s ss h)) ∙ and-false (q s) in
    let rest : sends_in q (n + 1) ss ≡ 0 = none_yet q n ss (All-tail (λ (x : Sending). x.round ≤ n) s ss h) in
    omega (arith, sum_by-cons (λ (x : Sending). cond (q x && (x.round == n + 1)) 1 0) s ss, ap (λ b. cond {A = ℕ} b 1 0) here, rest)

is_same : (a b : ℕ) → a ≡ b → (a == b) ≡ true
is_same a b e = grind (arith, nat_tests)

more_cases : (q : Sending → Bool) (n : ℕ) (ss : List Sending) (o : Option Sending) → ((s : Sending) → o ≡ Some s → s.round ≡ n) →
    sends_in q n (ss ++ option_to_list o) ≡ sends_in q n ss + cond (is_some_and q o) 1 0
more_cases q n ss None at = rw (append-nil ss) (omega arith)
more_cases q n ss (Some s) at =
    let now : (s.round == n) ≡ true = is_same s.round n (at s refl) in
    count_by-push (λ (x : Sending). q x && (x.round == n)) ss s ∙ ap (λ b. sends_in q n ss + cond b 1 0) (ap (λ b. q s && b) now ∙ and-true (q s))

-- of the place's round: none where it opens, and one more where the event is such a send
abbrev pub sends_now : (Sending → Bool) → List Event → ℕ
sends_now q es = sends_in q (round es) (sendings es)

pub sends_now-tick : (q : Sending → Bool) (es : List Event) → sends_now q (es ++ Tick ∷ []) ≡ 0
sends_now-tick q es =
    ap (λ ss. sends_in q (round (es ++ Tick ∷ [])) ss) (sendings-push es Tick ∙ append-nil (sendings es))
    ∙ ap (λ n. sends_in q n (sendings es)) (round-push es Tick) ∙ none_yet q (round es) (sendings es) (rounds-sendings es)

pub sends_now-push : (q : Sending → Bool) (es : List Event) (e : Event) → is_tick e ≡ false → sends_now q (es ++ e ∷ []) ≡ sends_now q es + cond (is_some_and q (sending_of (es, e))) 1 0
sends_now-push q es e still =
    let same : round (es ++ e ∷ []) ≡ round es = round-push es e ∙ ap (λ b. round es + cond b 1 0) still ∙ add-zero (round es) in
    ap (λ n. sends_in q n (sendings (es ++ e ∷ []))) same ∙ ap (sends_in q (round es)) (sendings-push es e)
    ∙ more_cases q (round es) (sendings es) (sending_of (es, e)) (λ s is. round-sending_of (es, e) s is)
