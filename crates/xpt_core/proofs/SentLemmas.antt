-- where stays were sent, and one event more
use Rattle.std.proofs.Common.{◌≡◌, ◌+◌, ◌<◌, ◌≤◌, Bool, true, false, cond, List, [], ◌∷◌, ◌++◌, length, take, drop, refl, sym, ap, ◌∙◌, arith, length-drop, Some, None, not, ◌&&◌, ◌||◌, eq-eqb, ne_eqb}
use Rattle.std.specs.List.{list_any, position_or_len, prefix_len}
use Rattle.std.proofs.lemmas.List.{drop-append-le, take-append-le}
use Rattle.std.proofs.lemmas.List.Folds.{prefix_len-append}
use Rattle.std.proofs.Math.Seq.{take-append_seam}
use Rattle.xpt_core.specs.Words.{is_send_of, round, is_unsent, send_place, live_round, Event, Passage}
use Rattle.event_rules.proofs.PushLaws.{is_unsent-push}
use Rattle.xpt_core.specs.Records.{sent_round}

-- where some element passes, the first that does is within the list, and where none does it isn't
first_within : {X : Type 0} (q : X → Bool) (xs : List X) → list_any q xs ≡ true → position_or_len q xs < length xs
first_within q [] e = absurd cc
first_within q (x ∷ xs) e = elim (q x) as (λ b. (b || list_any q xs) ≡ true → cond (not b) (1 + position_or_len q xs) 0 < length (x ∷ xs)) [
  | true ↦ λ g. omega arith
  | false ↦ λ g. let rest : position_or_len q xs < length xs = first_within q xs g in omega arith
] e

pub first_past : {X : Type 0} (q : X → Bool) (xs : List X) → list_any q xs ≡ false → position_or_len q xs ≡ length xs
first_past q [] e = refl
first_past q (x ∷ xs) e = elim (q x) as (λ b. (b || list_any q xs) ≡ false → cond (not b) (1 + position_or_len q xs) 0 ≡ length (x ∷ xs)) [
  | true ↦ λ g. absurd cc
  | false ↦ λ g. let rest : position_or_len q xs ≡ length xs = first_past q xs g in omega arith
] e

first_stays : {X : Type 0} (q : X → Bool) (xs ys : List X) → list_any q xs ≡ true → position_or_len q (xs ++ ys) ≡ position_or_len q xs
first_stays q xs ys e =
    let lt = first_within q xs e in
    prefix_len-append (λ x. not (q x)) xs ys ∙ rw (ne_eqb (prefix_len (λ x. not (q x)) xs) (length xs) (λ at. omega arith)) refl

sent_any : (es : List Event) (p : Passage) → is_unsent es p ≡ false → list_any (is_send_of p.ccb) (drop (p.place + 1) es) ≡ true
sent_any es p e = elim (list_any (is_send_of p.ccb) (drop (p.place + 1) es)) as (λ b. not b ≡ false → b ≡ true) [ true ↦ λ g. refl | false ↦ λ g. sym g ] e

pub unsent_none : (es : List Event) (p : Passage) → is_unsent es p ≡ true → list_any (is_send_of p.ccb) (drop (p.place + 1) es) ≡ false
unsent_none es p e = elim (list_any (is_send_of p.ccb) (drop (p.place + 1) es)) as (λ b. not b ≡ true → b ≡ false) [ true ↦ λ g. sym g | false ↦ λ g. refl ] e

-- a stay that was sent was sent where it was
send_place_within : (es : List Event) (p : Passage) → p.place < length es → is_unsent es p ≡ false → send_place es p < length es
unfolding send_place
send_place_within es p lt e =
    let h = first_within (is_send_of p.ccb) (drop (p.place + 1) es) (sent_any es p e) in
    omega (arith, length-drop (p.place + 1) es)

send_place-sent : (es : List Event) (e : Event) (p : Passage) → p.place < length es → is_unsent es p ≡ false → send_place (es ++ e ∷ []) p ≡ send_place es p
unfolding send_place
send_place-sent es e p lt sent =
    let le : p.place + 1 ≤ length es = omega arith in
    rw (drop-append-le (p.place + 1) es (e ∷ []) le) (ap (λ n. p.place + 1 + n) (first_stays (is_send_of p.ccb) (drop (p.place + 1) es) (e ∷ []) (sent_any es p sent)))

pub live_round-sent : (es : List Event) (e : Event) (p : Passage) → p.place < length es → is_unsent es p ≡ false → live_round (es ++ e ∷ []) p ≡ live_round es p
live_round-sent es e p lt sent =
    let within = send_place_within es p lt sent in
    ap round (ap (λ n. take n (es ++ e ∷ [])) (send_place-sent es e p lt sent) ∙ take-append-le (send_place es p) es (e ∷ []) (omega arith))

-- and one that waits is sent where the event sends it
send_place-sending : (es : List Event) (e : Event) (p : Passage) → p.place < length es → is_unsent es p ≡ true → is_send_of p.ccb e ≡ true → send_place (es ++ e ∷ []) p ≡ length es
unfolding send_place
send_place-sending es e p lt unsent sends =
    let le : p.place + 1 ≤ length es = omega arith in
    let past = first_past (is_send_of p.ccb) (drop (p.place + 1) es) (unsent_none es p unsent) in
    let more : position_or_len (is_send_of p.ccb) (drop (p.place + 1) es ++ e ∷ []) ≡ length (drop (p.place + 1) es) =
    prefix_len-append (λ x. not (is_send_of p.ccb x)) (drop (p.place + 1) es) (e ∷ []) ∙ rw (eq-eqb (prefix_len (λ x. not (is_send_of p.ccb x)) (drop (p.place + 1) es)) (length (drop (p.place + 1) es)) past, sends) (omega arith) in
    rw (drop-append-le (p.place + 1) es (e ∷ []) le) (omega (arith, length-drop (p.place + 1) es))

pub live_round-sending : (es : List Event) (e : Event) (p : Passage) → p.place < length es → is_unsent es p ≡ true → is_send_of p.ccb e ≡ true → live_round (es ++ e ∷ []) p ≡ round es
live_round-sending es e p lt unsent sends =
    ap round (ap (λ n. take n (es ++ e ∷ [])) (send_place-sending es e p lt unsent sends) ∙ take-append_seam es (e ∷ []))

-- a stay was sent where it was, or where it waited and the event sends it
round_cases : (es : List Event) (e : Event) (p : Passage) (unsent sends : Bool) → p.place < length es → is_unsent es p ≡ unsent → is_send_of p.ccb e ≡ sends →
    cond (unsent && not sends) None (Some (live_round (es ++ e ∷ []) p)) ≡ cond (unsent && sends) (Some (round es)) (cond unsent None (Some (live_round es p)))
round_cases es e p true true lt is on = ap Some (live_round-sending es e p lt is on)
round_cases es e p true false lt is on = refl
round_cases es e p false sends lt is on = ap Some (live_round-sent es e p lt is)

pub sent_round-push : (es : List Event) (e : Event) (p : Passage) → p.place < length es → sent_round (es ++ e ∷ []) p ≡ cond (is_unsent es p && is_send_of p.ccb e) (Some (round es)) (sent_round es p)
sent_round-push es e p lt =
    ap (λ b. cond b None (Some (live_round (es ++ e ∷ []) p))) (is_unsent-push es e p lt)
    ∙ round_cases es e p (is_unsent es p) (is_send_of p.ccb e) lt refl refl
