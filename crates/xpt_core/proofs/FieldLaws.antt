-- what one event more changes of each part of a device's state
use Rattle.std.proofs.Common.{◌≡◌, ℕ, ◌+◌, Bool, true, false, cond, List, [], ◌∷◌, ◌++◌, refl, sym, ap, ◌∙◌, Option, Some, None, append-nil, add-zero, ◌==◌, count_by, option_to_list}
use Rattle.std.specs.List.{before_last}
use Rattle.std.specs.Option.{option_map_or}
use Rattle.xpt_core.specs.Words.{Topology, is_some_and, is_tick, is_adjust_of, adjusts_to, last, sendings, sending_of, goes_to, stays_begun, stay_begun, device_openings, openings, goes_now_to, Event, Tick, Passage}
use Rattle.event_rules.proofs.PushLaws.{stays_begun-push}
use Rattle.event_rules.proofs.ListFacts.{count_by-push}
use Rattle.event_rules.proofs.StateLaws.{last-push}
use Rattle.event_rules.proofs.OpeningLaws.{before_last-push}
use Rattle.event_rules.proofs.TurnLaws.{sends_now-push, sends_now-tick}
use Rattle.xpt_core.specs.Device.{next_openings}

-- the stays of a device so far
abbrev pub is_stay_at : ℕ → Passage → Bool
is_stay_at d p = p.device == d

abbrev pub entered : List Event → ℕ → ℕ
entered es d = count_by (is_stay_at d) (stays_begun es)

pub entered-push : (es : List Event) (e : Event) (d : ℕ) (o : Option Passage) → stay_begun (es, e) ≡ o → entered (es ++ e ∷ []) d ≡ entered es d + cond (is_some_and (is_stay_at d) o) 1 0
entered-push es e d None is =
    ap (count_by (is_stay_at d)) (stays_begun-push es e ∙ ap (λ o. stays_begun es ++ option_to_list o) is ∙ append-nil (stays_begun es)) ∙ sym (add-zero (entered es d))
entered-push es e d (Some p) is =
    ap (count_by (is_stay_at d)) (stays_begun-push es e ∙ ap (λ o. stays_begun es ++ option_to_list o) is) ∙ count_by-push (is_stay_at d) (stays_begun es) p

-- openings
next_cases : (e : Event) (b : Bool) (o : Option Event) (n : ℕ) → option_map_or adjusts_to (cond b (Some e) o) n ≡ cond b (adjusts_to e) (option_map_or adjusts_to o n)
next_cases e true o n = refl
next_cases e false o n = refl

pub next_openings-push : (c : Topology) (es : List Event) (e : Event) (d : ℕ) → next_openings c (es ++ e ∷ []) d ≡ cond (is_adjust_of d e) (adjusts_to e) (next_openings c es d)
next_openings-push c es e d =
    ap (λ o. option_map_or adjusts_to o (device_openings c d)) (last-push (is_adjust_of d) es e) ∙ next_cases e (is_adjust_of d e) (last (is_adjust_of d) es) (device_openings c d)

pub openings-still : (c : Topology) (es : List Event) (e : Event) (d : ℕ) → is_tick e ≡ false → openings c (es ++ e ∷ []) d ≡ openings c es d
unfolding openings
openings-still c es e d still =
    ap (λ xs. option_map_or adjusts_to (last (is_adjust_of d) xs) (device_openings c d)) (before_last-push is_tick es e ∙ ap (λ b. cond b es (before_last is_tick es)) still)

pub openings-tick : (c : Topology) (es : List Event) (d : ℕ) → openings c (es ++ Tick ∷ []) d ≡ next_openings c es d
unfolding openings
openings-tick c es d = ap (λ xs. option_map_or adjusts_to (last (is_adjust_of d) xs) (device_openings c d)) (before_last-push is_tick es Tick)

-- sends of this round
abbrev pub sent_now : List Event → ℕ → ℕ
sent_now es d = count_by (goes_now_to es d) (sendings es)

pub sent-push : (es : List Event) (e : Event) (d : ℕ) → is_tick e ≡ false → sent_now (es ++ e ∷ []) d ≡ sent_now es d + cond (is_some_and (goes_to d) (sending_of (es, e))) 1 0
sent-push es e d still = sends_now-push (goes_to d) es e still

pub sent-tick : (es : List Event) (d : ℕ) → sent_now (es ++ Tick ∷ []) d ≡ 0
sent-tick es d = sends_now-tick (goes_to d) es
