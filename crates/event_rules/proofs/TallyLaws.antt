-- what one event more changes of the freezes that callers added and took away
use Rattle.std.proofs.Common.{◌≡◌, ℕ, ◌+◌, Bool, true, false, cond, List, [], ◌∷◌, ◌++◌, refl, sym, ap, ◌∙◌, arith, Option, Some, None, add-zero, zero-add, append-nil, ◌==◌, ◌&&◌, sum_by, count_by, option_to_list, option_and_then, if◌then◌else◌}
use Rattle.std.specs.Option.{option_map_or}
use Rattle.std.proofs.lemmas.List.Sums.{sum_by-append}
use Rattle.event_rules.specs.Event.{freezes, releases, sim_freezes, is_sim_release_of, Event, Send, FreezeDev, ReleaseDev, FreezeSim, ReleaseSim}
use Rattle.event_rules.specs.Counts.{sendings, sending_of, freezes_by_send, Sending}
use Rattle.event_rules.proofs.PushLaws.{sendings-push}
use Rattle.event_rules.proofs.ListFacts.{count_by-push}

-- how many freezes of a device or an adapter callers added and took away
pub record Tally : Type 0 where
  pub number : ℕ
  pub added : ℕ
  pub taken : ℕ

-- what callers added to a device's freezes, and what they took away
abbrev pub device_tally : List Event → ℕ → Tally
device_tally events d = record {
  number = d;
  added = sum_by (freezes d) events + count_by (freezes_by_send d) (sendings events);
  taken = sum_by (releases d) events;
}

-- the same of an adapter
abbrev pub sim_tally : List Event → ℕ → Tally
sim_tally events a = record {
  number = a;
  added = sum_by (sim_freezes a) events;
  taken = count_by (is_sim_release_of a) events;
}

-- what an event changes of a device's freezes, after the events before it
abbrev pub device_change : List Event × Event → Option Tally
device_change (before, FreezeDev device count) = Some (record { number = device; added = count; taken = 0 })
device_change (before, ReleaseDev device count) = Some (record { number = device; added = 0; taken = count })
device_change (before, Send lane ccb) =
    option_and_then (λ (s : Sending). if s.qfreeze then Some (record { number = s.device; added = 1; taken = 0 }) else None)
    (sending_of (before, Send lane ccb))
device_change (before, _) = None

-- what an event changes of an adapter's freezes
abbrev pub sim_change : Event → Option Tally
sim_change (FreezeSim sim count) = Some (record { number = sim; added = count; taken = 0 })
sim_change (ReleaseSim sim) = Some (record { number = sim; added = 0; taken = 1 })
sim_change _ = None

-- a tally with one more change
abbrev pub with_change : Tally → Tally → Tally
with_change c t = record { number = t.number; added = t.added + c.added; taken = t.taken + c.taken }

-- what a change is to the tally of a number
abbrev pub tallied : ℕ → Tally → Tally → Tally
tallied n c t = cond (c.number == n) (with_change c t) t

-- a tally by its parts
abbrev tally : ℕ → ℕ → ℕ → Tally
tally n a t = record { number = n; added = a; taken = t }

tally-same : (n a a' t t' : ℕ) → a ≡ a' → t ≡ t' → tally n a t ≡ tally n a' t'
tally-same n a a' t t' e e' = rw (e, e') refl

-- a sum or a count takes one event more
sum-push : (f : Event → ℕ) (es : List Event) (e : Event) → sum_by f (es ++ e ∷ []) ≡ sum_by f es + f e
sum-push f es e = sum_by-append f es (e ∷ []) ∙ ap (λ n. sum_by f es + n) (zero-add (f e))

abbrev sent_part : ℕ → Option Sending → ℕ
sent_part d o = option_map_or (λ s. cond (freezes_by_send d s) 1 0) o 0

count-more : (d : ℕ) (ss : List Sending) (o : Option Sending) → count_by (freezes_by_send d) (ss ++ option_to_list o) ≡ count_by (freezes_by_send d) ss + sent_part d o
count-more d ss None = rw (append-nil ss, add-zero (count_by (freezes_by_send d) ss)) refl
count-more d ss (Some s) = count_by-push (freezes_by_send d) ss s

device_parts : (es : List Event) (e : Event) (d : ℕ) → device_tally (es ++ e ∷ []) d ≡ record {
  number = d;
  added = (sum_by (freezes d) es + freezes d e) + (count_by (freezes_by_send d) (sendings es) + sent_part d (sending_of (es, e)));
  taken = sum_by (releases d) es + releases d e;
}
device_parts es e d =
    let sent : count_by (freezes_by_send d) (sendings (es ++ e ∷ [])) ≡ count_by (freezes_by_send d) (sendings es) + sent_part d (sending_of (es, e)) =
    ap (count_by (freezes_by_send d)) (sendings-push es e) ∙ count-more d (sendings es) (sending_of (es, e)) in
    rw (sum-push (freezes d) es e, sum-push (releases d) es e, sent) refl

none_case : (d a b t : ℕ) → tally d ((a + 0) + (b + 0)) (t + 0) ≡ tally d (a + b) t
none_case d a b t = tally-same d _ _ _ _ (omega arith) (omega arith)

freeze_case : (d a b t n : ℕ) (x : Bool) → (tally d ((a + cond x n 0) + (b + 0)) (t + 0))
    ≡ cond x (tally d ((a + b) + n) (t + 0)) (tally d (a + b) t)
freeze_case d a b t n true = tally-same d _ _ _ _ (omega arith) refl
freeze_case d a b t n false = none_case d a b t

release_case : (d a b t n : ℕ) (x : Bool) → (tally d ((a + 0) + (b + 0)) (t + cond x n 0))
    ≡ cond x (tally d ((a + b) + 0) (t + n)) (tally d (a + b) t)
release_case d a b t n true = tally-same d _ _ _ _ (omega arith) refl
release_case d a b t n false = none_case d a b t

abbrev freezing : Sending → Option Tally
freezing s = cond s.qfreeze (Some (tally s.device 1 0)) None

qfreeze_cases : (d a b t n : ℕ) (x q : Bool) → (tally d ((a + 0) + (b + cond (x && q) 1 0)) (t + 0))
    ≡ cond q (cond x (tally d ((a + b) + 1) (t + 0)) (tally d (a + b) t)) (tally d (a + b) t)
qfreeze_cases d a b t n true true = tally-same d _ _ _ _ (omega arith) refl
qfreeze_cases d a b t n true false = none_case d a b t
qfreeze_cases d a b t n false true = none_case d a b t
qfreeze_cases d a b t n false false = none_case d a b t

freezing_cases : (d : ℕ) (c t : Tally) (q : Bool) → option_map_or (λ c'. tallied d c' t) (cond q (Some c) None) t ≡ cond q (tallied d c t) t
freezing_cases d c t true = refl
freezing_cases d c t false = refl

send_case : (d a b t : ℕ) (o : Option Sending) → (tally d ((a + 0) + (b + sent_part d o)) (t + 0))
    ≡ option_map_or (λ c. tallied d c (tally d (a + b) t)) (option_and_then freezing o) (tally d (a + b) t)
send_case d a b t None = none_case d a b t
send_case d a b t (Some s) = qfreeze_cases d a b t 1 (s.device == d) s.qfreeze ∙ sym (freezing_cases d _ _ s.qfreeze)

pub device_tally-push : (es : List Event) (e : Event) (d : ℕ) → device_tally (es ++ e ∷ []) d ≡ option_map_or (λ c. tallied d c (device_tally es d)) (device_change (es, e)) (device_tally es d)
device_tally-push es (FreezeDev device count) d = device_parts es (FreezeDev device count) d ∙ freeze_case d _ _ _ count (device == d)
device_tally-push es (ReleaseDev device count) d = device_parts es (ReleaseDev device count) d ∙ release_case d _ _ _ count (device == d)
device_tally-push es (Send lane ccb) d = device_parts es (Send lane ccb) d ∙ send_case d _ _ _ (sending_of (es, Send lane ccb))
device_tally-push es e d = device_parts es e d ∙ none_case d _ _ _

sim_parts : (es : List Event) (e : Event) (a : ℕ) → sim_tally (es ++ e ∷ []) a ≡ record {
  number = a;
  added = sum_by (sim_freezes a) es + sim_freezes a e;
  taken = count_by (is_sim_release_of a) es + cond (is_sim_release_of a e) 1 0;
}
sim_parts es e a = rw (sum-push (sim_freezes a) es e, count_by-push (is_sim_release_of a) es e) refl

sim_none : (n a t : ℕ) → tally n (a + 0) (t + 0) ≡ tally n a t
sim_none n a t = tally-same n _ _ _ _ (omega arith) (omega arith)

sim_freeze : (n a t k : ℕ) (x : Bool) → (tally n (a + cond x k 0) (t + 0))
    ≡ cond x (tally n (a + k) (t + 0)) (tally n a t)
sim_freeze n a t k true = refl
sim_freeze n a t k false = sim_none n a t

sim_release : (n a t : ℕ) (x : Bool) → (tally n (a + 0) (t + cond x 1 0))
    ≡ cond x (tally n (a + 0) (t + 1)) (tally n a t)
sim_release n a t true = refl
sim_release n a t false = sim_none n a t

pub sim_tally-push : (es : List Event) (e : Event) (a : ℕ) → sim_tally (es ++ e ∷ []) a ≡ option_map_or (λ c. tallied a c (sim_tally es a)) (sim_change e) (sim_tally es a)
sim_tally-push es (FreezeSim sim count) a = sim_parts es (FreezeSim sim count) a ∙ sim_freeze a _ _ count (sim == a)
sim_tally-push es (ReleaseSim sim) a = sim_parts es (ReleaseSim sim) a ∙ sim_release a _ _ (sim == a)
sim_tally-push es e a = sim_parts es e a ∙ sim_none a _ _
