-- what one event more changes of a device's freezes by callers
use Rattle.std.proofs.Common.{◌≡◌, ℕ, ◌+◌, ◌-◌, ◌≤◌, Bool, true, false, cond, List, [], ◌∷◌, ◌++◌, refl, sym, ap, subst, ◌∙◌, arith, Option, Some, None, ◌==◌, ◌&&◌, nat_le, option_and_then}
use Rattle.std.specs.Option.{option_map_or}
use Rattle.std.proofs.lemmas.Bool.{and_parts, leb-true, eqb-true}
use Rattle.cam_types.specs.Topology.{Topology}
use Rattle.event_rules.specs.Counts.{sendings, sending_of, caller_count, Sending}
use Rattle.event_rules.specs.Event.{Event, Send, FreezeDev, ReleaseDev}
use Rattle.event_rules.proofs.TallyLaws.{Tally, device_tally, device_change, with_change, tallied, device_tally-push}
use Rattle.cam_types.specs.Questions.{names_device}
use Rattle.event_rules.specs.Legal.{Rules, is_count, is_legal_event, is_legal}
use Rattle.event_rules.proofs.LawLemmas.{allowed-legal_event}
use Rattle.event_rules.proofs.LimitLemmas.{legal-induction}

-- what callers took away of a device's freezes, they had added
pub record AreCovered (events : List Event) : Type 0 where
  pub covered : (d : ℕ) → (device_tally events d).taken ≤ (device_tally events d).added

-- what stands of a tally
abbrev standing : Tally → ℕ
standing t = t.added - t.taken

pub caller_count-standing : (es : List Event) (d : ℕ) → caller_count es d ≡ standing (device_tally es d)
unfolding caller_count
caller_count-standing es d = refl

-- the change of a tally, where there is one
abbrev changed_by : ℕ → Option Tally → Tally → Tally
changed_by d o t = option_map_or (λ c. tallied d c t) o t

callers-push : (es : List Event) (e : Event) (d : ℕ) → caller_count (es ++ e ∷ []) d ≡ standing (changed_by d (device_change (es, e)) (device_tally es d))
callers-push es e d = caller_count-standing (es ++ e ∷ []) d ∙ ap standing (device_tally-push es e d)

pub callers-same : (es : List Event) (e : Event) (d : ℕ) → device_change (es, e) ≡ None → caller_count (es ++ e ∷ []) d ≡ caller_count es d
callers-same es e d none = callers-push es e d ∙ ap (λ o. standing (changed_by d o (device_tally es d))) none ∙ sym (caller_count-standing es d)

abbrev change : ℕ → ℕ → ℕ → Tally
change n a t = record { number = n; added = a; taken = t }

standing-more : (b : Bool) (n a k t : ℕ) → t ≤ a → standing (cond b (change n (a + k) (t + 0)) (change n a t)) ≡ (a - t) + cond b k 0
standing-more true n a k t le = omega arith
standing-more false n a k t le = omega arith

standing-less : (b : Bool) (n a k t : ℕ) → standing (cond b (change n (a + 0) (t + k)) (change n a t)) ≡ (a - t) - cond b k 0
standing-less true n a k t = omega arith
standing-less false n a k t = omega arith

pub callers-freeze : (es : List Event) (device count d : ℕ) → AreCovered es → caller_count (es ++ FreezeDev device count ∷ []) d ≡ caller_count es d + cond (device == d) count 0
callers-freeze es device count d h =
    let t = device_tally es d in
    callers-push es (FreezeDev device count) d ∙ standing-more (device == d) t.number t.added count t.taken (h.covered d) ∙ ap (λ n. n + cond (device == d) count 0) (sym (caller_count-standing es d))

pub callers-release : (es : List Event) (device count d : ℕ) → caller_count (es ++ ReleaseDev device count ∷ []) d ≡ caller_count es d - cond (device == d) count 0
callers-release es device count d =
    let t = device_tally es d in
    callers-push es (ReleaseDev device count) d ∙ standing-less (device == d) t.number t.added count t.taken ∙ ap (λ n. n - cond (device == d) count 0) (sym (caller_count-standing es d))

freezing : Sending → Option Tally
freezing s = cond s.qfreeze (Some (change s.device 1 0)) None

standing-send : (d n a t : ℕ) (s : Sending) (q : Bool) → t ≤ a →
    standing (option_map_or (λ (c : Tally). tallied d c (change n a t)) (cond q (Some (change s.device 1 0)) None) (change n a t)) ≡ (a - t) + cond (s.device == d) (cond q 1 0) 0
standing-send d n a t s true le = standing-more (s.device == d) n a 1 t le
standing-send d n a t s false le = elim (s.device == d) as (λ b. a - t ≡ (a - t) + cond {A = ℕ} b 0 0) [ true ↦ omega arith | false ↦ omega arith ]

pub callers-send : (es : List Event) (lane ccb d : ℕ) (s : Sending) → sending_of (es, Send lane ccb) ≡ Some s → AreCovered es →
    caller_count (es ++ Send lane ccb ∷ []) d ≡ caller_count es d + cond (s.device == d) (cond s.qfreeze 1 0) 0
callers-send es lane ccb d s is h =
    let t = device_tally es d in
    callers-push es (Send lane ccb) d
    ∙ ap (λ o. standing (changed_by d (option_and_then (λ (x : Sending). cond x.qfreeze (Some (change x.device 1 0)) None) o) t)) is
    ∙ standing-send d t.number t.added t.taken s s.qfreeze (h.covered d) ∙ ap (λ n. n + cond (s.device == d) (cond s.qfreeze 1 0) 0) (sym (caller_count-standing es d))

-- a legal event takes away no more than stands
covered-some : (d : ℕ) (c t : Tally) → t.taken ≤ t.added → ((c.number == d) ≡ true → c.taken ≤ (t.added - t.taken) + c.added) → (tallied d c t).taken ≤ (tallied d c t).added
covered-some d c t le more = elim (c.number == d) as (λ b. (b ≡ true → c.taken ≤ (t.added - t.taken) + c.added) → (cond b (with_change c t) t).taken ≤ (cond b (with_change c t) t).added) [
  | true ↦ λ m. let k = m refl in omega arith
  | false ↦ λ m. le
] more

covered-by : (d : ℕ) (o : Option Tally) (t : Tally) → t.taken ≤ t.added → ((c : Tally) → o ≡ Some c → (c.number == d) ≡ true → c.taken ≤ (t.added - t.taken) + c.added) → (changed_by d o t).taken ≤ (changed_by d o t).added
covered-by d None t le more = le
covered-by d (Some c) t le more = covered-some d c t le (more c refl)

covered-step : (es : List Event) (e : Event) → AreCovered es → ((d : ℕ) (c : Tally) → device_change (es, e) ≡ Some c → (c.number == d) ≡ true → c.taken ≤ caller_count es d + c.added) → AreCovered (es ++ e ∷ [])
covered-step es e h more = record {
  covered = λ d. subst (λ (t : Tally). t.taken ≤ t.added) (sym (device_tally-push es e d))
      (covered-by d (device_change (es, e)) (device_tally es d) (h.covered d) (λ c is at. subst (λ n. c.taken ≤ n + c.added) (caller_count-standing es d) (more d c is at)));
}

none_changed : (es : List Event) (e : Event) → device_change (es, e) ≡ None → AreCovered es → AreCovered (es ++ e ∷ [])
none_changed es e none h = covered-step es e h (λ d c is at. let clash : None ≡ Some c = sym none ∙ is in absurd (cc))

covered_release : (rules : Rules) (c : Topology) (es : List Event) (device count : ℕ) → is_legal_event rules c (es, ReleaseDev device count) ≡ true → count ≤ caller_count es device
covered_release rules c es device count legal =
    let asked = (allowed-legal_event rules c es (ReleaseDev device count) legal).1 in
    leb-true _ _ (and_parts (names_device c device && is_count count) (nat_le count (caller_count es device)) asked).1

-- a send takes no freeze away
send_takes_none : (o : Option Sending) (c : Tally) → option_and_then (λ (x : Sending). cond x.qfreeze (Some (change x.device 1 0)) None) o ≡ Some c → c.taken ≡ 0
send_takes_none None c e = absurd (cc)
send_takes_none (Some s) c e = elim s.qfreeze as (λ b. cond b (Some (change s.device 1 0)) None ≡ Some c → c.taken ≡ 0) [
  | true ↦ λ g. let same : change s.device 1 0 ≡ c = cc in ap (λ (t : Tally). t.taken) (sym same)
  | false ↦ λ g. absurd (cc)
] e

covered_step : (rules : Rules) (c : Topology) (es : List Event) (e : Event) → is_legal_event rules c (es, e) ≡ true → AreCovered es → AreCovered (es ++ e ∷ [])
covered_step rules c es (FreezeDev device count) legal h =
    covered-step es (FreezeDev device count) h (λ d t is at. let same : change device count 0 ≡ t = cc in let none : t.taken ≡ 0 = ap (λ (x : Tally). x.taken) (sym same) in omega (arith, none))
covered_step rules c es (ReleaseDev device count) legal h =
    covered-step es (ReleaseDev device count) h (λ d t is at.
    let same : change device 0 count ≡ t = cc in
    let taken : t.taken ≡ count = ap (λ (x : Tally). x.taken) (sym same) in
    let number : device ≡ d = ap (λ (x : Tally). x.number) same ∙ eqb-true t.number d at in
    let le : count ≤ caller_count es d = rw (← number) (covered_release rules c es device count legal) in
    omega (arith, taken, le))
covered_step rules c es (Send lane ccb) legal h =
    covered-step es (Send lane ccb) h (λ d t is at. let none = send_takes_none (sending_of (es, Send lane ccb)) t is in omega (arith, none))
covered_step rules c es e legal h = none_changed es e refl h

none_taken : AreCovered []
unfolding sendings
none_taken = record { covered = λ d. omega arith }

pub covered-legal : (rules : Rules) (c : Topology) (events : List Event) → is_legal rules c events ≡ true → AreCovered events
unfolding is_legal
covered-legal rules c events legal = legal-induction rules c AreCovered (covered_step rules c) [] events legal none_taken
