-- the sends over a link are those of the adapters on it
use Rattle.std.proofs.Common.{◌≡◌, ℕ, ◌+◌, ◌≤◌, Bool, true, false, cond, List, [], ◌∷◌, length, refl, sym, ap, ◌∙◌, arith, inl, inr, Option, Some, None, ◌==◌, ◌&&◌, nat_lt, count_by, slice_get}
use Rattle.std.specs.Option.{option_map_or, option_eq}
use lib.Dec.{eqb}
use Rattle.std.proofs.lemmas.Bool.{cases_eq, cases_lt, eq-eqb, ne_eqb, lt-ltb, le-ltb}
use Rattle.std.proofs.lemmas.List.Sums.{sum_by-cons, count_by-le-length}
use Rattle.xpt_core.specs.Words.{Topology, IsConfig, is_on, is_under, adapter_link, device_adapter, prefixed, sendings, sending_of, goes_now, goes_now_to_adapter, goes_now_over_link, Event, Sending}
use Rattle.cam_types.specs.declared.device.Device.{Device}
use Rattle.event_rules.proofs.ListFacts.{length-filter_map, length-prefixed_after}
use Rattle.cam_types.proofs.ConfigLemmas.{bus-there}
use Rattle.std.proofs.lemmas.Option.{slice_get_within}

-- the link is that of the adapter
abbrev pub is_of : Topology → ℕ → ℕ → Bool
is_of c l a = option_map_or (λ k. k == l) (adapter_link c a) false

-- the device is under the link, on one of the first n adapters
abbrev under : Topology → ℕ → ℕ → ℕ → Bool
under c l n d = is_under c l d && nat_lt (device_adapter c d) n

-- the sends to such devices in the place's round
abbrev pub sent_by : Topology → List Event → ℕ → ℕ → ℕ
sent_by c es l n = count_by (goes_now es (λ (s : Sending). under c l n s.device)) (sendings es)

here_cases : (link r : Bool) → ◌≡◌ {A = ℕ} (cond ((link && true) && r) 1 0) (cond ((link && false) && r) 1 0 + cond link (cond (true && r) 1 0) 0)
here_cases true true = refl
here_cases true false = refl
here_cases false r = refl

apart_cases : (x : ℕ) (link r : Bool) → x ≡ x + cond link (cond (false && r) 1 0) 0
apart_cases x true r = omega arith
apart_cases x false r = omega arith

by_bus : (link : ℕ → Bool) (r : Bool) (bus n : ℕ) →
    ◌≡◌ {A = ℕ} (cond ((link bus && nat_lt bus (n + 1)) && r) 1 0) (cond ((link bus && nat_lt bus n) && r) 1 0 + cond (link n) (cond ((bus == n) && r) 1 0) 0)
by_bus link r bus n = elim (cases_eq bus n) [
  | inl same ↦ rw same (rw (lt-ltb n (n + 1) (omega arith), le-ltb n n (omega arith), eq-eqb n n refl) (here_cases (link n) r))
  | inr apart ↦ elim (cases_lt bus n) [
    | inl before ↦ rw (ne_eqb bus n apart, lt-ltb bus (n + 1) (omega arith), lt-ltb bus n before) (apart_cases (cond ((link bus && true) && r) 1 0) (link n) r)
    | inr behind ↦ rw (ne_eqb bus n apart, le-ltb bus (n + 1) (omega arith), le-ltb bus n behind) (apart_cases (cond ((link bus && false) && r) 1 0) (link n) r)
  ]
]

of_device : (c : Topology) (l n d : ℕ) (r : Bool) (o : Option Device) → slice_get c.devices d ≡ o →
    ◌≡◌ {A = ℕ} (cond (under c l (n + 1) d && r) 1 0) (cond (under c l n d && r) 1 0 + cond (is_of c l n) (cond (is_on c n d && r) 1 0) 0)
of_device c l n d r None e = rw e (apart_cases 0 (is_of c l n) r)
of_device c l n d r (Some device) e = rw e (by_bus (is_of c l) r device.bus n)

-- counts that add up at each element
added : {X : Type 0} (p q r : X → Bool) (b : Bool) (xs : List X) → ((x : X) → ◌≡◌ {A = ℕ} (cond (r x) 1 0) (cond (p x) 1 0 + cond b (cond (q x) 1 0) 0)) →
    count_by r xs ≡ count_by p xs + cond b (count_by q xs) 0
added p q r true [] h = refl
added p q r false [] h = refl
added p q r true (x ∷ xs) h = omega (arith, h x, sum_by-cons (λ y. cond (p y) 1 0) x xs, sum_by-cons (λ y. cond (q y) 1 0) x xs, sum_by-cons (λ y. cond (r y) 1 0) x xs, added p q r true xs h)
added p q r false (x ∷ xs) h = omega (arith, h x, sum_by-cons (λ y. cond (p y) 1 0) x xs, sum_by-cons (λ y. cond (r y) 1 0) x xs, added p q r false xs h)

-- one adapter more
pub sent_by-more : (c : Topology) (es : List Event) (l n : ℕ) → sent_by c es l (n + 1) ≡ sent_by c es l n + cond (is_of c l n) (count_by (goes_now_to_adapter c es n) (sendings es)) 0
sent_by-more c es l n = added _ _ _ (is_of c l n) (sendings es) (λ s. of_device c l n s.device (goes_now es (λ t. true) s) (slice_get c.devices s.device) refl)

-- by no adapter
never : (b r : Bool) → (((b && false) && r) ≡ false)
never true r = refl
never false r = refl

count-none : {X : Type 0} (p : X → Bool) (xs : List X) → ((x : X) → p x ≡ false) → count_by p xs ≡ 0
count-none p [] h = refl
count-none p (x ∷ xs) h = let here : ◌≡◌ {A = ℕ} (cond (p x) 1 0) 0 = rw (h x) refl in omega (arith, sum_by-cons (λ y. cond (p y) 1 0) x xs, count-none p xs h)

pub sent_by-none : (c : Topology) (es : List Event) (l : ℕ) → sent_by c es l 0 ≡ 0
sent_by-none c es l = count-none _ (sendings es) (λ s. rw (le-ltb (device_adapter c s.device) 0 (omega arith)) (never (is_under c l s.device) _))

-- by all adapters
under_all : (c : Topology) (l d : ℕ) (o : Option Device) → IsConfig c → slice_get c.devices d ≡ o → under c l (length c.adapters) d ≡ is_under c l d
under_all c l d None is e = rw e refl
under_all c l d (Some device) is e =
    let there = bus-there c d is (slice_get_within c.devices d device e) in
    rw (lt-ltb (device_adapter c d) (length c.adapters) there) (and_true (is_under c l d))
  where
    and_true : (b : Bool) → (b && true) ≡ b
    and_true true = refl
    and_true false = refl

count-same : {X : Type 0} (p q : X → Bool) (xs : List X) → ((x : X) → p x ≡ q x) → count_by p xs ≡ count_by q xs
count-same p q [] h = refl
count-same p q (x ∷ xs) h = let here : ◌≡◌ {A = ℕ} (cond (p x) 1 0) (cond (q x) 1 0) = ap (λ (b : Bool). cond {A = ℕ} b 1 0) (h x) in omega (arith, sum_by-cons (λ y. cond (p y) 1 0) x xs, sum_by-cons (λ y. cond (q y) 1 0) x xs, count-same p q xs h)

pub sent_by-all : (c : Topology) (es : List Event) (l : ℕ) → IsConfig c → sent_by c es l (length c.adapters) ≡ count_by (goes_now_over_link c es l) (sendings es)
sent_by-all c es l is = count-same _ _ (sendings es) (λ s. ap (λ (b : Bool). b && goes_now es (λ t. true) s) (under_all c l s.device (slice_get c.devices s.device) is refl))

-- there are no more sends than events
few_sendings : (es : List Event) → length (sendings es) ≤ length es
unfolding sendings
few_sendings es = omega (arith, length-filter_map sending_of (prefixed es), length-prefixed_after [] es)

sent_by-few : (c : Topology) (es : List Event) (l n : ℕ) → sent_by c es l n ≤ length es
sent_by-few c es l n = omega (arith, few_sendings es, count_by-le-length (goes_now es (λ (s : Sending). under c l n s.device)) (sendings es))

same_link : (o : Option ℕ) (l : ℕ) → option_eq eqb o (Some l) ≡ option_map_or (λ k. k == l) o false
same_link None l = refl
same_link (Some k) l = refl

-- an adapter on the link
pub sent_by-on : (c : Topology) (es : List Event) (l n sent own : ℕ) → sent ≡ sent_by c es l n → option_eq eqb (adapter_link c n) (Some l) ≡ true → own ≡ count_by (goes_now_to_adapter c es n) (sendings es) → sent + own ≡ sent_by c es l (n + 1)
sent_by-on c es l n sent own is on same =
    let this : is_of c l n ≡ true = sym (same_link (adapter_link c n) l) ∙ on in
    let step : sent_by c es l (n + 1) ≡ sent_by c es l n + count_by (goes_now_to_adapter c es n) (sendings es) = sent_by-more c es l n ∙ ap (λ b. sent_by c es l n + cond b (count_by (goes_now_to_adapter c es n) (sendings es)) 0) this in
    omega (arith, is, step, same)

-- which is within the events
pub sent_by-within : (c : Topology) (es : List Event) (l n sent own most : ℕ) → sent + own ≡ sent_by c es l n → length es ≤ most → sent + own ≤ most
sent_by-within c es l n sent own most is short = omega (arith, is, sent_by-few c es l n, short)

-- one that isn't
pub sent_by-off : (c : Topology) (es : List Event) (l n sent : ℕ) → sent ≡ sent_by c es l n → option_eq eqb (adapter_link c n) (Some l) ≡ false → sent ≡ sent_by c es l (n + 1)
sent_by-off c es l n sent is other =
    let off : is_of c l n ≡ false = sym (same_link (adapter_link c n) l) ∙ other in
    let step : sent_by c es l (n + 1) ≡ sent_by c es l n + 0 = sent_by-more c es l n ∙ ap (λ b. sent_by c es l n + cond b (count_by (goes_now_to_adapter c es n) (sendings es)) 0) off in
    omega (arith, is, step)

-- all of them
pub all_sent : (c : Topology) (es : List Event) (l n sent : ℕ) → IsConfig c → sent ≡ sent_by c es l n → n ≡ length c.adapters → sent ≡ count_by (goes_now_over_link c es l) (sendings es)
all_sent c es l n sent kept is all = is ∙ ap (sent_by c es l) all ∙ sent_by-all c es l kept

-- without events nothing was sent
pub nothing_sent : (c : Topology) (es : List Event) (l : ℕ) → length es ≡ 0 → count_by (goes_now_over_link c es l) (sendings es) ≡ 0
nothing_sent c es l none = omega (arith, none, few_sendings es, count_by-le-length (goes_now_over_link c es l) (sendings es))
