-- the order of spots
use Rattle.std.proofs.Common.{◌≡◌, ℕ, ◌+◌, ◌≤◌, Bool, true, false, not, ◌&&◌, ◌==◌, nat_eq, Some, None, Option, refl, sym, ap, ◌∙◌, subst, arith}
use mathlib.Core.Bool.{beq}
use Rattle.std.specs.Option.{option_cmp, option_eq}
use Rattle.std.specs.Cmp.{IsTotalOrder, bool_cmp_total}
use Rattle.std.specs.Cmp.Lexicographic.{options_total}
use Rattle.std.specs.Ordering.{nat_cmp, bool_cmp, ordering_then, ordering_reverse, is_eq, is_gt}
use Rattle.std.specs.declared.cmp.Ordering.{Ordering}
use Rattle.std.specs.declared.cmp.Ordering.TheVariants.{Less, Equal, Greater}
use Rattle.std.proofs.lemmas.Bool.Decides.{nat_tests}
use Rattle.std.proofs.lemmas.Cmp.{nat_cmp_total, on_total, then_total, tied_itself}
use Rattle.std.proofs.lemmas.Map.Lookups.{CmpEqualImpliesEq, exact_unsigned}
use Rattle.capture_file.specs.declared.attempt.Place.{Place}
use Rattle.capture_file.specs.declared.spot.Lane.{Lane}
use Rattle.capture_file.specs.declared.spot.Queue.{Queue}
use Rattle.capture_file.specs.declared.spot.Spot.{Spot}
use Rattle.capture_file.specs.Attempts.{is_same_place}
use Rattle.capture_file.specs.Spots.{place_cmp, lane_cmp, queue_cmp, spot_cmp}

-- ---- orderings one after the other

both_equal : (o p : Ordering) → ordering_then o p ≡ Equal → (o ≡ Equal) × (p ≡ Equal)
both_equal Less p h = absurd (let e : Less ≡ Equal = h in cc)
both_equal Equal p h = (refl, h)
both_equal Greater p h = absurd (let e : Greater ≡ Equal = h in cc)

first_le : (o p : Ordering) → is_gt (ordering_then o p) ≡ false → is_gt o ≡ false
first_le Less p h = refl
first_le Equal p h = refl
first_le Greater p h = h

both_ways : (o p : Ordering) → o ≡ ordering_reverse p → is_gt o ≡ false → is_gt p ≡ false → o ≡ Equal
both_ways Equal p e h k = refl
both_ways Less Less e h k = absurd (let e' : Less ≡ Greater = e in cc)
both_ways Less Equal e h k = absurd (let e' : Less ≡ Equal = e in cc)
both_ways Less Greater e h k = absurd (let k' : true ≡ false = k in cc)
both_ways Greater p e h k = absurd (let h' : true ≡ false = h in cc)

pub is_eq-Equal : (o : Ordering) → is_eq o ≡ true → o ≡ Equal
is_eq-Equal Equal h = refl
is_eq-Equal Less h = absurd (let h' : false ≡ true = h in cc)
is_eq-Equal Greater h = absurd (let h' : false ≡ true = h in cc)

-- ---- laws

places_total : IsTotalOrder place_cmp
places_total = then_total (on_total (λ (p : Place). p.device) nat_cmp_total) (on_total (λ (p : Place). p.sector) (options_total nat_cmp_total))

lanes_total : IsTotalOrder lane_cmp
lanes_total = then_total (on_total (λ (l : Lane). l.place) places_total) (then_total (on_total (λ (l : Lane). l.in_flight) bool_cmp_total) (then_total (on_total (λ (l : Lane). l.early) bool_cmp_total) (on_total (λ (l : Lane). l.kind) nat_cmp_total)))

pub queues_total : IsTotalOrder queue_cmp
queues_total = then_total (on_total (λ (q : Queue). q.lane) lanes_total) (on_total (λ (q : Queue). q.size) nat_cmp_total)

pub spots_total : IsTotalOrder spot_cmp
spots_total = then_total (on_total (λ (s : Spot). s.queue) queues_total) (then_total (on_total (λ (s : Spot). s.start) nat_cmp_total) (on_total (λ (s : Spot). s.id) nat_cmp_total))

exact_sector : (a b : Option ℕ) → option_cmp nat_cmp a b ≡ Equal → a ≡ b
exact_sector None None h = refl
exact_sector None (Some y) h = absurd (let e : Less ≡ Equal = h in cc)
exact_sector (Some x) None h = absurd (let e : Greater ≡ Equal = h in cc)
exact_sector (Some x) (Some y) h = ap Some (exact_unsigned x y h)

exact_place : CmpEqualImpliesEq place_cmp
exact_place p q h =
    let parts = both_equal (nat_cmp p.device q.device) (option_cmp nat_cmp p.sector q.sector) h in
    let device = exact_unsigned p.device q.device parts.0 in
    let sector = exact_sector p.sector q.sector parts.1 in
    let made : ℕ → Option ℕ → Place = λ d s. record { device = d; sector = s } in
    ap (λ d. made d p.sector) device ∙ ap (made q.device) sector

exact_flag : (a b : Bool) → bool_cmp a b ≡ Equal → a ≡ b
exact_flag true true h = refl
exact_flag false false h = refl
exact_flag false true h = absurd (let e : Less ≡ Equal = h in cc)
exact_flag true false h = absurd (let e : Greater ≡ Equal = h in cc)

exact_lane : CmpEqualImpliesEq lane_cmp
exact_lane p q h =
    let parts = both_equal (place_cmp p.place q.place) (ordering_then (bool_cmp p.in_flight q.in_flight) (ordering_then (bool_cmp p.early q.early) (nat_cmp p.kind q.kind))) h in
    let more = both_equal (bool_cmp p.in_flight q.in_flight) (ordering_then (bool_cmp p.early q.early) (nat_cmp p.kind q.kind)) parts.1 in
    let last = both_equal (bool_cmp p.early q.early) (nat_cmp p.kind q.kind) more.1 in
    let place = exact_place p.place q.place parts.0 in
    let in_flight = exact_flag p.in_flight q.in_flight more.0 in
    let early = exact_flag p.early q.early last.0 in
    let kind = exact_unsigned p.kind q.kind last.1 in
    let made : Place → Bool → Bool → ℕ → Lane = λ a b c d. record { place = a; in_flight = b; early = c; kind = d } in
    ap (λ a. made a p.in_flight p.early p.kind) place ∙ ap (λ b. made q.place b p.early p.kind) in_flight ∙ ap (λ c. made q.place q.in_flight c p.kind) early ∙ ap (made q.place q.in_flight q.early) kind

pub exact_queue : CmpEqualImpliesEq queue_cmp
exact_queue p q h =
    let parts = both_equal (lane_cmp p.lane q.lane) (nat_cmp p.size q.size) h in
    let lane = exact_lane p.lane q.lane parts.0 in
    let size = exact_unsigned p.size q.size parts.1 in
    let made : Lane → ℕ → Queue = λ a b. record { lane = a; size = b } in
    ap (λ a. made a p.size) lane ∙ ap (made q.lane) size

pub exact_spot : CmpEqualImpliesEq spot_cmp
exact_spot s t h =
    let parts = both_equal (queue_cmp s.queue t.queue) (ordering_then (nat_cmp s.start t.start) (nat_cmp s.id t.id)) h in
    let more = both_equal (nat_cmp s.start t.start) (nat_cmp s.id t.id) parts.1 in
    let queue = exact_queue s.queue t.queue parts.0 in
    let start = exact_unsigned s.start t.start more.0 in
    let id = exact_unsigned s.id t.id more.1 in
    let made : Queue → ℕ → ℕ → Spot = λ a b c. record { queue = a; start = b; id = c } in
    ap (λ a. made a s.start s.id) queue ∙ ap (λ b. made t.queue b s.id) start ∙ ap (made t.queue t.start) id

-- ---- in a queue

numbers_le : (a b i j : ℕ) → is_gt (ordering_then (nat_cmp a b) (nat_cmp i j)) ≡ false → (a ≤ b) × (a ≡ b → i ≤ j)
numbers_le a b i j h = (grind (arith, nat_tests), λ e. grind (arith, nat_tests))

pub spots_le : (s t : Spot) → s.queue ≡ t.queue → is_gt (spot_cmp s t) ≡ false → (s.start ≤ t.start) × (s.start ≡ t.start → s.id ≤ t.id)
spots_le s t e h =
    let same : queue_cmp s.queue t.queue ≡ Equal = rw e (tied_itself queues_total t.queue) in
    numbers_le s.start t.start s.id t.id (sym (rw same refl) ∙ h)

numbers_from : (a b j : ℕ) → a ≤ b → is_gt (ordering_then (nat_cmp a b) (nat_cmp 0 j)) ≡ false
numbers_from a b j h = grind (arith, nat_tests)

abbrev pub low : Queue → ℕ → Spot
low queue from = record { queue = queue; start = from; id = 0 }

pub low_le : (queue : Queue) (from : ℕ) (t : Spot) → t.queue ≡ queue → from ≤ t.start → is_gt (spot_cmp (low queue from) t) ≡ false
low_le queue from t e h =
    let same : queue_cmp queue t.queue ≡ Equal = rw e (tied_itself queues_total queue) in
    rw same (numbers_from from t.start t.id h)

-- the queue after which no spot is of another queue: that of one size more
abbrev pub next_queue : Queue → Queue
next_queue queue = record queue { size = queue.size + 1 }

no_spot_before : (start id : ℕ) → ordering_then (nat_cmp start 0) (nat_cmp id 0) ≡ Less → ⊥
no_spot_before start id h = grind (arith, nat_tests)

less_first : (o p : Ordering) → ordering_then o p ≡ Less → (p ≡ Less → ⊥) → o ≡ Less
less_first Less p h none = refl
less_first Equal p h none = absurd (none h)
less_first Greater p h none = absurd (let e : Greater ≡ Less = h in cc)

size_between : (m n : ℕ) → is_gt (nat_cmp m n) ≡ false → nat_cmp n (m + 1) ≡ Less → n ≡ m
size_between m n h k = grind (arith, nat_tests)

-- a queue that isn't before one, and is before the next, is that one
lanes_between : (o p : Ordering) → o ≡ ordering_reverse p → (m n : ℕ) → is_gt (ordering_then o (nat_cmp m n)) ≡ false → ordering_then p (nat_cmp n (m + 1)) ≡ Less → (p ≡ Equal) × (n ≡ m)
lanes_between Equal Equal e m n h k = (refl, size_between m n h k)
lanes_between Equal Less e m n h k = absurd (let e' : Equal ≡ Greater = e in cc)
lanes_between Equal Greater e m n h k = absurd (let e' : Equal ≡ Less = e in cc)
lanes_between Less Less e m n h k = absurd (let e' : Less ≡ Greater = e in cc)
lanes_between Less Equal e m n h k = absurd (let e' : Less ≡ Equal = e in cc)
lanes_between Less Greater e m n h k = absurd (let k' : Greater ≡ Less = k in cc)
lanes_between Greater p e m n h k = absurd (let h' : true ≡ false = h in cc)

pub within : (queue : Queue) (s : Spot) → is_gt (spot_cmp (low queue 0) s) ≡ false → spot_cmp s (low (next_queue queue) 0) ≡ Less → s.queue ≡ queue
within queue s h k =
    let one = first_le (queue_cmp queue s.queue) (ordering_then (nat_cmp 0 s.start) (nat_cmp 0 s.id)) h in
    let other = less_first (queue_cmp s.queue (next_queue queue)) (ordering_then (nat_cmp s.start 0) (nat_cmp s.id 0)) k (no_spot_before s.start s.id) in
    let parts = lanes_between (lane_cmp queue.lane s.queue.lane) (lane_cmp s.queue.lane queue.lane) (lanes_total.antisymm queue.lane s.queue.lane) queue.size s.queue.size one other in
    let lane = exact_lane s.queue.lane queue.lane parts.0 in
    let made : Lane → ℕ → Queue = λ a b. record { lane = a; size = b } in
    ap (λ a. made a s.queue.size) lane ∙ ap (made queue.lane) parts.1

less_size : (n : ℕ) → nat_cmp n (n + 1) ≡ Less
less_size n = grind (arith, nat_tests)

-- each spot of a queue is before the next
pub before_next : (queue : Queue) (t : Spot) → t.queue ≡ queue → spot_cmp t (low (next_queue queue) 0) ≡ Less
before_next queue t e =
    let lane : lane_cmp t.queue.lane queue.lane ≡ Equal = rw e (tied_itself lanes_total queue.lane) in
    let size : t.queue.size ≡ queue.size = ap (λ (q : Queue). q.size) e in
    rw (lane, size, less_size queue.size) refl

pub low_before_next : (queue : Queue) → is_gt (spot_cmp (low queue 0) (low (next_queue queue) 0)) ≡ false
low_before_next queue = ap is_gt (before_next queue (low queue 0) refl)

-- what stands between the low end of a queue and one of its spots is in that queue
pub between : (queue : Queue) (from : ℕ) (s t : Spot) → t.queue ≡ queue → is_gt (spot_cmp (low queue from) s) ≡ false → is_gt (spot_cmp s t) ≡ false → s.queue ≡ queue
between queue from s t e h k =
    let one = first_le (queue_cmp queue s.queue) (ordering_then (nat_cmp from s.start) (nat_cmp 0 s.id)) h in
    let other : is_gt (queue_cmp s.queue queue) ≡ false = subst (λ q. is_gt (queue_cmp s.queue q) ≡ false) e (first_le (queue_cmp s.queue t.queue) (ordering_then (nat_cmp s.start t.start) (nat_cmp s.id t.id)) k) in
    exact_queue s.queue queue (both_ways (queue_cmp s.queue queue) (queue_cmp queue s.queue) (queues_total.antisymm s.queue queue) other one)

pub low_start : (queue : Queue) (from : ℕ) (s : Spot) → s.queue ≡ queue → is_gt (spot_cmp (low queue from) s) ≡ false → from ≤ s.start
low_start queue from s e h = (spots_le (low queue from) s (sym e) h).0

-- ---- which are the same

is_eq-then : (o p : Ordering) → is_eq (ordering_then o p) ≡ (is_eq o && is_eq p)
is_eq-then Less p = refl
is_eq-then Equal p = refl
is_eq-then Greater p = refl

is_eq-nat : (m n : ℕ) → is_eq (nat_cmp m n) ≡ (m == n)
is_eq-nat m n = grind (arith, nat_tests)

is_eq-sector : (a b : Option ℕ) → is_eq (option_cmp nat_cmp a b) ≡ option_eq nat_eq a b
is_eq-sector None None = refl
is_eq-sector None (Some y) = refl
is_eq-sector (Some x) None = refl
is_eq-sector (Some x) (Some y) = is_eq-nat x y

pub is_eq-place : (p q : Place) → is_eq (place_cmp p q) ≡ is_same_place p q
is_eq-place p q =
    let device = is_eq-nat p.device q.device in
    let sector = is_eq-sector p.sector q.sector in
    is_eq-then (nat_cmp p.device q.device) (option_cmp nat_cmp p.sector q.sector) ∙ rw (device, sector) refl

is_eq-flag : (a b : Bool) → is_eq (bool_cmp a b) ≡ beq a b
is_eq-flag true true = refl
is_eq-flag false false = refl
is_eq-flag false true = refl
is_eq-flag true false = refl

-- what `==` of lanes and of queues says
abbrev pub lane_eq : Lane → Lane → Bool
lane_eq p q = is_same_place p.place q.place && (beq p.in_flight q.in_flight && (beq p.early q.early && (p.kind == q.kind)))

is_eq-lane : (p q : Lane) → is_eq (lane_cmp p q) ≡ lane_eq p q
is_eq-lane p q =
    let place = is_eq-place p.place q.place in
    let in_flight = is_eq-flag p.in_flight q.in_flight in
    let early = is_eq-flag p.early q.early in
    let kind = is_eq-nat p.kind q.kind in
    let last = is_eq-then (bool_cmp p.early q.early) (nat_cmp p.kind q.kind) in
    let more = is_eq-then (bool_cmp p.in_flight q.in_flight) (ordering_then (bool_cmp p.early q.early) (nat_cmp p.kind q.kind)) in
    is_eq-then (place_cmp p.place q.place) (ordering_then (bool_cmp p.in_flight q.in_flight) (ordering_then (bool_cmp p.early q.early) (nat_cmp p.kind q.kind)))
    ∙ rw (place, more, in_flight, last, early, kind) refl

abbrev pub queue_eq : Queue → Queue → Bool
queue_eq p q = lane_eq p.lane q.lane && (p.size == q.size)

pub is_eq-queue : (p q : Queue) → is_eq (queue_cmp p q) ≡ queue_eq p q
is_eq-queue p q =
    let lane = is_eq-lane p.lane q.lane in
    let size = is_eq-nat p.size q.size in
    is_eq-then (lane_cmp p.lane q.lane) (nat_cmp p.size q.size) ∙ rw (lane, size) refl

not_false : (b : Bool) → false ≡ not b → b ≡ true
not_false true h = refl
not_false false h = absurd (let h' : false ≡ true = h in cc)

is_eq-itself : (q : Queue) → is_eq (queue_cmp q q) ≡ true
is_eq-itself q = ap is_eq (tied_itself queues_total q)

pub same_queue : (p q : Queue) → false ≡ not (queue_eq p q) → p ≡ q
same_queue p q h = exact_queue p q (is_eq-Equal (queue_cmp p q) (is_eq-queue p q ∙ not_false _ h))

pub other_queue : (p q : Queue) → true ≡ not (queue_eq p q) → p ≡ q → ⊥
other_queue p q h e =
    let same : is_eq (queue_cmp p q) ≡ true = rw e (is_eq-itself q) in
    let t : true ≡ not true = h ∙ ap not (sym (is_eq-queue p q) ∙ same) in
    cc
