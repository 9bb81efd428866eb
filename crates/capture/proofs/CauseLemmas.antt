-- the requests of a capture keep the rules of recordings
use Rattle.std.proofs.Common.{◌≡◌, ℕ, zero, suc, ◌+◌, ◌<◌, ◌≤◌, Bool, true, false, cond, List, [], ◌∷◌, length, take, get_or, max, min, nat_lt, refl, arith, Option, Some, None, inl, inr, ◌==◌, ◌&&◌, find, count_by, slice_get, All, Vec, IfSome, nat_le}
use Rattle.std.specs.Global.{Global}
use Rattle.std.specs.List.{flat_map}
use Rattle.std.specs.Option.{option_map_or}
use Rattle.std.proofs.lemmas.Bool.{and_from, ltb-true, le-ltb, le-leb, lt-leb, eq-eqb}
use Rattle.std.proofs.lemmas.Option.{slice_get_cases}
use Rattle.std.proofs.lemmas.List.Folds.{list_any_at}
use Rattle.std.proofs.lemmas.List.Sums.{sum_by-le-sum_by}
use Rattle.cam_types.specs.Topology.{Topology, IsConfig, names_link}
use Rattle.cam_types.specs.Questions.{names_device, device_adapter, adapter_link}
use Rattle.cam_types.specs.declared.adapter.Adapter.{Adapter}
use Rattle.cam_types.specs.declared.device.Device.{Device}
use Rattle.cam_types.specs.declared.limits.TheConstants.{MAX_PRIORITY, MAX_OPENINGS}
use Rattle.cam_types.proofs.ConfigLemmas.{bus-there, adapters_on_links, small_devices, small_adapters, small_links}
use Rattle.recording_file.specs.Caps.{openings, part_of, cap_in}
use Rattle.recording_file.specs.Recorded.{takes_of, load, last_of, is_done_right, link_parts, is_full, window_cause, crowd_cause, plain_cause, request_cause}
use Rattle.recording_file.specs.declared.part.Part.{Part}
use Rattle.recording_file.specs.declared.part.PartKind.{PartKind}
use Rattle.recording_file.specs.declared.part.PartKind.TheVariants as kind
use Rattle.recording_file.specs.declared.request.Request.{Request}
use Rattle.capture.specs.Captured.{is_measured, is_open, room, own_cap, open_cap, sum_on, cap_of, part_caps, is_completed, has_completions}
use Rattle.capture.specs.Faults.{IsInRounds, starts_in}
use Rattle.capture.specs.Loads.{is_pressed}
use Rattle.capture.specs.Parts.{all_parts}
use Rattle.capture.specs.declared.capture_fault.TheConstants.{MAX_IN_ROUND}
use Rattle.capture.proofs.CapLemmas.{cap_in_all}
use Rattle.capture.proofs.CountLemmas.{one, count_by-cons}
use Rattle.capture.proofs.FoundLemmas.{at_element}
use Rattle.capture.proofs.PartLemmas.{IsThere}

-- ---- a cap is no less than what was started, and no more than a cap can say

load_few : (c : Topology) (qs : List Request) (p : Part) (r : ℕ) → load c qs p r ≤ starts_in qs r
load_few c qs p r = sum_by-le-sum_by (λ (q : Request). one (takes_of c p q.device && (q.sent == r))) (λ (q : Request). one (q.sent == r)) qs (λ q. part_le (takes_of c p q.device) (q.sent == r))
  where
    part_le : (a b : Bool) → one (a && b) ≤ one b
    part_le true b = omega arith
    part_le false true = omega arith
    part_le false false = omega arith

own_capped : (c : Topology) (rated : List Bool) (spare : List (Vec ℕ Global)) (qs : List Request) (p : Part) (r : ℕ) → starts_in qs r ≤ MAX_IN_ROUND → load c qs p r ≤ own_cap c rated spare qs p r
unfolding own_cap
own_capped c rated spare qs p r few =
    let load' = load_few c qs p r in
    let own : ℕ = room c spare qs p r in
    let within : load c qs p r ≤ own = omega arith in
    elim (is_measured rated p) as (λ b. load c qs p r ≤ cond b (cond (is_pressed qs p.number r) own (max (openings c p) own)) (max (openings c p) (load c qs p r))) [
      | true ↦ elim (is_pressed qs p.number r) as (λ b. load c qs p r ≤ cond b own (max (openings c p) own)) [ true ↦ within | false ↦ omega arith ]
      | false ↦ omega arith
    ]

open_capped : (c : Topology) (rated : List Bool) (spare : List (Vec ℕ Global)) (qs : List Request) (p : Part) (r : ℕ) → starts_in qs r ≤ MAX_IN_ROUND → load c qs p r ≤ open_cap c rated spare qs p r
unfolding open_cap
open_capped c rated spare qs p r few =
    let load' = load_few c qs p r in
    let sums : ℕ = sum_on c p.number (λ d. own_cap c rated spare qs d r) in
    elim (nat_lt (openings c p) (sum_on c p.number (openings c))) as (λ b. load c qs p r ≤ cond b MAX_IN_ROUND (min MAX_IN_ROUND (max (max (openings c p) (load c qs p r)) sums))) [ true ↦ omega arith | false ↦ omega arith ]

pub load_capped : (c : Topology) (rated opened : List Bool) (spare : List (Vec ℕ Global)) (qs : List Request) (p : Part) (r : ℕ) → starts_in qs r ≤ MAX_IN_ROUND → load c qs p r ≤ cap_of c rated opened spare qs p r
load_capped c rated opened spare qs p r few =
    elim (is_open opened p) as (λ b. load c qs p r ≤ cond b (open_cap c rated spare qs p r) (own_cap c rated spare qs p r)) [ true ↦ open_capped c rated spare qs p r few | false ↦ own_capped c rated spare qs p r few ]

element : {X : Type 0} (xs : List X) (i : ℕ) → i < length xs → (x : X) × (slice_get xs i ≡ Some x)
element xs i lt = elim (slice_get_cases xs i).1 [
  | inl h ↦ (h.0, h.2)
  | inr h ↦ absurd (let past = h.0 in omega arith)
]

-- the openings of a thing that is looked up
found_small : {X : Type 0} (f : X → ℕ) (xs : List X) (i : ℕ) → All (λ x. f x ≤ MAX_OPENINGS) xs → option_map_or f (slice_get xs i) 0 ≤ MAX_OPENINGS
found_small f xs i h = elim (slice_get xs i) as (λ o. slice_get xs i ≡ o → option_map_or f o 0 ≤ MAX_OPENINGS) [
  | None ↦ λ e. omega arith
  | Some x ↦ λ e. at_element (λ x. f x ≤ MAX_OPENINGS) xs i x h e
] refl

openings_by : (c : Topology) → IsConfig c → (k : PartKind) (n : ℕ) → openings c (part_of k n) ≤ MAX_OPENINGS
openings_by c config kind.Device n = found_small (λ (d : Device). d.openings) c.devices n (small_devices c config)
openings_by c config kind.Adapter n = found_small (λ (a : Adapter). a.openings) c.adapters n (small_adapters c config)
openings_by c config kind.Link n = found_small (λ n. n) c.links n (small_links c config)

own_few : (c : Topology) (rated : List Bool) (spare : List (Vec ℕ Global)) (qs : List Request) (k : PartKind) (n r : ℕ) → IsConfig c → starts_in qs r ≤ MAX_IN_ROUND → own_cap c rated spare qs (part_of k n) r ≤ MAX_IN_ROUND
unfolding own_cap
own_few c rated spare qs k n r config few =
    let p : Part = part_of k n in
    let open' = openings_by c config k n in
    let load' = load_few c qs p r in
    let own : ℕ = room c spare qs p r in
    let most : own ≤ MAX_IN_ROUND = omega arith in
    elim (is_measured rated p) as (λ b. cond b (cond (is_pressed qs p.number r) own (max (openings c p) own)) (max (openings c p) (load c qs p r)) ≤ MAX_IN_ROUND) [
      | true ↦ elim (is_pressed qs p.number r) as (λ b. cond b own (max (openings c p) own) ≤ MAX_IN_ROUND) [ true ↦ most | false ↦ omega arith ]
      | false ↦ omega arith
    ]

open_few : (c : Topology) (rated : List Bool) (spare : List (Vec ℕ Global)) (qs : List Request) (p : Part) (r : ℕ) → open_cap c rated spare qs p r ≤ MAX_IN_ROUND
unfolding open_cap
open_few c rated spare qs p r =
    let sums : ℕ = sum_on c p.number (λ d. own_cap c rated spare qs d r) in
    elim (nat_lt (openings c p) (sum_on c p.number (openings c))) as (λ b. cond b MAX_IN_ROUND (min MAX_IN_ROUND (max (max (openings c p) (load c qs p r)) sums)) ≤ MAX_IN_ROUND) [ true ↦ omega arith | false ↦ omega arith ]

pub cap_few : (c : Topology) (rated opened : List Bool) (spare : List (Vec ℕ Global)) (qs : List Request) (k : PartKind) (n r : ℕ) → IsConfig c → starts_in qs r ≤ MAX_IN_ROUND → cap_of c rated opened spare qs (part_of k n) r ≤ MAX_IN_ROUND
cap_few c rated opened spare qs k n r config few =
    elim (is_open opened (part_of k n)) as (λ b. cond b (open_cap c rated spare qs (part_of k n) r) (own_cap c rated spare qs (part_of k n) r) ≤ MAX_IN_ROUND) [ true ↦ open_few c rated spare qs (part_of k n) r | false ↦ own_few c rated spare qs k n r config few ]

-- ---- no cause speaks against a request

-- where the next element counts, those before it count one less than all
count_front : {X : Type 0} (t : X → Bool) (xs : List X) (n : ℕ) (d : X) → n < length xs → t (get_or xs n d) ≡ true → count_by t (take n xs) + 1 ≤ count_by t xs
count_front t [] n d lt here = absurd (omega arith)
count_front t (x ∷ xs) zero d lt here =
    let once : ◌≡◌ {A = ℕ} (one (t x)) 1 = rw here refl in
    omega (arith, count_by-cons t x xs)
count_front t (x ∷ xs) (suc n) d lt here = omega (arith, count_front t xs n d (omega arith) here, count_by-cons t x xs, count_by-cons t x (take n xs))

no_plain_cause : (rounds : ℕ) (c : Topology) (q : Request) → IsInRounds rounds q → names_device c q.device ≡ true → plain_cause rounds c q ≡ None
unfolding plain_cause window_cause
no_plain_cause rounds c q is there =
    let arrived = is.arrived in
    let within = is.within in
    let listed = le-ltb MAX_PRIORITY q.priority is.priority in
    let first = le-leb 1 q.arrival is.first in
    let order = le-leb q.arrival (last_of rounds q) (omega arith) in
    let few = le-leb (last_of rounds q) rounds is.last in
    let early = le-ltb q.sent q.arrival arrived in
    let late = le-ltb (last_of rounds q) q.sent within in
    rw (there, listed, first, order, few, early, late) refl

-- a part that is there and takes a request has room for it beside the requests before it
has_room : (c : Topology) (rated opened : List Bool) (spare : List (Vec ℕ Global)) (qs : List Request) (rounds n : ℕ) (d : Request) (k : PartKind) (m : ℕ) → n < length qs → IsInRounds rounds (get_or qs n d) → IsThere c (part_of k m) → takes_of c (part_of k m) (get_or qs n d).device ≡ true → starts_in qs (get_or qs n d).sent ≤ MAX_IN_ROUND
    → is_full c (flat_map (part_caps c rated opened spare qs rounds) (all_parts c)) (take n qs) (get_or qs n d).sent (part_of k m) ≡ false
has_room c rated opened spare qs rounds n d k m lt is there takes few =
    let q : Request = get_or qs n d in
    let p : Part = part_of k m in
    let first = is.first in
    let arrived = is.arrived in
    let within = is.within in
    let last = is.last in
    let capped = cap_in_all c (cap_of c rated opened spare qs) rounds k m q.sent there (omega arith) (omega arith) in
    let front = count_front (λ (a : Request). takes_of c p a.device && (a.sent == q.sent)) qs n d lt (and_from _ _ takes (eq-eqb q.sent q.sent refl)) in
    let most = load_capped c rated opened spare qs p q.sent few in
    lt-leb (cap_in c (flat_map (part_caps c rated opened spare qs rounds) (all_parts c)) p q.sent) (load c (take n qs) p q.sent) (omega arith)

-- where neither a device, nor its adapter, nor that one's link is full, none is
none_full : (t : Part → Bool) (device adapter : Part) (link : Option ℕ) → t device ≡ false → t adapter ≡ false → ((l : ℕ) → link ≡ Some l → t (part_of kind.Link l) ≡ false) → find t (device ∷ adapter ∷ link_parts link) ≡ None
none_full t device adapter None d a l = rw (d, a) refl
none_full t device adapter (Some k) d a l = let none = l k refl in rw (d, a, none) refl

no_crowd_cause : (c : Topology) (rated opened : List Bool) (spare : List (Vec ℕ Global)) (qs : List Request) (rounds n : ℕ) (d : Request) → IsConfig c → n < length qs → IsInRounds rounds (get_or qs n d) → (get_or qs n d).device < length c.devices → starts_in qs (get_or qs n d).sent ≤ MAX_IN_ROUND → crowd_cause c (flat_map (part_caps c rated opened spare qs rounds) (all_parts c)) (take n qs) (get_or qs n d) ≡ None
unfolding crowd_cause
no_crowd_cause c rated opened spare qs rounds n d config lt is there few =
    let q : Request = get_or qs n d in
    let a : ℕ = device_adapter c q.device in
    let device = element c.devices q.device there in
    let on_adapter = bus-there c q.device config there in
    let adapter = element c.adapters a on_adapter in
    let bus : a ≡ device.0.bus = rw device.1 refl in
    let room = has_room c rated opened spare qs rounds n d in
    let none = none_full (is_full c (flat_map (part_caps c rated opened spare qs rounds) (all_parts c)) (take n qs) q.sent) (part_of kind.Device q.device) (part_of kind.Adapter a) (adapter_link c a)
    (room kind.Device q.device lt is there (eq-eqb q.device q.device refl) few)
    (room kind.Adapter a lt is on_adapter (rw device.1 (eq-eqb device.0.bus device.0.bus refl)) few)
    (λ l on.
    let link : adapter.0.link ≡ Some l = rw adapter.1 at on in
    let named = at_element (λ (x : Adapter). names_link (length c.links) x.link ≡ true) c.adapters a adapter.0 (adapters_on_links c config) adapter.1 in
    let is_link = ltb-true l (length c.links) (rw link at named) in
    let under : adapter_link c device.0.bus ≡ Some l = rw bus at on in
    room kind.Link l lt is is_link (rw (device.1, under) (eq-eqb l l refl)) few) in
    rw none refl

pub no_cause : (c : Topology) (rated opened : List Bool) (spare : List (Vec ℕ Global)) (qs : List Request) (rounds n : ℕ) (d : Request) → IsConfig c → n < length qs → All (IsInRounds rounds) qs → ((round : ℕ) → 1 ≤ round → round ≤ rounds → starts_in qs round ≤ MAX_IN_ROUND) → names_device c (get_or qs n d).device ≡ true → request_cause rounds c (flat_map (part_caps c rated opened spare qs rounds) (all_parts c)) (take n qs, get_or qs n d) ≡ None
unfolding request_cause
no_cause c rated opened spare qs rounds n d config lt h crowds there =
    let is = h n d lt in
    let first = is.first in
    let arrived = is.arrived in
    let within = is.within in
    let last = is.last in
    let few = crowds (get_or qs n d).sent (omega arith) (omega arith) in
    let plain = no_plain_cause rounds c (get_or qs n d) is there in
    let crowd = no_crowd_cause c rated opened spare qs rounds n d config lt is (ltb-true _ _ there) few in
    rw (plain, crowd) refl

-- ---- completions are right

pub done_right : (qs : List Request) (rounds n : ℕ) (d : Request) → n < length qs → IsInRounds rounds (get_or qs n d) → is_done_right (has_completions qs) (get_or qs n d) ≡ true
done_right qs rounds n d lt is =
    let q : Request = get_or qs n d in
    elim q.done as (λ o. q.done ≡ o → IfSome o (λ m. q.sent ≤ m) → option_map_or (λ m. has_completions qs && nat_le q.sent m) o true ≡ true) [
      | None ↦ λ e later. refl
      | Some m ↦ λ e later. and_from _ _ (list_any_at is_completed qs n d lt (rw e refl)) (le-leb q.sent m later)
    ] refl is.done
