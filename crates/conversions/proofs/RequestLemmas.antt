-- the requests of a complete history keep the rules of recordings
use Rattle.std.proofs.Common.{◌≡◌, ℕ, zero, suc, ◌+◌, ◌-◌, ◌<◌, ◌≤◌, Bool, true, false, cond, List, [], ◌∷◌, ◌++◌, length, map, take, get_or, refl, sym, ap, ◌∙◌, arith, Option, Some, None, ◌==◌, ◌&&◌, find, count_by}
use Rattle.std.specs.Option.{option_map, option_map_or}
use Rattle.std.proofs.lemmas.Bool.{and_from, lt-ltb, le-ltb, le-leb, lt-leb, eqb-true, eq-eqb}
use Rattle.std.proofs.lemmas.List.{length-map, get_or-map, map-append, take_more, take_all}
use Rattle.cam_types.specs.Topology.{Topology, IsConfig}
use Rattle.cam_types.specs.Questions.{device_adapter, adapter_link}
use Rattle.cam_types.specs.declared.limits.TheConstants.{MAX_PRIORITY}
use Rattle.event_rules.specs.Counts.{round, submissions}
use Rattle.event_rules.specs.Legal.{history_rules, is_legal}
use Rattle.event_rules.specs.Live.{live_round}
use Rattle.event_rules.specs.Stays.{stays_begun, unsent, is_unsent}
use Rattle.event_rules.specs.Past.{Past}
use Rattle.event_rules.specs.declared.event.Event.{Event}
use Rattle.event_rules.specs.declared.passage.Passage.{Passage}
use Rattle.xpt_core.specs.Records.{record_of, records, next_stay}
use Rattle.xpt_core.specs.declared.stays.stay_record.StayRecord.{StayRecord}
use Rattle.recording_file.specs.Caps.{part_of, cap_in}
use Rattle.recording_file.specs.Recorded.{Recorded, takes_of, load, parts_of, link_parts, is_full, full_cause, window_cause, crowd_cause, plain_cause, request_cause}
use Rattle.recording_file.specs.declared.part.PartKind.TheVariants as kind
use Rattle.recording_file.specs.declared.cap.Cap.{Cap}
use Rattle.recording_file.specs.declared.part.Part.{Part}
use Rattle.recording_file.specs.declared.request.Request.{Request}
use Rattle.round_net.specs.Caps.{resource_count, carries}
use Rattle.round_net.specs.Nets.{last_round}
use Rattle.round_net.specs.RecordedNets.{part_of_resource}
use Rattle.round_net.proofs.CountLemmas.{count-map, count_by-cons, count_by-same}
use Rattle.round_net.proofs.FoundLemmas.{live_cases}
use Rattle.conversions.specs.Requests.{unless_end, request_of, request_by}
use Rattle.conversions.specs.Recorded.{without_lanes, caps_of, recorded_with, recorded_of}
use Rattle.conversions.proofs.CapLemmas.{cap_in_row}
use Rattle.conversions.proofs.PartLemmas.{carries_takes, device_resource, adapter_resource, link_resource}
use Rattle.conversions.proofs.StayLemmas.{IsSentInWindow, sent_in_windows, resource_holds}

-- where the next element counts, those before it count one less than all
count_front : {X : Type 0} (t : X → Bool) (xs : List X) (n : ℕ) (d : X) → n < length xs → t (get_or xs n d) ≡ true → count_by t (take n xs) + 1 ≤ count_by t xs
count_front t [] n d lt here = absurd (omega arith)
count_front t (x ∷ xs) zero d lt here =
    let one : ◌≡◌ {A = ℕ} (cond (t x) 1 0) 1 = rw here refl in
    omega (arith, count_by-cons t x xs)
count_front t (x ∷ xs) (suc n) d lt here = omega (arith, count_front t xs n d (omega arith) here, count_by-cons t x xs, count_by-cons t x (take n xs))

-- the last round of a request is its stay's
pub last_unless_end : (rounds last : ℕ) → option_map_or (λ n. n) (unless_end rounds last) rounds ≡ last
last_unless_end rounds last = elim (last == rounds) as (λ b. (last == rounds) ≡ b → option_map_or (λ n. n) (cond b None (Some last)) rounds ≡ last) [
  | true ↦ λ is. sym (eqb-true last rounds is)
  | false ↦ λ other. refl
] refl

-- a stay that was sent in its window is a request that nothing speaks against by itself
no_plain_cause : (c : Topology) (es : List Event) (p : Passage) → IsSentInWindow c es p → plain_cause (round es) (without_lanes c) (request_of es p) ≡ None
unfolding plain_cause window_cause request_of
no_plain_cause c es p is =
    let live : ℕ = live_round es p in
    let last : ℕ = last_round es p in
    let there = lt-ltb p.device (length c.devices) is.device in
    let listed = le-ltb MAX_PRIORITY p.priority is.priority in
    let end = last_unless_end (round es) last in
    let first = le-leb 1 p.arrival is.first in
    let arrived = is.arrived in
    let within = is.within in
    let order = le-leb p.arrival last (omega arith) in
    let few = le-leb last (round es) is.last in
    let early = le-ltb live p.arrival arrived in
    let late = le-ltb last live within in
    rw (there, listed, end, first, order, few, early, late) refl

-- ---- the parts of a device

-- a row that takes a request to a device has room for it beside the requests before it
resource_has_room : (c : Topology) (es : List Event) (n : ℕ) (d : Passage) → is_legal history_rules c es ≡ true → unsent es ≡ None → n < length (stays_begun es) → (row : ℕ) → row < resource_count c → takes_of c (part_of_resource c row) (get_or (stays_begun es) n d).device ≡ true
    → is_full (without_lanes c) (caps_of c es (resource_count c)) (map (request_of es) (take n (stays_begun es))) (live_round es (get_or (stays_begun es) n d)) (part_of_resource c row) ≡ false
unfolding request_of
resource_has_room c es n d legal complete lt row within takes =
    let stays : List Passage = stays_begun es in
    let p : Passage = get_or stays n d in
    let r : ℕ = live_round es p in
    let part : Part = part_of_resource c row in
    let is = sent_in_windows c es legal complete n d lt in
    let first = is.first in
    let arrived = is.arrived in
    let sent = is.within in
    let last = is.last in
    let test : Passage → Bool = λ q. takes_of c part q.device && (live_round es q == r) in
    let mapped : load c (map (request_of es) (take n stays)) part r ≡ count_by test (take n stays) = count-map (λ (q : Request). takes_of c part q.device && (q.sent == r)) (request_of es) (take n stays) in
    let passes : test p ≡ true = and_from _ _ takes (eq-eqb r r refl) in
    let front = count_front test stays n d lt passes in
    let same = count_by-same (λ (q : Passage). carries c row q.device && (live_round es q == r)) test stays (λ k e lt'. ap (λ (b : Bool). b && (live_round es (get_or stays k e) == r)) (carries_takes c row (get_or stays k e).device)) in
    let held = resource_holds c es legal complete row r in
    let capped = cap_in_row c es row r (resource_count c) within (omega arith) (omega arith) in
    lt-leb (cap_in (without_lanes c) (caps_of c es (resource_count c)) part r) (load c (map (request_of es) (take n stays)) part r) (omega arith)

-- where neither a device, nor its adapter, nor that one's link is full, none is
none_full : (t : Part → Bool) (device adapter : Part) (link : Option ℕ) → t device ≡ false → t adapter ≡ false → ((l : ℕ) → link ≡ Some l → t (part_of kind.Link l) ≡ false) → find t (device ∷ adapter ∷ link_parts link) ≡ None
none_full t device adapter None d a l = rw (d, a) refl
none_full t device adapter (Some k) d a l = let none = l k refl in rw (d, a, none) refl

-- each part of a device has a row, which takes the device's requests
no_crowd_cause : (c : Topology) (es : List Event) (n : ℕ) (d : Passage) → IsConfig (without_lanes c) → is_legal history_rules c es ≡ true → unsent es ≡ None → n < length (stays_begun es)
    → crowd_cause (without_lanes c) (caps_of c es (resource_count c)) (map (request_of es) (take n (stays_begun es))) (request_of es (get_or (stays_begun es) n d)) ≡ None
unfolding crowd_cause request_of
no_crowd_cause c es n d config legal complete lt =
    let p : Passage = get_or (stays_begun es) n d in
    let is = sent_in_windows c es legal complete n d lt in
    let test : Part → Bool = is_full (without_lanes c) (caps_of c es (resource_count c)) (map (request_of es) (take n (stays_begun es))) (live_round es p) in
    let room = resource_has_room c es n d legal complete lt in
    let device = device_resource c p.device is.device in
    let adapter = adapter_resource c p.device config is.device in
    let none = none_full test (part_of kind.Device p.device) (part_of kind.Adapter (device_adapter c p.device)) (adapter_link c (device_adapter c p.device))
    (rw device.is at (room device.row device.within (rw device.is device.takes)))
    (rw adapter.is at (room adapter.row adapter.within (rw adapter.is adapter.takes)))
    (λ l on. let link = link_resource c p.device l config is.device on in rw link.is at (room link.row link.within (rw link.is link.takes))) in
    no_cause (request_of es p) none
  where
    no_cause : (q : Request) → find (is_full (without_lanes c) (caps_of c es (resource_count c)) (map (request_of es) (take n (stays_begun es))) q.sent) (parts_of c q.device) ≡ None → option_map (λ (part : Part). full_cause part.kind) (find (is_full (without_lanes c) (caps_of c es (resource_count c)) (map (request_of es) (take n (stays_begun es))) q.sent) (parts_of (without_lanes c) q.device)) ≡ None
    no_cause q e = rw e refl

-- nothing speaks against the request of a stay beside those of the stays before it
pub no_cause : (c : Topology) (es : List Event) (n : ℕ) (d : Passage) → IsConfig (without_lanes c) → is_legal history_rules c es ≡ true → unsent es ≡ None → n < length (stays_begun es)
    → request_cause (round es) (without_lanes c) (caps_of c es (resource_count c)) (map (request_of es) (take n (stays_begun es)), request_of es (get_or (stays_begun es) n d)) ≡ None
unfolding request_cause
no_cause c es n d config legal complete lt =
    let plain = no_plain_cause c es (get_or (stays_begun es) n d) (sent_in_windows c es legal complete n d lt) in
    rw (plain, no_crowd_cause c es n d config legal complete lt) refl

-- ---- what the loop makes

last_cases : (o : Option Passage) (n : ℕ) → option_map_or (λ arrival. arrival - 1) (option_map (λ (q : Passage). q.arrival) o) n ≡ option_map_or (λ (q : Passage). q.arrival - 1) o n
last_cases None n = refl
last_cases (Some q) n = refl

pub request_of_record : (es : List Event) (p : Passage) → request_by (submissions es) (round es) (record_of es p) ≡ request_of es p
unfolding request_of last_round
request_of_record es p = rw (live_cases es p (is_unsent es p) refl, last_cases (next_stay (stays_begun es) p) (round es)) refl

-- what is kept of a stay makes its request
pub stay_request : (es : List Event) (kept : List StayRecord) (n : ℕ) (x : StayRecord) → kept ≡ records es → n < length kept → x ≡ get_or kept n x → request_by (submissions es) (round es) x ≡ request_of es (get_or (stays_begun es) n x.stay)
unfolding records
stay_request es kept n x are lt is =
    let within : n < length (map (record_of es) (stays_begun es)) = rw are at lt in
    let inside : n < length (stays_begun es) = omega (arith, length-map (stays_begun es) (record_of es)) in
    let read : x ≡ get_or (map (record_of es) (stays_begun es)) n x = rw are at is in
    let here : x ≡ record_of es (get_or (stays_begun es) n x.stay) = read ∙ get_or-map (record_of es) (stays_begun es) n x.stay x inside in
    ap (request_by (submissions es) (round es)) here ∙ request_of_record es (get_or (stays_begun es) n x.stay)

pub as_many : (es : List Event) (kept : List StayRecord) → kept ≡ records es → length kept ≡ length (stays_begun es)
unfolding records
as_many es kept are = ap length are ∙ length-map (stays_begun es) (record_of es)

-- the requests of one stay more
pub requests_more : (past : Past) (caps : List Cap) (n : ℕ) (d : Passage) (old new : Recorded) (q : Request) → n < length (stays_begun past.events) → old ≡ recorded_with past caps (map (request_of past.events) (take n (stays_begun past.events))) → q ≡ request_of past.events (get_or (stays_begun past.events) n d) → new ≡ record old { requests = old.requests ++ q ∷ [] }
    → new ≡ recorded_with past caps (map (request_of past.events) (take (n + 1) (stays_begun past.events)))
requests_more past caps n d old new q lt so_far here more =
    let es : List Event = past.events in
    let stays : List Passage = stays_begun es in
    let next : map (request_of es) (take (n + 1) stays) ≡ map (request_of es) (take n stays) ++ request_of es (get_or stays n d) ∷ [] = ap (map (request_of es)) (take_more stays n d lt) ∙ map-append (request_of es) (take n stays) (get_or stays n d ∷ []) in
    more ∙ rw (so_far, here) (ap (recorded_with past caps) (sym next))

-- those of all stays
pub requests_all : (past : Past) (n : ℕ) (r : Recorded) → length (stays_begun past.events) ≤ n → r ≡ recorded_with past (caps_of past.config past.events (resource_count past.config)) (map (request_of past.events) (take n (stays_begun past.events))) → r ≡ recorded_of past
unfolding recorded_of
requests_all past n r le e = e ∙ ap (λ stays. recorded_with past (caps_of past.config past.events (resource_count past.config)) (map (request_of past.events) stays)) (take_all n (stays_begun past.events) le)
