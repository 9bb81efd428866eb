-- the net of a recording is sound
use Rattle.std.proofs.Common.{◌≡◌, ℕ, zero, suc, ◌+◌, ◌-◌, ◌*◌, ◌<◌, ◌≤◌, Bool, true, false, cond, List, [], ◌∷◌, ◌++◌, length, map, take, get_or, refl, sym, ap, subst, ◌∙◌, arith, append_assoc, append-nil, zero-add, ◌/◌, ◌%◌, nat_le, Option, Some, None, ◌==◌, ◌&&◌, All, nat_lt, find, count_by, slice_get}
use Rattle.std.specs.Option.{option_or, option_map_or}
use Rattle.std.specs.List.{list_all}
use Rattle.std.proofs.lemmas.Bool.{and_parts, leb-true, ltb-true, ltb-false}
use Rattle.std.proofs.lemmas.Nat.{mul-le}
use Rattle.std.proofs.lemmas.List.{length-map, take_more}
use Rattle.std.proofs.lemmas.List.Elements.{All-nil, All-cons, All-map}
use Rattle.std.proofs.lemmas.List.FromFn.{map-range_with_len_more}
use Rattle.std.proofs.lemmas.List.Sums.{sum_by-cons}
use Rattle.cam_types.specs.Lists.{prefixed, prefixed_after, first_answer}
use Rattle.cam_types.specs.Topology.{Topology, IsConfig}
use Rattle.cam_types.specs.declared.limits.TheConstants.{MAX_PRIORITY, MAX_DEVICES, MAX_ADAPTERS, MAX_LINKS}
use Rattle.cam_types.specs.Questions.{is_on, is_under}
use Rattle.cam_types.specs.declared.adapter.Adapter.{Adapter}
use Rattle.cam_types.specs.declared.device.Device.{Device}
use Rattle.cam_types.specs.Questions.{weight}
use Rattle.cam_types.proofs.ListLemmas.{prefixed-push}
use Rattle.cam_types.proofs.ConfigLemmas.{weight_small, few_devices, few_adapters, few_links}
use Rattle.recording_file.specs.Recorded.{Recorded, IsKept, takes_of, load, request_cause, plain_cause, crowd_cause}
use Rattle.recording_file.specs.Caps.{part_of, cap_in, is_cap, covers, openings}
use Rattle.recording_file.specs.declared.cap.Cap.{Cap}
use Rattle.recording_file.specs.declared.part.Part.{Part}
use Rattle.recording_file.specs.declared.part.PartKind.{PartKind}
use Rattle.recording_file.specs.declared.request.Request.{Request}
use Rattle.recording_file.specs.declared.part.PartKind.TheVariants as kind
use Rattle.recording_file.specs.Counts.{counts_of}
use Rattle.recording_file.specs.Room.{row_of, rows_by, part_in, IsCell, IsRoom}
use Rattle.recording_file.specs.Places.{places_of, taken_at}
use Rattle.recording_file.proofs.PlacingLemmas.{IsPlain, plain_none, head_config}
use Rattle.recording_file.proofs.PlaceLemmas.{are_cells, is_device}
use Rattle.recording_file.proofs.RoomLemmas.{row_few, part_there}
use Rattle.recording_file.proofs.TakenLemmas.{taken_room}
use Rattle.round_net.specs.Caps.{resource_count, carries}
use Rattle.round_net.specs.Nets.{cells, table}
use Rattle.round_net.specs.Rows.{NetRows, StayRow, instance_of_rows}
use Rattle.round_net.specs.Schedules.{IsAdmissible}
use Rattle.round_net.specs.Sound.{IsNet}
use Rattle.round_net.specs.RecordedNets.{request_row, part_of_resource, recorded_cap, net_of_recording, instance_of_recording, live_of_recording}
use Rattle.round_net.specs.declared.limits.TheConstants.{MAX_NET_ROUNDS}
use Rattle.round_net.specs.declared.price_range.TheConstants.{MAX_NET_PRICE}
use Rattle.round_net.proofs.CountLemmas.{count-map}
use Rattle.round_net.proofs.FilledLemmas.{IsFitting, IsFilled, room_for, filled_admissible, filled_net, net_with-parts}
use Rattle.round_net.proofs.RowLemmas.{weight-row, arrival-row, live-row}
use Rattle.round_net.specs.Sums.{sum_below}
use Rattle.round_net.specs.Schedules.{cost}
use Rattle.round_net.proofs.SumLemmas.{sum_below-more}
use Rattle.round_net.proofs.SmallLemmas.{small_device_openings, small_adapter_openings, small_link_openings}
use Rattle.round_net.proofs.TableLemmas.{cell-table, length-cells}

-- ---- what the loops make

pub request_more : (c : Topology) (rounds : ℕ) (rows : List StayRow) (requests : List Request) (row : StayRow) (n : ℕ) (d : Request) → n < length requests → rows ≡ map (request_row c rounds) (prefixed (take n requests))
    → row ≡ request_row c rounds (take n requests, get_or requests n d) → rows ++ row ∷ [] ≡ map (request_row c rounds) (prefixed (take (n + 1) requests))
request_more c rounds rows requests row n d lt so_far here =
    rw (so_far, here, take_more requests n d lt, prefixed-push (take n requests) (get_or requests n d))
    (map-push (request_row c rounds) (prefixed (take n requests)) (take n requests, get_or requests n d))
  where
    map-push : {X Y : Type 0} (f : X → Y) (xs : List X) (x : X) → map f xs ++ f x ∷ [] ≡ map f (xs ++ x ∷ [])
    map-push f [] x = refl
    map-push f (y ∷ ys) x = ap (λ zs. f y ∷ zs) (map-push f ys x)

pub cells_more : (rounds : ℕ) (value : ℕ → ℕ → ℕ) (caps : List ℕ) (at cap : ℕ) → caps ≡ cells rounds value at → cap ≡ value (at / rounds) (at % rounds + 1) → caps ++ cap ∷ [] ≡ cells rounds value (at + 1)
unfolding cells
cells_more rounds value caps at cap so_far here = rw (so_far, here) (sym (map-range_with_len_more (λ i. value (i / rounds) (i % rounds + 1)) 0 at at (zero-add at)))

pub cells_none : (rounds : ℕ) (value : ℕ → ℕ → ℕ) (caps : List ℕ) → caps ≡ [] → caps ≡ cells rounds value 0
unfolding cells
cells_none rounds value caps e = e

pub few_cells : (c : Topology) (rounds : ℕ) → IsConfig c → rounds ≤ MAX_NET_ROUNDS → resource_count c * rounds ≤ (MAX_DEVICES + MAX_ADAPTERS + MAX_LINKS) * MAX_NET_ROUNDS
few_cells c rounds config few = mul-le (resource_count c) rounds (MAX_DEVICES + MAX_ADAPTERS + MAX_LINKS) MAX_NET_ROUNDS (omega (arith, few_devices c config, few_adapters c config, few_links c config)) few

-- ---- each request fits

either_none : {X : Type 0} (a b : Option X) → option_or a b ≡ None → (a ≡ None) × (b ≡ None)
either_none None b e = (refl, e)
either_none (Some x) b e = absurd cc

none_each : {X F : Type 0} (f : X → Option F) (xs : List X) → first_answer f xs ≡ None → All (λ x. f x ≡ None) xs
none_each f [] e = All-nil (λ x. f x ≡ None)
none_each f (x ∷ xs) e =
    let parts = either_none (f x) (first_answer f xs) e in
    All-cons (λ y. f y ≡ None) x xs parts.0 (none_each f xs parts.1)

-- what no cause speaks against
pub record IsTaken (r : Recorded) (m : List Request × Request) : Type 0 where
  pub plain : IsPlain r.rounds r.config m.1
  pub alone : crowd_cause r.config r.caps m.0 m.1 ≡ None

taken : (r : Recorded) (m : List Request × Request) → request_cause r.rounds r.config r.caps m ≡ None → IsTaken r m
unfolding request_cause
taken r m e =
    let parts = either_none (plain_cause r.rounds r.config m.1) (crowd_cause r.config r.caps m.0 m.1) e in
    record { plain = plain_none r.rounds r.config m.1 parts.0; alone = parts.1 }

all_listed : (r : Recorded) (before xs : List Request) → first_answer (request_cause r.rounds r.config r.caps) (prefixed_after before xs) ≡ None → All (λ (q : Request). q.priority ≤ MAX_PRIORITY) xs
all_listed r before [] none = All-nil (λ (q : Request). q.priority ≤ MAX_PRIORITY)
all_listed r before (q ∷ xs) none =
    let parts = either_none (request_cause r.rounds r.config r.caps (before, q)) (first_answer (request_cause r.rounds r.config r.caps) (prefixed_after (before ++ q ∷ []) xs)) none in
    All-cons (λ (x : Request). x.priority ≤ MAX_PRIORITY) q xs (taken r (before, q) parts.0).plain.listed (all_listed r (before ++ q ∷ []) xs parts.1)

pub listed : (r : Recorded) → IsKept r → All (λ (q : Request). q.priority ≤ MAX_PRIORITY) r.requests
listed r kept = all_listed r [] r.requests kept.requests

request_fits : (r : Recorded) (m : List Request × Request) → IsConfig r.config → IsTaken r m → IsFitting r.config r.rounds (request_row r.config r.rounds m)
unfolding request_row
request_fits r m config is = record {
  device = ltb-true _ _ is.plain.there;
  first = is.plain.arrival;
  arrived = is.plain.arrived;
  within = is.plain.within;
  last = is.plain.end;
  some_weight = (weight_small r.config m.1.priority config).0;
  small_weight = (weight_small r.config m.1.priority config).1;
}

-- ---- no part was sent more in a round than it takes

-- a table of the caps has room for no request
room_start : (r : Recorded) → IsRoom r.rounds r.config r.caps [] (table 44 r.rounds (λ row round. cap_in r.config r.caps (part_in row) round))
room_start r =
    let caps : ℕ → ℕ → ℕ = λ row round. cap_in r.config r.caps (part_in row) round in
    record {
      size = length-cells r.rounds caps (44 * r.rounds);
      room = λ p round cell.
          let here = cell-table 44 r.rounds caps (row_of p) round (row_few p.kind p.number cell.part) cell.some cell.most in
          let of = ap (λ (q : Part). cap_in r.config r.caps q round) (part_there p.kind p.number cell.part) in
          omega (arith, here, of);
    }

-- and for all requests it has room one after another
room_all : (r : Recorded) (before xs : List Request) (left : List ℕ) → IsConfig r.config → first_answer (request_cause r.rounds r.config r.caps) (prefixed_after before xs) ≡ None → IsRoom r.rounds r.config r.caps before left
    → (after : List ℕ) × IsRoom r.rounds r.config r.caps (before ++ xs) after
room_all r before [] left config none room = (left, subst (λ (qs : List Request). IsRoom r.rounds r.config r.caps qs left) (sym (append-nil before)) room)
room_all r before (q ∷ xs) left config none room =
    let parts = either_none (request_cause r.rounds r.config r.caps (before, q)) (first_answer (request_cause r.rounds r.config r.caps) (prefixed_after (before ++ q ∷ []) xs)) none in
    let is = taken r (before, q) parts.0 in
    let are = are_cells r.rounds r.config q.device q.sent config is.plain.there is.plain.some is.plain.last in
    let next = taken_room r.rounds r.config r.caps before left q room are (is_device r.config q.device is.plain.there) is.alone in
    let all = room_all r (before ++ q ∷ []) xs (taken_at left (places_of r.rounds r.config q.device q.sent)) config parts.1 next in
    (all.0, subst (λ (qs : List Request). IsRoom r.rounds r.config r.caps qs all.0) (append_assoc before (q ∷ []) xs) all.1)

load_held : (r : Recorded) (p : Part) (round : ℕ) → IsKept r → IsCell r.rounds p round → load r.config r.requests p round ≤ cap_in r.config r.caps p round
load_held r p round kept cell =
    let all = room_all r [] r.requests (table 44 r.rounds (λ row q. cap_in r.config r.caps (part_in row) q)) (head_config r kept.head) kept.requests (room_start r) in
    let here = all.1.room p round cell in
    omega arith

-- ---- rows and their parts

pub row_cell : (c : Topology) (rounds row round : ℕ) → IsConfig c → row < resource_count c → 1 ≤ round → round ≤ rounds → IsCell rounds (part_of_resource c row) round
row_cell c rounds row round config within first last =
    let devices = few_devices c config in
    let adapters = few_adapters c config in
    let links = few_links c config in
    record {
      part = elim (nat_lt row (length c.devices)) as (λ b. nat_lt row (length c.devices) ≡ b → (let p : Part = cond b (part_of kind.Device row) (cond (nat_lt row (length c.devices + length c.adapters)) (part_of kind.Adapter (row - length c.devices)) (part_of kind.Link (row - (length c.devices + length c.adapters)))) in p.number < rows_by p.kind)) [
        | true ↦ λ is. let lt = ltb-true _ _ is in omega arith
        | false ↦ λ other.
            elim (nat_lt row (length c.devices + length c.adapters)) as (λ b. nat_lt row (length c.devices + length c.adapters) ≡ b → (let p : Part = cond b (part_of kind.Adapter (row - length c.devices)) (part_of kind.Link (row - (length c.devices + length c.adapters))) in p.number < rows_by p.kind)) [
              | true ↦ λ is. let lt = ltb-true _ _ is in let past = ltb-false _ _ other in omega arith
              | false ↦ λ beyond. let past = ltb-false _ _ beyond in omega arith
            ] refl
      ] refl;
      some = first;
      most = last;
    }

row_takes : (c : Topology) (row device : ℕ) → carries c row device ≡ takes_of c (part_of_resource c row) device
row_takes c row device = elim (nat_lt row (length c.devices)) as (λ b. cond b (device == row) (cond (nat_lt row (length c.devices + length c.adapters)) (is_on c (row - length c.devices) device) (is_under c (row - (length c.devices + length c.adapters)) device))
    ≡ takes_of c (cond b (part_of kind.Device row) (cond (nat_lt row (length c.devices + length c.adapters)) (part_of kind.Adapter (row - length c.devices)) (part_of kind.Link (row - (length c.devices + length c.adapters))))) device) [
      | true ↦ refl
      | false ↦ elim (nat_lt row (length c.devices + length c.adapters)) as (λ b. cond b (is_on c (row - length c.devices) device) (is_under c (row - (length c.devices + length c.adapters)) device)
          ≡ takes_of c (cond b (part_of kind.Adapter (row - length c.devices)) (part_of kind.Link (row - (length c.devices + length c.adapters)))) device) [ true ↦ refl | false ↦ refl ]
    ]

-- ---- caps are small

small_openings : (c : Topology) (k : PartKind) (n : ℕ) → IsConfig c → openings c (part_of k n) ≤ 65535
small_openings c kind.Device n config = omega (arith, small_device_openings c n config)
small_openings c kind.Adapter n config = omega (arith, small_adapter_openings c n config)
small_openings c kind.Link n config = omega (arith, small_link_openings c n config)

small_found : (rounds : ℕ) (c : Topology) (before caps : List Cap) (p : Part) (round : ℕ) → IsConfig c → list_all (is_cap rounds (counts_of c)) (prefixed_after before caps) ≡ true → cap_in c caps p round ≤ 65535
unfolding is_cap
small_found rounds c before [] p round config e = small_openings c p.kind p.number config
small_found rounds c before (cap ∷ caps) p round config e =
    let parts = and_parts (is_cap rounds (counts_of c) (before, cap)) _ e in
    let rest = small_found rounds c (before ++ cap ∷ []) caps p round config parts.1 in
    let one = and_parts (nat_lt cap.part.number _) _ parts.0 in
    let two = and_parts _ _ one.1 in
    let three = and_parts (nat_le 1 cap.first) _ two.1 in
    let four = and_parts (nat_le cap.first cap.last) _ three.1 in
    let five = and_parts (nat_le cap.last rounds) _ four.1 in
    let few = leb-true _ _ five.1 in
    elim (covers p round cap) as (λ b. option_map_or (λ (x : Cap). x.most) (cond b (Some cap) (find (covers p round) caps)) (openings c p) ≤ 65535) [ true ↦ few | false ↦ rest ]

-- ---- the net

prefixed-length : {X : Type 0} (before xs : List X) → length (prefixed_after before xs) ≡ length xs
prefixed-length before [] = refl
prefixed-length before (x ∷ xs) = ap suc (prefixed-length (before ++ x ∷ []) xs)

prefixed-count : {X : Type 0} (t : X → Bool) (before xs : List X) → count_by (λ (m : List X × X). t m.1) (prefixed_after before xs) ≡ count_by t xs
prefixed-count {X = X} t before [] = refl
prefixed-count {X = X} t before (x ∷ xs) = omega (arith, prefixed-count t (before ++ x ∷ []) xs, sum_by-cons (λ (m : List X × X). cond (t m.1) 1 0) (before, x) (prefixed_after (before ++ x ∷ []) xs), sum_by-cons (λ y. cond (t y) 1 0) x xs)

count-same : {X : Type 0} (s t : X → Bool) (xs : List X) → ((x : X) → s x ≡ t x) → count_by s xs ≡ count_by t xs
count-same s t [] e = refl
count-same s t (x ∷ xs) e =
    omega (arith, count-same s t xs e, sum_by-cons (λ y. cond (s y) 1 0) x xs, sum_by-cons (λ y. cond (t y) 1 0) x xs, ap (λ (b : Bool). cond {A = ℕ} b 1 0) (e x))

row_held : (r : Recorded) (row round : ℕ) → IsKept r → row < resource_count r.config → 1 ≤ round → round ≤ r.rounds
    → count_by (λ (s : StayRow). carries r.config row s.device && (s.live == round)) (map (request_row r.config r.rounds) (prefixed r.requests)) ≤ recorded_cap r row round
unfolding request_row recorded_cap
row_held r row round kept within first last =
    let p : Part = part_of_resource r.config row in
    let mapped = count-map (λ (s : StayRow). carries r.config row s.device && (s.live == round)) (request_row r.config r.rounds) (prefixed r.requests) in
    let plain = prefixed-count (λ (q : Request). carries r.config row q.device && (q.sent == round)) [] r.requests in
    let same = count-same (λ (q : Request). carries r.config row q.device && (q.sent == round)) (λ (q : Request). takes_of r.config p q.device && (q.sent == round)) r.requests (λ q. ap (λ (b : Bool). b && (q.sent == round)) (row_takes r.config row q.device)) in
    let held = load_held r p round kept (row_cell r.config r.rounds row round (head_config r kept.head) within first last) in
    omega (arith, mapped, plain, same, held)

recording_filled : (r : Recorded) → IsKept r → IsFilled r.config r.rounds (map (request_row r.config r.rounds) (prefixed r.requests)) (recorded_cap r) MAX_NET_PRICE
unfolding recorded_cap
recording_filled r kept =
    let config = head_config r kept.head in
    let some = kept.head.some in
    let few = kept.head.rounds in
    let each = none_each (request_cause r.rounds r.config r.caps) (prefixed r.requests) kept.requests in
    let size = length-map (prefixed r.requests) (request_row r.config r.rounds) in
    let long = prefixed-length [] r.requests in
    let requests = kept.few in
    record {
      some_rounds = some;
      few_rounds = omega arith;
      few_stays = omega arith;
      each = All-map (IsFitting r.config r.rounds) (request_row r.config r.rounds) (prefixed r.requests) (λ k d within. request_fits r (get_or (prefixed r.requests) k d) config (taken r (get_or (prefixed r.requests) k d) (each k d within)));
      small_cap = λ row round within first last. small_found r.rounds r.config [] r.caps (part_of_resource r.config row) round config kept.head.caps;
      small_price = omega arith;
      price_room = room_for r.rounds MAX_NET_ROUNDS MAX_NET_PRICE (omega arith) (omega arith);
      held = λ row round within first last. row_held r row round kept within first last;
    }

pub recording_net : (r : Recorded) → IsKept r → IsNet (net_of_recording r)
unfolding net_of_recording
recording_net r kept = filled_net r.config (length r.requests) r.rounds (map (request_row r.config r.rounds) (prefixed r.requests)) (recorded_cap r) MAX_NET_PRICE (head_config r kept.head) (recording_filled r kept)

-- the recorded schedule is admissible
pub recording_admissible : (r : Recorded) → IsKept r → IsAdmissible (instance_of_recording r) (live_of_recording r)
unfolding net_of_recording
recording_admissible r kept = filled_admissible r.config (length r.requests) r.rounds (map (request_row r.config r.rounds) (prefixed r.requests)) (recorded_cap r) MAX_NET_PRICE (head_config r kept.head) (recording_filled r kept)

-- lists that have each part of it are the net
pub recording_parts : (r : Recorded) (c : Topology) (commands rounds links : ℕ) (adapter_of : List ℕ) (link_of : List (Option ℕ)) (stays : List StayRow) (caps : List ℕ) → c ≡ r.config → commands ≡ length r.requests → rounds ≡ r.rounds → links ≡ length r.config.links →
    adapter_of ≡ map (λ (device : Device). device.bus) r.config.devices → link_of ≡ map (λ (adapter : Adapter). adapter.link) r.config.adapters → stays ≡ map (request_row r.config r.rounds) (prefixed r.requests) → caps ≡ table (resource_count r.config) r.rounds (recorded_cap r) →
    ◌≡◌ {A = NetRows} (record { config = c; commands = commands; rounds = rounds; links = links; adapter_of = adapter_of; link_of = link_of; stays = stays; caps = caps; max_price = MAX_NET_PRICE }) (net_of_recording r)
unfolding net_of_recording
recording_parts r c commands rounds links adapter_of link_of stays caps k n e l a o s is =
    net_with-parts c r.config commands (length r.requests) rounds r.rounds links adapter_of link_of stays (map (request_row r.config r.rounds) (prefixed r.requests)) caps (recorded_cap r) MAX_NET_PRICE k n e l a o s is

-- ---- what waiting cost

-- the row of a request
row_there : (c : Topology) (rounds : ℕ) (before xs : List Request) (s : ℕ) (d : Request) → s < length xs
    → (m : List Request) × (slice_get (map (request_row c rounds) (prefixed_after before xs)) s ≡ Some (request_row c rounds (m, get_or xs s d)))
row_there c rounds before [] s d lt = absurd (omega (arith, lt))
row_there c rounds before (x ∷ xs) zero d lt = (before, refl)
row_there c rounds before (x ∷ xs) (suc s) d lt = row_there c rounds (before ++ x ∷ []) xs s d (omega (arith, lt))

-- what a stay's waiting cost by the net of a recording
abbrev pub waited_by : Recorded → ℕ → ℕ
waited_by r s = (instance_of_recording r).weight s * (live_of_recording r s - (instance_of_recording r).arrival s)

waited_there : (r : Recorded) (s : ℕ) (d : Request) → s < length r.requests
    → waited_by r s ≡ weight r.config (get_or r.requests s d).priority * ((get_or r.requests s d).sent - (get_or r.requests s d).arrival)
unfolding net_of_recording request_row
waited_there r s d lt =
    let q : Request = get_or r.requests s d in
    let there = row_there r.config r.rounds [] r.requests s d lt in
    let row : StayRow = request_row r.config r.rounds (there.0, q) in
    let net : NetRows = net_of_recording r in
    rw (weight-row net s row there.1, arrival-row net s row there.1, live-row net s row there.1) refl

pub waited_more : (r : Recorded) (requests : List Request) (c : Topology) (n total here : ℕ) (d : Request) → requests ≡ r.requests → c ≡ r.config → n < length requests → total ≡ sum_below n (waited_by r)
    → here ≡ weight c (get_or requests n d).priority * ((get_or requests n d).sent - (get_or requests n d).arrival) → total + here ≡ sum_below (n + 1) (waited_by r)
waited_more r requests c n total here d e k lt so_far is =
    let less : n < length r.requests = omega (arith, lt, ap (λ (qs : List Request). length qs) e) in
    let same : here ≡ weight r.config (get_or r.requests n d).priority * ((get_or r.requests n d).sent - (get_or r.requests n d).arrival) = subst (λ (qs : List Request). here ≡ weight r.config (get_or qs n d).priority * ((get_or qs n d).sent - (get_or qs n d).arrival)) e (subst (λ (t : Topology). here ≡ weight t (get_or requests n d).priority * ((get_or requests n d).sent - (get_or requests n d).arrival)) k is) in
    rw (so_far, same ∙ sym (waited_there r n d less)) (sym (sum_below-more n (waited_by r)))

pub waited_all : (r : Recorded) (requests : List Request) (n total : ℕ) → requests ≡ r.requests → n ≡ length requests → total ≡ sum_below n (waited_by r) → total ≡ cost (instance_of_recording r) (live_of_recording r)
unfolding net_of_recording instance_of_rows
waited_all r requests n total e k is =
    let long : length (map (request_row r.config r.rounds) (prefixed r.requests)) ≡ n = length-map (prefixed r.requests) (request_row r.config r.rounds) ∙ prefixed-length [] r.requests ∙ sym (ap (λ (qs : List Request). length qs) e) ∙ sym k in
    is ∙ ap (λ k. sum_below k (waited_by r)) (sym long)

-- ---- what is counted

-- a command and a stay for each request, and the rounds of the recording
pub recorded_counts : (r : Recorded) → ((net_of_recording r).commands ≡ length r.requests) × ((instance_of_recording r).stays ≡ length r.requests) × ((instance_of_recording r).rounds ≡ r.rounds)
unfolding net_of_recording instance_of_rows
recorded_counts r = (refl, length-map (prefixed r.requests) (request_row r.config r.rounds) ∙ prefixed-length [] r.requests, refl)
