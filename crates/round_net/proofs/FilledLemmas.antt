-- the net of a configuration whose stays and caps fit together is sound
use Rattle.std.proofs.Common.{◌≡◌, ℕ, zero, suc, ◌+◌, ◌-◌, ◌*◌, ◌<◌, ◌≤◌, Bool, true, false, cond, List, [], ◌∷◌, length, map, take, get_or, refl, sym, ap, ◌∙◌, arith, Option, Some, None, inl, inr, ◌==◌, ◌&&◌, All, slice_get, slice_index, nat_lt, count_by, option_and_then}
use Rattle.std.specs.Option.{option_map_or}
use Rattle.std.proofs.lemmas.Bool.{ltb-true, ltb-false}
use Rattle.std.proofs.lemmas.Nat.{mul-le}
use Rattle.std.proofs.lemmas.Option.{slice_get_cases, slice_get_within, get_or_from_slice_get}
use Rattle.std.proofs.lemmas.List.{length-map, take_all}
use Rattle.std.proofs.lemmas.List.Sums.{sum_by_more}
use Rattle.cam_types.specs.declared.limits.TheConstants.{MAX_DEVICES, MAX_ADAPTERS, MAX_LINKS, MAX_WEIGHT}
use Rattle.round_net.specs.declared.limits.TheConstants.{MAX_NET_ROUNDS, MAX_NET_STAYS, MAX_CAP}
use Rattle.round_net.specs.declared.price_range.TheConstants.{MAX_NET_PRICE}
use Rattle.round_net.specs.Words.{Topology, IsConfig, names_link, Adapter, Device, is_on, is_under, adapter_link}
use Rattle.round_net.specs.Sums.{count_below}
use Rattle.round_net.specs.Instance.{Instance, rows, adapter, link, adapter_resource, link_resource, uses}
use Rattle.round_net.specs.Schedules.{IsAdmissible, load}
use Rattle.round_net.specs.Rows.{NetRows, cell, instance_of_rows, live_of_rows, StayRow}
use Rattle.round_net.specs.Sound.{IsSound, IsNet, longest_path}
use Rattle.round_net.specs.Caps.{resource_count, carries}
use Rattle.round_net.specs.Nets.{table, net_with}
use Rattle.cam_types.proofs.ConfigLemmas.{few_adapters, few_links, adapters_on_links, devices_on_adapters, few_devices}
use Rattle.round_net.proofs.PathLemmas.{uses-device_resource, uses-adapter_resource, uses-link_resource}
use Rattle.round_net.proofs.RowLemmas.{device-row, arrival-row, last-row, weight-row, live-row}
use Rattle.round_net.proofs.TableLemmas.{cell-table, All-table, length-cells}

-- an element of a list
pub element : {X : Type 0} (xs : List X) (i : ℕ) → i < length xs → (x : X) × (slice_get xs i ≡ Some x)
element xs i lt = elim (slice_get_cases xs i).1 [
  | inl h ↦ (h.0, h.2)
  | inr h ↦ absurd (let past = h.0 in omega arith)
]

pub at_element : {X : Type 0} (P : X → Type 0) (xs : List X) (i : ℕ) (x : X) → All P xs → slice_get xs i ≡ Some x → P x
at_element P xs i x h e =
    let same : get_or xs i x ≡ x = get_or_from_slice_get xs i x x e in
    rw same at (h i x (slice_get_within xs i x e))

mapped : {X Y : Type 0} (f : X → Y) (xs : List X) (i : ℕ) (x : X) → slice_get xs i ≡ Some x → slice_get (map f xs) i ≡ Some (f x)
mapped f [] i x e = absurd cc
mapped f (y ∷ ys) zero x e = let same : y ≡ x = cc in ap (λ z. Some (f z)) same
mapped f (y ∷ ys) (suc i) x e = mapped f ys i x e

pub small_at : (xs : List ℕ) (i most : ℕ) → All (λ n. n ≤ most) xs → slice_index xs i ≤ most
small_at xs i most h = elim (slice_get_cases xs i).1 [
  | inl g ↦ h i 0 g.1
  | inr g ↦ let past : slice_index xs i ≡ 0 = past_end xs i g.0 in omega arith
]
  where
    past_end : (xs : List ℕ) (i : ℕ) → length xs ≤ i → get_or xs i 0 ≡ 0
    past_end [] i le = refl
    past_end (x ∷ xs) zero le = absurd (omega arith)
    past_end (x ∷ xs) (suc i) le = past_end xs i (omega arith)

-- a count over numbers as one over a list
count_front : {X : Type 0} (test : X → Bool) (t : ℕ → Bool) (xs : List X) (d : X) (n : ℕ) → ((i : ℕ) → i < length xs → t i ≡ test (get_or xs i d)) → n ≤ length xs → count_below n t ≡ count_by test (take n xs)
count_front test t xs d zero h le = refl
count_front test t xs d (suc n) h le =
    let rest : count_below n t ≡ count_by test (take n xs) = count_front test t xs d n h (omega arith) in
    let more : count_by test (take (n + 1) xs) ≡ count_by test (take n xs) + cond (test (get_or xs n d)) 1 0 = sum_by_more (λ x. cond (test x) 1 0) xs n d (omega arith) in
    let one : n + 1 ≡ suc n = omega arith in
    let here : ◌≡◌ {A = ℕ} (cond (t n) 1 0) (cond (test (get_or xs n d)) 1 0) = ap (λ b. cond b 1 0) (h n (omega arith)) in
    let more' : count_by test (take (suc n) xs) ≡ count_by test (take n xs) + cond (test (get_or xs n d)) 1 0 = rw one at more in
    omega arith

count_list : {X : Type 0} (test : X → Bool) (t : ℕ → Bool) (xs : List X) → ((i : ℕ) (x : X) → slice_get xs i ≡ Some x → t i ≡ test x) → count_below (length xs) t ≡ count_by test xs
count_list test t [] h = refl
count_list test t (x ∷ xs) h =
    let each : (i : ℕ) → i < length (x ∷ xs) → t i ≡ test (get_or (x ∷ xs) i x) = λ i lt.
    let e = element (x ∷ xs) i lt in
    let same : get_or (x ∷ xs) i x ≡ e.0 = get_or_from_slice_get (x ∷ xs) i e.0 x e.1 in
    h i e.0 e.1 ∙ ap test (sym same) in
    count_front test t (x ∷ xs) x (length (x ∷ xs)) each (omega arith) ∙ ap (count_by test) (take_all (length (x ∷ xs)) (x ∷ xs) (omega arith))

-- a stay is of a device of the configuration, was sent in its window, which lies within the rounds, and has a weight
pub record IsFitting (c : Topology) (rounds : ℕ) (s : StayRow) : Type 0 where
  pub device : s.device < length c.devices
  pub first : 1 ≤ s.arrival
  pub arrived : s.arrival ≤ s.live
  pub within : s.live ≤ s.last
  pub last : s.last ≤ rounds
  pub some_weight : 1 ≤ s.weight
  pub small_weight : s.weight ≤ MAX_WEIGHT

-- the stays fit, there are few of them and few rounds, no row was sent more in a round than it takes, and no number is too large
pub record IsFilled (c : Topology) (rounds : ℕ) (stays : List StayRow) (caps : ℕ → ℕ → ℕ) (max_price : ℕ) : Type 0 where
  pub some_rounds : 1 ≤ rounds
  pub few_rounds : rounds ≤ MAX_NET_ROUNDS
  pub few_stays : length stays ≤ MAX_NET_STAYS
  pub each : All (IsFitting c rounds) stays
  pub small_cap : (row r : ℕ) → row < resource_count c → 1 ≤ r → r ≤ rounds → caps row r ≤ MAX_CAP
  pub small_price : max_price ≤ MAX_NET_PRICE
  pub price_room : 4 * (MAX_WEIGHT * rounds * ((MAX_DEVICES + MAX_ADAPTERS + MAX_LINKS) * (rounds + 1) + 1)) ≤ max_price
  pub held : (row r : ℕ) → row < resource_count c → 1 ≤ r → r ≤ rounds → count_by (λ (s : StayRow). carries c row s.device && (s.live == r)) stays ≤ caps row r

-- there is room for prices where there is for those of more rounds
pub room_for : (rounds most max_price : ℕ) → rounds ≤ most → 4 * (MAX_WEIGHT * most * ((MAX_DEVICES + MAX_ADAPTERS + MAX_LINKS) * (most + 1) + 1)) ≤ max_price →
    4 * (MAX_WEIGHT * rounds * ((MAX_DEVICES + MAX_ADAPTERS + MAX_LINKS) * (rounds + 1) + 1)) ≤ max_price
room_for rounds most max_price few room =
    let path = mul-le (MAX_WEIGHT * rounds) ((MAX_DEVICES + MAX_ADAPTERS + MAX_LINKS) * (rounds + 1) + 1) (MAX_WEIGHT * most) ((MAX_DEVICES + MAX_ADAPTERS + MAX_LINKS) * (most + 1) + 1) (omega arith) (omega arith) in
    omega (arith, path, room)

-- such a net
abbrev pub filled : Topology → ℕ → ℕ → List StayRow → (ℕ → ℕ → ℕ) → ℕ → Instance
filled c commands rounds stays caps max_price = instance_of_rows (net_with c commands rounds stays caps max_price)

module _ (c : Topology) (commands rounds : ℕ) (stays : List StayRow) (caps : ℕ → ℕ → ℕ) (max_price : ℕ) where
  abbrev net : Instance
  net = filled c commands rounds stays caps max_price

  devices_of : net.devices ≡ length c.devices
  unfolding instance_of_rows
  devices_of = length-map c.devices (λ (device : Device). device.bus)

  adapters_of : net.adapters ≡ length c.adapters
  unfolding instance_of_rows
  adapters_of = length-map c.adapters (λ (adapter : Adapter). adapter.link)

  pub rows_of : rows net ≡ resource_count c
  unfolding instance_of_rows
  rows_of = rw (devices_of, adapters_of) refl

  bus_of_device : (d : ℕ) (device : Device) → slice_get c.devices d ≡ Some device → net.adapter_of d ≡ device.bus
  unfolding instance_of_rows
  bus_of_device d device e = get_or_from_slice_get (map (λ (x : Device). x.bus) c.devices) d device.bus 0 (mapped (λ (x : Device). x.bus) c.devices d device e)

  linked : (xs : List Adapter) (a : ℕ) → option_and_then (λ (link : Option ℕ). link) (slice_get (map (λ (adapter : Adapter). adapter.link) xs) a) ≡ option_and_then (λ (adapter : Adapter). adapter.link) (slice_get xs a)
  linked [] a = refl
  linked (x ∷ xs) zero = refl
  linked (x ∷ xs) (suc a) = linked xs a

  link_of_adapter : (a : ℕ) → net.link_of a ≡ adapter_link c a
  unfolding instance_of_rows
  link_of_adapter a = linked c.adapters a

  cap_of : (row r : ℕ) → row < resource_count c → 1 ≤ r → r ≤ rounds → net.cap row r ≡ caps row r
  unfolding instance_of_rows
  cap_of row r within first last = cell-table (resource_count c) rounds caps row r within first last

  stays_of : net.stays ≡ length stays
  unfolding instance_of_rows
  stays_of = refl

  rounds_of : net.rounds ≡ rounds
  unfolding instance_of_rows
  rounds_of = refl

  -- a stay of the net is one of these
  stay_of : (s : ℕ) → s < net.stays → (x : StayRow) × (slice_get stays s ≡ Some x)
  stay_of s lt = element stays s (rw stays_of at lt)

  -- a device is on an adapter of the net
  on_adapter : (d : ℕ) → IsConfig c → d < net.devices → net.adapter_of d < net.adapters
  on_adapter d config lt =
      let dev = element c.devices d (rw devices_of at lt) in
      rw (bus_of_device d dev.0 dev.1, adapters_of) (at_element (λ (device : Device). device.bus < length c.adapters) c.devices d dev.0 (devices_on_adapters c config) dev.1)

  -- a stay uses the rows that carry a command to its device
  device_at : (s : ℕ) (x : StayRow) → slice_get stays s ≡ Some x → net.device s ≡ x.device
  device_at s x e = device-row (net_with c commands rounds stays caps max_price) s x e

  live_at : (s : ℕ) (x : StayRow) → slice_get stays s ≡ Some x → live_of_rows (net_with c commands rounds stays caps max_price) s ≡ x.live
  live_at s x e = live-row (net_with c commands rounds stays caps max_price) s x e

  adapter_at : (s : ℕ) (x : StayRow) (device : Device) → slice_get stays s ≡ Some x → slice_get c.devices x.device ≡ Some device → adapter net s ≡ device.bus
  adapter_at s x device e there = ap net.adapter_of (device_at s x e) ∙ bus_of_device x.device device there

  on_adapter_test : (a s : ℕ) (x : StayRow) → x.device < length c.devices → slice_get stays s ≡ Some x → (adapter net s == a) ≡ is_on c a x.device
  on_adapter_test a s x within e =
      let dev = element c.devices x.device within in
      rw (adapter_at s x dev.0 e dev.1, dev.1) refl

  under_link_test : (l s : ℕ) (x : StayRow) → x.device < length c.devices → slice_get stays s ≡ Some x → option_map_or (λ k. k == l) (link net s) false ≡ is_under c l x.device
  unfolding instance_of_rows
  under_link_test l s x within e =
      let dev = element c.devices x.device within in
      rw (adapter_at s x dev.0 e dev.1, link_of_adapter dev.0.bus, dev.1) refl

  uses-carries : (row s : ℕ) (x : StayRow) → IsConfig c → x.device < length c.devices → row < resource_count c → slice_get stays s ≡ Some x → uses net row s ≡ carries c row x.device
  uses-carries row s x config inside within e =
      let n : ℕ = length c.devices in
      let m : ℕ = n + length c.adapters in
      let device : net.device s < net.devices = rw (device_at s x e, devices_of) inside in
      let devices : net.devices ≡ n = devices_of in
      let adapters : net.adapters ≡ length c.adapters = adapters_of in
      elim (nat_lt row n) as (λ b. nat_lt row n ≡ b → uses net row s ≡ cond b (x.device == row) (cond (nat_lt row m) (is_on c (row - n) x.device) (is_under c (row - m) x.device))) [
        | true ↦ λ is.
            let before : row < net.devices = rw devices (ltb-true row n is) in
            uses-device_resource net row s before ∙ ap (λ d. d == row) (device_at s x e)
        | false ↦ λ other.
            let past : n ≤ row = ltb-false row n other in
            elim (nat_lt row m) as (λ b. nat_lt row m ≡ b → uses net row s ≡ cond b (is_on c (row - n) x.device) (is_under c (row - m) x.device)) [
              | true ↦ λ is.
                  let lt = ltb-true row m is in
                  let at : row ≡ adapter_resource net (row - n) = omega arith in
                  let there : row - n < net.adapters = omega arith in
                  ap (λ r. uses net r s) at ∙ uses-adapter_resource net (row - n) s device there ∙ on_adapter_test (row - n) s x inside e
              | false ↦ λ other.
                  let beyond : m ≤ row = ltb-false row m other in
                  let at : row ≡ link_resource net (row - m) = omega arith in
                  ap (λ r. uses net r s) at ∙ uses-link_resource net (row - m) s device (on_adapter (net.device s) config device) ∙ under_link_test (row - m) s x inside e
            ] refl
      ] refl

  module _ (config : IsConfig c) (is : IsFilled c rounds stays caps max_price) where
    fits : (s : ℕ) (x : StayRow) → slice_get stays s ≡ Some x → IsFitting c rounds x
    fits s x e = at_element (IsFitting c rounds) stays s x is.each e

    -- no row has more stays in a round than its cap
    rows_hold : (row r : ℕ) → row < rows net → 1 ≤ r → r ≤ net.rounds → load net (live_of_rows (net_with c commands rounds stays caps max_price)) row r ≤ net.cap row r
    rows_hold row r within first last =
        let live : ℕ → ℕ = live_of_rows (net_with c commands rounds stays caps max_price) in
        let inside : row < resource_count c = rw rows_of at within in
        let there : count_below (length stays) (λ s. uses net row s && (live s == r)) ≡ count_by (λ (x : StayRow). carries c row x.device && (x.live == r)) stays =
        count_list (λ (x : StayRow). carries c row x.device && (x.live == r)) (λ s. uses net row s && (live s == r)) stays (λ s x e. ap (λ b. b && (live s == r)) (uses-carries row s x config (fits s x e).device inside e) ∙ ap (λ n. carries c row x.device && (n == r)) (live_at s x e)) in
        let held = is.held row r inside first (rw rounds_of at last) in
        rw (cap_of row r inside first (rw rounds_of at last), stays_of) (omega arith)

    pub filled_admissible : IsAdmissible net (live_of_rows (net_with c commands rounds stays caps max_price))
    filled_admissible = record {
      not_early = λ s lt. let x = stay_of s lt in rw (arrival-row (net_with c commands rounds stays caps max_price) s x.0 x.1, live_at s x.0 x.1) (fits s x.0 x.1).arrived;
      not_late = λ s lt. let x = stay_of s lt in rw (last-row (net_with c commands rounds stays caps max_price) s x.0 x.1, live_at s x.0 x.1) (fits s x.0 x.1).within;
      rows_hold = rows_hold;
    }

    small_caps : (row r : ℕ) → net.cap row r ≤ MAX_CAP
    unfolding instance_of_rows
    small_caps row r = small_at (table (resource_count c) rounds caps) (cell rounds row r) MAX_CAP (All-table (λ n. n ≤ MAX_CAP) (resource_count c) rounds caps is.some_rounds is.small_cap)

    -- an adapter that is on a link is on one of the net
    on_link : (a l : ℕ) → net.link_of a ≡ Some l → l < length c.links
    on_link a l on = elim (slice_get c.adapters a) as (λ o. slice_get c.adapters a ≡ o → option_and_then (λ (adapter : Adapter). adapter.link) o ≡ Some l → l < length c.links) [
      | None ↦ λ e h. absurd cc
      | Some adapter ↦ λ e h.
          let there = at_element (λ (x : Adapter). names_link (length c.links) x.link ≡ true) c.adapters a adapter (adapters_on_links c config) e in
          let named : nat_lt l (length c.links) ≡ true = rw h at there in
          ltb-true l (length c.links) named
    ] refl (rw link_of_adapter at on)

    links_of : net.links ≡ length c.links
    unfolding instance_of_rows
    links_of = refl

    few_rows : rows net ≤ MAX_DEVICES + MAX_ADAPTERS + MAX_LINKS
    few_rows = omega (arith, rows_of, few_devices c config, few_adapters c config, few_links c config)

    price_of : net.max_price ≡ max_price
    unfolding instance_of_rows
    price_of = refl

    price_room : 4 * longest_path net ≤ net.max_price
    unfolding longest_path
    price_room =
        let cells : rows net * (rounds + 1) ≤ (MAX_DEVICES + MAX_ADAPTERS + MAX_LINKS) * (rounds + 1) = mul-le (rows net) (rounds + 1) (MAX_DEVICES + MAX_ADAPTERS + MAX_LINKS) (rounds + 1) few_rows (omega arith) in
        let path : MAX_WEIGHT * rounds * (rows net * (rounds + 1) + 1) ≤ MAX_WEIGHT * rounds * ((MAX_DEVICES + MAX_ADAPTERS + MAX_LINKS) * (rounds + 1) + 1) =
        mul-le (MAX_WEIGHT * rounds) (rows net * (rounds + 1) + 1) (MAX_WEIGHT * rounds) ((MAX_DEVICES + MAX_ADAPTERS + MAX_LINKS) * (rounds + 1) + 1) (omega arith) (omega (arith, cells)) in
        let small = is.price_room in
        rw (rounds_of, price_of) (omega (arith, path, small))

    pub filled_sound : IsSound net (live_of_rows (net_with c commands rounds stays caps max_price))
    filled_sound = record {
      some_rounds = rw rounds_of is.some_rounds;
      few_rounds = rw rounds_of is.few_rounds;
      few_stays = rw stays_of is.few_stays;
      few_devices = rw devices_of (few_devices c config);
      few_adapters = rw adapters_of (few_adapters c config);
      few_links = rw links_of (few_links c config);
      on_device = λ s lt. let x = stay_of s lt in rw (device_at s x.0 x.1, devices_of) (fits s x.0 x.1).device;
      on_adapter = λ d lt. on_adapter d config lt;
      on_link = λ a l on. rw links_of (on_link a l on);
      from_first = λ s lt. let x = stay_of s lt in rw (arrival-row (net_with c commands rounds stays caps max_price) s x.0 x.1) (fits s x.0 x.1).first;
      to_last = λ s lt. let x = stay_of s lt in rw (last-row (net_with c commands rounds stays caps max_price) s x.0 x.1, rounds_of) (fits s x.0 x.1).last;
      some_weight = λ s lt. let x = stay_of s lt in rw (weight-row (net_with c commands rounds stays caps max_price) s x.0 x.1) (fits s x.0 x.1).some_weight;
      small_weight = λ s lt. let x = stay_of s lt in rw (weight-row (net_with c commands rounds stays caps max_price) s x.0 x.1) (fits s x.0 x.1).small_weight;
      small_cap = small_caps;
      small_price = rw price_of is.small_price;
      price_room = price_room;
      live_admissible = filled_admissible;
    }

    pub filled_net : IsNet (net_with c commands rounds stays caps max_price)
    filled_net = record { cells = length-cells rounds caps (resource_count c * rounds) ∙ ap (λ n. n * rounds) (sym rows_of); sound = filled_sound }

-- lists that have each part of it are the net
pub net_with-parts : (c' c : Topology) (commands' commands rounds' rounds links : ℕ) (adapter_of : List ℕ) (link_of : List (Option ℕ)) (stays' stays : List StayRow) (caps' : List ℕ) (caps : ℕ → ℕ → ℕ) (max_price : ℕ) → c' ≡ c → commands' ≡ commands → rounds' ≡ rounds → links ≡ length c.links →
    adapter_of ≡ map (λ (device : Device). device.bus) c.devices → link_of ≡ map (λ (adapter : Adapter). adapter.link) c.adapters → stays' ≡ stays → caps' ≡ table (resource_count c) rounds caps →
    ◌≡◌ {A = NetRows} (record { config = c'; commands = commands'; rounds = rounds'; links = links; adapter_of = adapter_of; link_of = link_of; stays = stays'; caps = caps'; max_price = max_price }) (net_with c commands rounds stays caps max_price)
net_with-parts c' c commands' commands rounds' rounds links adapter_of link_of stays' stays caps' caps max_price k n r l a o s is = rw (k, n, r, l, a, o, s, is) refl
