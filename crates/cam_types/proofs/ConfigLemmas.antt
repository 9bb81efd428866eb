-- what the rules of a configuration say of its items
use Rattle.std.proofs.Common.{◌≡◌, ℕ, ◌<◌, ◌≤◌, Bool, true, false, cond, List, [], ◌∷◌, ◌++◌, length, get_or, refl, ap, arith, Option, Some, None, inl, inr, not, ◌==◌, nat_le, find, All}
use Rattle.std.specs.Option.{option_or, option_map_or}
use Rattle.std.proofs.lemmas.Bool.Decides.{nat_tests}
use Rattle.std.proofs.lemmas.Option.{slice_get_cases, slice_get-get_or}
use Rattle.std.proofs.lemmas.List.Elements.{All-nil, All-cons}
use Rattle.cam_types.specs.Lists.{prefixed, prefixed_after, first_answer}
use Rattle.cam_types.specs.Questions.{device_adapter, weight}
use Rattle.cam_types.specs.Topology.{Topology, IsConfig, are_openings, openings_fault, names_link, link_fault, adapter_fault, address_fault, device_fault, lane_fault, weight_lack, adapter_lack, unit_fault, NoAdapters, TooMany, BadOpenings, NoAdapter, BadWeight, NoLink, MAX_LINKS, MAX_ADAPTERS, MAX_DEVICES, MAX_OPENINGS, MAX_WEIGHT, MAX_WEIGHT_ROWS, Adapter, Device}
use Rattle.cam_types.specs.Weights.{reaches_last, weight_fault, weight_in, WeightRow}
use Rattle.cam_types.proofs.ListLemmas.{few_where_none, or_left, or_right}
use Rattle.cam_types.proofs.TopologyLemmas.{few_rows}

not_taken : {F : Type 0} → (b : Bool) (x : F) (o : Option F) → cond b (Some x) o ≡ None → (b ≡ false) × (o ≡ None)
not_taken true x o e = absurd cc
not_taken false x o e = (refl, e)

not_least : (a b : ℕ) → nat_le a b ≡ false → b < a
not_least a b e = grind (arith, nat_tests)

small_openings : (n : ℕ) → not (are_openings n) ≡ false → n ≤ MAX_OPENINGS
small_openings n e = grind (arith, nat_tests)

-- where no item has a fault, what the lack of one says holds of each
each_where_none : {X F : Type 0} → (f : List X × X → Option F) (P : X → Type 0) → ((before : List X) (x : X) → f (before, x) ≡ None → P x) → (before xs : List X) → first_answer f (prefixed_after before xs) ≡ None → All P xs
each_where_none f P h before [] none = All-nil P
each_where_none f P h before (x ∷ xs) none =
    All-cons P x xs (h before x (or_left (f (before, x)) _ none)) (each_where_none f P h (before ++ x ∷ []) xs (or_right (f (before, x)) _ none))

-- no weight's row, nothing that is lacking, and no link, adapter, device or lane breaks a rule
pub weight_items : (t : Topology) → IsConfig t → first_answer weight_fault (prefixed t.weights) ≡ None
weight_items t is = or_left _ _ is.kept

pub few_weights : (t : Topology) → IsConfig t → length t.weights ≤ MAX_WEIGHT_ROWS
few_weights t is = few_rows t.weights (weight_items t is)

-- so the table reaches the last priority, and there is an adapter
pub reaches : (t : Topology) → IsConfig t → reaches_last t.weights ≡ true
reaches t is = by (reaches_last t.weights) (or_left (weight_lack t.weights) _ (or_right _ _ is.kept))
  where
    by : (b : Bool) → cond b None (Some BadWeight) ≡ None → b ≡ true
    by true e = refl
    by false e = absurd cc

behind_weights : (t : Topology) → IsConfig t → option_or (first_answer link_fault (prefixed t.links)) (option_or (adapter_lack (length t.adapters)) (option_or (first_answer (adapter_fault (length t.links)) (prefixed t.adapters)) (unit_fault (length t.adapters) t.devices t.lanes))) ≡ None
behind_weights t is = or_right (weight_lack t.weights) _ (or_right _ _ is.kept)

pub link_items : (t : Topology) → IsConfig t → first_answer link_fault (prefixed t.links) ≡ None
link_items t is = or_left _ _ (behind_weights t is)

pub some_adapter : (t : Topology) → IsConfig t → (length t.adapters == 0) ≡ false
some_adapter t is = (not_taken (length t.adapters == 0) NoAdapters None (or_left (adapter_lack (length t.adapters)) _ (or_right _ _ (behind_weights t is)))).0

behind_lack : (t : Topology) → IsConfig t → option_or (first_answer (adapter_fault (length t.links)) (prefixed t.adapters)) (unit_fault (length t.adapters) t.devices t.lanes) ≡ None
behind_lack t is = or_right (adapter_lack (length t.adapters)) _ (or_right _ _ (behind_weights t is))

pub adapter_items : (t : Topology) → IsConfig t → first_answer (adapter_fault (length t.links)) (prefixed_after [] t.adapters) ≡ None
adapter_items t is = or_left _ _ (behind_lack t is)

pub device_items : (t : Topology) → IsConfig t → first_answer (device_fault (length t.adapters)) (prefixed_after [] t.devices) ≡ None
unfolding unit_fault
device_items t is = or_left _ _ (or_right _ _ (behind_lack t is))

pub lane_items : (t : Topology) → IsConfig t → first_answer (lane_fault (length t.adapters)) (prefixed t.lanes) ≡ None
unfolding unit_fault
lane_items t is = or_right _ _ (or_right _ _ (behind_lack t is))

-- there is room for an item of that many openings after those before it, and it hasn't too many
openings_room : (most before n : ℕ) → openings_fault most before n ≡ None → (before < most) × (n ≤ MAX_OPENINGS)
openings_room most before n none =
    let room = not_taken (nat_le most before) TooMany _ none in
    (not_least most before room.0, small_openings n (not_taken (not (are_openings n)) BadOpenings _ room.1).0)

link_room : (before : List ℕ) (n : ℕ) → link_fault (before, n) ≡ None → (length before < MAX_LINKS) × (n ≤ MAX_OPENINGS)
unfolding link_fault
link_room before n none = openings_room MAX_LINKS (length before) n none

pub few_in_partial : (links : List ℕ) → first_answer link_fault (prefixed links) ≡ None → length links ≤ MAX_LINKS
few_in_partial links none = few_where_none link_fault MAX_LINKS (λ before n none'. (link_room before n none').0) links none

pub few_links : (t : Topology) → IsConfig t → length t.links ≤ MAX_LINKS
few_links t is = few_in_partial t.links (link_items t is)

adapter_room : (links : ℕ) (before : List Adapter) (x : Adapter) → adapter_fault links (before, x) ≡ None → (length before < MAX_ADAPTERS) × (x.openings ≤ MAX_OPENINGS)
unfolding adapter_fault
adapter_room links before x none = openings_room MAX_ADAPTERS (length before) x.openings (or_left _ _ none)

pub few_adapters : (t : Topology) → IsConfig t → length t.adapters ≤ MAX_ADAPTERS
few_adapters t is = few_where_none (adapter_fault (length t.links)) MAX_ADAPTERS (λ before x none. (adapter_room (length t.links) before x none).0) t.adapters (adapter_items t is)

-- no link, no adapter, and no device, has too many openings
pub small_links : (t : Topology) → IsConfig t → All (λ n. n ≤ MAX_OPENINGS) t.links
small_links t is = each_where_none link_fault (λ n. n ≤ MAX_OPENINGS) (λ before n none. (link_room before n none).1) [] t.links (link_items t is)

pub small_adapters : (t : Topology) → IsConfig t → All (λ (x : Adapter). x.openings ≤ MAX_OPENINGS) t.adapters
small_adapters t is = each_where_none (adapter_fault (length t.links)) (λ (x : Adapter). x.openings ≤ MAX_OPENINGS) (λ before x none. (adapter_room (length t.links) before x none).1) [] t.adapters (adapter_items t is)

-- each adapter is on no link, or on one that is there
link_there : (links : ℕ) (before : List Adapter) (x : Adapter) → adapter_fault links (before, x) ≡ None → names_link links x.link ≡ true
unfolding adapter_fault
link_there links before x none = by (names_link links x.link) (or_right (openings_fault MAX_ADAPTERS (length before) x.openings) _ none)
  where
    by : (b : Bool) → cond b None (Some NoLink) ≡ None → b ≡ true
    by true e = refl
    by false e = absurd cc

pub adapters_on_links : (t : Topology) → IsConfig t → All (λ (x : Adapter). names_link (length t.links) x.link ≡ true) t.adapters
adapters_on_links t is = each_where_none (adapter_fault (length t.links)) (λ (x : Adapter). names_link (length t.links) x.link ≡ true) (λ before x none. link_there (length t.links) before x none) [] t.adapters (adapter_items t is)

device_room : (adapters : ℕ) (before : List Device) (d : Device) → device_fault adapters (before, d) ≡ None → length before < MAX_DEVICES
unfolding device_fault
device_room adapters before d none = not_least MAX_DEVICES (length before) (not_taken (nat_le MAX_DEVICES (length before)) TooMany _ none).0

pub few_devices : (t : Topology) → IsConfig t → length t.devices ≤ MAX_DEVICES
few_devices t is = few_where_none (device_fault (length t.adapters)) MAX_DEVICES (device_room (length t.adapters)) t.devices (device_items t is)

device_parts : (adapters : ℕ) (before : List Device) (d : Device) → device_fault adapters (before, d) ≡ None → (not (are_openings d.openings) ≡ false) × (address_fault adapters (before, d) ≡ None)
unfolding device_fault
device_parts adapters before d none =
    not_taken (not (are_openings d.openings)) BadOpenings _ (not_taken (nat_le MAX_DEVICES (length before)) TooMany _ none).1

pub small_devices : (t : Topology) → IsConfig t → All (λ (d : Device). d.openings ≤ MAX_OPENINGS) t.devices
small_devices t is = each_where_none (device_fault (length t.adapters)) (λ (d : Device). d.openings ≤ MAX_OPENINGS)
    (λ before d none. small_openings d.openings (device_parts (length t.adapters) before d none).0) [] t.devices (device_items t is)

on_adapter : (adapters : ℕ) (before : List Device) (d : Device) → address_fault adapters (before, d) ≡ None → d.bus < adapters
unfolding address_fault
on_adapter adapters before d none = not_least adapters d.bus (not_taken (nat_le adapters d.bus) NoAdapter _ none).0

-- each device is on an adapter
pub devices_on_adapters : (t : Topology) → IsConfig t → All (λ (d : Device). d.bus < length t.adapters) t.devices
devices_on_adapters t is = each_where_none (device_fault (length t.adapters)) (λ (d : Device). d.bus < length t.adapters)
    (λ before d none. on_adapter (length t.adapters) before d (device_parts (length t.adapters) before d none).1) [] t.devices (device_items t is)

-- so the adapter of a device is there
pub bus-there : (c : Topology) (d : ℕ) → IsConfig c → d < length c.devices → device_adapter c d < length c.adapters
bus-there c d is lt = elim (slice_get_cases c.devices d).1 [
  | inl w ↦
      let own : device_adapter c d ≡ (get_or c.devices d w.0).bus = ap (λ o. option_map_or (λ (x : Device). x.bus) o 0) (slice_get-get_or c.devices d w.0 lt) in
      omega (arith, own, devices_on_adapters c is d w.0 lt)
  | inr v ↦ absurd (omega (arith, v.0))
]

-- ---- weights

abbrev IsSmall : ℕ → Type 0
IsSmall n = (1 ≤ n) × (n ≤ MAX_WEIGHT)

small_row : (before : List WeightRow) (row : WeightRow) → weight_fault (before, row) ≡ None → IsSmall row.weight
unfolding weight_fault
small_row before row none = grind (arith, nat_tests)

small_weight : (rows before : List WeightRow) (priority : ℕ) → first_answer weight_fault (prefixed_after before rows) ≡ None → IsSmall (weight_in rows priority)
small_weight [] before priority none = (omega arith, omega arith)
small_weight (row ∷ rows) before priority none = by (nat_le priority row.last) (small_row before row (or_left _ _ none)) (small_weight rows (before ++ row ∷ []) priority (or_right _ _ none))
  where
    by : (b : Bool) → IsSmall row.weight → IsSmall (weight_in rows priority)
        → IsSmall (option_map_or (λ (r : WeightRow). r.weight) (cond b (Some row) (find (λ (r : WeightRow). nat_le priority r.last) rows)) 1)
    by true here rest = here
    by false here rest = rest

-- what a round of waiting costs is at least 1, and not above the largest weight
pub weight_small : (c : Topology) (priority : ℕ) → IsConfig c → IsSmall (weight c priority)
weight_small c priority is = small_weight c.weights [] priority (weight_items c is)
