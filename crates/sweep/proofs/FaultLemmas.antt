-- a configuration keeps the rules with other openings
use Rattle.std.proofs.Common.{◌≡◌, ℕ, suc, ◌+◌, ◌<◌, Bool, true, false, cond, not, ◌||◌, List, [], ◌∷◌, ◌++◌, length, get_or, refl, sym, ap, ◌∙◌, arith, Option, Some, None, find, length-append}
use Rattle.std.specs.List.{list_any}
use Rattle.std.specs.Option.{option_or, option_map_or}
use Rattle.std.proofs.lemmas.Bool.{and_parts}
use Rattle.std.proofs.lemmas.List.Folds.{list_any-append}
use Rattle.cam_types.specs.Lists.{prefixed, prefixed_after, first_answer}
use Rattle.cam_types.specs.Topology.{Topology, IsConfig, IsPartial, config_fault, is_same_address, are_openings, names_link, openings_fault, adapter_fault, address_fault, device_fault, lane_fault}
use Rattle.cam_types.specs.declared.adapter.Adapter.{Adapter}
use Rattle.cam_types.specs.declared.device.Device.{Device}
use Rattle.cam_types.specs.declared.config_fault.ConfigFault.TheVariants.{TooMany, BadOpenings}
use Rattle.cam_types.specs.declared.limits.TheConstants.{MAX_ADAPTERS, MAX_DEVICES}
use Rattle.cam_types.specs.declared.config_fault.ConfigFault.{ConfigFault}
use Rattle.cam_types.proofs.ListLemmas.{or_left, or_right}
use Rattle.cam_types.proofs.ConfigLemmas.{weight_items, reaches, link_items, some_adapter, adapter_items, device_items, lane_items}
use Rattle.cam_types.proofs.TopologyLemmas.{config_fault-partial}
use Rattle.sweep.specs.Settings.{Change}
use Rattle.sweep.specs.Changes.{changed_adapters, changed_devices, changed_config, is_of_adapter, is_of_device, openings_by}
use Rattle.sweep.specs.Choices.{are_open}
use Rattle.sweep.proofs.ChangeLemmas.{adapter_at, device_at, length_adapters, length_devices}

abbrev openings_or : Option Change → ℕ → ℕ
openings_or o own = option_map_or (λ (change : Change). change.openings) o own

chosen : (b : Bool) (x : Change) (o : Option Change) (own : ℕ) → are_openings x.openings ≡ true → are_openings (openings_or o own) ≡ true → are_openings (openings_or (cond b (Some x) o) own) ≡ true
chosen true x o own is rest = is
chosen false x o own is rest = rest

-- openings by changes are such as there may be, if the own ones are
openings_valid : (is_of : Change → Bool) (changes : List Change) (own : ℕ) → are_open changes ≡ true → are_openings own ≡ true → are_openings (openings_by is_of changes own) ≡ true
openings_valid is_of [] own all ok = ok
openings_valid is_of (x ∷ xs) own all ok =
    let both = and_parts (are_openings x.openings) (are_open xs) all in
    chosen (is_of x) x (find is_of xs) own both.0 (openings_valid is_of xs own both.1 ok)

-- ---- one adapter or device

open_before : (t b : Bool) (f : Option ConfigFault) → cond t (Some TooMany) (cond (not b) (Some BadOpenings) f) ≡ None → b ≡ true
open_before true b f e = absurd cc
open_before false true f e = refl
open_before false false f e = absurd cc

still_none : (t b b' : Bool) (f : Option ConfigFault) → cond t (Some TooMany) (cond (not b) (Some BadOpenings) f) ≡ None → b' ≡ true → cond t (Some TooMany) (cond (not b') (Some BadOpenings) f) ≡ None
still_none true b b' f e is = e
still_none false true b' f e is = rw is e
still_none false false b' f e is = absurd cc

adapter_still : (links : ℕ) (before before' : List Adapter) (a : Adapter) (openings : ℕ) → length before ≡ length before' → are_openings openings ≡ true →
    adapter_fault links (before, a) ≡ None → adapter_fault links (before', record a { openings = openings }) ≡ None
unfolding adapter_fault
adapter_still links before before' a openings long is none =
    let own : openings_fault MAX_ADAPTERS (length before') a.openings ≡ None = rw long at (or_left (openings_fault MAX_ADAPTERS (length before) a.openings) _ none) in
    let link = or_right (openings_fault MAX_ADAPTERS (length before) a.openings) _ none in
    let new : openings_fault MAX_ADAPTERS (length before') openings ≡ None = still_none _ (are_openings a.openings) (are_openings openings) None own is in
    rw new link

adapter_open : (links : ℕ) (before : List Adapter) (a : Adapter) → adapter_fault links (before, a) ≡ None → are_openings a.openings ≡ true
unfolding adapter_fault
adapter_open links before a none = open_before _ (are_openings a.openings) None (or_left (openings_fault MAX_ADAPTERS (length before) a.openings) _ none)

-- the devices before have the same addresses
abbrev SameAddresses : List Device → List Device → Type 0
SameAddresses xs ys = (d : Device) → list_any (is_same_address d) xs ≡ list_any (is_same_address d) ys

device_still : (adapters : ℕ) (before before' : List Device) (d : Device) (openings : ℕ) → length before ≡ length before' → SameAddresses before before' → are_openings openings ≡ true →
    device_fault adapters (before, d) ≡ None → device_fault adapters (before', record d { openings = openings }) ≡ None
unfolding device_fault address_fault
device_still adapters before before' d openings long same is none =
    still_none _ (are_openings d.openings) (are_openings openings) _ (rw (long, same d) at none) is

device_open : (adapters : ℕ) (before : List Device) (d : Device) → device_fault adapters (before, d) ≡ None → are_openings d.openings ≡ true
unfolding device_fault
device_open adapters before d none = open_before _ (are_openings d.openings) _ none

-- ---- all of them

longer : {X : Type 0} (xs ys : List X) (x y : X) → length xs ≡ length ys → length (xs ++ x ∷ []) ≡ length (ys ++ y ∷ [])
longer xs ys x y e = simp length-append (ap (λ n. n + 1) e)

same_more : (xs ys : List Device) (x : Device) (openings : ℕ) → SameAddresses xs ys → SameAddresses (xs ++ x ∷ []) (ys ++ (record x { openings = openings }) ∷ [])
same_more xs ys x openings same d =
    list_any-append (is_same_address d) xs (x ∷ [])
    ∙ ap (λ b. b || list_any (is_same_address d) (x ∷ [])) (same d)
    ∙ sym (list_any-append (is_same_address d) ys ((record x { openings = openings }) ∷ []))

both_none : {F : Type 0} (o p : Option F) → o ≡ None → p ≡ None → option_or o p ≡ None
both_none o p e f = rw e f

adapters_kept : (links : ℕ) (changes : List Change) (n : ℕ) (before before' xs : List Adapter) → are_open changes ≡ true → length before ≡ length before' →
    first_answer (adapter_fault links) (prefixed_after before xs) ≡ None → first_answer (adapter_fault links) (prefixed_after before' (changed_adapters changes n xs)) ≡ None
unfolding changed_adapters
adapters_kept links changes n before before' [] all long none = refl
adapters_kept links changes n before before' (x ∷ xs) all long none =
    let here = or_left (adapter_fault links (before, x)) _ none in
    let valid = openings_valid (is_of_adapter n) changes x.openings all (adapter_open links before x here) in
    both_none (adapter_fault links (before', adapter_at changes n x)) _
    (adapter_still links before before' x (openings_by (is_of_adapter n) changes x.openings) long valid here)
    (adapters_kept links changes (n + 1) (before ++ x ∷ []) (before' ++ adapter_at changes n x ∷ []) xs all (longer before before' x (adapter_at changes n x) long) (or_right (adapter_fault links (before, x)) _ none))

devices_kept : (adapters : ℕ) (changes : List Change) (n : ℕ) (before before' xs : List Device) → are_open changes ≡ true → length before ≡ length before' → SameAddresses before before' →
    first_answer (device_fault adapters) (prefixed_after before xs) ≡ None → first_answer (device_fault adapters) (prefixed_after before' (changed_devices changes n xs)) ≡ None
unfolding changed_devices
devices_kept adapters changes n before before' [] all long same none = refl
devices_kept adapters changes n before before' (x ∷ xs) all long same none =
    let here = or_left (device_fault adapters (before, x)) _ none in
    let openings = openings_by (is_of_device n) changes x.openings in
    let valid = openings_valid (is_of_device n) changes x.openings all (device_open adapters before x here) in
    both_none (device_fault adapters (before', device_at changes n x)) _
    (device_still adapters before before' x openings long same valid here)
    (devices_kept adapters changes (n + 1) (before ++ x ∷ []) (before' ++ device_at changes n x ∷ []) xs all (longer before before' x (device_at changes n x) long) (same_more before before' x openings same)
    (or_right (device_fault adapters (before, x)) _ none))

-- a configuration keeps the rules with openings such as there may be
pub changed_kept : (c : Topology) (changes : List Change) → IsConfig c → are_open changes ≡ true → config_fault (changed_config c changes) ≡ None
changed_kept c changes config all =
    let partial : IsPartial (changed_config c changes) = record {
      weights = weight_items c config;
      links = link_items c config;
      adapters = adapters_kept (length c.links) changes 0 [] [] c.adapters all refl (adapter_items c config);
      devices = rw (length_adapters changes 0 c.adapters) (devices_kept (length c.adapters) changes 0 [] [] c.devices all refl (λ d. refl) (device_items c config));
      lanes = rw (length_adapters changes 0 c.adapters) (lane_items c config);
    } in
    config_fault-partial (changed_config c changes) partial ∙ rw (reaches c config, length_adapters changes 0 c.adapters, some_adapter c config) refl
