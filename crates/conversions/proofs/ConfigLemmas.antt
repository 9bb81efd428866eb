-- the configuration of a recording's script keeps the rules
use Rattle.std.proofs.Common.{◌≡◌, ℕ, zero, suc, ◌+◌, ◌<◌, ◌≤◌, true, false, cond, max, List, [], ◌∷◌, ◌++◌, length, map, fold, refl, sym, ap, ◌∙◌, arith, length-append, zero-add, Option, Some, None, not, ◌==◌, ◌||◌, nat_lt, nat_le, count_by}
use Rattle.std.specs.List.{list_all, list_any, range_with_len}
use Rattle.std.specs.Option.{option_or}
use Rattle.std.proofs.lemmas.Bool.{and_parts, and_from, lt-ltb, le-leb, ltb-false}
use Rattle.std.proofs.lemmas.Bool.Decides.{nat_tests}
use Rattle.std.proofs.lemmas.List.{length-map, map-append}
use Rattle.std.proofs.lemmas.List.Sums.{list_all-from_AllPass, sum_by-cons}
use Rattle.cam_types.specs.Lists.{first_answer, prefixed, prefixed_after}
use Rattle.cam_types.specs.Topology.{IsConfig, IsPartial, are_openings, is_same_address, names_link, openings_fault, link_fault, adapter_fault, address_fault, device_fault, lane_fault, lack, config_fault}
use Rattle.cam_types.specs.declared.adapter.Adapter.{Adapter}
use Rattle.cam_types.specs.declared.config_fault.ConfigFault.{ConfigFault}
use Rattle.cam_types.specs.declared.config_fault.ConfigFault.TheVariants.{TooMany, BadOpenings}
use Rattle.cam_types.specs.declared.device.Device.{Device}
use Rattle.cam_types.specs.declared.limits.TheConstants.{MAX_ADAPTERS, MAX_DEVICES, MAX_LINKS, MAX_OPENINGS}
use Rattle.cam_types.proofs.ConfigLemmas.{weight_items, reaches, some_adapter, few_links, few_adapters, adapters_on_links, device_items}
use Rattle.cam_types.proofs.ListLemmas.{or_left, or_right, prefixed_after-push}
use Rattle.cam_types.proofs.TopologyLemmas.{config_fault-partial}
use Rattle.event_rules.proofs.ListFacts.{length-prefixed_after, range_with_len-push}
use Rattle.recording_file.specs.Caps.{cap_in}
use Rattle.recording_file.specs.Recorded.{Recorded}
use Rattle.recording_file.specs.declared.part.Part.{Part}
use Rattle.conversions.proofs.GreatestLemmas.{as_many}
use Rattle.conversions.specs.Faults.{ScriptFault}
use Rattle.conversions.specs.declared.fault.ScriptFault.TheVariants as fault
use Rattle.conversions.specs.RecordingScript as recorded
use Rattle.conversions.specs.RecordingScript.{greatest, link_at, adapter_at, device_at, config_of, too_many}

-- ---- openings that are within their range

fold_max : (a : ℕ) (xs : List ℕ) → a ≤ fold max a xs
fold_max a [] = omega arith
fold_max a (x ∷ xs) = omega (arith, fold_max (max a x) xs)

greatest_some : (r : Recorded) (p : Part) → nat_lt 0 (greatest r p) ≡ true
unfolding greatest
greatest_some r p = lt-ltb 0 _ (omega (arith, fold_max 1 (map (cap_in r.config r.caps p) (range_with_len 1 r.rounds))))

within_one : (n : ℕ) (named : ℕ → ℕ → ScriptFault) (at : ℕ) → nat_lt 0 n ≡ true → too_many named at n ≡ None → are_openings n ≡ true
within_one n named at some none = elim (nat_lt MAX_OPENINGS n) as (λ b. nat_lt MAX_OPENINGS n ≡ b → ◌≡◌ {A = Option ScriptFault} (cond b (Some (named at n)) None) None → are_openings n ≡ true) [
  | true ↦ λ is e. absurd (cc)
  | false ↦ λ is e. and_from _ _ some (le-leb n MAX_OPENINGS (ltb-false MAX_OPENINGS n is))
] refl none

within : {X : Type 0} (size : X → ℕ) (named : ℕ → ℕ → ScriptFault) (before xs : List X) → list_all (λ x. nat_lt 0 (size x)) xs ≡ true → first_answer (λ (m : List X × X). too_many named (length m.0) (size m.1)) (prefixed_after before xs) ≡ None →
    list_all (λ x. are_openings (size x)) xs ≡ true
within size named before [] some none = refl
within size named before (x ∷ xs) some none =
    let s = and_parts (nat_lt 0 (size x)) (list_all (λ y. nat_lt 0 (size y)) xs) some in
    and_from _ _ (within_one (size x) named (length before) s.0 (or_left (too_many named (length before) (size x)) _ none)) (within size named (before ++ x ∷ []) xs s.1 (or_right (too_many named (length before) (size x)) _ none))

-- ---- links, adapters and devices

openings_none : (most before n : ℕ) → before < most → are_openings n ≡ true → openings_fault most before n ≡ None
openings_none most before n lt ok =
    let room : nat_le most before ≡ false = grind (arith, nat_tests) in
    rw (room, ok) refl

links_kept : (before xs : List ℕ) → length before + length xs ≤ MAX_LINKS → list_all are_openings xs ≡ true → first_answer link_fault (prefixed_after before xs) ≡ None
unfolding link_fault
links_kept before [] few ok = refl
links_kept before (x ∷ xs) few ok =
    let parts = and_parts (are_openings x) (list_all are_openings xs) ok in
    rw (openings_none MAX_LINKS (length before) x (omega arith) parts.0) (links_kept (before ++ x ∷ []) xs (omega (arith, length-append before (x ∷ []))) parts.1)

adapters_kept : (n : ℕ) (before xs : List Adapter) → length before + length xs ≤ MAX_ADAPTERS → list_all (λ (x : Adapter). are_openings x.openings) xs ≡ true → list_all (λ (x : Adapter). names_link n x.link) xs ≡ true →
    first_answer (adapter_fault n) (prefixed_after before xs) ≡ None
unfolding adapter_fault
adapters_kept n before [] few ok on = refl
adapters_kept n before (x ∷ xs) few ok on =
    let parts = and_parts (are_openings x.openings) (list_all (λ (y : Adapter). are_openings y.openings) xs) ok in
    let links = and_parts (names_link n x.link) (list_all (λ (y : Adapter). names_link n y.link) xs) on in
    rw (openings_none MAX_ADAPTERS (length before) x.openings (omega arith) parts.0, links.0) (adapters_kept n (before ++ x ∷ []) xs (omega (arith, length-append before (x ∷ []))) parts.1 links.1)

same_links : (r : Recorded) (n : ℕ) (before xs : List Adapter) → list_all (λ (x : Adapter). names_link n x.link) xs ≡ true → list_all (λ (x : Adapter). names_link n x.link) (map (adapter_at r) (prefixed_after before xs)) ≡ true
same_links r n before [] h = refl
same_links r n before (x ∷ xs) h =
    let parts = and_parts (names_link n x.link) (list_all (λ (y : Adapter). names_link n y.link) xs) h in
    and_from _ _ parts.0 (same_links r n (before ++ x ∷ []) xs parts.1)

same_addresses : (r : Recorded) (d : Device) (before xs : List Device) → list_any (is_same_address d) (map (device_at r) (prefixed_after before xs)) ≡ list_any (is_same_address d) xs
same_addresses r d before [] = refl
same_addresses r d before (x ∷ xs) = ap (λ b. is_same_address d x || b) (same_addresses r d (before ++ x ∷ []) xs)

-- a device's address is as good as it was
address_kept : (r : Recorded) (n : ℕ) (before : List Device) (d : Device) → address_fault n (before, d) ≡ None → address_fault n (map (device_at r) (prefixed_after [] before), device_at r (before, d)) ≡ None
unfolding address_fault
address_kept r n before d h = rw (same_addresses r (device_at r (before, d)) [] before) h

device_kept : (r : Recorded) (n : ℕ) (before : List Device) (d : Device) → device_fault n (before, d) ≡ None → are_openings (device_at r (before, d)).openings ≡ true → device_fault n (map (device_at r) (prefixed_after [] before), device_at r (before, d)) ≡ None
unfolding device_fault
device_kept r n before d h ok =
    let len : length (map (device_at r) (prefixed_after [] before)) ≡ length before = length-map (prefixed_after [] before) (device_at r) ∙ length-prefixed_after [] before in
    rw (len, ok) (elim (nat_le MAX_DEVICES (length before)) as (λ b. ◌≡◌ {A = Option ConfigFault} (cond b (Some TooMany) (cond (not (are_openings d.openings)) (Some BadOpenings) (address_fault n (before, d)))) None → ◌≡◌ {A = Option ConfigFault} (cond b (Some TooMany) (address_fault n (map (device_at r) (prefixed_after [] before), device_at r (before, d)))) None) [
      | true ↦ λ e. absurd (cc)
      | false ↦ λ e. address_kept r n before d (elim (not (are_openings d.openings)) as (λ b. ◌≡◌ {A = Option ConfigFault} (cond b (Some BadOpenings) (address_fault n (before, d))) None → address_fault n (before, d) ≡ None) [
        | true ↦ λ f. absurd (cc)
        | false ↦ λ f. f
      ] e)
    ] h)

devices_kept : (r : Recorded) (n : ℕ) (before xs : List Device) → first_answer (device_fault n) (prefixed_after before xs) ≡ None → list_all (λ (x : Device). are_openings x.openings) (map (device_at r) (prefixed_after before xs)) ≡ true →
    first_answer (device_fault n) (prefixed_after (map (device_at r) (prefixed_after [] before)) (map (device_at r) (prefixed_after before xs))) ≡ None
devices_kept r n before [] h ok = refl
devices_kept r n before (x ∷ xs) h ok =
    let parts = and_parts (are_openings (device_at r (before, x)).openings) (list_all (λ (y : Device). are_openings y.openings) (map (device_at r) (prefixed_after (before ++ x ∷ []) xs))) ok in
    let more : map (device_at r) (prefixed_after [] before) ++ device_at r (before, x) ∷ [] ≡ map (device_at r) (prefixed_after [] (before ++ x ∷ [])) =
    sym (ap (map (device_at r)) (prefixed_after-push [] before x) ∙ map-append (device_at r) (prefixed_after [] before) ((before, x) ∷ [])) in
    rw (device_kept r n before x (or_left (device_fault n (before, x)) _ h) parts.0, more) (devices_kept r n (before ++ x ∷ []) xs (or_right (device_fault n (before, x)) _ h) parts.1)

-- ---- lanes

none_before : (a n k : ℕ) → a + n ≤ k → count_by (λ x. x == k) (range_with_len a n) ≡ 0
none_before a zero k le = refl
none_before a (suc n) k le =
    let other : (a == k) ≡ false = grind (arith, nat_tests) in
    omega (arith, sum_by-cons (λ x. cond {A = ℕ} (x == k) 1 0) a (range_with_len (a + 1) n), ap (λ b. cond {A = ℕ} b 1 0) other, none_before (a + 1) n k (omega arith))

lanes_kept : (n k m : ℕ) → k + m ≤ n → first_answer (lane_fault n) (prefixed_after (range_with_len 0 k) (range_with_len k m)) ≡ None
unfolding lane_fault
lanes_kept n k zero le = refl
lanes_kept n k (suc m) le =
    let there : nat_le n k ≡ false = grind (arith, nat_tests) in
    let more : range_with_len 0 k ++ k ∷ [] ≡ range_with_len 0 (k + 1) = ap (λ x. range_with_len 0 k ++ x ∷ []) (sym (zero-add k)) ∙ sym (range_with_len-push 0 k) in
    rw (none_before 0 k k (omega arith), there, more) (lanes_kept n (k + 1) m (omega arith))

-- ---- all of it

module _ (r : Recorded) (config : IsConfig r.config) (none : recorded.openings_fault (config_of r) ≡ None) where
  links_some : (before xs : List ℕ) → list_all (λ x. nat_lt 0 x) (map (link_at r) (prefixed_after before xs)) ≡ true
  links_some before [] = refl
  links_some before (x ∷ xs) = and_from _ _ (greatest_some r _) (links_some (before ++ x ∷ []) xs)

  adapters_some : (before xs : List Adapter) → list_all (λ (x : Adapter). nat_lt 0 x.openings) (map (adapter_at r) (prefixed_after before xs)) ≡ true
  adapters_some before [] = refl
  adapters_some before (x ∷ xs) = and_from _ _ (greatest_some r _) (adapters_some (before ++ x ∷ []) xs)

  devices_some : (before xs : List Device) → list_all (λ (x : Device). nat_lt 0 x.openings) (map (device_at r) (prefixed_after before xs)) ≡ true
  devices_some before [] = refl
  devices_some before (x ∷ xs) = and_from _ _ (greatest_some r _) (devices_some (before ++ x ∷ []) xs)

  links_all : list_all are_openings (config_of r).links ≡ true
  unfolding recorded.openings_fault config_of
  links_all = within (λ n. n) fault.Link [] (map (link_at r) (prefixed r.config.links)) (links_some [] r.config.links) (or_right _ _ (or_right _ _ none))

  adapters_all : list_all (λ (x : Adapter). are_openings x.openings) (config_of r).adapters ≡ true
  unfolding recorded.openings_fault config_of
  adapters_all = within (λ (x : Adapter). x.openings) fault.Adapter [] (map (adapter_at r) (prefixed r.config.adapters)) (adapters_some [] r.config.adapters) (or_left _ (first_answer recorded.link_fault (prefixed (map (link_at r) (prefixed r.config.links)))) (or_right _ _ none))

  devices_all : list_all (λ (x : Device). are_openings x.openings) (config_of r).devices ≡ true
  unfolding recorded.openings_fault config_of
  devices_all = within (λ (x : Device). x.openings) fault.Device [] (map (device_at r) (prefixed r.config.devices)) (devices_some [] r.config.devices) (or_left _ (option_or (first_answer recorded.adapter_fault (prefixed (map (adapter_at r) (prefixed r.config.adapters)))) (first_answer recorded.link_fault (prefixed (map (link_at r) (prefixed r.config.links))))) none)

  partial : IsPartial (config_of r)
  unfolding config_of
  partial =
      let links = as_many r (link_at r) r.config.links in
      let adapters = as_many r (adapter_at r) r.config.adapters in
      record {
        weights = weight_items r.config config;
        links = links_kept [] (map (link_at r) (prefixed r.config.links)) (omega (arith, links, few_links r.config config)) links_all;
        adapters = rw links (adapters_kept (length r.config.links) [] (map (adapter_at r) (prefixed r.config.adapters)) (omega (arith, adapters, few_adapters r.config config)) adapters_all
            (same_links r (length r.config.links) [] r.config.adapters (list_all-from_AllPass (λ (x : Adapter). names_link (length r.config.links) x.link) r.config.adapters (adapters_on_links r.config config))));
        devices = rw adapters (devices_kept r (length r.config.adapters) [] r.config.devices (device_items r.config config) devices_all);
        lanes = rw adapters (lanes_kept (length r.config.adapters) 0 (length r.config.adapters) (omega arith));
      }

  nothing_lacks : lack (config_of r).weights (length (config_of r).adapters) ≡ None
  unfolding config_of
  nothing_lacks = rw (reaches r.config config, as_many r (adapter_at r) r.config.adapters, some_adapter r.config config) refl

  pub config_kept : config_fault (config_of r) ≡ None
  config_kept = config_fault-partial (config_of r) partial ∙ nothing_lacks
