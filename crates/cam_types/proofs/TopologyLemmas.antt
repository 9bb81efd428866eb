use Rattle.std.proofs.Common.{◌≡◌, ℕ, ◌<◌, ◌≤◌, List, [], ◌∷◌, ◌++◌, length, map, refl, ap, ◌∙◌, arith, Option, Some, None}
use Rattle.std.proofs.lemmas.List.{length-map, map-append}
use Rattle.std.specs.Option.{option_or}
use Rattle.std.proofs.lemmas.Bool.Decides.{nat_tests}
use Rattle.cam_types.specs.Lists.{first_answer, prefixed, prefixed_after}
use Rattle.cam_types.specs.Topology.{Topology, IsPartial, unlinked, openings_fault, link_fault, adapter_fault, device_fault, lane_fault, weight_lack, adapter_lack, lack, unit_fault, config_fault, Adapter, Device, MAX_ADAPTERS, MAX_WEIGHT_ROWS}
use Rattle.cam_types.specs.Weights.{weight_fault, standard_weights, WeightRow}
use Rattle.cam_types.proofs.ListLemmas.{first_answer-push, few_where_none}

-- a partial configuration that lacks nothing breaks no rule, and otherwise what it lacks is the first rule that it breaks
pub config_fault-partial : (t : Topology) → IsPartial t → config_fault t ≡ lack t.weights (length t.adapters)
unfolding unit_fault
config_fault-partial t d = rw (d.weights, d.links, d.adapters, d.devices, d.lanes) (or_none (weight_lack t.weights) (adapter_lack (length t.adapters)))
  where
    or_none : {F : Type 0} (o p : Option F) → option_or o (option_or None (option_or p (option_or None (option_or None None)))) ≡ option_or o p
    or_none None None = refl
    or_none None (Some x) = refl
    or_none (Some x) p = refl

-- the standard table breaks no rule
pub standard_faultless : first_answer weight_fault (prefixed standard_weights) ≡ None
unfolding weight_fault
standard_faultless = refl

pub standard_partial : IsPartial (record { weights = standard_weights; links = []; adapters = []; devices = []; lanes = [] })
standard_partial = record { weights = standard_faultless; links = refl; adapters = refl; devices = refl; lanes = refl }

-- a table of weights has few rows
row_room : (before : List WeightRow) (x : WeightRow) → weight_fault (before, x) ≡ None → length before < MAX_WEIGHT_ROWS
unfolding weight_fault
row_room before x none = grind (arith, nat_tests)

pub few_rows : (rows : List WeightRow) → first_answer weight_fault (prefixed rows) ≡ None → length rows ≤ MAX_WEIGHT_ROWS
few_rows rows none = few_where_none weight_fault MAX_WEIGHT_ROWS row_room rows none

-- a partial configuration stays one with an item more that breaks no rule
pub partial_weight : (t : Topology) (ws' : List WeightRow) (x : WeightRow) → IsPartial t → weight_fault (t.weights, x) ≡ None → ws' ≡ t.weights ++ x ∷ [] → IsPartial (record t { weights = ws' })
partial_weight t ws' x d none e = rw e (record { weights = first_answer-push weight_fault t.weights x d.weights none; links = d.links; adapters = d.adapters; devices = d.devices; lanes = d.lanes })

pub partial_link : (t : Topology) (ks' : List ℕ) (n : ℕ) → IsPartial t → t.adapters ≡ [] → link_fault (t.links, n) ≡ None → ks' ≡ t.links ++ n ∷ [] → IsPartial (record t { links = ks' })
partial_link t ks' n d no_adapter none e = rw (e, no_adapter) (record { weights = d.weights; links = first_answer-push link_fault t.links n d.links none; adapters = refl; devices = rw no_adapter at d.devices; lanes = rw no_adapter at d.lanes })

pub partial_adapter : (t : Topology) (a' : List Adapter) (x : Adapter) → IsPartial t → t.devices ≡ [] → t.lanes ≡ [] → adapter_fault (length t.links) (t.adapters, x) ≡ None → a' ≡ t.adapters ++ x ∷ [] → IsPartial (record t { adapters = a' })
partial_adapter t a' x d no_device no_lane none e = rw (e, no_device, no_lane) (record { weights = d.weights; links = d.links; adapters = first_answer-push (adapter_fault (length t.links)) t.adapters x d.adapters none; devices = refl; lanes = refl })

pub partial_device : (t : Topology) (ds' : List Device) (x : Device) → IsPartial t → device_fault (length t.adapters) (t.devices, x) ≡ None → ds' ≡ t.devices ++ x ∷ [] → IsPartial (record t { devices = ds' })
partial_device t ds' x d none e = rw e (record { weights = d.weights; links = d.links; adapters = d.adapters; devices = first_answer-push (device_fault (length t.adapters)) t.devices x d.devices none; lanes = d.lanes })

pub partial_lane : (t : Topology) (ls' : List ℕ) (x : ℕ) → IsPartial t → lane_fault (length t.adapters) (t.lanes, x) ≡ None → ls' ≡ t.lanes ++ x ∷ [] → IsPartial (record t { lanes = ls' })
partial_lane t ls' x d none e = rw e (record { weights = d.weights; links = d.links; adapters = d.adapters; devices = d.devices; lanes = first_answer-push (lane_fault (length t.adapters)) t.lanes x d.lanes none })

-- adapters that are on no link break no rule but that of their openings
no_link_fault : (before : List Adapter) (n : ℕ) → adapter_fault 0 (before, unlinked n) ≡ openings_fault MAX_ADAPTERS (length before) n
unfolding adapter_fault
no_link_fault before n = or_none (openings_fault MAX_ADAPTERS (length before) n)
  where
    or_none : {F : Type 0} (o : Option F) → option_or o None ≡ o
    or_none None = refl
    or_none (Some x) = refl

unlinked_from : (before xs : List ℕ) → first_answer (adapter_fault 0) (prefixed_after (map unlinked before) (map unlinked xs)) ≡ first_answer (λ (m : List ℕ × ℕ). openings_fault MAX_ADAPTERS (length m.0) m.1) (prefixed_after before xs)
unlinked_from before [] = refl
unlinked_from before (x ∷ xs) =
    let here : adapter_fault 0 (map unlinked before, unlinked x) ≡ openings_fault MAX_ADAPTERS (length before) x = no_link_fault (map unlinked before) x ∙ ap (λ n. openings_fault MAX_ADAPTERS n x) (length-map before unlinked) in
    let rest = unlinked_from (before ++ x ∷ []) xs in
    rw here (ap (option_or (openings_fault MAX_ADAPTERS (length before) x)) (rw (map-append unlinked before (x ∷ [])) at rest))

pub unlinked_faults : (xs : List ℕ) → first_answer (adapter_fault 0) (prefixed (map unlinked xs)) ≡ first_answer (λ (m : List ℕ × ℕ). openings_fault MAX_ADAPTERS (length m.0) m.1) (prefixed xs)
unlinked_faults xs = unlinked_from [] xs

-- seven answers in a row, from the left and from the right
pub or_in_a_row : {F : Type 0} (a b c d e f g : Option F) → option_or (option_or (option_or (option_or (option_or (option_or a b) c) d) e) f) g ≡ option_or a (option_or b (option_or c (option_or d (option_or e (option_or f g)))))
or_in_a_row (Some x) b c d e f g = refl
or_in_a_row None (Some x) c d e f g = refl
or_in_a_row None None (Some x) d e f g = refl
or_in_a_row None None None (Some x) e f g = refl
or_in_a_row None None None None (Some x) f g = refl
or_in_a_row None None None None None f g = refl
