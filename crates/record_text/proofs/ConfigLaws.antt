-- Rows of a configuration: each keeps their order, is spelled as it was parsed, and is parsed as it was spelled.
use Rattle.std.proofs.Common.{◌≡◌, ◌≤◌, ◌==◌, ◌&&◌, ◌||◌, ℕ, List, [], ◌∷◌, ◌++◌, length, map, Bool, true, false, cond, refl, sym, ap, ◌∙◌, subst, arith, append_assoc, append-nil, length-append, Option, Some, None, IfSome, Result, Ok, nat_le, nat_lt}
use Rattle.std.specs.List.{AllByRecursion}
use Rattle.std.proofs.lemmas.Bool.{ltb-false, ne_eqb}
use Rattle.std.proofs.lemmas.List.{map-append}
use Rattle.cam_types.specs.Topology.{Topology, IsConfig, IsPartial, config_fault, link_fault, adapter_fault, device_fault, lane_fault}
use Rattle.cam_types.specs.Weights.{are_standard, reaches_last, weight_fault}
use Rattle.cam_types.specs.declared.adapter.Adapter.{Adapter}
use Rattle.cam_types.specs.declared.device.Device.{Device}
use Rattle.cam_types.specs.declared.weight_row.WeightRow.{WeightRow}
use Rattle.cam_types.specs.declared.limits.TheConstants.{MAX_ADAPTERS, MAX_LINKS}
use Rattle.cam_types.proofs.ConfigLemmas.{adapter_items, device_items, few_adapters, few_links, lane_items, link_items, reaches, some_adapter, weight_items}
use Rattle.cam_types.proofs.TopologyLemmas.{config_fault-partial, partial_weight, partial_link, partial_adapter, partial_device, partial_lane, standard_partial}
use Rattle.cam_types.proofs.WeightLemmas.{standard_is}
use Rattle.record_text.specs.ConfigParsing.{empty_table, given, lacks_adapters, next_rank, pushed, row_fault, row_rank, rows_then, spelled_row, standard_table, unless_fault, weight_rows, with_row, ConfigParser, ConfigRow, IsOrdered}
use Rattle.cam_types.specs.declared.config_fault.ConfigFault.{ConfigFault}
use Rattle.record_text.specs.declared.config_row.ConfigRow.TheVariants as row
use Rattle.record_text.specs.ConfigRows.{clamped, device_of, weight_row, link_row, adapter_row, device_row, lane_row, DeviceRow}
use Rattle.record_text.specs.Fields.{max_number}
use Rattle.record_text.specs.Steps.{taken}
use Rattle.record_text.specs.Text.{Row}
use Rattle.record_text.proofs.ConfigLemmas.{adapter_link, adapter_small, at_most, cond_none, device_small, device_spelled, few_adapters as few_before, lane_small, link_number, link_small, weight_numbers}
use Rattle.record_text.proofs.ListLemmas.{Along, along_both, none_along}
use Rattle.record_text.proofs.StepLemmas.{run, then_taken}

-- ---- order

passed : {X : Type 0} (b : Bool) (o : Option X) (x : X) → cond b o (Some x) ≡ None → (b ≡ true) × (o ≡ None)
passed true o x e = (refl, e)
passed false o x e = absurd cc

-- the rows of weights that came break no rule
given_partial : (c : ConfigParser) → IsPartial c.partial → IsPartial (record c.partial { weights = given c })
given_partial c h = by c.table
  where
    by : (b : Bool) → IsPartial (record c.partial { weights = cond b c.partial.weights [] })
    by true = record { weights = h.weights; links = h.links; adapters = h.adapters; devices = h.devices; lanes = h.lanes }
    by false = record { weights = refl; links = h.links; adapters = h.adapters; devices = h.devices; lanes = h.lanes }

-- one row more keeps the order
pub row_ordered : (c : ConfigParser) (r : ConfigRow) → IsOrdered c → next_rank c ≤ row_rank r → row_fault c r ≡ None → IsOrdered (pushed c r)
row_ordered c (row.Weight w) h place e =
    let k = cond_none (nat_lt 0 c.rank) _ _ e in
    let none : c.rank ≤ 0 = ltb-false 0 c.rank k.0 in
    record {
      partial = partial_weight (record c.partial { weights = given c }) (given c ++ w ∷ []) w (given_partial c h.partial) k.1 refl;
      standard = λ x. absurd cc;
      links = λ x. h.links (omega arith);
      adapters = λ x. h.adapters (omega arith);
      devices = λ x. h.devices (omega arith);
      lanes = λ x. h.lanes (omega arith);
      reaches = λ x. absurd (omega arith);
      some = λ x. absurd (omega arith);
      few = h.few;
    }
row_ordered c (row.Link openings) h place e =
    let k = passed _ _ _ e in
    let last = at_most c 1 place (omega arith) in
    record {
      partial = partial_link c.partial (c.partial.links ++ openings ∷ []) openings h.partial (h.adapters (omega arith)) k.1 refl;
      standard = h.standard;
      links = λ x. absurd (omega arith);
      adapters = λ x. h.adapters (omega arith);
      devices = λ x. h.devices (omega arith);
      lanes = λ x. h.lanes (omega arith);
      reaches = λ x. k.0;
      some = λ x. absurd (omega arith);
      few = h.few;
    }
row_ordered c (row.Sim a) h place e =
    let k = passed _ _ _ e in
    let last = at_most c 2 place (omega arith) in
    let few = few_before (length c.partial.links) c.partial.adapters a k.1 in
    let size = length-append c.partial.adapters (a ∷ []) in
    record {
      partial = partial_adapter c.partial (c.partial.adapters ++ a ∷ []) a h.partial (h.devices (omega arith)) (h.lanes (omega arith)) k.1 refl;
      standard = h.standard;
      links = λ x. absurd (omega arith);
      adapters = λ x. absurd (omega arith);
      devices = λ x. h.devices (omega arith);
      lanes = λ x. h.lanes (omega arith);
      reaches = λ x. k.0;
      some = λ x. omega arith;
      few = omega arith;
    }
row_ordered c (row.Dev d) h place e =
    let k = cond_none (lacks_adapters c) _ _ e in
    let least : 2 ≤ c.rank = ltb-false c.rank 2 k.0 in
    let last = at_most c 3 place (omega arith) in
    record {
      partial = partial_device c.partial (c.partial.devices ++ device_of d ∷ []) (device_of d) h.partial k.1 refl;
      standard = h.standard;
      links = λ x. absurd (omega arith);
      adapters = λ x. absurd (omega arith);
      devices = λ x. absurd (omega arith);
      lanes = λ x. h.lanes (omega arith);
      reaches = λ x. h.reaches (omega arith);
      some = λ x. h.some (omega arith);
      few = h.few;
    }
row_ordered c (row.Lane adapter) h place e =
    let k = cond_none (lacks_adapters c) _ _ e in
    let least : 2 ≤ c.rank = ltb-false c.rank 2 k.0 in
    record {
      partial = partial_lane c.partial (c.partial.lanes ++ adapter ∷ []) adapter h.partial k.1 refl;
      standard = h.standard;
      links = λ x. absurd (omega arith);
      adapters = λ x. absurd (omega arith);
      devices = λ x. absurd (omega arith);
      lanes = λ x. absurd (omega arith);
      reaches = λ x. h.reaches (omega arith);
      some = λ x. h.some (omega arith);
      few = h.few;
    }

-- an adapter and a device that were added keep it
pub adapter_ordered : (c : ConfigParser) (a : Adapter) (t : Topology) → reaches_last c.partial.weights ≡ true → next_rank c ≤ 2 → IsOrdered c → adapter_fault (length c.partial.links) (c.partial.adapters, a) ≡ None
    → t ≡ record c.partial { adapters = c.partial.adapters ++ a ∷ [] } → IsOrdered (record { rank = 2; table = c.table; partial = t })
adapter_ordered c a t last place h none e = rw e (row_ordered c (row.Sim a) h place (rw last none))

pub device_ordered : (c : ConfigParser) (d : DeviceRow) (x : Device) (t : Topology) → lacks_adapters c ≡ false → next_rank c ≤ 3 → IsOrdered c → x ≡ clamped d → device_fault (length c.partial.adapters) (c.partial.devices, x) ≡ None
    → t ≡ record c.partial { devices = c.partial.devices ++ x ∷ [] } → IsOrdered (record { rank = 3; table = c.table; partial = t })
device_ordered c d x t some place h is none e =
    let same = device_spelled c d x h is none in
    rw (e, same.0) (row_ordered c (row.Dev d) h place (rw some same.1))

pub ordered_empty : IsOrdered empty_table
ordered_empty = record { partial = record { weights = refl; links = refl; adapters = refl; devices = refl; lanes = refl }; standard = λ x. absurd cc; links = λ x. refl; adapters = λ x. refl; devices = λ x. refl; lanes = λ x. refl; reaches = λ x. absurd (omega arith); some = λ x. absurd (omega arith); few = omega arith }

pub ordered_standard : IsOrdered standard_table
ordered_standard = record { partial = standard_partial; standard = λ x. refl; links = λ x. refl; adapters = λ x. refl; devices = λ x. refl; lanes = λ x. refl; reaches = λ x. absurd (omega arith); some = λ x. absurd (omega arith); few = omega arith }

-- ---- what was parsed is spelled so

-- one row more after those of a list, and the same after others
pub last_more : {X : Type 0} (row : X → Row) (xs : List X) (x : X) → (map row xs ++ []) ++ row x ∷ [] ≡ map row (xs ++ x ∷ []) ++ []
last_more row xs x = rw (append-nil (map row xs), append-nil (map row (xs ++ x ∷ []))) (sym (map-append row xs (x ∷ [])))

pub behind : (front rest more : List Row) (r : Row) → rest ++ r ∷ [] ≡ more → (front ++ rest) ++ r ∷ [] ≡ front ++ more
behind front rest more r e = append_assoc front rest (r ∷ []) ∙ ap (λ (l : List Row). front ++ l) e

-- the rows of a configuration, and one row more
pub row_spelled : (c : ConfigParser) (r : ConfigRow) → IsOrdered c → next_rank c ≤ row_rank r → row_fault c r ≡ None
    → rows_then c.table c.partial [] ++ spelled_row r ∷ [] ≡ rows_then (pushed c r).table (pushed c r).partial []
row_spelled c (row.Weight w) h place e =
    let none : c.rank ≤ 0 = ltb-false 0 c.rank (cond_none (nat_lt 0 c.rank) _ _ e).0 in
    rw (h.links (omega arith), h.adapters (omega arith), h.devices (omega arith), h.lanes (omega arith)) (by c.table)
  where
    by : (b : Bool) → (weight_rows b c.partial.weights ++ []) ++ weight_row w ∷ [] ≡ map weight_row (cond b c.partial.weights [] ++ w ∷ []) ++ []
    by true = last_more weight_row c.partial.weights w
    by false = refl
row_spelled c (row.Link k) h place e =
    let last = at_most c 1 place (omega arith) in
    rw (h.adapters (omega arith), h.devices (omega arith), h.lanes (omega arith)) (behind (weight_rows c.table c.partial.weights) _ _ (link_row k) (last_more link_row c.partial.links k))
row_spelled c (row.Sim a) h place e =
    let last = at_most c 2 place (omega arith) in
    let t = c.partial in
    rw (h.devices (omega arith), h.lanes (omega arith)) (behind (weight_rows c.table t.weights) _ _ (adapter_row a) (behind (map link_row t.links) _ _ (adapter_row a) (last_more adapter_row t.adapters a)))
row_spelled c (row.Dev d) h place e =
    let last = at_most c 3 place (omega arith) in
    let t = c.partial in
    let r = device_row (device_of d) in
    rw (h.lanes (omega arith)) (behind (weight_rows c.table t.weights) _ _ r (behind (map link_row t.links) _ _ r (behind (map adapter_row t.adapters) _ _ r (last_more device_row t.devices (device_of d)))))
row_spelled c (row.Lane a) h place e =
    let t = c.partial in
    behind (weight_rows c.table t.weights) _ _ (lane_row a) (behind (map link_row t.links) _ _ (lane_row a) (behind (map adapter_row t.adapters) _ _ (lane_row a) (behind (map device_row t.devices) _ _ (lane_row a) (last_more lane_row t.lanes a))))

-- ---- what is spelled so is parsed

abbrev pub config : List WeightRow → List ℕ → List Adapter → List Device → List ℕ → Topology
config ws ks as' ds ls = record { weights = ws; links = ks; adapters = as'; devices = ds; lanes = ls }

-- the rank after some rows of this rank
abbrev pub after : {X : Type 0} → ℕ → List X → ℕ → ℕ
after k [] r = r
after k (x ∷ xs) r = k

after_more : {X : Type 0} (k : ℕ) (xs : List X) (x : X) (r : ℕ) → after k (xs ++ x ∷ []) r ≡ k
after_more k [] x r = refl
after_more k (y ∷ ys) x r = refl

after_few : {X : Type 0} (k : ℕ) (xs : List X) (r : ℕ) → r ≤ k → after k xs r ≤ k
after_few k [] r h = h
after_few k (x ∷ xs) r h = omega arith

links_few : (ks : List ℕ) → after 1 ks 0 ≤ 1
links_few ks = after_few 1 ks 0 (omega arith)

adapters_few : (ks : List ℕ) (as' : List Adapter) → after 2 as' (after 1 ks 0) ≤ 2
adapters_few ks as' = after_few 2 as' (after 1 ks 0) (omega (arith, links_few ks))

devices_few : (ks : List ℕ) (as' : List Adapter) (ds : List Device) → after 3 ds (after 2 as' (after 1 ks 0)) ≤ 3
devices_few ks as' ds = after_few 3 ds (after 2 as' (after 1 ks 0)) (omega (arith, adapters_few ks as'))

lanes_few : (ks : List ℕ) (as' : List Adapter) (ds : List Device) (ls : List ℕ) → after 4 ls (after 3 ds (after 2 as' (after 1 ks 0))) ≤ 4
lanes_few ks as' ds ls = after_few 4 ls (after 3 ds (after 2 as' (after 1 ks 0))) (omega (arith, devices_few ks as' ds))

-- the parser after the rows of a configuration
abbrev pub parsed_config : Bool → Topology → ConfigParser
parsed_config table t = record { rank = after 4 t.lanes (after 3 t.devices (after 2 t.adapters (after 1 t.links 0))); table = table; partial = t }

pub next_few : (c : ConfigParser) (k : ℕ) → c.rank ≤ k → next_rank c ≤ k
next_few c k h = by (nat_le c.rank 1)
  where
    by : (b : Bool) → cond b 0 c.rank ≤ k
    by true = omega arith
    by false = h

-- the row that spells a device
abbrev pub row_for : Device → DeviceRow
row_for d = record { bus = d.bus; target = d.target; lun = d.lun; openings = d.openings }

-- the numbers of a row fit its fields
abbrev pub FitsFields : ConfigRow → Type 0
FitsFields (row.Weight w) = (w.last ≤ max_number) × (w.weight ≤ max_number)
FitsFields (row.Link k) = k ≤ max_number
FitsFields (row.Sim a) = (a.openings ≤ max_number) × IfSome a.link (λ l. l ≤ max_number)
FitsFields (row.Dev d) = (d.bus ≤ max_number) × (d.target ≤ 65535) × (d.lun ≤ 16383) × (d.openings ≤ max_number)
FitsFields (row.Lane a) = a ≤ max_number

-- a parser of a text takes the rows of a configuration with this property, each as a parser of configurations does
abbrev pub TakesRows : {S E : Type 0} → (ℕ → S → Row → Result S E) → (ConfigParser → S) → (ConfigRow → Type 0) → Type 0
TakesRows step wrap P = (n : ℕ) (c : ConfigParser) (r : ConfigRow) → P r → FitsFields r → next_rank c ≤ row_rank r → row_fault c r ≡ None → step n (wrap c) (spelled_row r) ≡ Ok (wrap (pushed c r))

-- all rows of a configuration have a property
pub record HaveAll (P : ConfigRow → Type 0) (table : Bool) (t : Topology) : Type 0 where
  pub weights : table ≡ true → AllByRecursion (λ w. P (row.Weight w)) t.weights
  pub links : AllByRecursion (λ k. P (row.Link k)) t.links
  pub adapters : AllByRecursion (λ a. P (row.Sim a)) t.adapters
  pub devices : AllByRecursion (λ (d : Device). P (row.Dev (row_for d)) × (d.target ≤ 65535)) t.devices
  pub lanes : AllByRecursion (λ a. P (row.Lane a)) t.lanes

-- nothing, or the standard weights alone
abbrev pub first_table : Bool → ConfigParser
first_table true = standard_table
first_table false = empty_table

at_weights : Bool → List WeightRow → ConfigParser
at_weights standard [] = first_table standard
at_weights standard (w ∷ ws) = record { rank = 0; table = true; partial = config (w ∷ ws) [] [] [] [] }

one_weight : {S E : Type 0} (step : ℕ → S → Row → Result S E) (wrap : ConfigParser → S) (P : ConfigRow → Type 0) → TakesRows step wrap P → (standard : Bool) (n : ℕ) (before : List WeightRow) (w : WeightRow) → (weight_fault (before, w) ≡ None) × P (row.Weight w)
    → step n (wrap (at_weights standard before)) (weight_row w) ≡ Ok (wrap (at_weights standard (before ++ w ∷ [])))
unfolding at_weights
one_weight step wrap P takes true n [] w e = let s = weight_numbers [] w e.0 in takes n standard_table (row.Weight w) e.1 (omega arith, omega arith) (omega arith) e.0
one_weight step wrap P takes false n [] w e = let s = weight_numbers [] w e.0 in takes n empty_table (row.Weight w) e.1 (omega arith, omega arith) (omega arith) e.0
one_weight step wrap P takes standard n (b ∷ bs) w e = let s = weight_numbers (b ∷ bs) w e.0 in takes n (at_weights standard (b ∷ bs)) (row.Weight w) e.1 (omega arith, omega arith) (omega arith) e.0

-- the parser after links, adapters, devices and lanes
abbrev at_rows : Bool → List WeightRow → List ℕ → List Adapter → List Device → List ℕ → ConfigParser
at_rows table ws ks as' ds ls = parsed_config table (config ws ks as' ds ls)

-- a row that breaks no rule is taken
taken_row : {S E : Type 0} (step : ℕ → S → Row → Result S E) (wrap : ConfigParser → S) (P : ConfigRow → Type 0) → TakesRows step wrap P → (n : ℕ) (c d : ConfigParser) (r : ConfigRow) → P r → FitsFields r → c.rank ≤ row_rank r → row_fault c r ≡ None
    → pushed c r ≡ d → step n (wrap c) (spelled_row r) ≡ Ok (wrap d)
taken_row step wrap P takes n c d r p fits place e same = takes n c r p fits (next_few c (row_rank r) place) e ∙ ap (λ (x : ConfigParser). Ok (wrap x)) same

one_link : {S E : Type 0} (step : ℕ → S → Row → Result S E) (wrap : ConfigParser → S) (P : ConfigRow → Type 0) → TakesRows step wrap P → (table : Bool) (ws : List WeightRow) → reaches_last ws ≡ true
    → (n : ℕ) (before : List ℕ) (k : ℕ) → (link_fault (before, k) ≡ None) × P (row.Link k) → step n (wrap (at_rows table ws before [] [] [])) (link_row k) ≡ Ok (wrap (at_rows table ws (before ++ k ∷ []) [] [] []))
one_link step wrap P takes table ws last n before k e =
    let s = link_small before k e.0 in
    taken_row step wrap P takes n (at_rows table ws before [] [] []) _ (row.Link k) e.1 (omega arith) (links_few before) (rw last e.0) (rw (after_more 1 before k 0) refl)

one_adapter : {S E : Type 0} (step : ℕ → S → Row → Result S E) (wrap : ConfigParser → S) (P : ConfigRow → Type 0) → TakesRows step wrap P → (table : Bool) (ws : List WeightRow) (ks : List ℕ) → reaches_last ws ≡ true → length ks ≤ MAX_LINKS
    → (n : ℕ) (before : List Adapter) (a : Adapter) → (adapter_fault (length ks) (before, a) ≡ None) × P (row.Sim a) → step n (wrap (at_rows table ws ks before [] [])) (adapter_row a) ≡ Ok (wrap (at_rows table ws ks (before ++ a ∷ []) [] []))
one_adapter step wrap P takes table ws ks last few n before a e =
    let s = adapter_small (length ks) before a e.0 in
    taken_row step wrap P takes n (at_rows table ws ks before [] []) _ (row.Sim a) e.1 (omega arith, link_number (length ks) a.link few (adapter_link (length ks) before a e.0)) (adapters_few ks before) (rw last e.0) (rw (after_more 2 before a (after 1 ks 0)) refl)

-- an adapter has come
some_came : (table : Bool) (t : Topology) → (length t.adapters == 0) ≡ false → lacks_adapters (parsed_config table t) ≡ false
some_came table t some = by t.adapters t.devices t.lanes some
  where
    by : (as' : List Adapter) (ds : List Device) (ls : List ℕ) → (length as' == 0) ≡ false → nat_lt (after 4 ls (after 3 ds (after 2 as' (after 1 t.links 0)))) 2 ≡ false
    by [] ds ls e = absurd cc
    by (a ∷ as') ds (l ∷ ls) e = refl
    by (a ∷ as') (d ∷ ds) [] e = refl
    by (a ∷ as') [] [] e = refl

one_device : {S E : Type 0} (step : ℕ → S → Row → Result S E) (wrap : ConfigParser → S) (P : ConfigRow → Type 0) → TakesRows step wrap P → (table : Bool) (ws : List WeightRow) (ks : List ℕ) (as' : List Adapter) → (length as' == 0) ≡ false → length as' ≤ MAX_ADAPTERS
    → (n : ℕ) (before : List Device) (d : Device) → (device_fault (length as') (before, d) ≡ None) × (P (row.Dev (row_for d)) × (d.target ≤ 65535)) → step n (wrap (at_rows table ws ks as' before [])) (device_row d) ≡ Ok (wrap (at_rows table ws ks as' (before ++ d ∷ []) []))
one_device step wrap P takes table ws ks as' some few n before d e =
    let s = device_small (length as') before d e.0 in
    taken_row step wrap P takes n (at_rows table ws ks as' before []) _ (row.Dev (row_for d)) e.1.0 (omega arith, e.1.1, s.1, omega arith) (devices_few ks as' before) (rw (some_came table (config ws ks as' before []) some) e.0) (rw (after_more 3 before d (after 2 as' (after 1 ks 0))) refl)

one_lane : {S E : Type 0} (step : ℕ → S → Row → Result S E) (wrap : ConfigParser → S) (P : ConfigRow → Type 0) → TakesRows step wrap P → (table : Bool) (ws : List WeightRow) (ks : List ℕ) (as' : List Adapter) (ds : List Device) → (length as' == 0) ≡ false → length as' ≤ MAX_ADAPTERS
    → (n : ℕ) (before : List ℕ) (a : ℕ) → (lane_fault (length as') (before, a) ≡ None) × P (row.Lane a) → step n (wrap (at_rows table ws ks as' ds before)) (lane_row a) ≡ Ok (wrap (at_rows table ws ks as' ds (before ++ a ∷ [])))
one_lane step wrap P takes table ws ks as' ds some few n before a e =
    let s = lane_small (length as') before a e.0 in
    taken_row step wrap P takes n (at_rows table ws ks as' ds before) _ (row.Lane a) e.1 (omega arith) (lanes_few ks as' ds before) (rw (some_came table (config ws ks as' ds before) some) e.0) (rw (after_more 4 before a (after 3 ds (after 2 as' (after 1 ks 0)))) refl)

-- the rows of weights, or none where they are the standard ones
taken_weights : {S E : Type 0} (step : ℕ → S → Row → Result S E) (wrap : ConfigParser → S) (P : ConfigRow → Type 0) → TakesRows step wrap P → (standard table : Bool) (ws : List WeightRow) → reaches_last ws ≡ true → (table || (standard && are_standard ws)) ≡ true
    → Along (λ b w. weight_fault (b, w) ≡ None) [] ws → (table ≡ true → AllByRecursion (λ w. P (row.Weight w)) ws)
    → (rest : List Row) (u : S) → ((m : ℕ) → taken step m (wrap (at_rows table ws [] [] [] [])) rest ≡ Ok u) → (n : ℕ) → taken step n (wrap (first_table standard)) (weight_rows table ws ++ rest) ≡ Ok u
unfolding at_weights
taken_weights step wrap P takes true false ws last held along all rest u k n =
    subst (λ (x : List WeightRow). taken step n (wrap (at_rows false x [] [] [] [])) rest ≡ Ok u) (standard_is ws held) (k n)
taken_weights step wrap P takes false false ws last held along all rest u k n = absurd cc
taken_weights step wrap P takes standard true [] last held along all rest u k n = absurd cc
taken_weights step wrap P takes standard true (w ∷ ws) last held along all rest u k n =
    then_taken step n (wrap (first_table standard)) (wrap (at_weights standard (w ∷ ws))) u (map weight_row (w ∷ ws)) rest
    (run step weight_row (λ b. wrap (at_weights standard b)) (λ b x. (weight_fault (b, x) ≡ None) × P (row.Weight x)) (one_weight step wrap P takes standard) [] (w ∷ ws) n (along_both (λ b x. weight_fault (b, x) ≡ None) (λ x. P (row.Weight x)) [] (w ∷ ws) along (all refl))) k

-- the rows of a configuration are taken as it
pub taken_rows : {S E : Type 0} (step : ℕ → S → Row → Result S E) (wrap : ConfigParser → S) (P : ConfigRow → Type 0) → TakesRows step wrap P → (standard table : Bool) (t : Topology) → IsConfig t → (table || (standard && are_standard t.weights)) ≡ true → HaveAll P table t
    → (rest : List Row) (u : S) → ((m : ℕ) → taken step m (wrap (parsed_config table t)) rest ≡ Ok u) → (n : ℕ) → taken step n (wrap (first_table standard)) (rows_then table t rest) ≡ Ok u
taken_rows step wrap P takes standard table t is held all rest u k n =
    let last = reaches t is in
    let some = some_adapter t is in
    let few = few_adapters t is in
    let size = length t.adapters in
    let links = along_both (λ b x. link_fault (b, x) ≡ None) (λ x. P (row.Link x)) [] t.links (none_along link_fault [] t.links (link_items t is)) all.links in
    let fault = adapter_fault (length t.links) in
    let adapters = along_both (λ b x. fault (b, x) ≡ None) (λ x. P (row.Sim x)) [] t.adapters (none_along fault [] t.adapters (adapter_items t is)) all.adapters in
    let devices = along_both (λ b x. device_fault size (b, x) ≡ None) (λ (d : Device). P (row.Dev (row_for d)) × (d.target ≤ 65535)) [] t.devices (none_along (device_fault size) [] t.devices (device_items t is)) all.devices in
    let lanes = along_both (λ b x. lane_fault size (b, x) ≡ None) (λ x. P (row.Lane x)) [] t.lanes (none_along (lane_fault size) [] t.lanes (lane_items t is)) all.lanes in
    taken_weights step wrap P takes standard table t.weights last held (none_along weight_fault [] t.weights (weight_items t is)) all.weights _ u (λ n1.
    then_taken step n1 (wrap (at_rows table t.weights [] [] [] [])) (wrap (at_rows table t.weights t.links [] [] [])) u (map link_row t.links) _ (run step link_row (λ b. wrap (at_rows table t.weights b [] [] [])) (λ b x. (link_fault (b, x) ≡ None) × P (row.Link x)) (one_link step wrap P takes table t.weights last) [] t.links n1 links) (λ n2.
    then_taken step n2 (wrap (at_rows table t.weights t.links [] [] [])) (wrap (at_rows table t.weights t.links t.adapters [] [])) u (map adapter_row t.adapters) _ (run step adapter_row (λ b. wrap (at_rows table t.weights t.links b [] [])) (λ b x. (fault (b, x) ≡ None) × P (row.Sim x)) (one_adapter step wrap P takes table t.weights t.links last (few_links t is)) [] t.adapters n2 adapters) (λ n3.
    then_taken step n3 (wrap (at_rows table t.weights t.links t.adapters [] [])) (wrap (at_rows table t.weights t.links t.adapters t.devices [])) u (map device_row t.devices) _ (run step device_row (λ b. wrap (at_rows table t.weights t.links t.adapters b [])) (λ b x. (device_fault size (b, x) ≡ None) × (P (row.Dev (row_for x)) × (x.target ≤ 65535))) (one_device step wrap P takes table t.weights t.links t.adapters some few) [] t.devices n3 devices) (λ n4.
    then_taken step n4 (wrap (at_rows table t.weights t.links t.adapters t.devices [])) (wrap (parsed_config table t)) u (map lane_row t.lanes) rest (run step lane_row (λ b. wrap (at_rows table t.weights t.links t.adapters t.devices b)) (λ b x. (lane_fault size (b, x) ≡ None) × P (row.Lane x)) (one_lane step wrap P takes table t.weights t.links t.adapters t.devices some few) [] t.lanes n4 lanes) k)))) n

pub config_came : (table : Bool) (t : Topology) → IsConfig t → lacks_adapters (parsed_config table t) ≡ false
config_came table t is = some_came table t (some_adapter t is)

pub rank_few : (table : Bool) (t : Topology) → (parsed_config table t).rank ≤ 4
rank_few table t = lanes_few t.links t.adapters t.devices t.lanes

-- ---- a row that was taken

pub row_taken : (c d : ConfigParser) (r : ConfigRow) → with_row c r ≡ Ok d → (row_fault c r ≡ None) × (pushed c r ≡ d)
unfolding with_row
row_taken c d r e = by (row_fault c r) e
  where
    by : (o : Option ConfigFault) → unless_fault o (pushed c r) ≡ Ok d → (o ≡ None) × (pushed c r ≡ d)
    by None k = (refl, cc)
    by (Some f) k = absurd cc

pub row_takes : (c : ConfigParser) (r : ConfigRow) → row_fault c r ≡ None → with_row c r ≡ Ok (pushed c r)
unfolding with_row
row_takes c r e = rw e refl

-- a configuration with an adapter keeps all rules
pub config_whole : (c : ConfigParser) → IsOrdered c → lacks_adapters c ≡ false → config_fault c.partial ≡ None
config_whole c h came =
    let least : 2 ≤ c.rank = ltb-false c.rank 2 came in
    let some = h.some (omega arith) in
    let none : (length c.partial.adapters == 0) ≡ false = ne_eqb _ _ (λ e. omega arith) in
    config_fault-partial c.partial h.partial ∙ rw (h.reaches (omega arith), none) refl
