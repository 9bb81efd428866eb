-- What the rules of a configuration say of the numbers in its rows.
use Rattle.std.proofs.Common.{◌≡◌, ◌≢◌, ◌<◌, ◌≤◌, ◌==◌, ◌∷◌, ◌++◌, [], ℕ, List, Bool, true, false, cond, length, min, refl, sym, ap, ◌∙◌, arith, Option, Some, None, IfSome, Result, Ok, Err, MatchOption, IsOkUnless, nat_le, nat_lt}
use Rattle.std.proofs.lemmas.Bool.{and_parts, eqb-true, false≢true, leb-true, leb-false, ltb-true, ltb-false, not-false}
use Rattle.std.proofs.lemmas.Bool.Decides.{nat_tests}
use Rattle.cam_types.specs.Topology.{Topology, address_fault, config_fault, lack, names_link, openings_fault, link_fault, adapter_fault, device_fault, lane_fault}
use Rattle.cam_types.specs.Weights.{reaches_last, weight_fault}
use Rattle.cam_types.specs.declared.adapter.Adapter.{Adapter}
use Rattle.cam_types.specs.declared.device.Device.{Device}
use Rattle.cam_types.specs.declared.weight_row.WeightRow.{WeightRow}
use Rattle.cam_types.specs.declared.config.ConfigError.{ConfigError}
use Rattle.cam_types.specs.declared.config.ConfigError.TheVariants as error
use Rattle.cam_types.specs.declared.config_fault.ConfigFault.{ConfigFault}
use Rattle.cam_types.specs.declared.config_fault.ConfigFault.TheVariants.{NoAdapters, NoLink, BadWeight}
use Rattle.cam_types.specs.declared.limits.TheConstants.{MAX_ADAPTERS, MAX_LINKS}
use Rattle.cam_types.proofs.ListLemmas.{or_left, or_right}
use Rattle.cam_types.proofs.TopologyLemmas.{config_fault-partial}
use Rattle.record_text.specs.ConfigParsing.{finished, lacks_adapters, next_rank, pushed, unless_fault, with_row, ConfigParser, IsOrdered}
use Rattle.record_text.specs.declared.config_row.ConfigRow.TheVariants as row
use Rattle.record_text.specs.ConfigRows.{clamped, device_of, DeviceRow}
use Rattle.record_text.specs.Fields.{max_number}

-- an item that was added breaks no rule
pub none_where_ok : {U : Type 0} (o : Option ConfigFault) (r : Result U ConfigError) (u : U) → MatchOption o (IsOkUnless r error.OutOfMemory) (λ f. r ≡ Err (error.Fault f)) → r ≡ Ok u → o ≡ None
none_where_ok None r u h e = refl
none_where_ok (Some f) r u h e = absurd (cc)

-- a chain of rules that answers none has none broken
pub cond_none : {X : Type 0} (b : Bool) (x : X) (rest : Option X) → cond b (Some x) rest ≡ None → (b ≡ false) × (rest ≡ None)
cond_none true x rest e = absurd cc
cond_none false x rest e = (refl, e)

pub few_adapters : (links : ℕ) (adapters : List Adapter) (a : Adapter) → adapter_fault links (adapters, a) ≡ None → length adapters < MAX_ADAPTERS
unfolding adapter_fault
few_adapters links adapters a none = leb-false _ _ (cond_none _ _ _ (or_left _ _ none)).0

pub adapter_small : (links : ℕ) (before : List Adapter) (a : Adapter) → adapter_fault links (before, a) ≡ None → a.openings ≤ 255
unfolding adapter_fault
adapter_small links before a e = leb-true _ _ (and_parts _ _ (not-false _ (cond_none _ _ _ (cond_none _ _ _ (or_left _ _ e)).1).0)).1

pub link_small : (before : List ℕ) (k : ℕ) → link_fault (before, k) ≡ None → k ≤ 255
unfolding link_fault
link_small before k e = leb-true _ _ (and_parts _ _ (not-false _ (cond_none _ _ _ (cond_none _ _ _ e).1).0)).1

pub lane_small : (n : ℕ) (before : List ℕ) (a : ℕ) → lane_fault n (before, a) ≡ None → a < n
unfolding lane_fault
lane_small n before a e = leb-false _ _ (cond_none _ _ _ (cond_none _ _ _ e).1).0

-- an adapter's link is one of that many
pub adapter_link : (links : ℕ) (before : List Adapter) (a : Adapter) → adapter_fault links (before, a) ≡ None → IfSome a.link (λ l. l < links)
unfolding adapter_fault
adapter_link links before a e = by a.link (or_right (openings_fault MAX_ADAPTERS (length before) a.openings) _ e)
  where
    passed : (b : Bool) → cond b None (Some NoLink) ≡ None → b ≡ true
    passed true e = refl
    passed false e = absurd cc

    by : (link : Option ℕ) → cond (names_link links link) None (Some NoLink) ≡ None → IfSome link (λ l. l < links)
    by None e = tt
    by (Some l) e = ltb-true _ _ (passed (nat_lt l links) e)

pub weight_numbers : (before : List WeightRow) (w : WeightRow) → weight_fault (before, w) ≡ None → (w.last ≤ 1279) × (w.weight ≤ 1000)
unfolding weight_fault
weight_numbers before w e = (grind (arith, nat_tests), grind (arith, nat_tests))

-- an adapter's link is a number
pub link_number : (links : ℕ) (link : Option ℕ) → links ≤ MAX_LINKS → IfSome link (λ l. l < links) → IfSome link (λ l. l ≤ max_number)
link_number links None few h = tt
link_number links (Some l) few h = omega arith

-- ---- devices

clamped_small : (d : DeviceRow) → d.bus ≤ 255 → clamped d ≡ device_of d
clamped_small d h =
    let same : min d.bus 255 ≡ d.bus = omega arith in
    ap (λ (b : ℕ). let x : Device = record { bus = b; target = d.target; lun = d.lun; openings = d.openings } in x) same

-- a bus above 255 names no adapter, whichever it is
pub clamped_fault : (n : ℕ) (before : List Device) (d : DeviceRow) → n ≤ MAX_ADAPTERS → device_fault n (before, clamped d) ≡ device_fault n (before, device_of d)
unfolding device_fault address_fault
clamped_fault n before d few = grind (arith, nat_tests)

-- what the rules of the configuration say of a device's numbers
pub device_small : (n : ℕ) (before : List Device) (d : Device) → device_fault n (before, d) ≡ None → (d.bus < n) × (d.lun ≤ 16383) × (d.openings ≤ 255)
unfolding device_fault address_fault
device_small n before d e =
    let a = cond_none _ _ _ e in
    let b = cond_none _ _ _ a.1 in
    let c = cond_none _ _ _ b.1 in
    let l = cond_none _ _ _ c.1 in
    (leb-false _ _ c.0, ltb-false _ _ l.0, leb-true _ _ (and_parts _ _ (not-false _ b.0)).1)

-- a device that breaks no rule is the one that the record spells
pub clamped_same : (n : ℕ) (before : List Device) (d : DeviceRow) → n ≤ MAX_ADAPTERS → device_fault n (before, clamped d) ≡ None → clamped d ≡ device_of d
clamped_same n before d few none =
    let small = device_small n before (clamped d) none in
    clamped_small d (omega arith)

-- ---- a configuration in the making

-- the last row is none of a greater rank than one that may come next, and that isn't one of the weights
pub at_most : (c : ConfigParser) (k : ℕ) → next_rank c ≤ k → 1 ≤ k → c.rank ≤ k
at_most c k place some = by (nat_le c.rank 1) refl place
  where
    by : (b : Bool) → nat_le c.rank 1 ≡ b → cond b 0 c.rank ≤ k → c.rank ≤ k
    by true is p = let few = leb-true _ _ is in omega arith
    by false is p = p

-- a partial configuration is refused only for what it lacks
pub finished_law : (c : ConfigParser) (r : Result Topology ConfigFault) → IsOrdered c → MatchOption (config_fault c.partial) (r ≡ Ok c.partial) (λ f. r ≡ Err f) → r ≡ finished c
finished_law c r h m = by (nat_lt c.rank 2) (reaches_last c.partial.weights) (length c.partial.adapters == 0) refl refl refl (rw (config_fault-partial c.partial h.partial) at m)
  where
    by : (b reached none : Bool) → nat_lt c.rank 2 ≡ b → reaches_last c.partial.weights ≡ reached → (length c.partial.adapters == 0) ≡ none
        → MatchOption (lack c.partial.weights (length c.partial.adapters)) (r ≡ Ok c.partial) (λ f. r ≡ Err f) → r ≡ cond b (Err (cond reached NoAdapters BadWeight)) (Ok c.partial)
    by true true true is e n m = rw (e, n) at m
    by true true false is e n m = let gone = h.adapters (ltb-true _ _ is) in absurd (false≢true (sym n ∙ rw gone refl))
    by true false none is e n m = rw e at m
    by false true true is e n m = let some = h.some (let k = ltb-false _ _ is in omega arith) in let zero = eqb-true _ _ n in absurd (omega arith)
    by false true false is e n m = rw (e, n) at m
    by false false none is e n m = absurd (false≢true (sym e ∙ h.reaches (let k = ltb-false _ _ is in omega arith)))

refused_by : {U : Type 0} (r : Result U ConfigError) (e : ConfigError) (next : ConfigParser) (o : Option ConfigFault) → MatchOption o (IsOkUnless r error.OutOfMemory) (λ g. r ≡ Err (error.Fault g)) → r ≡ Err e → e ≢ error.OutOfMemory
    → Err e ≡ unless_fault o next
refused_by (Ok u) e next o m was other = absurd cc
refused_by (Err f) e next None m was other = absurd (let same : e ≡ f = cc in other (same ∙ m))
refused_by (Err f) e next (Some g) m was other = let same : e ≡ error.Fault g = cc in ap (λ (x : ConfigError). Err x) same

-- a device is added as its row spells it, or refused so
pub device_refused : {U : Type 0} (c : ConfigParser) (d : DeviceRow) (x : Device) (r : Result U ConfigError) (e : ConfigError) → lacks_adapters c ≡ false → IsOrdered c → x ≡ clamped d
    → MatchOption (device_fault (length c.partial.adapters) (c.partial.devices, x)) (IsOkUnless r error.OutOfMemory) (λ g. r ≡ Err (error.Fault g)) → r ≡ Err e → e ≢ error.OutOfMemory → Err e ≡ with_row c (row.Dev d)
unfolding with_row
device_refused {U} c d x r e some h is m was other =
    let n = length c.partial.adapters in
    let same : device_fault n (c.partial.devices, x) ≡ device_fault n (c.partial.devices, device_of d) = ap (λ (y : Device). device_fault n (c.partial.devices, y)) is ∙ clamped_fault n c.partial.devices d h.few in
    rw (some, ← same) (refused_by r e (pushed c (row.Dev d)) (device_fault n (c.partial.devices, x)) m was other)

-- a device that breaks no rule is as its row spells it
pub device_spelled : (c : ConfigParser) (d : DeviceRow) (x : Device) → IsOrdered c → x ≡ clamped d → device_fault (length c.partial.adapters) (c.partial.devices, x) ≡ None
    → (x ≡ device_of d) × (device_fault (length c.partial.adapters) (c.partial.devices, device_of d) ≡ None)
device_spelled c d x h is none =
    let n = length c.partial.adapters in
    let fine : device_fault n (c.partial.devices, clamped d) ≡ None = ap (λ (y : Device). device_fault n (c.partial.devices, y)) (sym is) ∙ none in
    (is ∙ clamped_same n c.partial.devices d h.few fine, sym (clamped_fault n c.partial.devices d h.few) ∙ fine)

pub device_taken : (c : ConfigParser) (d : DeviceRow) (x : Device) (t : Topology) → lacks_adapters c ≡ false → IsOrdered c → x ≡ clamped d → device_fault (length c.partial.adapters) (c.partial.devices, x) ≡ None
    → t ≡ record c.partial { devices = c.partial.devices ++ x ∷ [] } → Ok (record { rank = 3; table = c.table; partial = t }) ≡ with_row c (row.Dev d)
unfolding with_row
device_taken c d x t some h is none e =
    let same = device_spelled c d x h is none in
    rw (some, same.1, e, same.0) refl
