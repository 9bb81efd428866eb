-- Resources and rounds of cells, and the resources above a resource.
use Rattle.std.proofs.Common.{◌≡◌, ℕ, zero, suc, ◌+◌, ◌-◌, ◌/◌, ◌%◌, ◌<◌, ◌≤◌, ◌==◌, ◌||◌, true, false, nat_lt, if◌then◌else◌, List, [], ◌∷◌, Option, Some, None, refl, sym, ap, ◌∙◌, inl, inr, arith}
use Rattle.std.specs.List.{list_any}
use Rattle.std.specs.Option.{option_map_or}
use Rattle.std.proofs.lemmas.Bool.{cases_lt, eq-eqb, ne_eqb, lt-ltb, le-ltb, cond-true, cond-false, or_from, or_left}
use Rattle.std.proofs.lemmas.Nat.{div-mul-add, mod-mul-add}
use Rattle.cost_plan.specs.Words.{Instance, rows, adapter, adapter_resource, link_resource, link_rows, path, uses, IsSound}
use Rattle.cost_plan.specs.Cells.{cell, root, adapter_above, resource_above, levels, resources_up, covers, node_of}

-- the resource and the round of a cell
pub cell-resource : (net : Instance) (resource round : ℕ) → round ≤ net.rounds → cell net resource round / (net.rounds + 1) ≡ resource
cell-resource net resource round last = div-mul-add resource (net.rounds + 1) round (omega arith)

pub cell-round : (net : Instance) (resource round : ℕ) → round ≤ net.rounds → cell net resource round % (net.rounds + 1) ≡ round
cell-round net resource round last = mod-mul-add resource (net.rounds + 1) round (omega arith)

-- cells of different resources or rounds are different
pub cell-apart : (net : Instance) (resource r other q : ℕ) → r ≤ net.rounds → q ≤ net.rounds → cell net resource r ≡ cell net other q → (resource ≡ other) × (r ≡ q)
cell-apart net resource r other q low high e = (
  sym (cell-resource net resource r low) ∙ ap (λ (k : ℕ). k / (net.rounds + 1)) e ∙ cell-resource net other q high,
  sym (cell-round net resource r low) ∙ ap (λ (k : ℕ). k % (net.rounds + 1)) e ∙ cell-round net other q high,
)

-- the node of a resource within the net, and of one past it
pub node_of-resource : (net : Instance) (resource round : ℕ) → resource < rows net → node_of net resource round ≡ cell net resource round
node_of-resource net resource round inside = cond-true _ _ _ (lt-ltb resource (rows net) inside)

pub node_of-past : (net : Instance) (resource round : ℕ) → rows net ≤ resource → node_of net resource round ≡ root net
node_of-past net resource round past = cond-false _ _ _ (le-ltb resource (rows net) past)

-- what stands above a device's resource, above an adapter's, and above any other
pub resource_above-device : (net : Instance) (resource : ℕ) → resource < net.devices → resource_above net resource ≡ adapter_resource net (net.adapter_of resource)
resource_above-device net resource device = cond-true _ _ _ (lt-ltb resource net.devices device)

pub resource_above-adapter : (net : Instance) (resource : ℕ) → net.devices ≤ resource → resource < net.devices + net.adapters → resource_above net resource ≡ adapter_above net (resource - net.devices)
resource_above-adapter net resource past adapter' = cond-false _ _ _ (le-ltb resource net.devices past) ∙ cond-true _ _ _ (lt-ltb resource (net.devices + net.adapters) adapter')

pub resource_above-link : (net : Instance) (resource : ℕ) → net.devices + net.adapters ≤ resource → resource_above net resource ≡ rows net
resource_above-link net resource past = cond-false _ _ _ (le-ltb resource net.devices (omega arith)) ∙ cond-false _ _ _ (le-ltb resource (net.devices + net.adapters) past)

-- above a device's resource is no device's, and above that no adapter's
up-link : (net : Instance) (o : Option ℕ) → net.devices + net.adapters ≤ option_map_or (link_resource net) o (rows net)
up-link net None = omega arith
up-link net (Some l) = omega arith

up-adapter : (net : Instance) (resource : ℕ) → net.devices ≤ resource → net.devices + net.adapters ≤ resource_above net resource
up-adapter net resource past = elim (cases_lt resource (net.devices + net.adapters)) [
  | inl adapter' ↦ omega (arith, resource_above-adapter net resource past adapter', up-link net (net.link_of (resource - net.devices)))
  | inr link ↦ omega (arith, resource_above-link net resource link)
]

up-device : (net : Instance) (resource : ℕ) → net.devices ≤ resource_above net resource
up-device net resource = elim (cases_lt resource net.devices) [
  | inl device ↦ omega (arith, resource_above-device net resource device)
  | inr past ↦ omega (arith, up-adapter net resource past)
]

-- a resource within the net is below what stands above it, and above any resource that it is below
pub resource_above-past : (net : Instance) (resource other : ℕ) → resource < rows net → resource ≤ other → resource < resource_above net other
resource_above-past net resource other inside past = elim (cases_lt other net.devices) [
  | inl device ↦ omega (arith, up-device net other)
  | inr above ↦ elim (cases_lt other (net.devices + net.adapters)) [
    | inl adapter' ↦ omega (arith, up-adapter net other above)
    | inr link ↦ omega (arith, resource_above-link net other link)
  ]
]

-- the resource that many steps up
abbrev pub steps_up : ℕ → Instance → ℕ → ℕ
steps_up zero net resource = resource
steps_up (suc n) net resource = steps_up n net (resource_above net resource)

-- above all levels is the root
pub steps_up-levels : (net : Instance) (resource : ℕ) → steps_up levels net resource ≡ rows net
steps_up-levels net resource = resource_above-link net (resource_above net (resource_above net resource)) (up-adapter net (resource_above net resource) (up-device net resource))

-- a resource and those above it, by whether it is one of the net
pub resources_up-resource : (n : ℕ) (net : Instance) (resource : ℕ) → resource < rows net → resources_up (suc n) net resource ≡ resource ∷ resources_up n net (resource_above net resource)
resources_up-resource n net resource inside = cond-true _ _ _ (lt-ltb resource (rows net) inside)

pub resources_up-past : (n : ℕ) (net : Instance) (resource : ℕ) → rows net ≤ resource → resources_up n net resource ≡ []
resources_up-past zero net resource past = refl
resources_up-past (suc n) net resource past = cond-false _ _ _ (le-ltb resource (rows net) past)

-- beyond the root there are no more
resources_up-last : (n : ℕ) (net : Instance) (resource : ℕ) → steps_up n net resource ≡ rows net → resources_up (suc n) net resource ≡ resources_up n net resource
resources_up-last zero net resource end = resources_up-past 1 net resource (omega arith)
resources_up-last (suc n) net resource end = ap (λ (up : List ℕ). if nat_lt resource (rows net) then resource ∷ up else []) (resources_up-last n net (resource_above net resource) end)

-- so all resources from one up are that one, and all from the next one up
pub resources_up-above : (net : Instance) (resource : ℕ) → resource < rows net → resources_up levels net resource ≡ resource ∷ resources_up levels net (resource_above net resource)
resources_up-above net resource inside = resources_up-resource (levels - 1) net resource inside ∙ ap (λ (up : List ℕ). resource ∷ up) (sym (resources_up-last (levels - 1) net (resource_above net resource) (steps_up-levels net resource)))

-- the resources that a stay uses are its device's and those above it
link-resources_up : (net : Instance) (o : Option ℕ) → ((l : ℕ) → o ≡ Some l → l < net.links) → resources_up levels net (option_map_or (link_resource net) o (rows net)) ≡ option_map_or (λ l. link_resource net l ∷ []) o []
link-resources_up net None within = resources_up-past levels net (rows net) (omega arith)
link-resources_up net (Some l) within =
    let inside : l < net.links = within l refl in
    resources_up-above net (link_resource net l) (omega arith)
    ∙ ap (λ (up : List ℕ). link_resource net l ∷ up) (ap (resources_up levels net) (resource_above-link net (link_resource net l) (omega arith)) ∙ resources_up-past levels net (rows net) (omega arith))

adapter-resources_up : (net : Instance) (live : ℕ → ℕ) (a : ℕ) → IsSound net live → a < net.adapters → resources_up levels net (adapter_resource net a) ≡ adapter_resource net a ∷ link_rows net a
adapter-resources_up net live a sound inside =
    let here : resource_above net (adapter_resource net a) ≡ adapter_above net a = resource_above-adapter net (adapter_resource net a) (omega arith) (omega arith) ∙ ap (adapter_above net) (let e : adapter_resource net a - net.devices ≡ a = omega arith in e) in
    resources_up-above net (adapter_resource net a) (omega arith)
    ∙ ap (λ (up : List ℕ). adapter_resource net a ∷ up) (ap (resources_up levels net) here ∙ link-resources_up net (net.link_of a) (sound.on_link a))

pub path-resources_up : (net : Instance) (live : ℕ → ℕ) (s : ℕ) → IsSound net live → s < net.stays → path net s ≡ resources_up levels net (net.device s)
path-resources_up net live s sound within =
    let device : net.device s < net.devices = sound.on_device s within in
    let inside : adapter net s < net.adapters = sound.on_adapter (net.device s) device in
    sym (resources_up-above net (net.device s) (omega arith)
    ∙ ap (λ (up : List ℕ). net.device s ∷ up) (ap (resources_up levels net) (resource_above-device net (net.device s) device) ∙ adapter-resources_up net live (adapter net s) sound inside))

pub covers-uses : (net : Instance) (live : ℕ → ℕ) (resource s : ℕ) → IsSound net live → s < net.stays → covers net resource (net.device s) ≡ uses net resource s
covers-uses net live resource s sound within = ap (λ (own : List ℕ). list_any (λ k. k == resource) own) (sym (path-resources_up net live s sound within))

-- no resource of the net is, or stands above, one past it
is_up-past : (n : ℕ) (net : Instance) (resource other : ℕ) → resource < rows net → resource < other → list_any (λ own. own == resource) (resources_up n net other) ≡ false
is_up-past zero net resource other inside past = refl
is_up-past (suc n) net resource other inside past = elim (cases_lt other (rows net)) [
  | inr out ↦ ap (λ (own : List ℕ). list_any (λ k. k == resource) own) (resources_up-past (suc n) net other out)
  | inl within ↦
      ap (λ (own : List ℕ). list_any (λ k. k == resource) own) (resources_up-resource n net other within)
      ∙ or_from (other == resource) (list_any (λ k. k == resource) (resources_up n net (resource_above net other))) (ne_eqb other resource (omega arith))
      (is_up-past n net resource (resource_above net other) inside (resource_above-past net resource other inside (omega arith)))
]

pub covers-past : (net : Instance) (resource other : ℕ) → resource < rows net → resource < other → covers net resource other ≡ false
covers-past net resource other inside past = is_up-past levels net resource other inside past

-- a resource of the net that is another, or stands above it, is that one, or is or stands above the next one
pub covers-above : (net : Instance) (resource other : ℕ) → resource < rows net → covers net resource other ≡ ((other == resource) || covers net resource (resource_above net other))
covers-above net resource other inside = elim (cases_lt other (rows net)) [
  | inl within ↦ ap (λ (own : List ℕ). list_any (λ k. k == resource) own) (resources_up-above net other within)
  | inr out ↦
      covers-past net resource other inside (omega arith)
      ∙ sym (or_from (other == resource) (covers net resource (resource_above net other)) (ne_eqb other resource (omega arith)) (covers-past net resource (resource_above net other) inside (resource_above-past net resource other inside (omega arith))))
]

pub covers-self : (net : Instance) (resource : ℕ) → resource < rows net → covers net resource resource ≡ true
covers-self net resource inside = covers-above net resource resource inside ∙ or_left (resource == resource) (covers net resource (resource_above net resource)) (eq-eqb resource resource refl)
