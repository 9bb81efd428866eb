-- Prices that are set one by one.
use Rattle.std.proofs.Common.{◌≡◌, ◌≢◌, ℕ, ◌+◌, ◌-◌, ◌*◌, ◌<◌, ◌≤◌, ◌==◌, List, [], ◌∷◌, get_or, map, refl, sym, ap, ◌∙◌, subst, inl, inr, arith, All, sum_by}
use Rattle.std.proofs.lemmas.Bool.{cases_eq, eq-eqb, ne_eqb, cond-true, cond-false, and_from, and_left, and_right}
use Rattle.std.proofs.lemmas.List.Sums.{sum_by-cons}
use Rattle.std.proofs.lemmas.List.Elements.{All-head, All-tail}
use Rattle.cost_plan.specs.Words.{least, Instance, rows, path, IsSound, PriceRows, pricing_of_rows, IsPricingFor, IsSameSize, SetsPrice, Pricing, is_open, allowed, paid, offered, ProvesBest}
use Rattle.cost_plan.specs.ResourcePrices.{resource_price, IsPrice, PricesResource, PricesResources}
use Rattle.round_net.proofs.SumLemmas.{sum_below-same}
use Rattle.round_net.proofs.PathLemmas.{path-inside}
use Rattle.orders.proofs.LeastLemmas.{In, filter-In, range-In}

-- the size stays
pub IsPricingFor-kept : (net : Instance) (old new : PriceRows) → IsSameSize old new → IsPricingFor net old → IsPricingFor net new
IsPricingFor-kept net old new same is = record { rounds = same.rounds ∙ is.rounds; devices = same.devices ∙ is.devices; adapters = same.adapters ∙ is.adapters; links = same.links ∙ is.links; max_price = same.max_price ∙ is.max_price }

-- the price that is set, and the others
set-here : (old new : PriceRows) (resource r price : ℕ) → SetsPrice old new resource r price → 1 ≤ r → r ≤ old.rounds → pricing_of_rows new resource r ≡ price
set-here old new resource r price sets first last = sets.prices resource r first last ∙ cond-true _ _ _ (and_from (resource == resource) (r == r) (eq-eqb resource resource refl) (eq-eqb r r refl))

set-resource : (old new : PriceRows) (resource r price other q : ℕ) → SetsPrice old new resource r price → 1 ≤ q → q ≤ old.rounds → other ≢ resource → pricing_of_rows new other q ≡ pricing_of_rows old other q
set-resource old new resource r price other q sets first last apart = sets.prices other q first last ∙ cond-false _ _ _ (and_left (other == resource) (q == r) (ne_eqb other resource apart))

set-round : (old new : PriceRows) (resource r price other q : ℕ) → SetsPrice old new resource r price → 1 ≤ q → q ≤ old.rounds → q ≢ r → pricing_of_rows new other q ≡ pricing_of_rows old other q
set-round old new resource r price other q sets first last apart = sets.prices other q first last ∙ cond-false _ _ _ (and_right (other == resource) (q == r) (ne_eqb q r apart))

kept : (net : Instance) (potential : ℕ → ℕ) (resource round price old : ℕ) → price ≡ old → IsPrice net potential resource round old → IsPrice net potential resource round price
kept net potential resource round price old same is = (same ∙ is.0, omega (arith, is.1))

-- one price of a resource more
pub PricesResource-step : (net : Instance) (potential : ℕ → ℕ) (old new : PriceRows) (resource here price : ℕ) → SetsPrice old new resource here price → IsPricingFor net old → 1 ≤ here → here ≤ net.rounds → IsPrice net potential resource here price → PricesResource net potential (pricing_of_rows old) resource here → PricesResource net potential (pricing_of_rows new) resource (here + 1)
PricesResource-step net potential old new resource here price sets size first last is so_far = λ round low high.
    let rounds = size.rounds in
    elim (cases_eq round here) [
      | inl same ↦
          let e : pricing_of_rows new resource round ≡ price = ap (pricing_of_rows new resource) same ∙ set-here old new resource here price sets first (omega arith) in
          subst (λ (q : ℕ). IsPrice net potential resource q (pricing_of_rows new resource round)) (sym same) (e ∙ is.0, omega (arith, is.1))
      | inr other ↦ kept net potential resource round (pricing_of_rows new resource round) (pricing_of_rows old resource round) (set-round old new resource here price resource round sets low (omega arith) other) (so_far round low (omega arith))
    ]

-- it leaves those of the resources before
pub PricesResources-step : (net : Instance) (potential : ℕ → ℕ) (old new : PriceRows) (resource here price : ℕ) → SetsPrice old new resource here price → IsPricingFor net old → PricesResources net potential (pricing_of_rows old) resource → PricesResources net potential (pricing_of_rows new) resource
PricesResources-step net potential old new resource here price sets size before = λ other less round low high.
    let rounds = size.rounds in
    kept net potential other round (pricing_of_rows new other round) (pricing_of_rows old other round) (set-resource old new resource here price other round sets low (omega arith) (omega arith)) (before other less round low high)

-- one resource more
pub PricesResources-more : (net : Instance) (potential : ℕ → ℕ) (p : Pricing) (resource : ℕ) → PricesResources net potential p resource → PricesResource net potential p resource (net.rounds + 1) → PricesResources net potential p (resource + 1)
PricesResources-more net potential p resource before this = λ other less. elim (cases_eq other resource) [
  | inl same ↦ subst (λ (k : ℕ). PricesResource net potential p k (net.rounds + 1)) (sym same) this
  | inr apart ↦ before other (omega arith)
]

-- prices that are those of the potentials prove what those prove
map-same : (g h : ℕ → ℕ) (xs : List ℕ) → ((x : ℕ) → In x xs → g x ≡ h x) → map g xs ≡ map h xs
map-same g h [] e = refl
map-same g h (x ∷ xs) e = ap (λ (y : ℕ). y ∷ map g xs) (e x (inl refl)) ∙ ap (λ (ys : List ℕ). h x ∷ ys) (map-same g h xs (λ y i. e y (inr i)))

sum_by-same : (g h : ℕ → ℕ) (xs : List ℕ) → All (λ x. g x ≡ h x) xs → sum_by g xs ≡ sum_by h xs
sum_by-same g h [] e = refl
sum_by-same g h (x ∷ xs) e =
    let P : ℕ → Type 0 = λ x. g x ≡ h x in
    let first = All-head P x xs e in
    let rest = sum_by-same g h xs (All-tail P x xs e) in
    omega (arith, sum_by-cons g x xs, sum_by-cons h x xs, first, rest)

pub ProvesBest-priced : (net : Instance) (live f potential : ℕ → ℕ) (p : Pricing) → IsSound net live → PricesResources net potential p (rows net) → ProvesBest net f (resource_price net potential) → ProvesBest net f p
ProvesBest-priced net live f potential p sound priced proof =
    let pays : paid net p ≡ paid net (resource_price net potential) = sum_below-same net.stays _ _ (λ s within.
    ap least (map-same _ _ (allowed net s) (λ r i.
    let range = range-In r (net.arrival s) (net.last s + 1 - net.arrival s) (filter-In (is_open net s) r _ i).0 in
    let low : 1 ≤ r = omega (arith, range.0, sound.from_first s within) in
    let high : r < net.rounds + 1 = omega (arith, range.1, range.0, sound.to_last s within) in
    ap (λ (openings : ℕ). net.weight s * (r - net.arrival s) + openings) (sum_by-same (λ resource. p resource r) (λ resource. resource_price net potential resource r) (path net s) (λ k d h.
    (priced (get_or (path net s) k d) (path-inside net live s sound within k d h) r low high).0))))) in
    let worth : offered net p ≡ offered net (resource_price net potential) = sum_below-same (rows net) _ _ (λ resource inside. sum_below-same net.rounds _ _ (λ q lt.
    ap (λ (x : ℕ). net.cap resource (q + 1) * x) (priced resource inside (q + 1) (omega arith) (omega arith)).0)) in
    record { admissible = proof.admissible; tight = omega (arith, pays, worth, proof.tight) }
