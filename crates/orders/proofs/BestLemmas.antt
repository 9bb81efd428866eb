-- Prices in closed form prove the order by weight best where only devices bind.
use Rattle.std.proofs.Common.{◌≡◌, ℕ, ◌+◌, ◌-◌, ◌*◌, ◌<◌, ◌≤◌, ◌==◌, ◌&&◌, Bool, true, cond, nat_lt, [], ◌∷◌, Some, None, map, refl, sym, ap, ◌∙◌, subst, inl, inr, arith}
use Rattle.std.specs.List.{sum_by}
use Rattle.std.specs.Option.{option_map_or}
use Rattle.std.proofs.lemmas.Bool.{cases_lt, eq-eqb, lt-ltb, and_from}
use Rattle.std.proofs.lemmas.List.Sums.{sum_by-cons}
use Rattle.round_net.specs.Sums.{sum_below, least}
use Rattle.round_net.specs.Instance.{Instance, rows, adapter, adapter_resource, link_resource, link_rows, path, uses}
use Rattle.round_net.specs.Schedules.{load, IsAdmissible}
use Rattle.round_net.specs.Value.{Pricing, is_open, allowed, priced, paid, offered, ProvesBest}
use Rattle.round_net.specs.Sound.{IsSound}
use Rattle.round_net.proofs.SumLemmas.{sum_below-same, sum_below-add, term-le-sum_below}
use Rattle.round_net.proofs.PathLemmas.{exchange_path}
use Rattle.price_check.proofs.UsedLemmas.{used_within, on_used}
use Rattle.orders.specs.declared.order.Order.TheVariants.{ByWeight}
use Rattle.orders.specs.Orders.{IsOrdered}
use Rattle.orders.specs.ClosedPrices.{AreClosedPrices, DevicesBind}
use Rattle.orders.proofs.LeastLemmas.{least-at}
use Rattle.orders.proofs.ClosedLemmas.{times, moves}

-- a stay pays for its device's opening alone
path-price : (net : Instance) (live : ℕ → ℕ) (p : Pricing) (s r : ℕ) → IsSound net live → s < net.stays → ((row : ℕ) → net.devices ≤ row → row < rows net → p row r ≡ 0) → sum_by (λ row. p row r) (path net s) ≡ p (net.device s) r
path-price net live p s r sound within none =
    let g : ℕ → ℕ = λ row. p row r in
    let a : ℕ = adapter net s in
    let on : a < net.adapters = sound.on_adapter (net.device s) (sound.on_device s within) in
    let links : sum_by g (link_rows net a) ≡ 0 = elim (net.link_of a) as (λ o. ((l : ℕ) → o ≡ Some l → l < net.links) → sum_by g (option_map_or (λ l. link_resource net l ∷ []) o []) ≡ 0) [
      | None ↦ λ h. refl
      | Some l ↦ λ h. let less = h l refl in sum_by-cons g (link_resource net l) [] ∙ (let e = none (link_resource net l) (omega arith) (omega arith) in omega (arith, e))
    ] (sound.on_link a) in
    omega (arith, sum_by-cons g (net.device s) (adapter_resource net a ∷ link_rows net a), sum_by-cons g (adapter_resource net a) (link_rows net a), none (adapter_resource net a) (omega arith) (omega arith), links)

-- a stay's own round is one of those that it could be sent in
counted : (net : Instance) (f : ℕ → ℕ) (row s : ℕ) → s < net.stays → uses net row s ≡ true → 0 < load net f row (f s)
counted net f row s within on =
    let one : cond {A = ℕ} (uses net row s && (f s == f s)) 1 0 ≡ 1 = ap (λ (b : Bool). cond {A = ℕ} b 1 0) (and_from (uses net row s) (f s == f s) on (eq-eqb (f s) (f s) refl)) in
    omega (arith, term-le-sum_below net.stays s (λ t. cond (uses net row t && (f t == f s)) 1 0) within)

open-here : (net : Instance) (live f : ℕ → ℕ) (s : ℕ) → IsSound net live → IsAdmissible net f → s < net.stays → is_open net s (f s) ≡ true
open-here net live f s sound ok within =
    let first : 1 ≤ f s = omega (arith, sound.from_first s within, ok.not_early s within) in
    let last : f s ≤ net.rounds = omega (arith, ok.not_late s within, sound.to_last s within) in
    on_used (λ row. nat_lt 0 (net.cap row (f s))) (path net s) (λ row used.
    let holds = ok.rows_hold row (f s) (used_within net live s row sound within used) first last in
    lt-ltb 0 (net.cap row (f s)) (omega (arith, counted net f row s within used)))

-- so what it pays at least is what it pays there
pays-here : (net : Instance) (live f : ℕ → ℕ) (p : Pricing) (s : ℕ) → IsSound net live → IsOrdered ByWeight net f → IsAdmissible net f → AreClosedPrices net f p → s < net.stays → least (map (priced net p s) (allowed net s)) ≡ priced net p s (f s)
pays-here net live f p s sound ordered ok closed within =
    let early = ok.not_early s within in
    let late = ok.not_late s within in
    least-at (priced net p s) (is_open net s) (net.arrival s) (net.last s + 1 - net.arrival s) (f s) early (omega arith) (open-here net live f s sound ok within)
    (λ r low high opened.
    let cheap = moves net live f p s r sound ordered ok closed within low (omega arith) in
    let start = sound.from_first s within in
    let end = sound.to_last s within in
    let here = path-price net live p s (f s) sound within (λ row past inside. closed.others row (f s) past inside (omega arith) (omega arith)) in
    let there = path-price net live p s r sound within (λ row past inside. closed.others row r past inside (omega arith) (omega arith)) in
    omega (arith, cheap, here, there, times (net.weight s) (net.arrival s) (f s) early, times (net.weight s) (net.arrival s) r low))

-- a price above 0 stands at a full device alone
load-price : (net : Instance) (f : ℕ → ℕ) (p : Pricing) (row r : ℕ) → DevicesBind net f → AreClosedPrices net f p → row < rows net → 1 ≤ r → r ≤ net.rounds → load net f row r * p row r ≡ net.cap row r * p row r
load-price net f p row r bind closed inside first last = elim (cases_lt row net.devices) [
  | inr past ↦ nothing (closed.others row r past inside first last)
  | inl device ↦ elim (closed.devices row r device first last) [
    | inl nobody ↦ nothing nobody.1
    | inr found ↦
        let waits = found.1.waits in
        ap (λ (n : ℕ). n * p row r) (subst (λ (d : ℕ). load net f d r ≡ net.cap d r) waits.here (bind found.0 r waits.within waits.arrived waits.later))
  ]
]
  where
    nothing : p row r ≡ 0 → load net f row r * p row r ≡ net.cap row r * p row r
    nothing none = ap (λ (x : ℕ). load net f row r * x) none ∙ (let e : load net f row r * 0 ≡ net.cap row r * 0 = omega arith in e) ∙ ap (λ (x : ℕ). net.cap row r * x) (sym none)

pub best_where_devices_bind : (net : Instance) (live f : ℕ → ℕ) (p : Pricing) → IsSound net live → IsOrdered ByWeight net f → IsAdmissible net f → DevicesBind net f → AreClosedPrices net f p → ProvesBest net f p
best_where_devices_bind net live f p sound ordered ok bind closed =
    let waits : ℕ → ℕ = λ s. net.weight s * (f s - net.arrival s) in
    let openings : ℕ → ℕ = λ s. sum_by (λ row. p row (f s)) (path net s) in
    let pays : paid net p ≡ sum_below net.stays (λ s. waits s + openings s) = sum_below-same net.stays _ _ (λ s within. pays-here net live f p s sound ordered ok closed within) in
    let inside : (s : ℕ) → s < net.stays → (1 ≤ f s) × (f s ≤ net.rounds) = λ s within. (omega (arith, sound.from_first s within, ok.not_early s within), omega (arith, ok.not_late s within, sound.to_last s within)) in
    let worth : sum_below net.stays openings ≡ offered net p = exchange_path net live f p sound inside ∙ sum_below-same (rows net) _ _ (λ row within. sum_below-same net.rounds _ _ (λ q less. load-price net f p row (q + 1) bind closed within (omega arith) (omega arith))) in
    record { admissible = ok; tight = omega (arith, pays, sum_below-add net.stays waits openings, worth) }
