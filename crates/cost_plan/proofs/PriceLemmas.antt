-- Potentials that settle each arc of what can be changed in a schedule give prices that prove it.
use Rattle.std.proofs.Common.{◌≡◌, ℕ, zero, suc, ◌+◌, ◌-◌, ◌*◌, ◌<◌, ◌≤◌, ◌==◌, ◌&&◌, Bool, true, cond, nat_lt, List, [], ◌∷◌, get_or, map, refl, sym, ap, ◌∙◌, subst, inl, inr, arith}
use Rattle.std.specs.List.{All, list_any, sum_by}
use Rattle.std.proofs.lemmas.Bool.{cases_lt, eq-eqb, lt-ltb, ltb-true, cond-true, and_from, or_left, or_right}
use Rattle.std.proofs.lemmas.List.Sums.{sum_by-cons, AllPass-from_list_all, list_all-from_AllPass}
use Rattle.std.proofs.lemmas.List.Elements.{All-head, All-tail}
use Rattle.cost_plan.specs.Words.{sum_below, least, Instance, rows, path, uses, IsAdmissible, load, is_open, allowed, priced, paid, offered, ProvesBest, IsSound}
use Rattle.cost_plan.specs.Cells.{cell, root, resource_above, levels, resources_up, node_of, above}
use Rattle.cost_plan.specs.Residual.{move_arc, take_arc, give_arc}
use Rattle.cost_plan.specs.ResourcePrices.{SettlesAll, resource_price}
use Rattle.round_net.proofs.SumLemmas.{sum_below-same, sum_below-add, term-le-sum_below}
use Rattle.round_net.proofs.PathLemmas.{path-inside, exchange_path}
use Rattle.cost_plan.proofs.CellLemmas.{node_of-resource, node_of-past, steps_up, steps_up-levels, resources_up-resource, resources_up-past, path-resources_up}
use Rattle.cost_plan.proofs.CycleChangeLemmas.{mul-sub}
use Rattle.orders.proofs.LeastLemmas.{least-at}

-- the price of a cell that takes stays
resource_price-open : (net : Instance) (y : ℕ → ℕ) (resource r : ℕ) → 0 < net.cap resource r → resource_price net y resource r ≡ y (cell net resource r) - y (above net resource r)
resource_price-open net y resource r opened = cond-true _ _ _ (lt-ltb 0 (net.cap resource r) opened)

-- what the potentials say of a cell with room, and of one that has a stay
settled-take : (net : Instance) (f y : ℕ → ℕ) (resource r : ℕ) → SettlesAll net f y → resource < rows net → 1 ≤ r → r ≤ net.rounds → load net f resource r < net.cap resource r → y (cell net resource r) ≤ y (above net resource r)
settled-take net f y resource r settled inside first last room =
    let s = settled (take_arc net resource r) (inr (inl (record { resource = resource; round = r; is = refl; within = inside; first = first; last = last; room = room }))) in
    omega arith

settled-give : (net : Instance) (f y : ℕ → ℕ) (resource r : ℕ) → SettlesAll net f y → resource < rows net → 1 ≤ r → r ≤ net.rounds → 0 < load net f resource r → y (above net resource r) ≤ y (cell net resource r)
settled-give net f y resource r settled inside first last some =
    let s = settled (give_arc net resource r) (inr (inr (record { resource = resource; round = r; is = refl; within = inside; first = first; last = last; some = some }))) in
    omega arith

-- a price above 0 stands at a full cell alone
load-price : (net : Instance) (f y : ℕ → ℕ) (resource r : ℕ) → SettlesAll net f y → resource < rows net → 1 ≤ r → r ≤ net.rounds → load net f resource r ≤ net.cap resource r → load net f resource r * resource_price net y resource r ≡ net.cap resource r * resource_price net y resource r
load-price net f y resource r settled inside first last held = elim (cases_lt (load net f resource r) (net.cap resource r)) [
  | inl room ↦
      let low = settled-take net f y resource r settled inside first last room in
      let none : resource_price net y resource r ≡ 0 = resource_price-open net y resource r (omega arith) ∙ (let e : y (cell net resource r) - y (above net resource r) ≡ 0 = omega arith in e) in
      ap (λ (p : ℕ). load net f resource r * p) none ∙ (let e : load net f resource r * 0 ≡ net.cap resource r * 0 = omega arith in e) ∙ ap (λ (p : ℕ). net.cap resource r * p) (sym none)
  | inr full ↦ ap (λ (n : ℕ). n * resource_price net y resource r) (let e : load net f resource r ≡ net.cap resource r = omega arith in e)
]

-- what a stay's own round says of each resource that it uses
record IsPlaced (net : Instance) (f : ℕ → ℕ) (s resource : ℕ) : Type 0 where
  pub inside : resource < rows net
  pub some : 0 < load net f resource (f s)
  pub held : load net f resource (f s) ≤ net.cap resource (f s)

counted : (net : Instance) (f : ℕ → ℕ) (resource s : ℕ) → s < net.stays → uses net resource s ≡ true → 0 < load net f resource (f s)
counted net f resource s within on =
    let one : cond {A = ℕ} (uses net resource s && (f s == f s)) 1 0 ≡ 1 = ap (λ (b : Bool). cond {A = ℕ} b 1 0) (and_from (uses net resource s) (f s == f s) on (eq-eqb (f s) (f s) refl)) in
    omega (arith, term-le-sum_below net.stays s (λ t. cond (uses net resource t && (f t == f s)) 1 0) within)

each-own : (xs : List ℕ) → All (λ x. list_any (λ own. own == x) xs ≡ true) xs
each-own [] k d h = absurd (omega arith)
each-own (x ∷ xs) zero d h = or_left (x == x) _ (eq-eqb x x refl)
each-own (x ∷ xs) (suc k) d h = or_right _ _ (each-own xs k d (omega arith))

round-first : (net : Instance) (live f : ℕ → ℕ) (s : ℕ) → IsSound net live → IsAdmissible net f → s < net.stays → 1 ≤ f s
round-first net live f s sound ok within = omega (arith, sound.from_first s within, ok.not_early s within)

round-last : (net : Instance) (live f : ℕ → ℕ) (s : ℕ) → IsSound net live → IsAdmissible net f → s < net.stays → f s ≤ net.rounds
round-last net live f s sound ok within = omega (arith, ok.not_late s within, sound.to_last s within)

AllPlaced : (net : Instance) (live f : ℕ → ℕ) (s : ℕ) → IsSound net live → IsAdmissible net f → s < net.stays → All (IsPlaced net f s) (path net s)
AllPlaced net live f s sound ok within = λ k d h.
    let resource : ℕ = get_or (path net s) k d in
    let inside : resource < rows net = path-inside net live s sound within k d h in
    record {
      inside = inside;
      some = counted net f resource s within (each-own (path net s) k d h);
      held = ok.rows_hold resource (f s) inside (round-first net live f s sound ok within) (round-last net live f s sound ok within);
    }

-- The price of a cell that has a stay is how far its potential is above the next one. That of one that could take a stay is so at
-- least.
abbrev pub IsExact : Instance → (ℕ → ℕ) → ℕ → ℕ → Type 0
IsExact net y r resource = resource_price net y resource r + y (above net resource r) ≡ y (node_of net resource r)

abbrev pub IsEnough : Instance → (ℕ → ℕ) → ℕ → ℕ → Type 0
IsEnough net y r resource = y (node_of net resource r) ≤ resource_price net y resource r + y (above net resource r)

IsExact-used : (net : Instance) (f y : ℕ → ℕ) (resource r : ℕ) → SettlesAll net f y → resource < rows net → 1 ≤ r → r ≤ net.rounds → load net f resource r ≤ net.cap resource r → 0 < load net f resource r → IsExact net y r resource
IsExact-used net f y resource r settled inside first last held some = omega (arith, resource_price-open net y resource r (omega arith), settled-give net f y resource r settled inside first last some, ap y (node_of-resource net resource r inside))

IsEnough-open : (net : Instance) (y : ℕ → ℕ) (resource r : ℕ) → resource < rows net → 0 < net.cap resource r → IsEnough net y r resource
IsEnough-open net y resource r inside opened = omega (arith, resource_price-open net y resource r opened, ap y (node_of-resource net resource r inside))

-- from a resource up prices add up to how far its potential is above the root's
exact-up : (n : ℕ) (net : Instance) (y : ℕ → ℕ) (resource r : ℕ) → steps_up n net resource ≡ rows net → All (IsExact net y r) (resources_up n net resource) → sum_by (λ k. resource_price net y k r) (resources_up n net resource) + y (root net) ≡ y (node_of net resource r)
exact-up zero net y resource r end each = omega (arith, ap y (node_of-past net resource r (omega arith)))
exact-up (suc n) net y resource r end each = elim (cases_lt resource (rows net)) [
  | inr past ↦
      let none = ap (λ (own : List ℕ). sum_by (λ k. resource_price net y k r) own) (resources_up-past (suc n) net resource past) in
      omega (arith, none, ap y (node_of-past net resource r past))
  | inl inside ↦
      let others : List ℕ = resources_up n net (resource_above net resource) in
      let is = resources_up-resource n net resource inside in
      let all = subst (λ (own : List ℕ). All (IsExact net y r) own) is each in
      let first = All-head (IsExact net y r) resource others all in
      let rest = exact-up n net y (resource_above net resource) r end (All-tail (IsExact net y r) resource others all) in
      let sums = ap (λ (own : List ℕ). sum_by (λ k. resource_price net y k r) own) is in
      omega (arith, sums, sum_by-cons (λ k. resource_price net y k r) resource others, first, rest)
]

enough-up : (n : ℕ) (net : Instance) (y : ℕ → ℕ) (resource r : ℕ) → steps_up n net resource ≡ rows net → All (IsEnough net y r) (resources_up n net resource) → y (node_of net resource r) ≤ sum_by (λ k. resource_price net y k r) (resources_up n net resource) + y (root net)
enough-up zero net y resource r end each = omega (arith, ap y (node_of-past net resource r (omega arith)))
enough-up (suc n) net y resource r end each = elim (cases_lt resource (rows net)) [
  | inr past ↦ omega (arith, ap y (node_of-past net resource r past))
  | inl inside ↦
      let others : List ℕ = resources_up n net (resource_above net resource) in
      let is = resources_up-resource n net resource inside in
      let all = subst (λ (own : List ℕ). All (IsEnough net y r) own) is each in
      let first = All-head (IsEnough net y r) resource others all in
      let rest = enough-up n net y (resource_above net resource) r end (All-tail (IsEnough net y r) resource others all) in
      let sums = ap (λ (own : List ℕ). sum_by (λ k. resource_price net y k r) own) is in
      omega (arith, sums, sum_by-cons (λ k. resource_price net y k r) resource others, first, rest)
]

-- so from a stay's device up
exact-path : (net : Instance) (live y : ℕ → ℕ) (s r : ℕ) → IsSound net live → s < net.stays → All (IsExact net y r) (path net s) → sum_by (λ k. resource_price net y k r) (path net s) + y (root net) ≡ y (cell net (net.device s) r)
exact-path net live y s r sound within each =
    let device = sound.on_device s within in
    let up = path-resources_up net live s sound within in
    let all = exact-up levels net y (net.device s) r (steps_up-levels net (net.device s)) (subst (λ (own : List ℕ). All (IsExact net y r) own) up each) in
    let sums = ap (λ (own : List ℕ). sum_by (λ k. resource_price net y k r) own) up in
    omega (arith, all, sums, ap y (node_of-resource net (net.device s) r (omega arith)))

enough-path : (net : Instance) (live y : ℕ → ℕ) (s r : ℕ) → IsSound net live → s < net.stays → All (IsEnough net y r) (path net s) → y (cell net (net.device s) r) ≤ sum_by (λ k. resource_price net y k r) (path net s) + y (root net)
enough-path net live y s r sound within each =
    let device = sound.on_device s within in
    let up = path-resources_up net live s sound within in
    let all = enough-up levels net y (net.device s) r (steps_up-levels net (net.device s)) (subst (λ (own : List ℕ). All (IsEnough net y r) own) up each) in
    let sums = ap (λ (own : List ℕ). sum_by (λ k. resource_price net y k r) own) up in
    omega (arith, all, sums, ap y (node_of-resource net (net.device s) r (omega arith)))

-- no opened round of its window is cheaper for a stay than its own
cheapest : (net : Instance) (live f y : ℕ → ℕ) (s r : ℕ) → IsSound net live → IsAdmissible net f → SettlesAll net f y → s < net.stays → net.arrival s ≤ r → r ≤ net.last s → is_open net s r ≡ true → priced net (resource_price net y) s (f s) ≤ priced net (resource_price net y) s r
cheapest net live f y s r sound ok settled within early late opened =
    let placed = AllPlaced net live f s sound ok within in
    let opens = AllPass-from_list_all (λ resource. nat_lt 0 (net.cap resource r)) (path net s) opened in
    let used = exact-path net live y s (f s) sound within (λ k d h.
    let p = placed k d h in
    IsExact-used net f y (get_or (path net s) k d) (f s) settled p.inside (round-first net live f s sound ok within) (round-last net live f s sound ok within) p.held p.some) in
    let reach = enough-path net live y s r sound within (λ k d h.
    let resource : ℕ = get_or (path net s) k d in
    IsEnough-open net y resource r (placed k d h).inside (ltb-true 0 (net.cap resource r) (opens k d h))) in
    let move = settled (move_arc net f s r) (inl (record { stay = s; round = r; is = refl; within = within; not_early = early; not_late = late })) in
    let waits_here = mul-sub (net.weight s) (net.arrival s) (f s) (ok.not_early s within) in
    let waits_there = mul-sub (net.weight s) (net.arrival s) r early in
    omega (arith, used, reach, move, waits_here, waits_there)

-- a stay's own round is one of those that it could be sent in
open-here : (net : Instance) (live f : ℕ → ℕ) (s : ℕ) → IsSound net live → IsAdmissible net f → s < net.stays → is_open net s (f s) ≡ true
open-here net live f s sound ok within =
    let placed = AllPlaced net live f s sound ok within in
    list_all-from_AllPass (λ resource. nat_lt 0 (net.cap resource (f s))) (path net s) (λ k d h.
    let p = placed k d h in
    lt-ltb 0 (net.cap (get_or (path net s) k d) (f s)) (omega (arith, p.some, p.held)))

-- so what it pays at least is what it pays there
pays-here : (net : Instance) (live f y : ℕ → ℕ) (s : ℕ) → IsSound net live → IsAdmissible net f → SettlesAll net f y → s < net.stays → least (map (priced net (resource_price net y) s) (allowed net s)) ≡ priced net (resource_price net y) s (f s)
pays-here net live f y s sound ok settled within =
    let early = ok.not_early s within in
    let late = ok.not_late s within in
    least-at (priced net (resource_price net y) s) (is_open net s) (net.arrival s) (net.last s + 1 - net.arrival s) (f s) early (omega arith) (open-here net live f s sound ok within)
    (λ r low high opened. cheapest net live f y s r sound ok settled within low (omega arith) opened)

-- what all stays pay for their openings is what the openings are worth
rows-worth : (net : Instance) (live f y : ℕ → ℕ) → IsSound net live → IsAdmissible net f → SettlesAll net f y → sum_below net.stays (λ s. sum_by (λ resource. resource_price net y resource (f s)) (path net s)) ≡ offered net (resource_price net y)
rows-worth net live f y sound ok settled =
    exchange_path net live f (resource_price net y) sound (λ s within. (round-first net live f s sound ok within, round-last net live f s sound ok within))
    ∙ sum_below-same (rows net) _ _ (λ resource inside. sum_below-same net.rounds _ _ (λ q lt.
    let low : 1 ≤ q + 1 = omega arith in
    let high : q + 1 ≤ net.rounds = omega arith in
    load-price net f y resource (q + 1) settled inside low high (ok.rows_hold resource (q + 1) inside low high)))

-- potentials that settle each change prove the schedule
pub ProvesBest-from_potentials : (net : Instance) (live f y : ℕ → ℕ) → IsSound net live → IsAdmissible net f → SettlesAll net f y → ProvesBest net f (resource_price net y)
ProvesBest-from_potentials net live f y sound ok settled =
    let waits : ℕ → ℕ = λ s. net.weight s * (f s - net.arrival s) in
    let openings : ℕ → ℕ = λ s. sum_by (λ resource. resource_price net y resource (f s)) (path net s) in
    let pays : paid net (resource_price net y) ≡ sum_below net.stays (λ s. waits s + openings s) = sum_below-same net.stays _ _ (λ s within. pays-here net live f y s sound ok settled within) in
    record { admissible = ok; tight = omega (arith, pays, sum_below-add net.stays waits openings, rows-worth net live f y sound ok settled) }
