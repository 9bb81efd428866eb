-- Raising potentials ends.
use Rattle.std.proofs.Common.{◌≡◌, ℕ, zero, suc, ◌+◌, ◌-◌, ◌/◌, ◌<◌, ◌≤◌, List, [], ◌∷◌, length, get_or, Option, Some, ap, inl, inr, arith, All, sum_by}
use Rattle.std.proofs.lemmas.List.Sums.{sum_by-cons}
use Rattle.cost_plan.specs.Words.{Arc, AllCameBy, PotentialTable, potential_of, limit, Instance}
use Rattle.cost_plan.specs.Residual.{IsResidual}
use Rattle.cost_plan.specs.Raising.{Raises, AllResidual}

-- how far potentials are below a number, all together
abbrev pub room_below : ℕ → List ℕ → ℕ
room_below most potentials = sum_by (λ y. most - y) potentials

abbrev pub room : PotentialTable → ℕ
room l = room_below (limit l) l.potentials

room-le : (most : ℕ) (old new : List ℕ) → length new ≡ length old → ((k : ℕ) → get_or old k 0 ≤ get_or new k 0) → room_below most new ≤ room_below most old
room-le most [] [] size rises = omega arith
room-le most [] (y ∷ new) size rises = absurd (omega arith)
room-le most (x ∷ old) [] size rises = absurd (omega arith)
room-le most (x ∷ old) (y ∷ new) size rises =
    let F : ℕ → ℕ = λ z. most - z in
    let first : x ≤ y = rises 0 in
    let rest = room-le most old new (omega arith) (λ k. rises (suc k)) in
    omega (arith, sum_by-cons F x old, sum_by-cons F y new)

room-lt : (most : ℕ) (old new : List ℕ) (node : ℕ) → length new ≡ length old → ((k : ℕ) → get_or old k 0 ≤ get_or new k 0) → node < length old → get_or old node 0 < get_or new node 0 → get_or new node 0 ≤ most → room_below most new < room_below most old
room-lt most [] new node size rises inside up low = absurd (omega arith)
room-lt most (x ∷ old) [] node size rises inside up low = absurd (omega arith)
room-lt most (x ∷ old) (y ∷ new) zero size rises inside up low =
    let F : ℕ → ℕ = λ z. most - z in
    let rest = room-le most old new (omega arith) (λ k. rises (suc k)) in
    omega (arith, sum_by-cons F x old, sum_by-cons F y new)
room-lt most (x ∷ old) (y ∷ new) (suc node) size rises inside up low =
    let F : ℕ → ℕ = λ z. most - z in
    let first : x ≤ y = rises 0 in
    let rest = room-lt most old new node (omega arith) (λ k. rises (suc k)) (omega arith) up low in
    omega (arith, sum_by-cons F x old, sum_by-cons F y new)

-- a node that rose and is within the limit leaves less room
pub room-falls : (net : Instance) (f : ℕ → ℕ) (old new : PotentialTable) (found : Option ℕ) (node : ℕ) → Raises net f old new found → found ≡ Some node → potential_of new node ≤ limit new → room new < room old
room-falls net f old new found node r is low =
    let same : limit new ≡ limit old = ap (λ (m : ℕ). m / 2 + m / 4) r.most in
    let below : potential_of new node ≤ limit old = omega arith in
    let rooms : room new ≡ room_below (limit old) new.potentials = ap (λ (m : ℕ). room_below m new.potentials) same in
    elim (r.rose node is) [
      | inl up ↦ let less = room-lt (limit old) old.potentials new.potentials node r.size r.rises (r.inside node is) up below in omega arith
      | inr past ↦ absurd (omega arith)
    ]

-- the arcs by which potentials rose are of what can be changed
pub AllResidual-raised : (net : Instance) (f : ℕ → ℕ) (old new : PotentialTable) (found : Option ℕ) → Raises net f old new found → AllResidual net f old → AllResidual net f new
AllResidual-raised net f old new found r before = λ node arc came. elim (r.came node arc came) [ inl was ↦ before node arc was | inr now ↦ now ]

pub residual-from_came : (net : Instance) (f : ℕ → ℕ) (l : PotentialTable) (arcs : List Arc) → AllResidual net f l → AllCameBy l.preds arcs → All (IsResidual net f) arcs
residual-from_came net f l arcs all came = λ k d h. all (get_or arcs k d).head (get_or arcs k d) (came k d h)
