-- What one arc of what can be changed does to a cell and the cells under it.
use Rattle.std.proofs.Common.{◌≡◌, ℕ, ◌+◌, ◌/◌, ◌%◌, ◌<◌, ◌≤◌, ◌==◌, ◌&&◌, ◌||◌, ◌⊎◌, Bool, true, false, cond, None, refl, sym, ap, ◌∙◌, subst, inl, inr, arith}
use Rattle.std.proofs.lemmas.Bool.{cases_lt, cases_Bool, eq-eqb, eqb-true, and_left, and_parts}
use Rattle.cost_plan.specs.Words.{Arc, Instance, rows, IsSound, IsAdmissible, load}
use Rattle.cost_plan.specs.Cells.{cell, resource_above, above, covers, stands}
use Rattle.cost_plan.specs.Residual.{IsResidual, move_arc, take_arc, give_arc}
use Rattle.cost_plan.proofs.CellLemmas.{cell-resource, cell-round, node_of-resource, node_of-past, covers-uses, covers-past, covers-above}
use Rattle.cost_plan.proofs.ChangeLemmas.{left, reached}

-- a node is a cell, or one under it
abbrev pub inside : Instance → ℕ → ℕ → ℕ → Bool
inside net resource round node = covers net resource (node / (net.rounds + 1)) && (node % (net.rounds + 1) == round)

inside-cell : (net : Instance) (resource round other r : ℕ) → r ≤ net.rounds → inside net resource round (cell net other r) ≡ (covers net resource other && (r == round))
inside-cell net resource round other r last =
    ap (λ (j : ℕ). covers net resource j && (cell net other r % (net.rounds + 1) == round)) (cell-resource net other r last)
    ∙ ap (λ (q : ℕ). covers net resource other && (q == round)) (cell-round net other r last)

-- the same of the node above a cell
inside-above : (net : Instance) (resource round other r : ℕ) → resource < rows net → r ≤ net.rounds → inside net resource round (above net other r) ≡ (covers net resource (resource_above net other) && (r == round))
inside-above net resource round other r below last = elim (cases_lt (resource_above net other) (rows net)) [
  | inl within ↦ ap (inside net resource round) (node_of-resource net (resource_above net other) r within) ∙ inside-cell net resource round (resource_above net other) r last
  | inr past ↦
      let first : 0 ≤ net.rounds = omega arith in
      ap (inside net resource round) (node_of-past net (resource_above net other) r past)
      ∙ inside-cell net resource round (rows net) 0 first
      ∙ and_left (covers net resource (rows net)) (0 == round) (covers-past net resource (rows net) below below)
      ∙ sym (and_left (covers net resource (resource_above net other)) (r == round) (covers-past net resource (resource_above net other) below (omega arith)))
]

pub at_most_one : (b : Bool) → cond {A = ℕ} b 1 0 ≤ 1
at_most_one true = omega arith
at_most_one false = omega arith

-- What the arc takes into the cell and those under it, and what stays there reach, is no more than what it takes out, what
-- leaves, and one stay more where there is room.
pub record IsBalanced (net : Instance) (f : ℕ → ℕ) (resource round : ℕ) (arc : Arc) : Type 0 where
  pub takes : ℕ
  pub balance : cond (inside net resource round arc.tail) 1 0 + reached net (stands net resource round) arc ≤ cond (inside net resource round arc.head) 1 0 + left (stands net resource round) f arc + takes
  pub within : takes ≤ cond (arc.tail == cell net resource round) 1 0
  pub room : 0 < takes → load net f resource round < net.cap resource round

IsBalanced-move : (net : Instance) (live f : ℕ → ℕ) (resource round stay r : ℕ) → IsSound net live → stay < net.stays → f stay ≤ net.rounds → r ≤ net.rounds → IsBalanced net f resource round (move_arc net f stay r)
IsBalanced-move net live f resource round stay r sound within from to = record {
  takes = 0;
  balance =
      let on = covers-uses net live resource stay sound within in
      let tail = ap (λ (b : Bool). cond {A = ℕ} b 1 0) (inside-cell net resource round (net.device stay) (f stay) from ∙ ap (λ (b : Bool). b && (f stay == round)) on) in
      let head = ap (λ (b : Bool). cond {A = ℕ} b 1 0) (inside-cell net resource round (net.device stay) r to ∙ ap (λ (b : Bool). b && (r == round)) on) in
      let reaches = ap (λ (q : ℕ). stands net resource round stay q) (cell-round net (net.device stay) r to) in
      omega (arith, tail, head, reaches);
  within = omega arith;
  room = λ h. absurd (omega arith);
}

-- an arc that moves no stay, where its tail is not inside, or its head is too
IsBalanced-outside : (net : Instance) (f : ℕ → ℕ) (resource round tail head : ℕ) → (inside net resource round tail ≡ false) ⊎ (inside net resource round head ≡ true) → IsBalanced net f resource round (record { tail = tail; head = head; up = 0; down = 0; mark = None })
IsBalanced-outside net f resource round tail head cases = record {
  takes = 0;
  balance = elim cases [
    | inl out ↦ let e : cond {A = ℕ} (inside net resource round tail) 1 0 ≡ 0 = ap (λ (b : Bool). cond {A = ℕ} b 1 0) out in omega arith
    | inr both ↦
        let e : cond {A = ℕ} (inside net resource round head) 1 0 ≡ 1 = ap (λ (b : Bool). cond {A = ℕ} b 1 0) both in
        let most = at_most_one (inside net resource round tail) in
        omega arith
  ];
  within = omega arith;
  room = λ h. absurd (omega arith);
}

-- a cell that is inside, but isn't the cell itself, is so with the node above it; a node above that is inside is so with each
-- cell right under it
take-cases : (this up here : Bool) → (this && here) ≡ false → (((this || up) && here) ≡ false) ⊎ ((up && here) ≡ true)
take-cases true up here other = inl other
take-cases false false here other = inl refl
take-cases false true false other = inl refl
take-cases false true true other = inr refl

give-cases : (this up here : Bool) → ((up && here) ≡ false) ⊎ (((this || up) && here) ≡ true)
give-cases this false here = inl refl
give-cases this true false = inl refl
give-cases true true true = inr refl
give-cases false true true = inr refl

-- whether a cell is inside, by whether the resource above it is covered
inside-by_above : (net : Instance) (resource round other r : ℕ) → resource < rows net → r ≤ net.rounds → inside net resource round (cell net other r) ≡ (((other == resource) || covers net resource (resource_above net other)) && (r == round))
inside-by_above net resource round other r below last = inside-cell net resource round other r last ∙ ap (λ (b : Bool). b && (r == round)) (covers-above net resource other below)

IsBalanced-take : (net : Instance) (f : ℕ → ℕ) (resource round other r : ℕ) → resource < rows net → r ≤ net.rounds → load net f other r < net.cap other r → IsBalanced net f resource round (take_arc net other r)
IsBalanced-take net f resource round other r below last room = elim (cases_Bool ((other == resource) && (r == round))) [
  | inl this ↦
      let parts = and_parts (other == resource) (r == round) this in
      let same_resource : other ≡ resource = eqb-true other resource parts.0 in
      let same : r ≡ round = eqb-true r round parts.1 in
      let e : cell net other r ≡ cell net resource round = ap (λ (j : ℕ). cell net j r) same_resource ∙ ap (cell net resource) same in
      record {
        takes = 1;
        balance = let most = at_most_one (inside net resource round (cell net other r)) in omega arith;
        within = let one : cond {A = ℕ} (cell net other r == cell net resource round) 1 0 ≡ 1 = ap (λ (b : Bool). cond {A = ℕ} b 1 0) (eq-eqb _ _ e) in omega arith;
        room = λ h. subst (λ (j : ℕ). load net f j round < net.cap j round) same_resource (subst (λ (q : ℕ). load net f other q < net.cap other q) same room);
      }
  | inr apart ↦ IsBalanced-outside net f resource round (cell net other r) (above net other r) (elim (take-cases (other == resource) (covers net resource (resource_above net other)) (r == round) apart) [
    | inl out ↦ inl (inside-by_above net resource round other r below last ∙ out)
    | inr both ↦ inr (inside-above net resource round other r below last ∙ both)
  ])
]

IsBalanced-give : (net : Instance) (f : ℕ → ℕ) (resource round other r : ℕ) → resource < rows net → r ≤ net.rounds → IsBalanced net f resource round (give_arc net other r)
IsBalanced-give net f resource round other r below last = IsBalanced-outside net f resource round (above net other r) (cell net other r) (elim (give-cases (other == resource) (covers net resource (resource_above net other)) (r == round)) [
  | inl out ↦ inl (inside-above net resource round other r below last ∙ out)
  | inr both ↦ inr (inside-by_above net resource round other r below last ∙ both)
])

-- each arc of what can be changed
pub IsBalanced-from_residual : (net : Instance) (live f : ℕ → ℕ) (resource round : ℕ) (arc : Arc) → IsSound net live → IsAdmissible net f → resource < rows net → IsResidual net f arc → IsBalanced net f resource round arc
IsBalanced-from_residual net live f resource round arc sound ok below residual =
    let P : Arc → Type 0 = IsBalanced net f resource round in
    elim residual [
      | inl m ↦
          let from : f m.stay ≤ net.rounds = omega (arith, ok.not_late m.stay m.within, sound.to_last m.stay m.within) in
          let to : m.round ≤ net.rounds = omega (arith, m.not_late, sound.to_last m.stay m.within) in
          subst P (sym m.is) (IsBalanced-move net live f resource round m.stay m.round sound m.within from to)
      | inr other ↦ elim other [
        | inl t ↦ subst P (sym t.is) (IsBalanced-take net f resource round t.resource t.round below t.last t.room)
        | inr g ↦ subst P (sym g.is) (IsBalanced-give net f resource round g.resource g.round below g.last)
      ]
    ]
