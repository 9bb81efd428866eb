-- A gaining cycle of changes, once made, keeps a schedule admissible and lowers its cost.
use Rattle.std.proofs.Common.{◌≡◌, ℕ, zero, suc, ◌+◌, ◌-◌, ◌*◌, ◌%◌, ◌<◌, ◌≤◌, ◌==◌, Bool, cond, List, [], ◌∷◌, length, get_or, set, Option, Some, None, refl, sym, ap, ◌∙◌, subst, inl, inr, arith, All, sum_by, count_by, get_or-set_same, get_or-set_other}
use Rattle.std.proofs.lemmas.Bool.{cases_eq, eq-eqb}
use Rattle.std.proofs.lemmas.List.Sums.{sum_by-cons}
use Rattle.std.proofs.lemmas.List.Elements.{All-head, All-tail}
use Rattle.cost_plan.specs.Words.{Arc, IsGainingCycle, Instance, rows, IsAdmissible, load, cost, IsSound}
use Rattle.negative_cycle.proofs.CycleLemmas.{telescope}
use Rattle.cost_plan.specs.Cells.{cell, stands, rounds_of}
use Rattle.cost_plan.specs.Residual.{IsResidual, IsMove, put_in, changed, changed_all, move_arc, MarksWithin}
use Rattle.cost_plan.proofs.CellLemmas.{cell-round}
use Rattle.cost_plan.proofs.ChangeLemmas.{left, reached, MarksApart, sum-changed_all, length-changed_all}
use Rattle.cost_plan.proofs.BalanceLemmas.{inside, IsBalanced, IsBalanced-from_residual}

-- a marked arc is a move of that stay
pub move-from_mark : (net : Instance) (f : ℕ → ℕ) (arc : Arc) (stay : ℕ) → IsResidual net f arc → arc.mark ≡ Some stay → (m : IsMove net f arc) × (m.stay ≡ stay)
move-from_mark net f arc stay residual marked = elim residual [
  | inl m ↦
      let same : Some m.stay ≡ Some stay = sym (ap (λ (a : Arc). a.mark) m.is) ∙ marked in
      let e : m.stay ≡ stay = cc in
      (m, e)
  | inr other ↦ elim other [
    | inl t ↦ let never : None ≡ Some stay = sym (ap (λ (a : Arc). a.mark) t.is) ∙ marked in cc
    | inr g ↦ let never : None ≡ Some stay = sym (ap (λ (a : Arc). a.mark) g.is) ∙ marked in cc
  ]
]

-- a marked arc begins at the cell of its stay
tail-from_mark : (net : Instance) (f : ℕ → ℕ) (arc : Arc) (stay : ℕ) → IsResidual net f arc → arc.mark ≡ Some stay → arc.tail ≡ cell net (net.device stay) (f stay)
tail-from_mark net f arc stay residual marked =
    let (m, same) = move-from_mark net f arc stay residual marked in
    ap (λ (a : Arc). a.tail) m.is ∙ ap (λ (s : ℕ). cell net (net.device s) (f s)) same

-- arcs from distinct nodes take along distinct stays
one_at : (arc : Arc) (node : ℕ) → arc.tail ≡ node → cond {A = ℕ} (arc.tail == node) 1 0 ≡ 1
one_at arc node e = ap (λ (b : Bool). cond {A = ℕ} b 1 0) (eq-eqb arc.tail node e)

count-one : (arcs : List Arc) (node k : ℕ) (d : Arc) → k < length arcs → (get_or arcs k d).tail ≡ node → 1 ≤ count_by (λ a. a.tail == node) arcs
count-one [] node k d h e = absurd (omega arith)
count-one (arc ∷ arcs) node zero d h e = omega (arith, sum_by-cons (λ (a : Arc). cond {A = ℕ} (a.tail == node) 1 0) arc arcs, one_at arc node e)
count-one (arc ∷ arcs) node (suc k) d h e = let rest = count-one arcs node k d (omega arith) e in omega (arith, sum_by-cons (λ (a : Arc). cond {A = ℕ} (a.tail == node) 1 0) arc arcs)

pub MarksApart-from_tails : (net : Instance) (f : ℕ → ℕ) (arcs : List Arc) → All (IsResidual net f) arcs → ((node : ℕ) → count_by (λ a. a.tail == node) arcs ≤ 1) → MarksApart arcs
MarksApart-from_tails net f [] residual once = tt
MarksApart-from_tails net f (arc ∷ arcs) residual once =
    let first = All-head (IsResidual net f) arc arcs residual in
    let others = All-tail (IsResidual net f) arc arcs residual in (
      λ k d h stay marked also.
          let node : ℕ = cell net (net.device stay) (f stay) in
          let here = one_at arc node (tail-from_mark net f arc stay first marked) in
          let there = count-one arcs node k d h (tail-from_mark net f (get_or arcs k d) stay (others k d h) also) in
          absurd (omega (arith, once node, sum_by-cons (λ (a : Arc). cond {A = ℕ} (a.tail == node) 1 0) arc arcs)),
      MarksApart-from_tails net f arcs others (λ node. omega (arith, once node, sum_by-cons (λ (a : Arc). cond {A = ℕ} (a.tail == node) 1 0) arc arcs)),
    )

pub MarksWithin-from_residual : (net : Instance) (f : ℕ → ℕ) (arcs : List Arc) → All (IsResidual net f) arcs → MarksWithin net.stays arcs
MarksWithin-from_residual net f arcs residual = λ k d h stay marked.
    let (m, same) = move-from_mark net f (get_or arcs k d) stay (residual k d h) marked in
    omega (arith, m.within)

-- all arcs together: what a cell and those under it take in and what leaves them
pub record AreBalanced (net : Instance) (f : ℕ → ℕ) (resource round : ℕ) (arcs : List Arc) : Type 0 where
  pub takes : ℕ
  pub balance : count_by (λ a. inside net resource round a.tail) arcs + sum_by (reached net (stands net resource round)) arcs ≤ count_by (λ a. inside net resource round a.head) arcs + sum_by (left (stands net resource round) f) arcs + takes
  pub within : takes ≤ count_by (λ a. a.tail == cell net resource round) arcs
  pub room : 0 < takes → load net f resource round < net.cap resource round

AreBalanced-from_each : (net : Instance) (f : ℕ → ℕ) (resource round : ℕ) (arcs : List Arc) → All (IsBalanced net f resource round) arcs → AreBalanced net f resource round arcs
AreBalanced-from_each net f resource round [] each = record { takes = 0; balance = omega arith; within = omega arith; room = λ h. absurd (omega arith) }
AreBalanced-from_each net f resource round (arc ∷ arcs) each =
    let first = All-head (IsBalanced net f resource round) arc arcs each in
    let rest = AreBalanced-from_each net f resource round arcs (All-tail (IsBalanced net f resource round) arc arcs each) in
    let tails = sum_by-cons (λ (a : Arc). cond {A = ℕ} (inside net resource round a.tail) 1 0) arc arcs in
    let heads = sum_by-cons (λ (a : Arc). cond {A = ℕ} (inside net resource round a.head) 1 0) arc arcs in
    let ins = sum_by-cons (reached net (stands net resource round)) arc arcs in
    let outs = sum_by-cons (left (stands net resource round) f) arc arcs in
    let starts = sum_by-cons (λ (a : Arc). cond {A = ℕ} (a.tail == cell net resource round) 1 0) arc arcs in
    record {
      takes = first.takes + rest.takes;
      balance = omega (arith, first.balance, rest.balance, tails, heads, ins, outs);
      within = omega (arith, first.within, rest.within, starts);
      room = λ h. elim (cases_eq first.takes 0) [ inl none ↦ rest.room (omega arith) | inr some ↦ first.room (omega arith) ];
    }

-- a closed walk leaves each set of nodes as often as it comes to it
pub tails-heads : (test : ℕ → Bool) (arcs : List Arc) → IsGainingCycle arcs → count_by (λ a. test a.tail) arcs ≡ count_by (λ a. test a.head) arcs
tails-heads test arcs cycle =
    let around = telescope (λ v. cond (test v) 1 0) cycle.at arcs cycle.at cycle.closed in
    omega arith

pub tails-once : (arcs : List Arc) → IsGainingCycle arcs → (node : ℕ) → count_by (λ a. a.tail == node) arcs ≤ 1
tails-once arcs cycle node = omega (arith, tails-heads (λ v. v == node) arcs cycle, cycle.once node)

-- no resource has more than its cap in a round, where it had no more before
load-changed : (net : Instance) (live : ℕ → ℕ) (rounds : List ℕ) (arcs : List Arc) (resource round : ℕ) → IsSound net live → IsAdmissible net (rounds_of rounds) → net.stays ≤ length rounds → All (IsResidual net (rounds_of rounds)) arcs → IsGainingCycle arcs → resource < rows net → load net (rounds_of rounds) resource round ≤ net.cap resource round → load net (rounds_of (changed_all net rounds arcs)) resource round ≤ net.cap resource round
load-changed net live rounds arcs resource round sound ok long residual cycle below held =
    let f : ℕ → ℕ = rounds_of rounds in
    let b = AreBalanced-from_each net f resource round arcs (λ k d h. IsBalanced-from_residual net live f resource round (get_or arcs k d) sound ok below (residual k d h)) in
    let sums = sum-changed_all net net.stays (stands net resource round) rounds arcs long (MarksWithin-from_residual net f arcs residual) (MarksApart-from_tails net f arcs residual (tails-once arcs cycle)) in
    let around = tails-heads (inside net resource round) arcs cycle in
    let starts = tails-once arcs cycle (cell net resource round) in
    elim (cases_eq b.takes 0) [
      | inl none ↦ omega (arith, b.balance, sums, around, held)
      | inr some ↦ let room = b.room (omega arith) in omega (arith, b.balance, b.within, sums, around, starts, room)
    ]

-- each stay is sent within its window
abbrev pub InWindows : Instance → (ℕ → ℕ) → Type 0
InWindows net f = (s : ℕ) → s < net.stays → (net.arrival s ≤ f s) × (f s ≤ net.last s)

InWindows-put_in : (net : Instance) (rounds : List ℕ) (round : ℕ) (mark : Option ℕ) → net.stays ≤ length rounds → ((stay : ℕ) → mark ≡ Some stay → (stay < net.stays) × (net.arrival stay ≤ round) × (round ≤ net.last stay)) → InWindows net (rounds_of rounds) → InWindows net (rounds_of (put_in rounds round mark))
InWindows-put_in net rounds round None long fits windows = windows
InWindows-put_in net rounds round (Some stay) long fits windows = λ s less.
    let fit = fits stay refl in
    elim (cases_eq s stay) [
      | inl same ↦
          let known : stay < length rounds = omega (arith, fit.0) in
          let now : get_or (set rounds stay round) s 0 ≡ round = ap (λ (i : ℕ). get_or (set rounds stay round) i 0) same ∙ get_or-set_same rounds stay round 0 known in
          let arrivals = ap net.arrival same in
          let lasts = ap net.last same in
          (omega (arith, fit.1), omega (arith, fit.2))
      | inr other ↦
          let now : get_or (set rounds stay round) s 0 ≡ get_or rounds s 0 = get_or-set_other rounds stay s round 0 other in
          let was = windows s less in
          (omega (arith, was.0), omega (arith, was.1))
    ]

-- where a marked arc takes its stay
reach-from_mark : (net : Instance) (live f : ℕ → ℕ) (arc : Arc) → IsSound net live → IsResidual net f arc → (stay : ℕ) → arc.mark ≡ Some stay → (stay < net.stays) × (net.arrival stay ≤ arc.head % (net.rounds + 1)) × (arc.head % (net.rounds + 1) ≤ net.last stay)
reach-from_mark net live f arc sound residual stay marked =
    let (m, same) = move-from_mark net f arc stay residual marked in
    let last : m.round ≤ net.rounds = omega (arith, m.not_late, sound.to_last m.stay m.within) in
    let to : arc.head % (net.rounds + 1) ≡ m.round = ap (λ (a : Arc). a.head % (net.rounds + 1)) m.is ∙ cell-round net (net.device m.stay) m.round last in
    let arrivals = ap net.arrival same in
    let lasts = ap net.last same in
    (omega (arith, m.within), omega (arith, m.not_early), omega (arith, m.not_late))

length-changed : (net : Instance) (rounds : List ℕ) (arc : Arc) → length (changed net rounds arc) ≡ length rounds
length-changed net rounds arc = length-changed_all net rounds (arc ∷ [])

InWindows-changed_all : (net : Instance) (live f : ℕ → ℕ) (rounds : List ℕ) (arcs : List Arc) → IsSound net live → net.stays ≤ length rounds → All (IsResidual net f) arcs → InWindows net (rounds_of rounds) → InWindows net (rounds_of (changed_all net rounds arcs))
InWindows-changed_all net live f rounds [] sound long residual windows = windows
InWindows-changed_all net live f rounds (arc ∷ arcs) sound long residual windows =
    let first = All-head (IsResidual net f) arc arcs residual in
    InWindows-changed_all net live f (changed net rounds arc) arcs sound (omega (arith, length-changed net rounds arc)) (All-tail (IsResidual net f) arc arcs residual)
    (InWindows-put_in net rounds (arc.head % (net.rounds + 1)) arc.mark long (reach-from_mark net live f arc sound first) windows)

-- what a stay's waiting costs
abbrev pub waiting : Instance → ℕ → ℕ → ℕ
waiting net s r = net.weight s * (r - net.arrival s)

pub mul-sub : (w a b : ℕ) → a ≤ b → w * (b - a) + w * a ≡ w * b
mul-sub w a b le = let e : b - a + a ≡ b = omega arith in let product : w * (b - a + a) ≡ w * b = ap (λ (n : ℕ). w * n) e in omega arith

-- what an arc gains and loses is the change of the waiting's cost
waiting-move : (net : Instance) (live f : ℕ → ℕ) (stay r : ℕ) → r ≤ net.rounds → net.arrival stay ≤ f stay → net.arrival stay ≤ r → reached net (waiting net) (move_arc net f stay r) + (move_arc net f stay r).up ≡ left (waiting net) f (move_arc net f stay r) + (move_arc net f stay r).down
waiting-move net live f stay r to early late =
    let reaches : reached net (waiting net) (move_arc net f stay r) ≡ waiting net stay r = ap (waiting net stay) (cell-round net (net.device stay) r to) in
    omega (arith, reaches, mul-sub (net.weight stay) (net.arrival stay) r late, mul-sub (net.weight stay) (net.arrival stay) (f stay) early)

waiting-arc : (net : Instance) (live f : ℕ → ℕ) (arc : Arc) → IsSound net live → IsAdmissible net f → IsResidual net f arc → reached net (waiting net) arc + arc.up ≡ left (waiting net) f arc + arc.down
waiting-arc net live f arc sound ok residual =
    let P : Arc → Type 0 = λ a. reached net (waiting net) a + a.up ≡ left (waiting net) f a + a.down in
    elim residual [
      | inl m ↦
          let to : m.round ≤ net.rounds = omega (arith, m.not_late, sound.to_last m.stay m.within) in
          subst P (sym m.is) (waiting-move net live f m.stay m.round to (ok.not_early m.stay m.within) m.not_early)
      | inr other ↦ elim other [
        | inl t ↦ subst P (sym t.is) refl
        | inr g ↦ subst P (sym g.is) refl
      ]
    ]

waiting-arcs : (net : Instance) (live f : ℕ → ℕ) (arcs : List Arc) → IsSound net live → IsAdmissible net f → All (IsResidual net f) arcs → sum_by (reached net (waiting net)) arcs + sum_by (λ a. a.up) arcs ≡ sum_by (left (waiting net) f) arcs + sum_by (λ a. a.down) arcs
waiting-arcs net live f [] sound ok residual = refl
waiting-arcs net live f (arc ∷ arcs) sound ok residual =
    let first = waiting-arc net live f arc sound ok (All-head (IsResidual net f) arc arcs residual) in
    let rest = waiting-arcs net live f arcs sound ok (All-tail (IsResidual net f) arc arcs residual) in
    omega (arith, first, rest, sum_by-cons (reached net (waiting net)) arc arcs, sum_by-cons (left (waiting net) f) arc arcs, sum_by-cons (λ (a : Arc). a.up) arc arcs, sum_by-cons (λ (a : Arc). a.down) arc arcs)

-- the schedule after a gaining cycle costs less
pub cost-changed_all : (net : Instance) (live : ℕ → ℕ) (rounds : List ℕ) (arcs : List Arc) → IsSound net live → IsAdmissible net (rounds_of rounds) → net.stays ≤ length rounds → All (IsResidual net (rounds_of rounds)) arcs → IsGainingCycle arcs → cost net (rounds_of (changed_all net rounds arcs)) < cost net (rounds_of rounds)
cost-changed_all net live rounds arcs sound ok long residual cycle =
    let f : ℕ → ℕ = rounds_of rounds in
    let sums = sum-changed_all net net.stays (waiting net) rounds arcs long (MarksWithin-from_residual net f arcs residual) (MarksApart-from_tails net f arcs residual (tails-once arcs cycle)) in
    omega (arith, sums, waiting-arcs net live f arcs sound ok residual, cycle.gains)

-- and is admissible
pub IsAdmissible-changed_all : (net : Instance) (live : ℕ → ℕ) (rounds : List ℕ) (arcs : List Arc) → IsSound net live → IsAdmissible net (rounds_of rounds) → net.stays ≤ length rounds → All (IsResidual net (rounds_of rounds)) arcs → IsGainingCycle arcs → IsAdmissible net (rounds_of (changed_all net rounds arcs))
IsAdmissible-changed_all net live rounds arcs sound ok long residual cycle =
    let f : ℕ → ℕ = rounds_of rounds in
    let windows = InWindows-changed_all net live f rounds arcs sound long residual (λ s less. (ok.not_early s less, ok.not_late s less)) in
    record {
      not_early = λ s less. (windows s less).0;
      not_late = λ s less. (windows s less).1;
      rows_hold = λ resource r inside first last. load-changed net live rounds arcs resource r sound ok long residual cycle inside (ok.rows_hold resource r inside first last);
    }
