-- What one stay more or less in a round does to the loads of cells.
use Rattle.std.proofs.Common.{◌≡◌, ◌≢◌, ℕ, zero, suc, ◌+◌, ◌-◌, ◌<◌, ◌≤◌, ◌==◌, ◌&&◌, ◌||◌, Bool, cond, List, length, get_or, set, refl, sym, ap, ◌∙◌, inl, inr, arith, length-set, get_or-set_same, get_or-set_other}
use Rattle.std.proofs.lemmas.Bool.{cases_eq, eq-eqb, ne_eqb, and_from, and_left, and_right, or_left}
use Rattle.cost_plan.specs.Words.{Instance, rows, uses, IsAdmissible, load, IsSound}
use Rattle.cost_plan.specs.Cells.{cell, resource_above, covers, stands, part_load, rounds_of}
use Rattle.cost_plan.specs.WorkingSchedule.{IsWorkingSchedule, KeepWindows, KeepResources}
use Rattle.round_net.proofs.SumLemmas.{sum_below-same, sum_below-set}
use Rattle.cost_plan.proofs.BalanceLemmas.{at_most_one}
use Rattle.cost_plan.proofs.CellLemmas.{cell-apart, resource_above-past, covers-uses, covers-past, covers-above, covers-self}

-- 1 at equal numbers, and 0 elsewhere
abbrev pub same : ℕ → ℕ → ℕ
same a b = cond (a == b) 1 0

same-yes : (a b : ℕ) → a ≡ b → same a b ≡ 1
same-yes a b e = ap (λ (t : Bool). cond {A = ℕ} t 1 0) (eq-eqb a b e)

same-no : (a b : ℕ) → a ≢ b → same a b ≡ 0
same-no a b e = ap (λ (t : Bool). cond {A = ℕ} t 1 0) (ne_eqb a b e)

-- 1 where the resource is, or stands above, the other in the round, and 0 elsewhere
abbrev pub over : Instance → ℕ → ℕ → ℕ → ℕ → ℕ
over net resource r other round = cond (covers net resource other && (round == r)) 1 0

-- a stay stands in its device's cell and in those above it
over-stay : (net : Instance) (live : ℕ → ℕ) (resource r stay round : ℕ) → IsSound net live → stay < net.stays → over net resource r (net.device stay) round ≡ stands net resource r stay round
over-stay net live resource r stay round sound within = ap (λ (b : Bool). cond {A = ℕ} (b && (round == r)) 1 0) (covers-uses net live resource stay sound within)

over-self : (net : Instance) (resource r : ℕ) → resource < rows net → over net resource r resource r ≡ 1
over-self net resource r inside = ap (λ (b : Bool). cond {A = ℕ} b 1 0) (and_from (covers net resource resource) (r == r) (covers-self net resource inside) (eq-eqb r r refl))

-- past all resources there are none
over-past : (net : Instance) (resource r other round : ℕ) → resource < rows net → rows net ≤ other → over net resource r other round ≡ 0
over-past net resource r other round inside past = ap (λ (b : Bool). cond {A = ℕ} b 1 0) (and_left (covers net resource other) (round == r) (covers-past net resource other inside (omega arith)))

-- one cell, and those above it
over-above : (net : Instance) (resource r other round : ℕ) → resource < rows net → other < rows net → r ≤ net.rounds → round ≤ net.rounds → over net resource r other round ≡ same (cell net resource r) (cell net other round) + over net resource r (resource_above net other) round
over-above net resource r other round inside within low high =
    let here = covers-above net resource other inside in
    elim (cases_eq other resource) [
      | inr apart ↦
          let differ = same-no (cell net resource r) (cell net other round) (λ e. apart (sym (cell-apart net resource r other round low high e).0)) in
          let same_up : over net resource r other round ≡ over net resource r (resource_above net other) round = ap (λ (b : Bool). cond {A = ℕ} (b && (round == r)) 1 0) (here ∙ ap (λ (b : Bool). b || covers net resource (resource_above net other)) (ne_eqb other resource apart)) in
          omega arith
      | inl this ↦
          let none : over net resource r (resource_above net other) round ≡ 0 = ap (λ (b : Bool). cond {A = ℕ} b 1 0) (and_left (covers net resource (resource_above net other)) (round == r) (covers-past net resource (resource_above net other) inside (resource_above-past net resource other inside (omega arith)))) in
          elim (cases_eq round r) [
            | inr other_round ↦
                let differ = same-no (cell net resource r) (cell net other round) (λ e. other_round (sym (cell-apart net resource r other round low high e).1)) in
                let out : over net resource r other round ≡ 0 = ap (λ (b : Bool). cond {A = ℕ} b 1 0) (and_right (covers net resource other) (round == r) (ne_eqb round r other_round)) in
                omega arith
            | inl same_round ↦
                let is = same-yes (cell net resource r) (cell net other round) (ap (λ (k : ℕ). cell net k r) (sym this) ∙ ap (cell net other) (sym same_round)) in
                let one : over net resource r other round ≡ 1 = ap (λ (b : Bool). cond {A = ℕ} b 1 0) (and_from (covers net resource other) (round == r) (here ∙ or_left (other == resource) (covers net resource (resource_above net other)) (eq-eqb other resource this)) (eq-eqb round r same_round)) in
                omega arith
          ]
    ]

-- one place of a list rises, or falls, by one
set-up : (xs : List ℕ) (place k x : ℕ) → place < length xs → x ≡ get_or xs place 0 → get_or (set xs place (x + 1)) k 0 ≡ get_or xs k 0 + same k place
set-up xs place k x inside read = elim (cases_eq k place) [
  | inl is ↦
      let now : get_or (set xs place (x + 1)) k 0 ≡ x + 1 = ap (λ (i : ℕ). get_or (set xs place (x + 1)) i 0) is ∙ get_or-set_same xs place _ 0 inside in
      let was : get_or xs k 0 ≡ get_or xs place 0 = ap (λ (i : ℕ). get_or xs i 0) is in
      omega (arith, same-yes k place is)
  | inr other ↦ omega (arith, same-no k place other, get_or-set_other xs place k (x + 1) 0 other)
]

set-down : (xs : List ℕ) (place k x : ℕ) → place < length xs → x ≡ get_or xs place 0 → 1 ≤ x → get_or (set xs place (x - 1)) k 0 + same k place ≡ get_or xs k 0
set-down xs place k x inside read some = elim (cases_eq k place) [
  | inl is ↦
      let now : get_or (set xs place (x - 1)) k 0 ≡ x - 1 = ap (λ (i : ℕ). get_or (set xs place (x - 1)) i 0) is ∙ get_or-set_same xs place _ 0 inside in
      let was : get_or xs k 0 ≡ get_or xs place 0 = ap (λ (i : ℕ). get_or xs i 0) is in
      omega (arith, same-yes k place is)
  | inr other ↦ omega (arith, same-no k place other, get_or-set_other xs place k (x - 1) 0 other)
]

-- The cells of a stay's resources below this one have one more, and those from here on not yet.
pub record IsAdding (net : Instance) (stay round : ℕ) (old new : List ℕ) (resource : ℕ) : Type 0 where
  pub size : length new ≡ length old
  pub counts : (k r : ℕ) → k < rows net → r ≤ net.rounds → get_or new (cell net k r) 0 + over net k r resource round ≡ get_or old (cell net k r) 0 + stands net k r stay round

pub IsAdding-begun : (net : Instance) (live : ℕ → ℕ) (stay round : ℕ) (loads : List ℕ) → IsSound net live → stay < net.stays → IsAdding net stay round loads loads (net.device stay)
IsAdding-begun net live stay round loads sound within = record { size = refl; counts = λ k r inside low. omega (arith, over-stay net live k r stay round sound within) }

pub IsAdding-step : (net : Instance) (stay round : ℕ) (old new : List ℕ) (resource place x : ℕ) → resource < rows net → round ≤ net.rounds → place < length new → place ≡ cell net resource round → x ≡ get_or new place 0 → IsAdding net stay round old new resource → IsAdding net stay round old (set new place (x + 1)) (resource_above net resource)
IsAdding-step net stay round old new resource place x within high inside is read before = record {
  size = length-set new place (x + 1) ∙ before.size;
  counts = λ k r known low.
      let here = ap (same (cell net k r)) is in
      omega (arith, before.counts k r known low, over-above net k r resource round known within low high, set-up new place (cell net k r) x inside read);
}

pub IsAdding-ended : (net : Instance) (stay round : ℕ) (old new : List ℕ) (resource : ℕ) → rows net ≤ resource → IsAdding net stay round old new resource → (k r : ℕ) → k < rows net → r ≤ net.rounds → get_or new (cell net k r) 0 ≡ get_or old (cell net k r) 0 + stands net k r stay round
IsAdding-ended net stay round old new resource past added = λ k r known low. omega (arith, added.counts k r known low, over-past net k r resource round known past)

-- The cells of a stay's resources below this one have one less, and those from here on not yet.
pub record IsRemoving (net : Instance) (stay round : ℕ) (old new : List ℕ) (resource : ℕ) : Type 0 where
  pub size : length new ≡ length old
  pub counts : (k r : ℕ) → k < rows net → r ≤ net.rounds → get_or new (cell net k r) 0 + stands net k r stay round ≡ get_or old (cell net k r) 0 + over net k r resource round

pub IsRemoving-begun : (net : Instance) (live : ℕ → ℕ) (stay round : ℕ) (loads : List ℕ) → IsSound net live → stay < net.stays → IsRemoving net stay round loads loads (net.device stay)
IsRemoving-begun net live stay round loads sound within = record { size = refl; counts = λ k r inside low. omega (arith, over-stay net live k r stay round sound within) }

-- where all cells of the stay's resources had one, this resource's still has
pub IsRemoving-some : (net : Instance) (stay round : ℕ) (old new : List ℕ) (resource : ℕ) → resource < rows net → round ≤ net.rounds → ((k r : ℕ) → k < rows net → r ≤ net.rounds → stands net k r stay round ≤ get_or old (cell net k r) 0) → IsRemoving net stay round old new resource → 1 ≤ get_or new (cell net resource round) 0
IsRemoving-some net stay round old new resource within high some removed = omega (arith, removed.counts resource round within high, some resource round within high, over-self net resource round within)

pub IsRemoving-step : (net : Instance) (stay round : ℕ) (old new : List ℕ) (resource place x : ℕ) → resource < rows net → round ≤ net.rounds → place < length new → place ≡ cell net resource round → x ≡ get_or new place 0 → 1 ≤ x → IsRemoving net stay round old new resource → IsRemoving net stay round old (set new place (x - 1)) (resource_above net resource)
IsRemoving-step net stay round old new resource place x within high inside is read some before = record {
  size = length-set new place (x - 1) ∙ before.size;
  counts = λ k r known low.
      let here = ap (same (cell net k r)) is in
      omega (arith, before.counts k r known low, over-above net k r resource round known within low high, set-down new place (cell net k r) x inside read some);
}

pub IsRemoving-ended : (net : Instance) (stay round : ℕ) (old new : List ℕ) (resource : ℕ) → rows net ≤ resource → IsRemoving net stay round old new resource → (k r : ℕ) → k < rows net → r ≤ net.rounds → get_or old (cell net k r) 0 ≡ get_or new (cell net k r) 0 + stands net k r stay round
IsRemoving-ended net stay round old new resource past removed = λ k r known low. omega (arith, removed.counts k r known low, over-past net k r resource round known past)

pub part_load-le : (net : Instance) (f : ℕ → ℕ) (n resource r : ℕ) → part_load net f n resource r ≤ n
part_load-le net f zero resource r = omega arith
part_load-le net f (suc n) resource r =
    let rest = part_load-le net f n resource r in
    let one = at_most_one (uses net resource n && (f n == r)) in
    omega arith

pub IsWorkingSchedule-put : (net : Instance) (rounds old mid new : List ℕ) (stay round : ℕ) → stay < net.stays → round ≤ net.rounds → length new ≡ length old →
    ((resource r : ℕ) → resource < rows net → r ≤ net.rounds → get_or old (cell net resource r) 0 ≡ get_or mid (cell net resource r) 0 + stands net resource r stay (rounds_of rounds stay)) →
    ((resource r : ℕ) → resource < rows net → r ≤ net.rounds → get_or new (cell net resource r) 0 ≡ get_or mid (cell net resource r) 0 + stands net resource r stay round) →
    IsWorkingSchedule net rounds old → IsWorkingSchedule net (set rounds stay round) new
IsWorkingSchedule-put net rounds old mid new stay round within high size removed added working =
    let known : stay < length rounds = omega (arith, working.long) in
    record {
      long = length-set rounds stay round ∙ working.long;
      within = λ s less. elim (cases_eq s stay) [
        | inl is ↦ omega (arith, ap (λ (i : ℕ). get_or (set rounds stay round) i 0) is, get_or-set_same rounds stay round 0 known)
        | inr other ↦ omega (arith, working.within s less, get_or-set_other rounds stay s round 0 other)
      ];
      loads_are = record {
        size = size ∙ working.loads_are.size;
        counts = λ resource r inside low.
            omega (arith, removed resource r inside low, added resource r inside low, working.loads_are.counts resource r inside low, sum_below-set net.stays stay round (stands net resource r) rounds within known);
      };
    }

-- a schedule that sends each stay as another does is admissible as that is
pub IsAdmissible-same : (net : Instance) (f g : ℕ → ℕ) → ((s : ℕ) → s < net.stays → g s ≡ f s) → IsAdmissible net f → IsAdmissible net g
IsAdmissible-same net f g agree ok = record {
  not_early = λ s less. omega (arith, agree s less, ok.not_early s less);
  not_late = λ s less. omega (arith, agree s less, ok.not_late s less);
  rows_hold = λ resource r inside first last.
      let loads : load net g resource r ≡ load net f resource r = sum_below-same net.stays _ _ (λ s less. ap (λ (q : ℕ). cond {A = ℕ} (uses net resource s && (q == r)) 1 0) (agree s less)) in
      omega (arith, ok.rows_hold resource r inside first last);
}

-- a schedule that keeps windows and caps is admissible, and no other is
pub IsAdmissible-kept : (net : Instance) (f : ℕ → ℕ) → KeepWindows net f net.stays → KeepResources net f (rows net) → IsAdmissible net f
IsAdmissible-kept net f windows caps = record {
  not_early = λ s less. (windows s less).0;
  not_late = λ s less. (windows s less).1;
  rows_hold = λ resource r inside first last. caps resource inside r first (omega arith);
}

pub KeepResources-admissible : (net : Instance) (f : ℕ → ℕ) → IsAdmissible net f → KeepResources net f (rows net)
KeepResources-admissible net f ok = λ resource inside r first last. ok.rows_hold resource r inside first (omega arith)
