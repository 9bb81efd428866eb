-- What a schedule's sums are once stays that are alike change their rounds.
use Rattle.std.proofs.Common.{◌≡◌, ◌≢◌, ℕ, zero, suc, ◌+◌, ◌-◌, ◌*◌, ◌<◌, ◌≤◌, ◌⊎◌, ◌==◌, ◌&&◌, cond, List, [], ◌∷◌, length, map, get_or, set, refl, sym, ap, ◌∙◌, subst, inl, inr, arith, length-set, get_or-set_same, get_or-set_other}
use Rattle.std.proofs.Math.Nat.{mul-add}
use Rattle.std.proofs.lemmas.Bool.{cases_eq}
use Rattle.std.specs.List.{swap, list_any}
use Rattle.round_net.specs.Instance.{path_of}
use Rattle.std.specs.List.Sorted.{IsPermutation}
use Rattle.std.proofs.lemmas.List.{get_or-map, length-map}
use Rattle.std.proofs.lemmas.List.Edits.{swap_is, swapped_from_swap, length-swap}
use Rattle.std.proofs.lemmas.List.Sorted.{IsPermutation-keeps, length_permutation}
use Rattle.round_net.specs.Sums.{sum_below}
use Rattle.round_net.proofs.SumLemmas.{sum_below-same, sum_below-add, sum_below-set}
use Rattle.cost_plan.specs.Turns.{HaveWindows, AreInTurnWithin, AreSpared}
use Rattle.cost_plan.specs.Words.{Instance, uses, IsAdmissible, load, cost, IsSound}
use Rattle.cost_plan.specs.TurnOrder.{IsKind, IsKindTurned}

-- a sum over what a list has at each place, once two places change what they have, to which that is the same
sum_below-swap : (n a b : ℕ) (g : ℕ → ℕ → ℕ) (xs : List ℕ) → a < n → b < n → length xs ≡ n → ((r : ℕ) → g a r ≡ g b r) → sum_below n (λ s. g s (get_or (swap xs a b) s 0)) ≡ sum_below n (λ s. g s (get_or xs s 0))
sum_below-swap n a b g xs left right long alike =
    let x = get_or xs a 0 in
    let y = get_or xs b 0 in
    let mid = set xs a y in
    let size : length mid ≡ n = length-set xs a y ∙ long in
    let first = sum_below-set n a y g xs left (omega arith) in
    let second = sum_below-set n b x g mid right (omega arith) in
    let kept : get_or mid b 0 ≡ y = elim (cases_eq b a) [
      | inl same ↦ ap (λ (k : ℕ). get_or mid k 0) same ∙ get_or-set_same xs a y 0 (omega arith)
      | inr other ↦ get_or-set_other xs a b y 0 other
    ] in
    let is : sum_below n (λ s. g s (get_or (set mid b x) s 0)) ≡ sum_below n (λ s. g s (get_or (swap xs a b) s 0)) = ap (λ (ys : List ℕ). sum_below n (λ s. g s (get_or ys s 0))) (swap_is xs a b 0 (omega arith) (omega arith)) in
    let moved : g b (get_or mid b 0) ≡ g b y = ap (g b) kept in
    omega (arith, first, second, is, moved, alike x, alike y)

none_of : (x : ℕ) (xs : List ℕ) (s : ℕ) → x ≢ s → ((k : ℕ) → k < length xs → get_or xs k 0 ≢ s) → (k : ℕ) → k < length (x ∷ xs) → get_or (x ∷ xs) k 0 ≢ s
none_of x xs s other none zero less = other
none_of x xs s other none (suc k) less = none k (omega arith)

-- a number is at some place of a list, or at none
place_or_none : (xs : List ℕ) (s : ℕ) → ((k : ℕ) × (k < length xs) × (get_or xs k 0 ≡ s)) ⊎ ((k : ℕ) → k < length xs → get_or xs k 0 ≢ s)
place_or_none [] s = inr (λ k less. absurd (omega arith))
place_or_none (x ∷ xs) s = elim (cases_eq x s) [
  | inl here ↦ inl (zero, omega arith, here)
  | inr other ↦ elim (place_or_none xs s) [
    | inl there ↦ inl (suc there.0, omega (arith, there.1), there.2)
    | inr none ↦ inr (none_of x xs s other none)
  ]
]

-- A list has these values at some places, and elsewhere what another has.
record Fits (members values old xs : List ℕ) : Type 0 where
  long : length xs ≡ length old
  own : (k : ℕ) → k < length members → get_or xs (get_or members k 0) 0 ≡ get_or values k 0
  others : (s : ℕ) → ((k : ℕ) → k < length members → get_or members k 0 ≢ s) → get_or xs s 0 ≡ get_or old s 0

-- each list that does has the old one's sum
abbrev KeepsSum : (n : ℕ) (g : ℕ → ℕ → ℕ) (members old values : List ℕ) → Type 0
KeepsSum n g members old values = (length values ≡ length members) × ((xs : List ℕ) → Fits members values old xs → sum_below n (λ s. g s (get_or xs s 0)) ≡ sum_below n (λ s. g s (get_or old s 0)))

KeepsSum-own : (n : ℕ) (g : ℕ → ℕ → ℕ) (members old : List ℕ) → KeepsSum n g members old (map (λ s. get_or old s 0) members)
KeepsSum-own n g members old =
    let f : ℕ → ℕ = λ s. get_or old s 0 in (
      length-map members f,
      λ xs fits. sum_below-same n _ _ (λ s less.
          let same : get_or xs s 0 ≡ get_or old s 0 = elim (place_or_none members s) [
            | inl there ↦ ap (λ (k : ℕ). get_or xs k 0) (sym there.2) ∙ fits.own there.0 there.1 ∙ get_or-map f members there.0 0 0 there.1 ∙ ap (λ (k : ℕ). get_or old k 0) there.2
            | inr none ↦ fits.others s none
          ] in
          ap (g s) same),
    )

KeepsSum-swap : (n : ℕ) (g : ℕ → ℕ → ℕ) (members old : List ℕ) → length old ≡ n → ((k : ℕ) → k < length members → get_or members k 0 < n) → ((i j : ℕ) → i < length members → j < length members → get_or members i 0 ≡ get_or members j 0 → i ≡ j) → ((i j r : ℕ) → i < length members → j < length members → g (get_or members i 0) r ≡ g (get_or members j 0) r) →
    (values : List ℕ) (i j : ℕ) → i < length values → j < length values → KeepsSum n g members old values → KeepsSum n g members old (swap values i j)
KeepsSum-swap n g members old long within once alike values i j left right keeps =
    let size = keeps.0 in
    let a = get_or members i 0 in
    let b = get_or members j 0 in
    let v = swapped_from_swap values (swap values i j) i j 0 left right refl in (
      length-swap values i j ∙ size,
      λ xs fits.
          let a_in : a < length xs = omega (arith, within i (omega arith), fits.long) in
          let b_in : b < length xs = omega (arith, within j (omega arith), fits.long) in
          let x = swapped_from_swap xs (swap xs a b) a b 0 a_in b_in refl in
          let back : Fits members values old (swap xs a b) = record {
            long = length-swap xs a b ∙ fits.long;
            own = λ k less. elim (cases_eq k i) [
              | inl e ↦ ap (λ (m : ℕ). get_or (swap xs a b) (get_or members m 0) 0) e ∙ x.0 ∙ fits.own j (omega arith) ∙ v.1 ∙ ap (λ (m : ℕ). get_or values m 0) (sym e)
              | inr not_i ↦ elim (cases_eq k j) [
                | inl e ↦ ap (λ (m : ℕ). get_or (swap xs a b) (get_or members m 0) 0) e ∙ x.1 ∙ fits.own i (omega arith) ∙ v.0 ∙ ap (λ (m : ℕ). get_or values m 0) (sym e)
                | inr not_j ↦ x.2 (get_or members k 0) (λ e. not_i (once k i less (omega arith) e)) (λ e. not_j (once k j less (omega arith) e)) ∙ fits.own k less ∙ v.2 k not_i not_j
              ]
            ];
            others = λ s none. x.2 s (λ e. none i (omega arith) (sym e)) (λ e. none j (omega arith) (sym e)) ∙ fits.others s none;
          } in
          sym (sum_below-swap n a b g xs (within i (omega arith)) (within j (omega arith)) (fits.long ∙ long) (λ r. alike i j r (omega arith) (omega arith))) ∙ keeps.1 (swap xs a b) back,
    )

-- rounds of stays that are alike, in another order
sum_below-kind : (n : ℕ) (g : ℕ → ℕ → ℕ) (members old new values : List ℕ) → length old ≡ n → ((k : ℕ) → k < length members → get_or members k 0 < n) → ((i j : ℕ) → i < length members → j < length members → get_or members i 0 ≡ get_or members j 0 → i ≡ j) → ((i j r : ℕ) → i < length members → j < length members → g (get_or members i 0) r ≡ g (get_or members j 0) r) →
    IsPermutation (map (λ s. get_or old s 0) members) values → Fits members values old new → sum_below n (λ s. g s (get_or new s 0)) ≡ sum_below n (λ s. g s (get_or old s 0))
sum_below-kind n g members old new values long within once alike permutation fits =
    let keeps = IsPermutation-keeps (map (λ s. get_or old s 0) members) (KeepsSum n g members old) (KeepsSum-own n g members old) (λ l i j left right ok. KeepsSum-swap n g members old long within once alike l i j left right ok) values permutation in
    keeps.1 new fits

-- what a schedule costs, once it is known that no stay is early
cost-sum : (net : Instance) (f : ℕ → ℕ) → ((s : ℕ) → s < net.stays → net.arrival s ≤ f s) → cost net f + sum_below net.stays (λ s. net.weight s * net.arrival s) ≡ sum_below net.stays (λ s. net.weight s * f s)
cost-sum net f arrived =
    sym (sum_below-add net.stays (λ s. net.weight s * (f s - net.arrival s)) (λ s. net.weight s * net.arrival s)) ∙ sum_below-same net.stays _ _ (λ s less.
    let whole : (f s - net.arrival s) + net.arrival s ≡ f s = omega (arith, arrived s less) in
    sym (mul-add (net.weight s) (f s - net.arrival s) (net.arrival s)) ∙ ap (λ (k : ℕ). net.weight s * k) whole)

pub IsKindTurned-made : (net : Instance) (members arrivals lasts own values old new : List ℕ) → IsKind net members → length old ≡ net.stays → IsAdmissible net (λ s. get_or old s 0) →
    arrivals ≡ map net.arrival members → lasts ≡ map net.last members → own ≡ map (λ s. get_or old s 0) members → IsPermutation own values → HaveWindows arrivals lasts values → (¬ AreSpared net.rounds lasts → AreInTurnWithin arrivals lasts values) →
    length new ≡ length old → ((k : ℕ) → k < length members → get_or new (get_or members k 0) 0 ≡ get_or values k 0) → ((s : ℕ) → ((k : ℕ) → k < length members → get_or members k 0 ≢ s) → get_or new s 0 ≡ get_or old s 0) → IsKindTurned net members old new
IsKindTurned-made net members arrivals lasts own values old new kind long admissible are_arrivals are_lasts are_own permutation windows turned size put others =
    let n = net.stays in
    let count = length members in
    let fits : Fits members values old new = record { long = size; own = put; others = others } in
    let moved : IsPermutation (map (λ s. get_or old s 0) members) values = subst (λ xs. IsPermutation xs values) are_own permutation in
    let long_arrivals : length arrivals ≡ count = ap length are_arrivals ∙ length-map members net.arrival in
    let long_lasts : length lasts ≡ count = ap length are_lasts ∙ length-map members net.last in
    let arrival : (k : ℕ) → k < count → get_or arrivals k 0 ≡ net.arrival (get_or members k 0) = λ k less. ap (λ (xs : List ℕ). get_or xs k 0) are_arrivals ∙ get_or-map net.arrival members k 0 0 less in
    let last : (k : ℕ) → k < count → get_or lasts k 0 ≡ net.last (get_or members k 0) = λ k less. ap (λ (xs : List ℕ). get_or xs k 0) are_lasts ∙ get_or-map net.last members k 0 0 less in
    let sums : (g : ℕ → ℕ → ℕ) → ((i j r : ℕ) → i < count → j < count → g (get_or members i 0) r ≡ g (get_or members j 0) r) → sum_below n (λ s. g s (get_or new s 0)) ≡ sum_below n (λ s. g s (get_or old s 0)) = λ g alike. sum_below-kind n g members old new values long kind.within kind.once alike moved fits in
    let in_window : (s : ℕ) → s < n → (net.arrival s ≤ get_or new s 0) × (get_or new s 0 ≤ net.last s) = λ s less. elim (place_or_none members s) [
      | inl there ↦
          let k = there.0 in
          let at : get_or new s 0 ≡ get_or values k 0 = ap (λ (m : ℕ). get_or new m 0) (sym there.2) ∙ put k there.1 in
          let early : get_or arrivals k 0 ≡ net.arrival s = arrival k there.1 ∙ ap net.arrival there.2 in
          let late : get_or lasts k 0 ≡ net.last s = last k there.1 ∙ ap net.last there.2 in
          let window = windows k (omega (arith, there.1)) in
          (omega (arith, window.0), omega (arith, window.1))
      | inr none ↦ (omega (arith, others s none, admissible.not_early s less), omega (arith, others s none, admissible.not_late s less))
    ] in
    let loads : (resource round : ℕ) → load net (λ s. get_or new s 0) resource round ≡ load net (λ s. get_or old s 0) resource round = λ resource round. sums (λ s r. cond (uses net resource s && (r == round)) 1 0) (λ i j r left right. ap (λ (d : ℕ). cond {A = ℕ} (list_any (λ own. own == resource) (path_of net d) && (r == round)) 1 0) (kind.alike i j left right).0) in
    let weighed = sums (λ s r. net.weight s * r) (λ i j r left right. ap (λ (w : ℕ). w * r) (kind.alike i j left right).1) in
    record {
      long = size;
      admissible = record {
        not_early = λ s less. (in_window s less).0;
        not_late = λ s less. (in_window s less).1;
        rows_hold = λ resource r inside first end. omega (arith, loads resource r, admissible.rows_hold resource r inside first end);
      };
      same_cost = omega (arith, weighed, cost-sum net (λ s. get_or old s 0) admissible.not_early, cost-sum net (λ s. get_or new s 0) (λ s less. (in_window s less).0));
      others = others;
      in_turn = λ allowed i j up less could.
          let spared : ¬ AreSpared net.rounds lasts = λ all. allowed (omega (arith, all.0), (all.1.0, omega (arith, all.1.1), omega (arith, last all.1.0 (omega (arith, all.1.1)), all.1.2))) in
          let first = put i (omega arith) in
          let second = put j less in
          omega (arith, first, second, turned spared i j up (omega arith) (omega (arith, arrival i (omega arith), could.0, second)) (omega (arith, last j less, could.3, first)));
    }

-- the windows of such stays
pub windows-kind : (net : Instance) (members arrivals lasts own old : List ℕ) → IsKind net members → IsAdmissible net (λ s. get_or old s 0) → arrivals ≡ map net.arrival members → lasts ≡ map net.last members → own ≡ map (λ s. get_or old s 0) members → HaveWindows arrivals lasts own
windows-kind net members arrivals lasts own old kind admissible are_arrivals are_lasts are_own = λ i less.
    let within : i < length members = omega (arith, ap length are_arrivals, length-map members net.arrival) in
    let stay = get_or members i 0 in
    let arrival : get_or arrivals i 0 ≡ net.arrival stay = ap (λ (xs : List ℕ). get_or xs i 0) are_arrivals ∙ get_or-map net.arrival members i 0 0 within in
    let last : get_or lasts i 0 ≡ net.last stay = ap (λ (xs : List ℕ). get_or xs i 0) are_lasts ∙ get_or-map net.last members i 0 0 within in
    let round : get_or own i 0 ≡ get_or old stay 0 = ap (λ (xs : List ℕ). get_or xs i 0) are_own ∙ get_or-map (λ s. get_or old s 0) members i 0 0 within in
    (omega (arith, admissible.not_early stay (kind.within i within)), omega (arith, admissible.not_late stay (kind.within i within)))

pub ends-kind : (net : Instance) (live : ℕ → ℕ) (members lasts : List ℕ) (end : ℕ) → IsSound net live → IsKind net members → lasts ≡ map net.last members → end ≡ net.rounds → (i : ℕ) → i < length lasts → get_or lasts i 0 ≤ end
ends-kind net live members lasts end sound kind are_lasts is i less =
    let within : i < length members = omega (arith, ap length are_lasts, length-map members net.last) in
    let last : get_or lasts i 0 ≡ net.last (get_or members i 0) = ap (λ (xs : List ℕ). get_or xs i 0) are_lasts ∙ get_or-map net.last members i 0 0 within in
    omega (arith, sound.to_last (get_or members i 0) (kind.within i within))

pub long-kind : (members own values old : List ℕ) → own ≡ map (λ s. get_or old s 0) members → IsPermutation own values → length values ≡ length members
long-kind members own values old are_own permutation = length_permutation own values permutation ∙ ap length are_own ∙ length-map members (λ s. get_or old s 0)
