-- Stays that change their rounds in pairs.
use Rattle.std.proofs.Common.{◌≡◌, ℕ, zero, suc, ◌+◌, ◌-◌, ◌*◌, ◌<◌, ◌≤◌, Bool, true, false, List, [], ◌∷◌, length, get_or, set, refl, sym, ap, ◌∙◌, subst, inl, inr, arith, length-set, get_or-set_other}
use Rattle.std.proofs.Math.Nat.{mul-add, add-mul}
use Rattle.std.proofs.lemmas.Nat.{mul-le}
use Rattle.std.proofs.lemmas.Bool.{cases_eq, false≢true}
use Rattle.std.specs.List.{swap, All}
use Rattle.std.specs.List.Sorted.{IsPermutation}
use Rattle.std.proofs.lemmas.List.Edits.{swapped_from_swap, swap_is}
use Rattle.std.proofs.lemmas.List.Sorted.{IsPermutation-swap, IsPermutation-trans, All-permutation, length_permutation}
use Rattle.std.proofs.lemmas.List.{get_or_default}
use Rattle.cost_plan.specs.Turns.{HaveArrived, HaveWindows}
use Rattle.cost_plan.specs.Exchanges.{lateness, ArePairInTurn, IsInTurn, Exchanges}

lateness-set : (xs : List ℕ) (i v : ℕ) → i < length xs → lateness (set xs i v) + (length xs - i) * get_or xs i 0 ≡ lateness xs + (length xs - i) * v
lateness-set [] i v less = absurd (omega arith)
lateness-set (x ∷ xs) zero v less =
    let size : length (x ∷ xs) - 0 ≡ length xs + 1 = omega arith in
    let old : (length (x ∷ xs) - 0) * x ≡ (length xs + 1) * x = ap (λ (n : ℕ). n * x) size in
    let new : (length (x ∷ xs) - 0) * v ≡ (length xs + 1) * v = ap (λ (n : ℕ). n * v) size in
    omega arith
lateness-set (x ∷ xs) (suc i) v less =
    let rest = lateness-set xs i v (omega arith) in
    let size : length (x ∷ xs) - suc i ≡ length xs - i = omega arith in
    let old : (length (x ∷ xs) - suc i) * get_or xs i 0 ≡ (length xs - i) * get_or xs i 0 = ap (λ (n : ℕ). n * get_or xs i 0) size in
    let new : (length (x ∷ xs) - suc i) * v ≡ (length xs - i) * v = ap (λ (n : ℕ). n * v) size in
    let front : (length (set xs i v) + 1) * x ≡ (length xs + 1) * x = ap (λ (n : ℕ). (n + 1) * x) (length-set xs i v) in
    omega arith

-- two numbers that change places so that the lower comes first
less_late : (low d few e : ℕ) → 0 < d → 0 < e → (few + e) * low + few * (low + d) < (few + e) * (low + d) + few * low
less_late low d few e some more =
    let one = mul-add few low d in
    let two = mul-add (few + e) low d in
    let three = add-mul few e d in
    let four = mul-le 1 1 e d more some in
    omega arith

lateness-swap : (xs : List ℕ) (i j : ℕ) → i < j → j < length xs → get_or xs j 0 < get_or xs i 0 → lateness (swap xs i j) < lateness xs
lateness-swap xs i j up less lower =
    let n = length xs in
    let a = get_or xs i 0 in
    let b = get_or xs j 0 in
    let mid = set xs i b in
    let size : length mid ≡ n = length-set xs i b in
    let first : lateness mid + (n - i) * a ≡ lateness xs + (n - i) * b = lateness-set xs i b (omega arith) in
    let kept : get_or mid j 0 ≡ b = get_or-set_other xs i j b 0 (λ e. absurd (omega arith)) in
    let second : lateness (set mid j a) + (n - j) * b ≡ lateness mid + (n - j) * a =
    sym (ap (λ (k : ℕ). lateness (set mid j a) + (n - j) * k) kept) ∙ ap (λ (k : ℕ). lateness (set mid j a) + (k - j) * get_or mid j 0) (sym size) ∙ lateness-set mid j a (omega arith) ∙ ap (λ (k : ℕ). lateness mid + (k - j) * a) size in
    let is : lateness (set mid j a) ≡ lateness (swap xs i j) = ap lateness (swap_is xs i j 0 (omega arith) less) in
    let gap : a ≡ b + (a - b) = omega arith in
    let wide : n - i ≡ (n - j) + (j - i) = omega arith in
    let law = less_late b (a - b) (n - j) (j - i) (omega arith) (omega arith) in
    let one : (n - i) * a ≡ ((n - j) + (j - i)) * (b + (a - b)) = ap (λ (k : ℕ). k * a) wide ∙ ap (λ (k : ℕ). ((n - j) + (j - i)) * k) gap in
    let two : (n - i) * b ≡ ((n - j) + (j - i)) * b = ap (λ (k : ℕ). k * b) wide in
    let three : (n - j) * a ≡ (n - j) * (b + (a - b)) = ap (λ (k : ℕ). (n - j) * k) gap in
    omega (arith, first, second, is, law, one, two, three)

HaveWindows-swap : (arrivals lasts rounds : List ℕ) (i j : ℕ) → i < length arrivals → j < length arrivals → length rounds ≡ length arrivals → get_or rounds j 0 < get_or rounds i 0 → get_or arrivals i 0 ≤ get_or rounds j 0 → get_or rounds i 0 ≤ get_or lasts j 0 → HaveWindows arrivals lasts rounds → HaveWindows arrivals lasts (swap rounds i j)
HaveWindows-swap arrivals lasts rounds i j left right long lower arrived fits windows =
    let swapped = swapped_from_swap rounds (swap rounds i j) i j 0 (omega arith) (omega arith) refl in
    let at : (k m : ℕ) → k ≡ m → (get_or (swap rounds i j) k 0 ≡ get_or (swap rounds i j) m 0) × (get_or arrivals k 0 ≡ get_or arrivals m 0) × (get_or lasts k 0 ≡ get_or lasts m 0) = λ k m e. (ap (λ (n : ℕ). get_or (swap rounds i j) n 0) e, ap (λ (n : ℕ). get_or arrivals n 0) e, ap (λ (n : ℕ). get_or lasts n 0) e) in
    λ k less. elim (cases_eq k i) [
      | inl e ↦ (omega (arith, (at k i e).0, (at k i e).1, swapped.0), omega (arith, (at k i e).0, (at k i e).2, swapped.0, (windows i left).1))
      | inr not_i ↦ elim (cases_eq k j) [
        | inl e ↦ (omega (arith, (at k j e).0, (at k j e).1, swapped.1, (windows j right).0), omega (arith, (at k j e).0, (at k j e).2, swapped.1))
        | inr not_j ↦ (omega (arith, swapped.2 k not_i not_j, (windows k less).0), omega (arith, swapped.2 k not_i not_j, (windows k less).1))
      ]
    ]

pub length_exchanged : (arrivals lasts : List ℕ) (Settles : List ℕ → ℕ → Type 0) (low : ℕ) (old new : List ℕ) (changed : Bool) (here : ℕ) → Exchanges arrivals lasts Settles low old new changed here → length arrivals ≡ length new
length_exchanged arrivals lasts Settles low old new changed here so_far = sym so_far.long ∙ sym (length_permutation old new so_far.permutation)

no_later : (arrivals lasts old mid new : List ℕ) (Settles : List ℕ → ℕ → Type 0) (low : ℕ) (changed : Bool) (here : ℕ) → Exchanges arrivals lasts Settles low old mid changed here → lateness new < lateness mid → lateness new < lateness old
no_later arrivals lasts old mid new Settles low true here so_far less = omega (arith, so_far.earlier refl)
no_later arrivals lasts old mid new Settles low false here so_far less = omega (arith, ap lateness (so_far.quiet refl))

-- a pair changes rounds
pub Exchanges-swap : (arrivals lasts old mid new : List ℕ) (Settles : List ℕ → ℕ → Type 0) (low : ℕ) (changed flag : Bool) (here i j : ℕ) → i < j → j < length arrivals → get_or mid j 0 < get_or mid i 0 → get_or arrivals i 0 ≤ get_or mid j 0 → get_or mid i 0 ≤ get_or lasts j 0 → new ≡ swap mid i j → flag ≡ true → Exchanges arrivals lasts Settles low old mid changed here → Exchanges arrivals lasts Settles low old new flag (here + 1)
Exchanges-swap arrivals lasts old mid new Settles low changed flag here i j up less lower arrived fits is flagged so_far =
    let size = length_exchanged arrivals lasts Settles low old mid changed here so_far in
    let late : lateness new < lateness mid = omega (arith, ap lateness is, lateness-swap mid i j up (omega arith) lower) in
    record {
      long = so_far.long;
      permutation = IsPermutation-trans old mid new so_far.permutation (IsPermutation-swap mid new i j (omega arith) (omega arith) is);
      windows = subst (HaveWindows arrivals lasts) (sym is) (HaveWindows-swap arrivals lasts mid i j (omega arith) less (sym size) lower arrived fits so_far.windows);
      quiet = λ e. absurd (false≢true (sym e ∙ flagged));
      settled = λ e. absurd (false≢true (sym e ∙ flagged));
      earlier = λ e. no_later arrivals lasts old mid new Settles low changed here so_far late;
    }

-- nothing changes, and one more is in turn
pub Exchanges-quiet : (arrivals lasts old mid : List ℕ) (Settles : List ℕ → ℕ → Type 0) (low : ℕ) (changed : Bool) (here : ℕ) → Settles mid here → Exchanges arrivals lasts Settles low old mid changed here → Exchanges arrivals lasts Settles low old mid changed (here + 1)
Exchanges-quiet arrivals lasts old mid Settles low changed here settles so_far = record {
  long = so_far.long;
  permutation = so_far.permutation;
  windows = so_far.windows;
  quiet = so_far.quiet;
  settled = λ e k from less. elim (cases_eq k here) [
    | inl is ↦ subst (λ n. Settles old n) (sym is) (subst (λ xs. Settles xs here) (so_far.quiet e) settles)
    | inr other ↦ so_far.settled e k from (omega arith)
  ];
  earlier = so_far.earlier;
}

-- a stay changed rounds with some later ones, or with none
pub Exchanges-through : (arrivals lasts old mid new : List ℕ) (changed : Bool) (here : ℕ) → here < length arrivals → Exchanges arrivals lasts (IsInTurn arrivals lasts) 0 old mid changed here → Exchanges arrivals lasts (ArePairInTurn arrivals lasts here) (here + 1) mid new true (length arrivals) → Exchanges arrivals lasts (IsInTurn arrivals lasts) 0 old new true (here + 1)
Exchanges-through arrivals lasts old mid new changed here less so_far one = record {
  long = so_far.long;
  permutation = IsPermutation-trans old mid new so_far.permutation one.permutation;
  windows = one.windows;
  quiet = λ e. absurd (false≢true (sym e));
  settled = λ e. absurd (false≢true (sym e));
  earlier = λ e. no_later arrivals lasts old mid new (IsInTurn arrivals lasts) 0 changed here so_far (one.earlier refl);
}

pub Exchanges-past : (arrivals lasts old mid new : List ℕ) (changed : Bool) (here : ℕ) → Exchanges arrivals lasts (IsInTurn arrivals lasts) 0 old mid changed here → Exchanges arrivals lasts (ArePairInTurn arrivals lasts here) (here + 1) mid new false (length arrivals) → Exchanges arrivals lasts (IsInTurn arrivals lasts) 0 old new changed (here + 1)
Exchanges-past arrivals lasts old mid new changed here so_far one =
    let P : List ℕ → Type 0 = λ xs. Exchanges arrivals lasts (IsInTurn arrivals lasts) 0 old xs changed (here + 1) in
    subst P (sym (one.quiet refl)) (Exchanges-quiet arrivals lasts old mid (IsInTurn arrivals lasts) 0 changed here (λ j up less. one.settled refl j (omega arith) less) so_far)

-- the same under other names
pub Exchanges-named : (arrivals lasts old new new' : List ℕ) (Settles : List ℕ → ℕ → Type 0) (low : ℕ) (changed changed' : Bool) (here : ℕ) → new' ≡ new → changed' ≡ changed → Exchanges arrivals lasts Settles low old new changed here → Exchanges arrivals lasts Settles low old new' changed' here
Exchanges-named arrivals lasts old new new' Settles low changed changed' here rounds flag so_far =
    let P : List ℕ → Type 0 = λ xs. Exchanges arrivals lasts Settles low old xs changed here in
    let Q : Bool → Type 0 = λ b. Exchanges arrivals lasts Settles low old new' b here in
    subst Q (sym flag) (subst P (sym rounds) so_far)

-- rounds in other order, where all windows reach the end
pub HaveWindows-open : (arrivals lasts rounds answer : List ℕ) (end : ℕ) → length arrivals ≡ length rounds → length arrivals ≡ length lasts → ((i : ℕ) → i < length lasts → get_or lasts i 0 ≡ end) → HaveWindows arrivals lasts rounds → IsPermutation rounds answer → HaveArrived arrivals answer → HaveWindows arrivals lasts answer
HaveWindows-open arrivals lasts rounds answer end long also reach windows permutation arrived =
    let low : All (λ (r : ℕ). r ≤ end) rounds = λ k d less. omega (arith, get_or_default rounds k d 0 less, (windows k (omega arith)).1, reach k (omega arith)) in
    let still = All-permutation (λ (r : ℕ). r ≤ end) rounds answer permutation low in
    let size = length_permutation rounds answer permutation in
    λ i less. (arrived i less, omega (arith, still i 0 (omega arith), reach i (omega arith)))
