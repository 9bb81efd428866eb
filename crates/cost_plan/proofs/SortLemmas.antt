-- Slots that are sorted by their rounds.
use Rattle.std.proofs.Common.{◌≡◌, ◌≢◌, ℕ, ◌<◌, ◌⊎◌, List, length, map, get_or, refl, sym, ap, ◌∙◌, subst, inl, inr, arith}
use Rattle.std.proofs.lemmas.Bool.{cases_eq}
use Rattle.std.specs.List.{swap, All, Contains}
use Rattle.std.specs.List.Sorted.{IsPermutation, IsNonDecreasingBy}
use Rattle.std.proofs.lemmas.List.{get_or-map, get_or_default, length-map}
use Rattle.std.proofs.lemmas.List.Edits.{swapped_from_swap, length-swap}
use Rattle.std.proofs.lemmas.List.Sorted.{IsPermutation-map, IsPermutation-keeps, All-permutation, Contains-permutation, length_permutation}
use Rattle.cost_plan.specs.declared.turns.slots.Slot.{Slot}
use Rattle.cost_plan.specs.Slots.{AreSlotsOf, IsSorting, AreHeld, round_at, holder_at}

-- no number stands twice
abbrev pub AreDistinct : List ℕ → Type 0
AreDistinct xs = (i j : ℕ) → i < length xs → j < length xs → get_or xs i 0 ≡ get_or xs j 0 → i ≡ j

-- where a place's number stood before a swap
record IsSource (xs ys : List ℕ) (i j a : ℕ) : Type 0 where
  from : ℕ
  within : from < length xs
  is : get_or ys a 0 ≡ get_or xs from 0
  which : ((a ≡ i) × (from ≡ j)) ⊎ (((a ≡ j) × (from ≡ i)) ⊎ ((a ≢ i) × (a ≢ j) × (from ≡ a)))

source : (xs : List ℕ) (i j a : ℕ) → i < length xs → j < length xs → a < length xs → IsSource xs (swap xs i j) i j a
source xs i j a left right within =
    let ys = swap xs i j in
    let swapped = swapped_from_swap xs ys i j 0 left right refl in
    elim (cases_eq a i) [
      | inl here ↦ record { from = j; within = right; is = ap (λ (k : ℕ). get_or ys k 0) here ∙ swapped.0; which = inl (here, refl) }
      | inr not_i ↦ elim (cases_eq a j) [
        | inl here ↦ record { from = i; within = left; is = ap (λ (k : ℕ). get_or ys k 0) here ∙ swapped.1; which = inr (inl (here, refl)) }
        | inr not_j ↦ record { from = a; within = within; is = swapped.2 a not_i not_j; which = inr (inr (not_i, not_j, refl)) }
      ]
    ]

AreDistinct-swap : (xs : List ℕ) (i j : ℕ) → i < length xs → j < length xs → AreDistinct xs → AreDistinct (swap xs i j)
AreDistinct-swap xs i j left right distinct = λ a b first second same.
    let size : length (swap xs i j) ≡ length xs = length-swap xs i j in
    let x = source xs i j a left right (omega arith) in
    let y = source xs i j b left right (omega arith) in
    let both : x.from ≡ y.from = distinct x.from y.from x.within y.within (sym x.is ∙ same ∙ y.is) in
    let x_which = x.which in
    let y_which = y.which in
    grind (arith, x_which, y_which)

pub AreDistinct-permutation : (xs ys : List ℕ) → IsPermutation xs ys → AreDistinct xs → AreDistinct ys
AreDistinct-permutation xs ys permutation distinct = IsPermutation-keeps xs AreDistinct distinct (λ l i j left right ok. AreDistinct-swap l i j left right ok) ys permutation

abbrev rounds_in : List Slot → List ℕ
rounds_in slots = map (λ (slot : Slot). slot.round) slots

abbrev holders_in : List Slot → List ℕ
holders_in slots = map (λ (slot : Slot). slot.holder) slots

abbrev no_slot : Slot
no_slot = record { round = 0; holder = 0 }

-- slots in the order of their stays
own_holder : (rounds : List ℕ) (slots : List Slot) (k : ℕ) → k < length rounds → AreSlotsOf rounds slots → holder_at slots k ≡ k
own_holder rounds slots k less are =
    get_or-map (λ (slot : Slot). slot.holder) slots k no_slot 0 (omega (arith, are.long)) ∙ ap (λ (slot : Slot). slot.holder) (are.are k no_slot less)

-- a slot of a stay
abbrev IsOwn : List ℕ → Slot → Type 0
IsOwn rounds slot = (slot.holder < length rounds) × (slot.round ≡ get_or rounds slot.holder 0)

own_slots : (rounds : List ℕ) (slots : List Slot) → AreSlotsOf rounds slots → All (IsOwn rounds) slots
own_slots rounds slots are = λ k d less.
    let within : k < length rounds = omega (arith, are.long) in
    subst (IsOwn rounds) (sym (are.are k d within)) (within, refl)

pub IsSorting-made : (rounds : List ℕ) (old new : List Slot) → AreSlotsOf rounds old → IsPermutation old new → IsNonDecreasingBy (λ slot. slot.round) new → IsSorting rounds new
IsSorting-made rounds old new are permutation ascending =
    let size : length new ≡ length rounds = length_permutation old new permutation ∙ are.long in
    let old_size : length (holders_in old) ≡ length rounds = length-map old (λ (slot : Slot). slot.holder) ∙ are.long in
    let new_size : length (holders_in new) ≡ length rounds = length-map new (λ (slot : Slot). slot.holder) ∙ size in
    let moved : IsPermutation (holders_in old) (holders_in new) = IsPermutation-map (λ (slot : Slot). slot.holder) old new permutation in
    let own = All-permutation (IsOwn rounds) old new permutation (own_slots rounds old are) in
    let distinct = AreDistinct-permutation (holders_in old) (holders_in new) moved (λ i j left right same. sym (own_holder rounds old i (omega arith) are) ∙ same ∙ own_holder rounds old j (omega arith) are) in
    let round : (k : ℕ) → k < length rounds → round_at new k ≡ (get_or new k no_slot).round = λ k less. get_or-map (λ (slot : Slot). slot.round) new k no_slot 0 (omega arith) in
    let holder : (k : ℕ) → k < length rounds → holder_at new k ≡ (get_or new k no_slot).holder = λ k less. get_or-map (λ (slot : Slot). slot.holder) new k no_slot 0 (omega arith) in
    record {
      long = size;
      ascending = λ x y up less. omega (arith, round x (omega arith), round y less, ascending x y no_slot up (omega arith));
      holder = λ k less. omega (arith, holder k less, (own k no_slot (omega arith)).0);
      own = λ k less. round k less ∙ (own k no_slot (omega arith)).1 ∙ ap (λ (i : ℕ). get_or rounds i 0) (sym (holder k less));
      once = λ x y left right same. distinct x y (omega arith) (omega arith) same;
      all = λ stay less.
          let there : Contains (holders_in old) stay = (stay, omega arith, get_or_default (holders_in old) stay stay 0 (omega arith) ∙ own_holder rounds old stay less are) in
          let found = Contains-permutation (holders_in old) (holders_in new) stay moved there in
          (found.0, omega (arith, found.1), get_or_default (holders_in new) found.0 0 stay found.1 ∙ found.2);
    }

pub AreHeld-made : (rounds sorted holders places : List ℕ) (slots : List Slot) → IsSorting rounds slots → sorted ≡ rounds_in slots → holders ≡ holders_in slots → length places ≡ length holders → ((stay : ℕ) → stay < length holders → get_or places stay 0 < length holders) → ((slot : ℕ) → slot < length holders → get_or holders (get_or places (get_or holders slot 0) 0) 0 ≡ get_or holders slot 0) → AreHeld rounds sorted holders places
AreHeld-made rounds sorted holders places slots sorting by_round by_holder size within found =
    let long_sorted : length sorted ≡ length rounds = ap length by_round ∙ length-map slots (λ (slot : Slot). slot.round) ∙ sorting.long in
    let long_holders : length holders ≡ length rounds = ap length by_holder ∙ length-map slots (λ (slot : Slot). slot.holder) ∙ sorting.long in
    let sorted_at : (k : ℕ) → get_or sorted k 0 ≡ round_at slots k = λ k. ap (λ (xs : List ℕ). get_or xs k 0) by_round in
    let holder : (k : ℕ) → get_or holders k 0 ≡ holder_at slots k = λ k. ap (λ (xs : List ℕ). get_or xs k 0) by_holder in
    let holds : (stay : ℕ) → stay < length rounds → get_or holders (get_or places stay 0) 0 ≡ stay = λ stay less.
    let there = sorting.all stay less in
    let is : get_or holders there.0 0 ≡ stay = holder there.0 ∙ there.2 in
    ap (λ (k : ℕ). get_or holders (get_or places k 0) 0) (sym is) ∙ found there.0 (omega (arith, there.1)) ∙ is in
    let place : (stay : ℕ) → stay < length rounds → get_or places stay 0 < length rounds = λ stay less. omega (arith, within stay (omega arith)) in
    record {
      long_sorted = long_sorted;
      long_holders = long_holders;
      long_places = size ∙ long_holders;
      ascending = λ x y up less. omega (arith, sorted_at x, sorted_at y, sorting.ascending x y up less);
      holder = λ slot less. omega (arith, holder slot, sorting.holder slot less);
      place = place;
      holds = holds;
      placed = λ slot less.
          let stay = get_or holders slot 0 in
          let known : stay < length rounds = omega (arith, holder slot, sorting.holder slot less) in
          sorting.once (get_or places stay 0) slot (place stay known) less (sym (holder (get_or places stay 0)) ∙ holds stay known ∙ holder slot);
      has = λ stay less.
          let at = get_or places stay 0 in
          sorted_at at ∙ sorting.own at (place stay less) ∙ ap (λ (k : ℕ). get_or rounds k 0) (sym (holder at) ∙ holds stay less);
    }

pub holders_below : (rounds holders : List ℕ) (slots : List Slot) → IsSorting rounds slots → holders ≡ holders_in slots → (slot : ℕ) → slot < length holders → get_or holders slot 0 < length holders
holders_below rounds holders slots sorting by_holder slot less =
    let size : length holders ≡ length rounds = ap length by_holder ∙ length-map slots (λ (s : Slot). s.holder) ∙ sorting.long in
    let is : get_or holders slot 0 ≡ holder_at slots slot = ap (λ (xs : List ℕ). get_or xs slot 0) by_holder in
    omega (arith, sorting.holder slot (omega arith))
