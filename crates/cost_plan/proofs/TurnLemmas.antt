-- Stays that get rounds in the order of their turns.
use Rattle.std.proofs.Common.{◌≡◌, ◌≢◌, ℕ, ◌+◌, ◌<◌, ◌≤◌, ◌==◌, cond, List, length, get_or, refl, sym, ap, ◌∙◌, subst, inl, inr, arith}
use Rattle.std.proofs.lemmas.Bool.{cases_eq, cases_lt}
use Rattle.std.specs.List.{swap}
use Rattle.std.specs.List.Sorted.{IsPermutation}
use Rattle.std.proofs.lemmas.List.Edits.{swapped_from_swap, length-swap}
use Rattle.std.proofs.lemmas.List.Sorted.{IsPermutation-swap, IsPermutation-trans, sum_by-IsPermutation}
use Rattle.cost_plan.specs.Turns.{HaveSameRounds, HaveArrived, AreInTurn}
use Rattle.cost_plan.specs.Slots.{IsFree, AreGiven, Skips, AreHeld}

pub HaveSameRounds-permutation : (old new : List ℕ) → IsPermutation old new → HaveSameRounds old new
HaveSameRounds-permutation old new permutation = λ round. sum_by-IsPermutation (λ r. cond (r == round) 1 0) old new permutation

-- two stays change their slots and their rounds
AreHeld-swap : (rounds sorted holders places : List ℕ) (stay other own slot : ℕ) → stay < length rounds → slot < length rounds → own ≡ get_or places stay 0 → other ≡ get_or holders slot 0 → AreHeld rounds sorted holders places → AreHeld (swap rounds stay other) sorted (swap holders slot own) (swap places stay other)
AreHeld-swap rounds sorted holders places stay other own slot inside within is_own is_other held =
    let own_in : own < length rounds = omega (arith, held.place stay inside) in
    let other_in : other < length rounds = omega (arith, held.holder slot within) in
    let r = swapped_from_swap rounds (swap rounds stay other) stay other 0 inside other_in refl in
    let h = swapped_from_swap holders (swap holders slot own) slot own 0 (omega (arith, held.long_holders)) (omega (arith, held.long_holders)) refl in
    let p = swapped_from_swap places (swap places stay other) stay other 0 (omega (arith, held.long_places)) (omega (arith, held.long_places)) refl in
    let size : length (swap rounds stay other) ≡ length rounds = length-swap rounds stay other in
    let holds_own : get_or holders own 0 ≡ stay = ap (λ (k : ℕ). get_or holders k 0) is_own ∙ held.holds stay inside in
    let placed_other : get_or places other 0 ≡ slot = ap (λ (k : ℕ). get_or places k 0) is_other ∙ held.placed slot within in
    let rounds_at : (i k : ℕ) → i ≡ k → get_or (swap rounds stay other) i 0 ≡ get_or (swap rounds stay other) k 0 = λ i k e. ap (λ (n : ℕ). get_or (swap rounds stay other) n 0) e in
    let places_at : (i k : ℕ) → i ≡ k → get_or (swap places stay other) i 0 ≡ get_or (swap places stay other) k 0 = λ i k e. ap (λ (n : ℕ). get_or (swap places stay other) n 0) e in
    let holders_at : (i k : ℕ) → i ≡ k → get_or (swap holders slot own) i 0 ≡ get_or (swap holders slot own) k 0 = λ i k e. ap (λ (n : ℕ). get_or (swap holders slot own) n 0) e in
    let sorted_at : (i k : ℕ) → i ≡ k → get_or sorted i 0 ≡ get_or sorted k 0 = λ i k e. ap (λ (n : ℕ). get_or sorted n 0) e in
    let place_stay : get_or (swap places stay other) stay 0 ≡ slot = p.0 ∙ placed_other in
    let place_other : get_or (swap places stay other) other 0 ≡ own = p.1 ∙ sym is_own in
    let holder_slot : get_or (swap holders slot own) slot 0 ≡ stay = h.0 ∙ holds_own in
    let holder_own : get_or (swap holders slot own) own 0 ≡ other = h.1 ∙ sym is_other in
    let not_slot : (k : ℕ) → k < length rounds → k ≢ other → get_or places k 0 ≢ slot = λ k less apart e. apart (sym (held.holds k less) ∙ ap (λ (n : ℕ). get_or holders n 0) e ∙ sym is_other) in
    let not_own : (k : ℕ) → k < length rounds → k ≢ stay → get_or places k 0 ≢ own = λ k less apart e. apart (sym (held.holds k less) ∙ ap (λ (n : ℕ). get_or holders n 0) e ∙ holds_own) in
    let not_stay : (k : ℕ) → k < length rounds → k ≢ own → get_or holders k 0 ≢ stay = λ k less apart e. apart (sym (held.placed k less) ∙ ap (λ (n : ℕ). get_or places n 0) e ∙ sym is_own) in
    let not_other : (k : ℕ) → k < length rounds → k ≢ slot → get_or holders k 0 ≢ other = λ k less apart e. apart (sym (held.placed k less) ∙ ap (λ (n : ℕ). get_or places n 0) e ∙ placed_other) in
    record {
      long_sorted = held.long_sorted ∙ sym size;
      long_holders = length-swap holders slot own ∙ held.long_holders ∙ sym size;
      long_places = length-swap places stay other ∙ held.long_places ∙ sym size;
      ascending = λ x y up less. held.ascending x y up (omega arith);
      holder = λ k less. elim (cases_eq k slot) [
        | inl is ↦ omega (arith, holders_at k slot is)
        | inr apart ↦ elim (cases_eq k own) [
          | inl is ↦ omega (arith, holders_at k own is)
          | inr not ↦ omega (arith, h.2 k apart not, held.holder k (omega arith))
        ]
      ];
      place = λ k less. elim (cases_eq k stay) [
        | inl is ↦ omega (arith, places_at k stay is)
        | inr apart ↦ elim (cases_eq k other) [
          | inl is ↦ omega (arith, places_at k other is)
          | inr not ↦ omega (arith, p.2 k apart not, held.place k (omega arith))
        ]
      ];
      holds = λ k less. elim (cases_eq k stay) [
        | inl is ↦ holders_at _ _ (places_at k stay is ∙ place_stay) ∙ holder_slot ∙ sym is
        | inr apart ↦ elim (cases_eq k other) [
          | inl is ↦ holders_at _ _ (places_at k other is ∙ place_other) ∙ holder_own ∙ sym is
          | inr not ↦ holders_at _ _ (p.2 k apart not) ∙ h.2 (get_or places k 0) (not_slot k (omega arith) not) (not_own k (omega arith) apart) ∙ held.holds k (omega arith)
        ]
      ];
      placed = λ k less. elim (cases_eq k slot) [
        | inl is ↦ places_at _ _ (holders_at k slot is ∙ holder_slot) ∙ place_stay ∙ sym is
        | inr apart ↦ elim (cases_eq k own) [
          | inl is ↦ places_at _ _ (holders_at k own is ∙ holder_own) ∙ place_other ∙ sym is
          | inr not ↦ places_at _ _ (h.2 k apart not) ∙ p.2 (get_or holders k 0) (not_stay k (omega arith) not) (not_other k (omega arith) apart) ∙ held.placed k (omega arith)
        ]
      ];
      has = λ k less. elim (cases_eq k stay) [
        | inl is ↦ sorted_at _ _ (places_at k stay is ∙ place_stay ∙ sym placed_other) ∙ held.has other other_in ∙ sym r.0 ∙ sym (rounds_at k stay is)
        | inr apart ↦ elim (cases_eq k other) [
          | inl is ↦ sorted_at _ _ (places_at k other is ∙ place_other ∙ is_own) ∙ held.has stay inside ∙ sym r.1 ∙ sym (rounds_at k other is)
          | inr not ↦ sorted_at _ _ (p.2 k apart not) ∙ held.has k (omega arith) ∙ sym (r.2 k apart not)
        ]
      ];
    }

-- So far the stays before a turn have their rounds.
pub record IsGiving (arrivals rounds answer sorted holders places next : List ℕ) (turn : ℕ) : Type 0 where
  pub long : length arrivals ≡ length answer
  pub permutation : IsPermutation rounds answer
  pub held : AreHeld answer sorted holders places
  pub skips : Skips holders turn next
  pub arrived : HaveArrived arrivals answer
  pub in_turn : (i j : ℕ) → i < turn → i < j → j < length arrivals → get_or arrivals i 0 ≤ get_or answer j 0 → get_or answer i 0 ≤ get_or answer j 0

IsGiving-step : (arrivals rounds answer sorted holders places next new : List ℕ) (turn from slot arrival other own : ℕ) → turn < length arrivals → arrival ≡ get_or arrivals turn 0 →
    ((s : ℕ) → s < from → get_or sorted s 0 < arrival) → ((s : ℕ) → from ≤ s → s < length sorted → arrival ≤ get_or sorted s 0) →
    Skips holders turn new → IsFree holders turn slot → from ≤ slot → AreGiven holders turn from slot → other ≡ get_or holders slot 0 → own ≡ get_or places turn 0 →
    IsGiving arrivals rounds answer sorted holders places next turn → IsGiving arrivals rounds (swap answer turn other) sorted (swap holders slot own) (swap places turn other) new (turn + 1)
IsGiving-step arrivals rounds answer sorted holders places next new turn from slot arrival other own inside is before rest skips free later first is_other is_own giving =
    let held = giving.held in
    let long = giving.long in
    let long_holders = held.long_holders in
    let known : turn < length answer = omega arith in
    let within : slot < length answer = omega (arith, free.0) in
    let other_in : other < length answer = omega (arith, held.holder slot within) in
    let own_in : own < length answer = omega (arith, held.place turn known) in
    let holds_own : get_or holders own 0 ≡ turn = ap (λ (k : ℕ). get_or holders k 0) is_own ∙ held.holds turn known in
    let placed_other : get_or places other 0 ≡ slot = ap (λ (k : ℕ). get_or places k 0) is_other ∙ held.placed slot within in
    let has_own : get_or sorted own 0 ≡ get_or answer turn 0 = ap (λ (k : ℕ). get_or sorted k 0) is_own ∙ held.has turn known in
    let has_other : get_or sorted slot 0 ≡ get_or answer other 0 = ap (λ (k : ℕ). get_or sorted k 0) (sym placed_other) ∙ held.has other other_in in
    -- of the free slots from the first on it is the first
    let least : (k : ℕ) → from ≤ k → k < length answer → turn ≤ get_or holders k 0 → get_or sorted slot 0 ≤ get_or sorted k 0 = λ k low high left. elim (cases_lt k slot) [
      | inl early ↦ absurd (omega (arith, first k low early))
      | inr late ↦ held.ascending slot k late high
    ] in
    let late : from ≤ own = elim (cases_lt own from) [
      | inl early ↦ absurd (omega (arith, before own early, giving.arrived turn inside))
      | inr fits ↦ fits
    ] in
    let no_later : get_or sorted slot 0 ≤ get_or sorted own 0 = least own late own_in (omega arith) in
    let arrives : arrival ≤ get_or sorted slot 0 = rest slot later (omega (arith, held.long_sorted)) in
    let no_earlier : turn ≤ other = omega (arith, free.1) in
    let a = swapped_from_swap answer (swap answer turn other) turn other 0 known other_in refl in
    let h = swapped_from_swap holders (swap holders slot own) slot own 0 (omega arith) (omega arith) refl in
    let answer_at : (i k : ℕ) → i ≡ k → get_or (swap answer turn other) i 0 ≡ get_or (swap answer turn other) k 0 = λ i k e. ap (λ (n : ℕ). get_or (swap answer turn other) n 0) e in
    let arrivals_at : (i k : ℕ) → i ≡ k → get_or arrivals i 0 ≡ get_or arrivals k 0 = λ i k e. ap (λ (n : ℕ). get_or arrivals n 0) e in
    let size : length (swap answer turn other) ≡ length answer = length-swap answer turn other in
    record {
      long = long ∙ sym size;
      permutation = IsPermutation-trans rounds answer (swap answer turn other) giving.permutation (IsPermutation-swap answer (swap answer turn other) turn other known other_in refl);
      held = AreHeld-swap answer sorted holders places turn other own slot known within is_own is_other held;
      skips =
          let longer : length (swap holders slot own) ≡ length holders = length-swap holders slot own in
          let still : (k : ℕ) → get_or holders k 0 < turn → get_or (swap holders slot own) k 0 < turn + 1 = λ k given. omega (arith, h.2 k (λ e. absurd (omega (arith, free.1, ap (λ (n : ℕ). get_or holders n 0) e))) (λ e. absurd (omega (arith, ap (λ (n : ℕ). get_or holders n 0) e)))) in
          record {
            long = skips.long ∙ sym longer;
            later = λ s less. skips.later s (omega arith);
            given = λ s b less past high. still b (skips.given s b (omega arith) past high);
          };
      arrived = λ k less. elim (cases_eq k turn) [
        | inl e ↦ omega (arith, answer_at k turn e, arrivals_at k turn e, a.0)
        | inr apart ↦ elim (cases_eq k other) [
          | inl e ↦ omega (arith, answer_at k other e, arrivals_at k other e, a.1, giving.arrived other (omega arith))
          | inr not ↦ omega (arith, a.2 k apart not, giving.arrived k less)
        ]
      ];
      in_turn = λ i j low up less has. elim (cases_lt i turn) [
        | inl early ↦
            let same : get_or (swap answer turn other) i 0 ≡ get_or answer i 0 = a.2 i (λ e. absurd (omega arith)) (λ e. absurd (omega arith)) in
            elim (cases_eq j turn) [
              | inl e ↦ omega (arith, answer_at j turn e, a.0, giving.in_turn i other early (omega arith) (omega arith) (omega (arith, answer_at j turn e, a.0)))
              | inr apart ↦ elim (cases_eq j other) [
                | inl e ↦ omega (arith, answer_at j other e, a.1, giving.in_turn i turn early early (omega arith) (omega (arith, answer_at j other e, a.1)))
                | inr not ↦ omega (arith, a.2 j apart not, giving.in_turn i j early up less (omega (arith, a.2 j apart not)))
              ]
            ]
        | inr now ↦
            let here : i ≡ turn = omega arith in
            elim (cases_eq j other) [
              | inl e ↦ omega (arith, answer_at i turn here, answer_at j other e, a.0, a.1)
              | inr not ↦
                  let place = get_or places j 0 in
                  let there : get_or sorted place 0 ≡ get_or answer j 0 = held.has j (omega arith) in
                  let same : get_or (swap answer turn other) j 0 ≡ get_or answer j 0 = a.2 j (λ e. absurd (omega arith)) not in
                  let low : from ≤ place = elim (cases_lt place from) [
                    | inl past ↦ absurd (omega (arith, before place past, arrivals_at i turn here))
                    | inr fits ↦ fits
                  ] in
                  omega (arith, answer_at i turn here, a.0, least place low (held.place j (omega arith)) (omega (arith, held.holds j (omega arith))))
            ]
      ];
    }

pub IsGiving-more : (arrivals rounds answer sorted holders places next new answer' holders' places' : List ℕ) (turn from slot arrival other own : ℕ) → turn < length arrivals → arrival ≡ get_or arrivals turn 0 →
    ((s : ℕ) → s < from → get_or sorted s 0 < arrival) → ((s : ℕ) → from ≤ s → s < length sorted → arrival ≤ get_or sorted s 0) →
    Skips holders turn new → IsFree holders turn slot → from ≤ slot → AreGiven holders turn from slot → other ≡ get_or holders slot 0 → own ≡ get_or places turn 0 →
    answer' ≡ swap answer turn other → holders' ≡ swap holders slot own → places' ≡ swap places turn other →
    IsGiving arrivals rounds answer sorted holders places next turn → IsGiving arrivals rounds answer' sorted holders' places' new (turn + 1)
IsGiving-more arrivals rounds answer sorted holders places next new answer' holders' places' turn from slot arrival other own inside is before rest skips free later first is_other is_own swapped moved placed giving =
    let step = IsGiving-step arrivals rounds answer sorted holders places next new turn from slot arrival other own inside is before rest skips free later first is_other is_own giving in
    let P : List ℕ → Type 0 = λ xs. IsGiving arrivals rounds xs sorted (swap holders slot own) (swap places turn other) new (turn + 1) in
    let Q : List ℕ → Type 0 = λ xs. IsGiving arrivals rounds answer' sorted xs (swap places turn other) new (turn + 1) in
    let R : List ℕ → Type 0 = λ xs. IsGiving arrivals rounds answer' sorted holders' xs new (turn + 1) in
    subst R (sym placed) (subst Q (sym moved) (subst P (sym swapped) step))
