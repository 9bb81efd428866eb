-- a configuration has few lanes
use Rattle.std.proofs.Common.{◌≡◌, ℕ, zero, suc, ◌+◌, ◌*◌, ◌<◌, ◌≤◌, Bool, true, false, cond, List, [], ◌∷◌, ◌++◌, length, refl, sym, ap, ◌∙◌, arith, Some, None, append-nil, append_assoc, length-append, ◌==◌, nat_le, count_by, eqb-true, eq-eqb, ne_eqb, leb-false}
use Rattle.cam_types.specs.Lists.{prefixed, first_answer}
use Rattle.cam_types.specs.Topology.{Topology, IsConfig, lane_fault}
use Rattle.cam_types.specs.declared.config_fault.ConfigFault.TheVariants.{TooMany, NoAdapter}
use Rattle.cam_types.specs.declared.limits.TheConstants.{MAX_ADAPTERS, MAX_LANES}
use Rattle.cam_types.proofs.ListLemmas.{prefixed-push, first_answer-append, or_left, or_right}
use Rattle.cam_types.proofs.ConfigLemmas.{few_adapters, lane_items}
use Rattle.event_rules.proofs.QueueLaws.{test_le}
use Rattle.event_rules.proofs.ListFacts.{count_by-push}

-- what holds of no numbers, and after one more, holds of all lists
from_front : (P : List ℕ → Type 0) → ((xs : List ℕ) (x : ℕ) → P xs → P (xs ++ x ∷ [])) → (front back : List ℕ) → P front → P (front ++ back)
from_front P step front [] h = rw (append-nil front) h
from_front P step front (x ∷ back) h = rw (← append_assoc front (x ∷ []) back) (from_front P step (front ++ x ∷ []) back (step front x h))

-- how often the numbers below n stand in a list
abbrev pub total : ℕ → List ℕ → ℕ
total zero xs = 0
total (suc n) xs = total n xs + count_by (λ x. x == n) xs

count_more : (n : ℕ) (xs : List ℕ) (x : ℕ) → count_by (λ y. y == n) (xs ++ x ∷ []) ≡ count_by (λ y. y == n) xs + cond (x == n) 1 0
count_more n xs x = count_by-push (λ y. y == n) xs x

-- one that is no number below n
total_past : (n : ℕ) (xs : List ℕ) (x : ℕ) → n ≤ x → total n (xs ++ x ∷ []) ≡ total n xs
total_past zero xs x le = refl
total_past (suc n) xs x le =
    let none : (x == n) ≡ false = ne_eqb x n (λ e. omega arith) in
    let one : count_by (λ y. y == n) (xs ++ x ∷ []) ≡ count_by (λ y. y == n) xs + 0 = count_more n xs x ∙ ap (λ b. count_by (λ y. y == n) xs + cond {A = ℕ} b 1 0) none in
    omega (arith, one, total_past n xs x (omega arith))

differ : (b : Bool) → b ≡ true → b ≡ false → ⊥
differ true h k = absurd (cc)
differ false h k = absurd (cc)

below : (x n : ℕ) → x < suc n → (x == n) ≡ false → x < n
below x n lt apart = elim (nat_le n x) as (λ b. nat_le n x ≡ b → x < n) [
  | true ↦ λ le. absurd (differ ((x == n)) (eq-eqb x n (omega (arith, test_le n x le))) apart)
  | false ↦ λ less. leb-false n x less
] refl

total_one : (n : ℕ) (xs : List ℕ) (x : ℕ) → x < n → total n (xs ++ x ∷ []) ≡ total n xs + 1
total_one zero xs x lt = absurd (omega arith)
total_one (suc n) xs x lt = elim (x == n) as (λ b. (x == n) ≡ b → total n (xs ++ x ∷ []) + count_by (λ y. y == n) (xs ++ x ∷ []) ≡ total n xs + count_by (λ y. y == n) xs + 1) [
  | true ↦ λ same.
      let one : count_by (λ y. y == n) (xs ++ x ∷ []) ≡ count_by (λ y. y == n) xs + 1 = count_more n xs x ∙ ap (λ b. count_by (λ y. y == n) xs + cond {A = ℕ} b 1 0) same in
      let at = eqb-true x n same in
      omega (arith, one, total_past n xs x (omega (arith, at)))
  | false ↦ λ apart.
      let none : count_by (λ y. y == n) (xs ++ x ∷ []) ≡ count_by (λ y. y == n) xs + 0 = count_more n xs x ∙ ap (λ b. count_by (λ y. y == n) xs + cond {A = ℕ} b 1 0) apart in
      let less : x < n = below x n lt apart in
      omega (arith, none, total_one n xs x less)
] refl

pub record AreFew (n : ℕ) (xs : List ℕ) : Type 0 where
  pub each : (a : ℕ) → count_by (λ x. x == a) xs ≤ MAX_LANES
  pub all : length xs ≡ total n xs

-- a lane that breaks no rule
lane_fits : (n : ℕ) (xs : List ℕ) (x : ℕ) → lane_fault n (xs, x) ≡ None → (count_by (λ a. a == x) xs < MAX_LANES) × (x < n)
unfolding lane_fault
lane_fits n xs x h = elim (nat_le MAX_LANES (count_by (λ a. a == x) xs)) as (λ b. nat_le MAX_LANES (count_by (λ a. a == x) xs) ≡ b → cond b (Some TooMany) (cond (nat_le n x) (Some NoAdapter) None) ≡ None → (count_by (λ a. a == x) xs < MAX_LANES) × (x < n)) [
  | true ↦ λ is k. absurd (cc)
  | false ↦ λ few k. elim (nat_le n x) as (λ b. nat_le n x ≡ b → cond b (Some NoAdapter) None ≡ None → (count_by (λ a. a == x) xs < MAX_LANES) × (x < n)) [
    | true ↦ λ is j. absurd (cc)
    | false ↦ λ there j. (leb-false MAX_LANES (count_by (λ a. a == x) xs) few, leb-false n x there)
  ] refl k
] refl h

few_more : (n : ℕ) (xs : List ℕ) (x : ℕ) → (first_answer (lane_fault n) (prefixed xs) ≡ None → AreFew n xs) → first_answer (lane_fault n) (prefixed (xs ++ x ∷ [])) ≡ None → AreFew n (xs ++ x ∷ [])
few_more n xs x h none =
    let parts = sym (ap (first_answer (lane_fault n)) (prefixed-push xs x) ∙ first_answer-append (lane_fault n) (prefixed xs) ((xs, x) ∷ [])) ∙ none in
    let before = h (or_left _ _ parts) in
    let fits = lane_fits n xs x (or_left _ _ (or_right _ _ parts)) in
    record {
      each = λ a. elim (x == a) as (λ b. (x == a) ≡ b → count_by (λ y. y == a) (xs ++ x ∷ []) ≤ MAX_LANES) [
        | true ↦ λ same.
            let at = eqb-true x a same in
            let here : count_by (λ y. y == a) xs ≡ count_by (λ y. y == x) xs = ap (λ k. count_by (λ y. y == k) xs) (sym at) in
            let one : count_by (λ y. y == a) (xs ++ x ∷ []) ≡ count_by (λ y. y == a) xs + 1 = count_more a xs x ∙ ap (λ b. count_by (λ y. y == a) xs + cond {A = ℕ} b 1 0) same in
            omega (arith, one, here, fits.0)
        | false ↦ λ apart.
            let none_more : count_by (λ y. y == a) (xs ++ x ∷ []) ≡ count_by (λ y. y == a) xs + 0 = count_more a xs x ∙ ap (λ b. count_by (λ y. y == a) xs + cond {A = ℕ} b 1 0) apart in
            omega (arith, none_more, before.each a)
      ] refl;
      all = omega (arith, length-append xs (x ∷ []), before.all, total_one n xs x fits.1);
    }

few_none : (n : ℕ) → total n [] ≡ 0
few_none zero = refl
few_none (suc n) = omega (arith, few_none n)

total_most : (n : ℕ) (xs : List ℕ) → ((a : ℕ) → count_by (λ x. x == a) xs ≤ MAX_LANES) → total n xs ≤ n * MAX_LANES
total_most zero xs h = omega arith
total_most (suc n) xs h = omega (arith, h n, total_most n xs h)

pub few_lanes : (c : Topology) → IsConfig c → length c.lanes ≤ MAX_ADAPTERS * MAX_LANES
few_lanes c h =
    let none = lane_items c h in
    let n = length c.adapters in
    let few = from_front (λ xs. first_answer (lane_fault n) (prefixed xs) ≡ None → AreFew n xs) (few_more n) [] c.lanes (λ k. record { each = λ a. omega arith; all = sym (few_none n) }) none in
    omega (arith, few.all, total_most n c.lanes few.each, few_adapters c h)
