-- room in rounds, and stays that are counted there
use Rattle.std.proofs.Common.{◌≡◌, ℕ, ◌+◌, ◌<◌, ◌≤◌, Bool, true, false, cond, List, [], ◌∷◌, refl, sym, ap, ◌∙◌, inl, inr, arith, ◌==◌, ◌&&◌, ◌||◌, sum_by, slice_index, eq-eqb, ne_eqb, eqb-true}
use Rattle.std.specs.List.{list_all, list_any}
use Rattle.std.proofs.lemmas.Bool.{cases_eq, cases_lt, and_parts, and_cases, and_left, and_right, or_cases, or_left, or_right, ltb-true, lt-ltb, false≢true, false_from_ne_true}
use Rattle.std.proofs.lemmas.List.Sums.{sum_by-cons}
use Rattle.round_net.specs.Instance.{Instance, path, path_of, uses}
use Rattle.round_net.specs.LoadLists.{cells_at}
use Rattle.round_net.specs.Rows.{cell}
use Rattle.round_net.specs.Sound.{IsSound}
use Rattle.round_net.specs.declared.limits.TheConstants.{MAX_CAP}
use Rattle.round_net.proofs.CellLemmas.{cell-injective}
use Rattle.round_net.proofs.ExchangeLemmas.{is_among, AreDistinct}
use Rattle.round_net.proofs.PathLemmas.{path-distinct}
use Rattle.orders.specs.Room.{has_opening, has_room, AreSkips}

-- what holds of all numbers of a list holds of one of them
one_of_all : (p : ℕ → Bool) (xs : List ℕ) (x : ℕ) → list_all p xs ≡ true → list_any (λ y. y == x) xs ≡ true → p x ≡ true
one_of_all p [] x all among = absurd cc
one_of_all p (y ∷ xs) x all among =
    let parts = and_parts (p y) (list_all p xs) all in
    elim (or_cases (y == x) (list_any (λ z. z == x) xs) among) [
      | inl here ↦ ap p (sym (eqb-true y x here)) ∙ parts.0
      | inr there ↦ one_of_all p xs x parts.1 there
    ]

-- where there is room, each row that the stay uses has less than it takes, which isn't much
pub room_at : (net : Instance) (loads : List ℕ) (s r row : ℕ) → has_room net loads (net.device s) r ≡ true → uses net row s ≡ true → slice_index loads (cell net.rounds row r) < net.cap row r
room_at net loads s r row room used = ltb-true _ _ (one_of_all (has_opening net loads r) (path net s) row room used)

pub few_at : (net : Instance) (live : ℕ → ℕ) (loads : List ℕ) (s r row : ℕ) → IsSound net live → has_room net loads (net.device s) r ≡ true → uses net row s ≡ true → slice_index loads (cell net.rounds row r) < MAX_CAP
few_at net live loads s r row sound room used = omega (arith, room_at net loads s r row room used, sound.small_cap row r)

-- of distinct rows in one round at most one stands at a row's round
same_cell : (rounds x row r q : ℕ) → 1 ≤ q → q ≤ rounds → 1 ≤ r → r ≤ rounds → (cell rounds x q == cell rounds row r) ≡ ((x == row) && (q == r))
same_cell rounds x row r q q1 qn r1 rn = elim (cases_eq x row) [
  | inr apart ↦ ne_eqb _ _ (λ e. apart (cell-injective rounds x q row r q1 qn r1 rn e).0) ∙ ap (λ b. b && (q == r)) (sym (ne_eqb x row apart))
  | inl same ↦ elim (cases_eq q r) [
    | inr other ↦ ne_eqb _ _ (λ e. other (cell-injective rounds x q row r q1 qn r1 rn e).1) ∙ rw (eq-eqb x row same, ne_eqb q r other) refl
    | inl at ↦ eq-eqb _ _ (rw (same, at) refl) ∙ rw (eq-eqb x row same, eq-eqb q r at) refl
  ]
]

one_cell : (x row : ℕ) (b : Bool) (xs : List ℕ) → is_among xs x ≡ false → ◌≡◌ {A = ℕ} (cond ((x == row) && b) 1 0 + cond (is_among xs row && b) 1 0) (cond (((x == row) || is_among xs row) && b) 1 0)
one_cell x row b xs apart = elim (cases_eq x row) [
  | inl same ↦
      let none : is_among xs row ≡ false = ap (is_among xs) (sym same) ∙ apart in
      rw (none, eq-eqb x row same) (omega arith)
  | inr other ↦ rw (ne_eqb x row other) (omega arith)
]

cells_in : (rounds row r q : ℕ) (xs : List ℕ) → AreDistinct xs → 1 ≤ q → q ≤ rounds → 1 ≤ r → r ≤ rounds → ◌≡◌ {A = ℕ} (sum_by (λ x. cond (cell rounds x q == cell rounds row r) 1 0) xs) (cond (is_among xs row && (q == r)) 1 0)
cells_in rounds row r q [] distinct q1 qn r1 rn = refl
cells_in rounds row r q (x ∷ xs) distinct q1 qn r1 rn =
    let head = sum_by-cons (λ y. cond (cell rounds y q == cell rounds row r) 1 0) x xs in
    let here : ◌≡◌ {A = ℕ} (cond (cell rounds x q == cell rounds row r) 1 0) (cond ((x == row) && (q == r)) 1 0) = ap (λ b. cond b 1 0) (same_cell rounds x row r q q1 qn r1 rn) in
    let rest = cells_in rounds row r q xs distinct.1 q1 qn r1 rn in
    let both = one_cell x row (q == r) xs distinct.0 in
    omega arith

-- a stay that is counted in a round is counted once in each row that it uses
pub counted_once : (net : Instance) (live : ℕ → ℕ) (s q row r : ℕ) → IsSound net live → s < net.stays → 1 ≤ q → q ≤ net.rounds → 1 ≤ r → r ≤ net.rounds → ◌≡◌ {A = ℕ} (cells_at net s q (cell net.rounds row r)) (cond (uses net row s && (q == r)) 1 0)
counted_once net live s q row r sound less q1 qn r1 rn =
    let device = sound.on_device s less in
    cells_in net.rounds row r q (path net s) (path-distinct net s device (sound.on_adapter (net.device s) device)) q1 qn r1 rn

-- where there is no room, a row that the stay uses has at least what it takes
pub record IsFullRow (net : Instance) (loads : List ℕ) (r : ℕ) (xs : List ℕ) : Type 0 where
  pub row : ℕ
  pub among : list_any (λ x. x == row) xs ≡ true
  pub full : net.cap row r ≤ slice_index loads (cell net.rounds row r)

full_among : (net : Instance) (loads : List ℕ) (r : ℕ) (xs : List ℕ) → list_all (has_opening net loads r) xs ≡ false → IsFullRow net loads r xs
full_among net loads r [] none = absurd cc
full_among net loads r (x ∷ xs) none = elim (cases_lt (slice_index loads (cell net.rounds x r)) (net.cap x r)) [
  | inr full ↦ record { row = x; among = or_left _ _ (eq-eqb x x refl); full = full }
  | inl open_x ↦
      let there = full_among net loads r xs (ap (λ b. b && list_all (has_opening net loads r) xs) (sym (lt-ltb _ _ open_x)) ∙ none) in
      record { row = there.row; among = or_right (x == there.row) _ there.among; full = there.full }
]

pub full_row : (net : Instance) (loads : List ℕ) (s r : ℕ) → has_room net loads (net.device s) r ≡ false → IsFullRow net loads r (path net s)
full_row net loads s r none = full_among net loads r (path net s) none

-- where loads grow, there is no more room than there was
no_more : (p q : ℕ → Bool) (xs : List ℕ) → ((x : ℕ) → q x ≡ true → p x ≡ true) → list_all p xs ≡ false → list_all q xs ≡ false
no_more p q [] weaker none = none
no_more p q (x ∷ xs) weaker none = elim (and_cases (p x) (list_all p xs) none) [
  | inl fails ↦ and_left (q x) (list_all q xs) (false_from_ne_true (q x) (λ passes. false≢true (sym fails ∙ weaker x passes)))
  | inr rest ↦ and_right (q x) (list_all q xs) (no_more p q xs weaker rest)
]

still_full : (net : Instance) (old new : List ℕ) (d r : ℕ) → ((at : ℕ) → slice_index old at ≤ slice_index new at) → has_room net old d r ≡ false → has_room net new d r ≡ false
still_full net old new d r grown none = no_more (has_opening net old r) (has_opening net new r) (path_of net d) (λ x free. lt-ltb _ _ (omega (arith, grown (cell net.rounds x r), ltb-true (slice_index new (cell net.rounds x r)) (net.cap x r) free))) none

pub AreSkips-grown : (net : Instance) (old new skips : List ℕ) → ((at : ℕ) → slice_index old at ≤ slice_index new at) → AreSkips net old skips → AreSkips net new skips
AreSkips-grown net old new skips grown are = record {
  cells = are.cells;
  ends = are.ends;
  full = λ d r inside first last. λ q low high within. still_full net old new d q grown (are.full d r inside first last q low high within);
}
