-- how many stays use each row in each round, stay by stay
use Rattle.std.proofs.Common.{◌≡◌, ◌≢◌, ℕ, zero, suc, ◌+◌, ◌*◌, ◌<◌, ◌≤◌, Bool, true, false, cond, List, [], ◌∷◌, Some, None, length, refl, sym, ap, ◌∙◌, arith, eq-eqb, ◌==◌, ◌&&◌, ◌||◌, sum_by, replicate, slice_index, slice_set, get_or, get_or-set_same, get_or-set_other}
use Rattle.std.proofs.lemmas.Bool.{eqb-true, ne_eqb, and_parts}
use Rattle.std.proofs.lemmas.List.Sums.{sum_by-cons}
use Rattle.round_net.specs.Instance.{Instance, rows, adapter, link, adapter_resource, link_resource, path, uses}
use Rattle.round_net.specs.Rows.{cell}
use Rattle.round_net.specs.Sound.{IsSound}
use Rattle.round_net.specs.LoadLists.{AreRounds, AreLoads, cells_at}
use Rattle.round_net.proofs.CellLemmas.{cell_within, cell-injective}
use Rattle.round_net.proofs.ExchangeLemmas.{is_among, AreDistinct}
use Rattle.round_net.proofs.PathLemmas.{path-distinct}
use Rattle.round_net.proofs.SumLemmas.{sum_below-more, sum_below-same}

-- one more at a place
pub counted_at : (xs : List ℕ) (i k : ℕ) → i < length xs → slice_index (slice_set xs i (slice_index xs i + 1)) k ≡ slice_index xs k + cond (i == k) 1 0
counted_at xs i k lt = elim (i == k) as (λ b. (i == k) ≡ b → slice_index (slice_set xs i (slice_index xs i + 1)) k ≡ slice_index xs k + cond b 1 0) [
  | true ↦ λ e. let same : i ≡ k = eqb-true i k e in rw (← same) (get_or-set_same xs i (get_or xs i 0 + 1) 0 lt)
  | false ↦ λ e. let apart : k ≢ i = (λ at. let yes : (i == k) ≡ true = eq-eqb i k (sym at) in cc) in
      let h = get_or-set_other xs i k (get_or xs i 0 + 1) 0 apart in omega arith
] refl

-- one more in a round of a row
pub counted_in : (xs : List ℕ) (rows rounds row r at k : ℕ) → length xs ≡ rows * rounds → row < rows → 1 ≤ r → r ≤ rounds → at ≡ cell rounds row r →
    slice_index (slice_set xs at (slice_index xs at + 1)) k ≡ slice_index xs k + cond (cell rounds row r == k) 1 0
counted_in xs rows rounds row r at k size within first last is =
    rw is (counted_at xs (cell rounds row r) k (omega (arith, size, cell_within rounds rows row r within first last)))

-- two rounds of rows stand at one place where the rows and the rounds are equal
cell-test : (rounds row r other q : ℕ) → 1 ≤ r → r ≤ rounds → 1 ≤ q → q ≤ rounds → (cell rounds row r == cell rounds other q) ≡ ((row == other) && (r == q))
cell-test rounds row r other q r1 rn q1 qn =
    elim ((row == other) && (r == q)) as (λ b. ((row == other) && (r == q)) ≡ b → (cell rounds row r == cell rounds other q) ≡ b) [
      | true ↦ λ e.
          let parts = and_parts (row == other) (r == q) e in
          let rows' : row ≡ other = eqb-true row other parts.0 in
          let at : r ≡ q = eqb-true r q parts.1 in
          eq-eqb (cell rounds row r) (cell rounds other q) (rw (rows', at) refl)
      | false ↦ λ e.
          ne_eqb (cell rounds row r) (cell rounds other q) (λ at.
          let same = cell-injective rounds row r other q r1 rn q1 qn at in
          let yes : ((row == other) && (r == q)) ≡ true = rw (eq-eqb row other same.0, eq-eqb r q same.1) refl in
          cc)
    ] refl

-- of distinct rows in one round at most one stands at a row's round
first_cell : (x row : ℕ) (b : Bool) (xs : List ℕ) → is_among xs x ≡ false → ◌≡◌ {A = ℕ} (cond ((x == row) && b) 1 0 + cond (is_among xs row && b) 1 0) (cond (((x == row) || is_among xs row) && b) 1 0)
first_cell x row b xs apart = elim (x == row) as (λ t. (x == row) ≡ t → ◌≡◌ {A = ℕ} (cond (t && b) 1 0 + cond (is_among xs row && b) 1 0) (cond ((t || is_among xs row) && b) 1 0)) [
  | true ↦ λ e.
      let none : is_among xs row ≡ false = ap (is_among xs) (sym (eqb-true x row e)) ∙ apart in
      let no : ◌≡◌ {A = ℕ} (cond (is_among xs row && b) 1 0) 0 = rw none refl in
      omega arith
  | false ↦ λ e. omega arith
] refl

cells_among : (rounds row r q : ℕ) (xs : List ℕ) → AreDistinct xs → 1 ≤ q → q ≤ rounds → 1 ≤ r → r ≤ rounds → ◌≡◌ {A = ℕ} (sum_by (λ x. cond (cell rounds x q == cell rounds row r) 1 0) xs) (cond (is_among xs row && (q == r)) 1 0)
cells_among rounds row r q [] distinct q1 qn r1 rn = refl
cells_among rounds row r q (x ∷ xs) distinct q1 qn r1 rn =
    let head = sum_by-cons (λ y. cond (cell rounds y q == cell rounds row r) 1 0) x xs in
    let here : ◌≡◌ {A = ℕ} (cond (cell rounds x q == cell rounds row r) 1 0) (cond ((x == row) && (q == r)) 1 0) = ap (λ b. cond b 1 0) (cell-test rounds x q row r q1 qn r1 rn) in
    let rest = cells_among rounds row r q xs distinct.1 q1 qn r1 rn in
    let both = first_cell x row (q == r) xs distinct.0 in
    omega arith

-- before the first stay there is none
pub loads_none : (net : Instance) (f : ℕ → ℕ) (counts : List ℕ) (n : ℕ) → n ≡ rows net * net.rounds → counts ≡ replicate n 0 → AreLoads net f 0 counts
loads_none net f counts n size is = record {
  cells = ap length is ∙ length-replicate n ∙ size;
  each = λ row r within first last. rw is (get-replicate n (cell net.rounds row r));
}
  where
    length-replicate : (n : ℕ) → length (replicate {A = ℕ} n 0) ≡ n
    length-replicate zero = refl
    length-replicate (suc n) = omega (arith, length-replicate n)

    get-replicate : (n k : ℕ) → slice_index (replicate n 0) k ≡ 0
    get-replicate zero k = refl
    get-replicate (suc n) zero = refl
    get-replicate (suc n) (suc k) = get-replicate n k

pub none_counted : (counts : List ℕ) (n at : ℕ) → counts ≡ replicate n 0 → slice_index counts at ≡ 0
none_counted counts n at is = rw is (get-replicate n at)
  where
    get-replicate : (n k : ℕ) → slice_index (replicate n 0) k ≡ 0
    get-replicate zero k = refl
    get-replicate (suc n) zero = refl
    get-replicate (suc n) (suc k) = get-replicate n k

-- one stay more
pub loads_more : (net : Instance) (live f : ℕ → ℕ) (s round : ℕ) (counts counts' : List ℕ) → IsSound net live → s < net.stays → AreRounds net f → round ≡ f s → AreLoads net f s counts → length counts' ≡ length counts
    → ((at : ℕ) → slice_index counts' at ≡ slice_index counts at + cells_at net s round at) → AreLoads net f (s + 1) counts'
loads_more net live f s round counts counts' sound lt inside is are size more = record {
  cells = size ∙ are.cells;
  each = λ row r within first last.
      let device = sound.on_device s lt in
      let distinct = path-distinct net s device (sound.on_adapter (net.device s) device) in
      let mine = inside s lt in
      let here : slice_index counts' (cell net.rounds row r) ≡ slice_index counts (cell net.rounds row r) + cells_at net s (f s) (cell net.rounds row r) = rw is at (more (cell net.rounds row r)) in
      let one = cells_among net.rounds row r (f s) (path net s) distinct mine.0 mine.1 first last in
      let before = are.each row r within first last in
      let next = sum_below-more s (λ t. cond (uses net row t && (f t == r)) 1 0) in
      omega arith;
}

-- a stay on a link, and one on none, are counted in these rows
pub cells_with : (net : Instance) (s r at l : ℕ) → link net s ≡ Some l →
    cells_at net s r at ≡ cond (cell net.rounds (net.device s) r == at) 1 0 + cond (cell net.rounds (adapter_resource net (adapter net s)) r == at) 1 0 + cond (cell net.rounds (link_resource net l) r == at) 1 0
cells_with net s r at l is =
    let same : path net s ≡ net.device s ∷ adapter_resource net (adapter net s) ∷ link_resource net l ∷ [] = rw is refl in
    rw same (omega arith)

pub cells_without : (net : Instance) (s r at : ℕ) → link net s ≡ None → cells_at net s r at ≡ cond (cell net.rounds (net.device s) r == at) 1 0 + cond (cell net.rounds (adapter_resource net (adapter net s)) r == at) 1 0
cells_without net s r at is =
    let same : path net s ≡ net.device s ∷ adapter_resource net (adapter net s) ∷ [] = rw is refl in
    rw same (omega arith)

-- no test counts twice
pub one_at_most : (b : Bool) → ◌≤◌ (cond b 1 0) 1
one_at_most true = omega arith
one_at_most false = omega arith

-- equal rounds make equal loads
pub loads_same : (net : Instance) (f g : ℕ → ℕ) (counts : List ℕ) → ((s : ℕ) → s < net.stays → f s ≡ g s) → AreLoads net f net.stays counts → AreLoads net g net.stays counts
loads_same net f g counts same are = record {
  cells = are.cells;
  each = λ row r within first last. are.each row r within first last ∙ sum_below-same net.stays (λ s. cond (uses net row s && (f s == r)) 1 0) (λ s. cond (uses net row s && (g s == r)) 1 0) (λ s lt. ap (λ n. cond (uses net row s && (n == r)) 1 0) (same s lt));
}
