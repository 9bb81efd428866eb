-- one row more that is marked or noted in a round
use Rattle.std.proofs.Math.Seq.{take-append_seam}
use Rattle.std.proofs.Common.{◌≡◌, ◌≢◌, ℕ, ◌+◌, ◌*◌, ◌<◌, ◌≤◌, Bool, true, false, cond, List, ◌++◌, take, drop, length, refl, sym, ap, ◌∙◌, arith, get_or, set, ◌==◌, ◌&&◌, ◌||◌, nat_lt, if◌then◌else◌, slice_index, slice_index_or, slice_set, get_or-set_same, get_or-set_other}
use Rattle.std.proofs.lemmas.Bool.{and_parts, eqb-true, eq-eqb, lt-ltb}
use Rattle.std.proofs.lemmas.Bool.Decides.{nat_tests}
use Rattle.round_net.specs.Rows.{cell}
use Rattle.round_net.specs.Marks.{is_marked, Marks}
use Rattle.round_net.proofs.CellLemmas.{cell_within, cell-injective}

-- a write at a row's round changes that round of that row alone
written : {X : Type 0} (xs : List X) (rounds rows row now other r : ℕ) (y d : X) → rows * rounds ≤ length xs → row < rows → 1 ≤ now → now ≤ rounds → 1 ≤ r → r ≤ rounds →
    get_or (set xs (cell rounds row now) y) (cell rounds other r) d ≡ cond ((other == row) && (r == now)) y (get_or xs (cell rounds other r) d)
written xs rounds rows row now other r y d all within first last r1 rn =
    let here : cell rounds row now < length xs = (let lt = cell_within rounds rows row now within first last in omega arith) in
    elim ((other == row) && (r == now)) as (λ b. ((other == row) && (r == now)) ≡ b → get_or (set xs (cell rounds row now) y) (cell rounds other r) d ≡ cond b y (get_or xs (cell rounds other r) d)) [
      | true ↦ λ e.
          let parts = and_parts (other == row) (r == now) e in
          let same_row : other ≡ row = eqb-true other row parts.0 in
          let same_round : r ≡ now = eqb-true r now parts.1 in
          rw (same_row, same_round) (get_or-set_same xs (cell rounds row now) y d here)
      | false ↦ λ e.
          let apart : cell rounds other r ≢ cell rounds row now = (λ at.
          let same = cell-injective rounds other r row now r1 rn first last at in
          let yes : ((other == row) && (r == now)) ≡ true = rw (eq-eqb other row same.0, eq-eqb r now same.1) refl in
          cc) in
          get_or-set_other xs (cell rounds row now) (cell rounds other r) y d apart
    ] refl

or_false : (b c : Bool) → b ≡ (b || (c && false))
or_false true c = refl
or_false false true = refl
or_false false false = refl

pub marks-none : (rows rounds : ℕ) (marks : List Bool) (now : ℕ) (test : ℕ → Bool) → Marks rows rounds marks marks now (λ d. nat_lt d 0 && test d)
marks-none rows rounds marks now test row r within first last =
    let none : nat_lt row 0 ≡ false = grind (arith, nat_tests) in
    rw none (or_false (is_marked marks rounds row r) (r == now))

-- the rows so far and one more
next_row : (x t b c d : Bool) (row i : ℕ) → c ≡ nat_lt row i → d ≡ nat_lt row (i + 1) → (row == i) ≡ false → (x || (b && (c && t))) ≡ (x || (b && (d && t)))
next_row x t b c d row i e e' ne =
    let same : nat_lt row i ≡ nat_lt row (i + 1) = grind (arith, nat_tests) in
    let cd : c ≡ d = e ∙ same ∙ sym e' in
    rw cd refl

this_row : (x t c d : Bool) → c ≡ false → d ≡ true → ((x || (true && (c && t))) || t) ≡ (x || (true && (d && t)))
this_row true t c d e e' = refl
this_row false t c d e e' = rw (e, e') refl

other_round : (x c d t : Bool) → (x || (false && (c && t))) ≡ (x || (false && (d && t)))
other_round x c d t = refl

marked_step : (old marks : List Bool) (rows rounds now i row r : ℕ) (test : ℕ → Bool) → (is_marked marks rounds row r ≡ (is_marked old rounds row r || ((r == now) && (nat_lt row i && test row)))) →
    cond ((row == i) && (r == now)) (is_marked marks rounds row r || test row) (is_marked marks rounds row r) ≡ (is_marked old rounds row r || ((r == now) && (nat_lt row (i + 1) && test row)))
marked_step old marks rows rounds now i row r test h =
    elim (row == i) as (λ b. (row == i) ≡ b → cond (b && (r == now)) (is_marked marks rounds row r || test row) (is_marked marks rounds row r) ≡ (is_marked old rounds row r || ((r == now) && (nat_lt row (i + 1) && test row)))) [
      | false ↦ λ e. h ∙ next_row (is_marked old rounds row r) (test row) (r == now) (nat_lt row i) (nat_lt row (i + 1)) row i refl refl e
      | true ↦ λ e.
          let at : row ≡ i = eqb-true row i e in
          let not_yet : nat_lt row i ≡ false = grind (arith, nat_tests) in
          let now_there : nat_lt row (i + 1) ≡ true = lt-ltb row (i + 1) (omega arith) in
          elim (r == now) as (λ b. is_marked marks rounds row r ≡ (is_marked old rounds row r || (b && (nat_lt row i && test row))) → cond b (is_marked marks rounds row r || test row) (is_marked marks rounds row r) ≡ (is_marked old rounds row r || (b && (nat_lt row (i + 1) && test row)))) [
            | true ↦ λ g. rw g (this_row (is_marked old rounds row r) (test row) (nat_lt row i) (nat_lt row (i + 1)) not_yet now_there)
            | false ↦ λ g. g ∙ other_round (is_marked old rounds row r) (nat_lt row i) (nat_lt row (i + 1)) (test row)
          ] h
    ] refl

pub marks-step : (rows rounds now i at : ℕ) (old marks marks' : List Bool) (test : ℕ → Bool) (b : Bool) → rows * rounds ≤ length marks → i < rows → 1 ≤ now → now ≤ rounds →
    Marks rows rounds old marks now (λ d. nat_lt d i && test d) → b ≡ test i → at ≡ cell rounds i now → marks' ≡ slice_set marks at (slice_index_or marks at false || b) → Marks rows rounds old marks' now (λ d. nat_lt d (i + 1) && test d)
marks-step rows rounds now i at old marks marks' test b all lt first last so_far is at_is new row r within r1 rn =
    let y : Bool = is_marked marks rounds i now || test i in
    let here : marks' ≡ slice_set marks (cell rounds i now) y = new ∙ rw (at_is, is) refl in
    let w : is_marked marks' rounds row r ≡ cond ((row == i) && (r == now)) y (is_marked marks rounds row r) = rw here (written marks rounds rows i now row r y false all lt first last r1 rn) in
    let same : cond ((row == i) && (r == now)) y (is_marked marks rounds row r) ≡ cond ((row == i) && (r == now)) (is_marked marks rounds row r || test row) (is_marked marks rounds row r) =
    elim ((row == i) && (r == now)) as (λ v. ((row == i) && (r == now)) ≡ v → cond v y (is_marked marks rounds row r) ≡ cond v (is_marked marks rounds row r || test row) (is_marked marks rounds row r)) [
      | true ↦ λ e. let parts = and_parts (row == i) (r == now) e in rw (eqb-true row i parts.0, eqb-true r now parts.1) refl
      | false ↦ λ e. refl
    ] refl in
    w ∙ same ∙ marked_step old marks rows rounds now i row r test (so_far row r within r1 rn)

pub marks-all : (rows rounds now i : ℕ) (old marks : List Bool) (test : ℕ → Bool) → rows ≤ i → Marks rows rounds old marks now (λ d. nat_lt d i && test d) → Marks rows rounds old marks now test
marks-all rows rounds now i old marks test le so_far row r within first last = so_far row r within first last ∙ rw (lt-ltb row i (omega arith)) refl

-- the numbers of the rows so far
abbrev pub SetsBelow : ℕ → ℕ → List ℕ → List ℕ → ℕ → (ℕ → ℕ) → ℕ → Type 0
SetsBelow rows rounds old new now value i =
    (row r : ℕ) → row < rows → 1 ≤ r → r ≤ rounds → slice_index new (cell rounds row r) ≡ (if (r == now) && nat_lt row i then value row else slice_index old (cell rounds row r))

set_cases : (x y v : ℕ) (row i : ℕ) (b : Bool) → (row ≡ i → v ≡ y) → cond ((row == i) && b) v (cond (b && nat_lt row i) y x) ≡ cond (b && nat_lt row (i + 1)) y x
set_cases x y v row i false h = elim (row == i) as (λ e. cond (e && false) v x ≡ x) [ true ↦ refl | false ↦ refl ]
set_cases x y v row i true h = elim (row == i) as (λ e. (row == i) ≡ e → cond (e && true) v (cond (nat_lt row i) y x) ≡ cond (nat_lt row (i + 1)) y x) [
  | true ↦ λ e. let at : row ≡ i = eqb-true row i e in rw (lt-ltb row (i + 1) (omega arith)) (h at)
  | false ↦ λ e. let same : nat_lt row i ≡ nat_lt row (i + 1) = grind (arith, nat_tests) in rw same refl
] refl

pub sets-step : (rows rounds now i at v : ℕ) (old numbers numbers' : List ℕ) (value : ℕ → ℕ) → rows * rounds ≤ length numbers → i < rows → 1 ≤ now → now ≤ rounds →
    SetsBelow rows rounds old numbers now value i → v ≡ value i → at ≡ cell rounds i now → numbers' ≡ slice_set numbers at v → SetsBelow rows rounds old numbers' now value (i + 1)
sets-step rows rounds now i at v old numbers numbers' value all lt first last so_far is at_is new row r within r1 rn =
    let here : numbers' ≡ slice_set numbers (cell rounds i now) v = new ∙ rw at_is refl in
    let w : slice_index numbers' (cell rounds row r) ≡ cond ((row == i) && (r == now)) v (slice_index numbers (cell rounds row r)) = rw here (written numbers rounds rows i now row r v 0 all lt first last r1 rn) in
    w ∙ ap (λ n. cond ((row == i) && (r == now)) v n) (so_far row r within r1 rn)
    ∙ set_cases (slice_index old (cell rounds row r)) (value row) v row i (r == now) (λ at. is ∙ ap value (sym at))

-- a list that is written over as a whole
pub written_back : {X : Type 0} (new old : List X) (n : ℕ) → length new ≡ n → take n (new ++ drop (length new) old) ≡ new
written_back new old n e = ap (λ k. take k (new ++ drop (length new) old)) (sym e) ∙ take-append_seam new (drop (length new) old)
