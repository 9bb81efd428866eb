-- one stay more in the counts of cells
use Rattle.std.proofs.Common.{◌≡◌, ◌≢◌, ℕ, zero, suc, ◌+◌, ◌*◌, ◌^◌, ◌<◌, ◌≤◌, Bool, true, false, cond, List, [], ◌∷◌, ◌++◌, length, refl, sym, ap, ◌∙◌, arith, add-one, get_or, eq-eqb, Some, None, ◌==◌, ◌&&◌, ◌||◌, nat_lt, slice_index, slice_set, get_or-set_same, get_or-set_other, length-set}
use Rattle.std.specs.List.{list_any}
use Rattle.std.proofs.lemmas.Bool.{eqb-true, ne_eqb, and_parts}
use Rattle.std.proofs.lemmas.List.Folds.{list_any-append}
use Rattle.price_check.specs.Words.{count_below, Instance, rows, adapter, link, adapter_resource, link_resource, path, uses, cell}
use Rattle.round_net.proofs.CellLemmas.{cell_within, cell-injective}
use Rattle.round_net.proofs.PathLemmas.{uses-device, uses-adapter}
use Rattle.price_check.specs.Faults.{at_row, is_over, is_link_over}
use Rattle.price_check.specs.Tally.{IsTally, IsCounted}

pub few_counted : (n : ℕ) (test : ℕ → Bool) → count_below n test ≤ n
few_counted zero test = omega arith
few_counted (suc n) test = elim (test n) as (λ b. count_below n test + cond b 1 0 ≤ suc n) [
  | true ↦ omega (arith, few_counted n test)
  | false ↦ omega (arith, few_counted n test)
]

pub count_below-more : (n : ℕ) (test : ℕ → Bool) → count_below (n + 1) test ≡ count_below n test + cond (test n) 1 0
count_below-more n test = rw add-one refl

-- the stay itself counts
pub count_here : (n : ℕ) (test : ℕ → Bool) (round : ℕ → ℕ) → test n ≡ true → count_below (n + 1) (λ t. test t && (round t == round n)) ≡ count_below n (λ t. test t && (round t == round n)) + 1
count_here n test round passes = rw (add-one, passes, eq-eqb (round n) (round n) refl) refl

-- one more at a place
pub bump : (xs : List ℕ) (i k : ℕ) → i < length xs → slice_index (slice_set xs i (slice_index xs i + 1)) k ≡ slice_index xs k + cond (i == k) 1 0
bump xs i k lt = elim (i == k) as (λ b. (i == k) ≡ b → slice_index (slice_set xs i (slice_index xs i + 1)) k ≡ slice_index xs k + cond b 1 0) [
  | true ↦ λ e. let same : i ≡ k = eqb-true i k e in rw (← same) (get_or-set_same xs i (get_or xs i 0 + 1) 0 lt)
  | false ↦ λ e. let apart : k ≢ i = (λ at. let yes : (i == k) ≡ true = eq-eqb i k (sym at) in cc) in
      let h = get_or-set_other xs i k (get_or xs i 0 + 1) 0 apart in omega arith
] refl

-- two cells are one where their rows and rounds are equal
pub cell-test : (rounds row r other q : ℕ) → 1 ≤ r → r ≤ rounds → 1 ≤ q → q ≤ rounds → (cell rounds row r == cell rounds other q) ≡ ((row == other) && (r == q))
cell-test rounds row r other q r1 rn q1 qn =
    elim ((row == other) && (r == q)) as (λ b. ((row == other) && (r == q)) ≡ b → (cell rounds row r == cell rounds other q) ≡ b) [
      | true ↦ λ e.
          let parts = and_parts (row == other) (r == q) e in
          let rows' : row ≡ other = eqb-true row other parts.0 in
          let at : r ≡ q = eqb-true r q parts.1 in
          eq-eqb (cell rounds row r) (cell rounds other q) (rw (rows', at) refl)
      | false ↦ λ e.
          ne_eqb (cell rounds row r) (cell rounds other q) (λ at.
          let same = cell-injective rounds row r other q r1 rn q1 qn at in
          let yes : ((row == other) && (r == q)) ≡ true = rw (eq-eqb row other same.0, eq-eqb r q same.1) refl in
          cc)
    ] refl

abbrev pub bumped : List ℕ → ℕ → List ℕ
bumped xs i = slice_set xs i (slice_index xs i + 1)

-- ---- the stay itself is counted row by row

-- none of these rows is this one
abbrev pub IsNew : List ℕ → ℕ → Type 0
IsNew own row = list_any (λ x. x == row) own ≡ false

-- a row of the net in a round of it
pub record IsPlace (net : Instance) (f : ℕ → ℕ) (s row : ℕ) : Type 0 where
  pub within : row < rows net
  pub first : 1 ≤ f s
  pub last : f s ≤ net.rounds

pub counted_none : (net : Instance) (f : ℕ → ℕ) (counts : List ℕ) (s : ℕ) → IsTally net f counts s → IsCounted net f counts s []
counted_none net f counts s tally = record { each = λ row r within some most. let h = tally.each row r within some most in omega arith }

pub counted_all : (net : Instance) (f : ℕ → ℕ) (counts : List ℕ) (s : ℕ) → IsCounted net f counts s (path net s) → IsTally net f counts (s + 1)
counted_all net f counts s counted = record {
  each = λ row r within some most.
      let h : slice_index counts (cell net.rounds row r) ≡ count_below s (λ t. uses net row t && (f t == r)) + cond (uses net row s && (f s == r)) 1 0 = counted.each row r within some most in
      let more = count_below-more s (λ t. uses net row t && (f t == r)) in
      omega arith;
}

place_within : (net : Instance) (f : ℕ → ℕ) (s row n : ℕ) → IsPlace net f s row → rows net * net.rounds ≤ n → cell net.rounds row (f s) < n
place_within net f s row n p room = omega (arith, cell_within net.rounds (rows net) row (f s) p.within p.first p.last)

either_adds : (a b c : Bool) → (b ≡ true → a ≡ false) → cond (a && c) 1 0 + cond (b && c) 1 0 ≡ cond ((a || b) && c) 1 0
either_adds true true c apart = let wrong = apart refl in absurd cc
either_adds true false true apart = refl
either_adds true false false apart = refl
either_adds false true true apart = refl
either_adds false true false apart = refl
either_adds false false c apart = refl

or_none : (a b : Bool) → (a || (b || false)) ≡ (a || b)
or_none true b = refl
or_none false true = refl
or_none false false = refl

pub counted_more : (net : Instance) (f : ℕ → ℕ) (counts : List ℕ) (s row : ℕ) (own : List ℕ) → IsCounted net f counts s own → IsPlace net f s row → IsNew own row → rows net * net.rounds ≤ length counts →
    IsCounted net f (bumped counts (cell net.rounds row (f s))) s (own ++ row ∷ [])
counted_more net f counts s row own counted p new room = record {
  each = λ other r within some most.
      let at = cell net.rounds row (f s) in
      let one : slice_index (bumped counts at) (cell net.rounds other r) ≡ slice_index counts (cell net.rounds other r) + cond (at == cell net.rounds other r) 1 0 =
      bump counts at (cell net.rounds other r) (place_within net f s row (length counts) p room) in
      let test : ◌≡◌ {A = ℕ} (cond (at == cell net.rounds other r) 1 0) (cond ((row == other) && (f s == r)) 1 0) = ap (λ b. cond b 1 0) (cell-test net.rounds row (f s) other r p.first p.last some most) in
      let apart : (row == other) ≡ true → list_any (λ x. x == other) own ≡ false = λ e. let same : row ≡ other = eqb-true row other e in rw same at new in
      let both = either_adds (list_any (λ x. x == other) own) (row == other) (f s == r) apart in
      let whole : list_any (λ x. x == other) (own ++ row ∷ []) ≡ (list_any (λ x. x == other) own || (row == other)) = list_any-append (λ x. x == other) own (row ∷ []) ∙ or_none (list_any (λ x. x == other) own) (row == other) in
      let after : ◌≡◌ {A = ℕ} (cond (list_any (λ x. x == other) (own ++ row ∷ []) && (f s == r)) 1 0) (cond ((list_any (λ x. x == other) own || (row == other)) && (f s == r)) 1 0) = ap (λ b. cond (b && (f s == r)) 1 0) whole in
      let before = counted.each other r within some most in
      omega arith;
}

-- before a row is counted it has the stays before this one alone
counted_here : (net : Instance) (f : ℕ → ℕ) (counts : List ℕ) (s row : ℕ) (own : List ℕ) → IsCounted net f counts s own → IsPlace net f s row → IsNew own row → slice_index counts (cell net.rounds row (f s)) ≡ count_below s (λ t. uses net row t && (f t == f s))
counted_here net f counts s row own counted p new =
    let h = counted.each row (f s) p.within p.first p.last in
    let none : ◌≡◌ {A = ℕ} (cond (list_any (λ x. x == row) own && (f s == f s)) 1 0) 0 = rw new refl in
    omega arith

-- there are no more than stays
pub few_here : (net : Instance) (f : ℕ → ℕ) (counts : List ℕ) (s row at : ℕ) (own : List ℕ) → IsCounted net f counts s own → IsPlace net f s row → IsNew own row → s < 2 ^ 31 → at ≡ cell net.rounds row (f s) → slice_index counts at < 2 ^ 31
few_here net f counts s row at own counted p new lt is =
    let few = few_counted s (λ t. uses net row t && (f t == f s)) in
    let h = counted_here net f counts s row own counted p new in
    rw is (omega arith)

-- with the stay they are those by which its fault is named
pub here_counted : (net : Instance) (f : ℕ → ℕ) (counts : List ℕ) (s row at one : ℕ) (own : List ℕ) → IsCounted net f counts s own → IsPlace net f s row → IsNew own row → uses net row s ≡ true → at ≡ cell net.rounds row (f s) → one ≡ slice_index counts at + 1 → one ≡ at_row net f row s
here_counted net f counts s row at one own counted p new used is e =
    let h = counted_here net f counts s row own counted p new in
    let here = count_here s (uses net row) f used in
    let same : slice_index counts at ≡ slice_index counts (cell net.rounds row (f s)) = ap (slice_index counts) is in
    omega arith

-- a stay within the net
pub record IsPlaced (net : Instance) (f : ℕ → ℕ) (s : ℕ) : Type 0 where
  pub device : net.device s < net.devices
  pub adapter : adapter net s < net.adapters
  pub first : 1 ≤ f s
  pub last : f s ≤ net.rounds

pub device_place : (net : Instance) (f : ℕ → ℕ) (s : ℕ) → IsPlaced net f s → IsPlace net f s (net.device s)
device_place net f s p = let lt = p.device in record { within = omega arith; first = p.first; last = p.last }

pub adapter_place : (net : Instance) (f : ℕ → ℕ) (s : ℕ) → IsPlaced net f s → IsPlace net f s (adapter_resource net (adapter net s))
adapter_place net f s p = let lt = p.adapter in record { within = omega arith; first = p.first; last = p.last }

-- the device's row isn't the adapter's
pub adapter_new : (net : Instance) (f : ℕ → ℕ) (s : ℕ) → IsPlaced net f s → IsNew (net.device s ∷ []) (adapter_resource net (adapter net s))
adapter_new net f s p = let lt = p.device in rw (ne_eqb (net.device s) (adapter_resource net (adapter net s)) (λ at. omega arith)) refl

pub link_place : (net : Instance) (f : ℕ → ℕ) (s l : ℕ) → 1 ≤ f s → f s ≤ net.rounds → l < net.links → IsPlace net f s (link_resource net l)
link_place net f s l first last lt = record { within = omega arith; first = first; last = last }

-- the link's row isn't the device's, nor the adapter's
pub link_new : (net : Instance) (s l : ℕ) → net.device s < net.devices → adapter net s < net.adapters → IsNew (net.device s ∷ adapter_resource net (adapter net s) ∷ []) (link_resource net l)
link_new net s l device adapter' =
    rw (ne_eqb (net.device s) (link_resource net l) (λ at. omega arith), ne_eqb (adapter_resource net (adapter net s)) (link_resource net l) (λ at. omega arith)) refl

-- the device's row and the adapter's counted
pub record IsTallied (net : Instance) (f : ℕ → ℕ) (s : ℕ) (one other : ℕ) (counts : List ℕ) : Type 0 where
  pub at_device : one ≡ at_row net f (net.device s) s
  pub at_adapter : other ≡ at_row net f (adapter_resource net (adapter net s)) s
  pub counted : IsCounted net f counts s (net.device s ∷ adapter_resource net (adapter net s) ∷ [])

pub tallied : (net : Instance) (f : ℕ → ℕ) (counts counts' counts'' : List ℕ) (s at at' one other : ℕ) → IsTally net f counts s → IsPlaced net f s → rows net * net.rounds ≤ length counts →
    at ≡ cell net.rounds (net.device s) (f s) → one ≡ slice_index counts at + 1 → counts' ≡ bumped counts at →
    at' ≡ cell net.rounds (adapter_resource net (adapter net s)) (f s) → other ≡ slice_index counts' at' + 1 → counts'' ≡ bumped counts' at' → IsTallied net f s one other counts''
tallied net f counts counts' counts'' s at at' one other tally p room is e more is' e' more' =
    let device = net.device s in
    let row = adapter_resource net (adapter net s) in
    let none = counted_none net f counts s tally in
    let first : IsCounted net f counts' s (device ∷ []) = rw (more, is) (counted_more net f counts s device [] none (device_place net f s p) refl room) in
    let room' : rows net * net.rounds ≤ length counts' = rw more (omega (arith, length-set counts at (slice_index counts at + 1))) in
    record {
      at_device = here_counted net f counts s device at one [] none (device_place net f s p) refl (uses-device net s) is e;
      at_adapter = here_counted net f counts' s row at' other (device ∷ []) first (adapter_place net f s p) (adapter_new net f s p) (uses-adapter net s) is' e';
      counted = rw (more', is') (counted_more net f counts' s row (device ∷ []) first (adapter_place net f s p) (adapter_new net f s p) room');
    }

-- and one that is on a link where its row is counted too
pub tallied_with : (net : Instance) (f : ℕ → ℕ) (counts counts' : List ℕ) (s l at : ℕ) → link net s ≡ Some l → IsCounted net f counts s (net.device s ∷ adapter_resource net (adapter net s) ∷ []) →
    IsPlace net f s (link_resource net l) → IsNew (net.device s ∷ adapter_resource net (adapter net s) ∷ []) (link_resource net l) → rows net * net.rounds ≤ length counts → at ≡ cell net.rounds (link_resource net l) (f s) → counts' ≡ bumped counts at → IsTally net f counts' (s + 1)
tallied_with net f counts counts' s l at is counted p new room at_is more =
    let same : path net s ≡ net.device s ∷ adapter_resource net (adapter net s) ∷ link_resource net l ∷ [] = rw is refl in
    let all : IsCounted net f counts' s (net.device s ∷ adapter_resource net (adapter net s) ∷ link_resource net l ∷ []) = rw (more, at_is) (counted_more net f counts s (link_resource net l) (net.device s ∷ adapter_resource net (adapter net s) ∷ []) counted p new room) in
    counted_all net f counts' s (rw same all)

-- the link's row is over its cap where more are counted in it than it takes
pub over_link : (net : Instance) (f : ℕ → ℕ) (s l cap one : ℕ) → link net s ≡ Some l → cap ≡ net.cap (link_resource net l) (f s) → one ≡ at_row net f (link_resource net l) s → nat_lt cap one ≡ is_link_over net f s
over_link net f s l cap one is e e' = rw (is, e, e') (by (is_over net f (link_resource net l) s))
  where
    by : (b : Bool) → b ≡ (b || false)
    by true = refl
    by false = refl
