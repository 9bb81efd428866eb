-- a schedule is admissible where it has no fault, and not where it has one
use Rattle.std.proofs.Common.{◌≡◌, ℕ, zero, suc, ◌+◌, ◌<◌, ◌≤◌, Bool, true, false, cond, List, [], ◌∷◌, refl, arith, Option, Some, None, ◌==◌, ◌&&◌, nat_lt, All}
use Rattle.std.specs.List.{list_any}
use Rattle.std.proofs.lemmas.Bool.{and_parts, or_parts, or_left, or_right, eqb-true, eq-eqb, ltb-true}
use Rattle.std.proofs.lemmas.Bool.Decides.{nat_tests}
use Rattle.std.proofs.lemmas.List.Elements.{All-nil, All-cons}
use Rattle.price_check.specs.Words.{count_below, Instance, adapter, adapter_resource, link_rows, path, uses, IsAdmissible, load, IsSound}
use Rattle.round_net.proofs.PathLemmas.{uses-device, uses-adapter}
use Rattle.price_check.specs.Faults.{at_row, is_over, is_link_over, fault_at, IsFaultlessBelow, IsFirstFault, Cause, Early, Late, DeviceFull, AdapterFull, LinkFull}
use Rattle.price_check.proofs.TallyLemmas.{count_below-more}
use Rattle.price_check.proofs.UsedLemmas.{of_used, used_within}

-- what no fault says of a stay
pub record IsWell (net : Instance) (f : ℕ → ℕ) (s : ℕ) : Type 0 where
  pub not_early : net.arrival s ≤ f s
  pub not_late : f s ≤ net.last s
  pub holds : (row : ℕ) → uses net row s ≡ true → at_row net f row s ≤ net.cap row (f s)

not_taken : {X : Type 0} → (b : Bool) (x : X) (o : Option X) → cond b (Some x) o ≡ None → (b ≡ false) × (o ≡ None)
not_taken true x o e = absurd cc
not_taken false x o e = (refl, e)

not_less : (a b : ℕ) → nat_lt a b ≡ false → b ≤ a
not_less a b e = grind (arith, nat_tests)

less-not : (a b : ℕ) → b ≤ a → nat_lt a b ≡ false
less-not a b e = grind (arith, nat_tests)

-- none of these rows is over its cap, by the test of any
none_over : (net : Instance) (f : ℕ → ℕ) (s : ℕ) (rows : List ℕ) → list_any (λ row. is_over net f row s) rows ≡ false → All (λ row. at_row net f row s ≤ net.cap row (f s)) rows
none_over net f s [] e = All-nil (λ row. at_row net f row s ≤ net.cap row (f s))
none_over net f s (row ∷ rows) e =
    let parts = or_parts (is_over net f row s) (list_any (λ other. is_over net f other s) rows) e in
    All-cons (λ other. at_row net f other s ≤ net.cap other (f s)) row rows (not_less _ _ parts.0) (none_over net f s rows parts.1)

-- a test that fails at each number among them fails at any
none_among : (test : ℕ → Bool) (own : List ℕ) → ((row : ℕ) → list_any (λ x. x == row) own ≡ true → test row ≡ false) → list_any test own ≡ false
none_among test [] h = refl
none_among test (x ∷ xs) h =
    rw (h x (or_left (x == x) _ (eq-eqb x x refl))) (none_among test xs (λ row e. h row (or_right (x == row) _ e)))

uses-link_rows : (net : Instance) (row s : ℕ) → list_any (λ x. x == row) (link_rows net (adapter net s)) ≡ true → uses net row s ≡ true
uses-link_rows net row s among = or_right (net.device s == row) _ (or_right (adapter_resource net (adapter net s) == row) _ among)

pub well_where_no_fault : (net : Instance) (f : ℕ → ℕ) (s : ℕ) → fault_at net f s ≡ None → IsWell net f s
unfolding fault_at
well_where_no_fault net f s e =
    let device = net.device s in
    let row' = adapter_resource net (adapter net s) in
    let links = link_rows net (adapter net s) in
    let Q : ℕ → Type 0 = λ x. at_row net f x s ≤ net.cap x (f s) in
    let one = not_taken (nat_lt (f s) (net.arrival s)) Early _ e in
    let two = not_taken (nat_lt (net.last s) (f s)) Late _ one.1 in
    let three = not_taken (is_over net f device s) DeviceFull _ two.1 in
    let four = not_taken (is_over net f row' s) AdapterFull _ three.1 in
    let five = not_taken (is_link_over net f s) LinkFull _ four.1 in
    record {
      not_early = not_less _ _ one.0;
      not_late = not_less _ _ two.0;
      holds = λ row own. of_used Q (path net s) row (All-cons Q device (row' ∷ links) (not_less _ _ three.0) (All-cons Q row' links (not_less _ _ four.0) (none_over net f s links five.0))) own;
    }

pub no_fault_where_well : (net : Instance) (f : ℕ → ℕ) (s : ℕ) → IsWell net f s → fault_at net f s ≡ None
unfolding fault_at
no_fault_where_well net f s well =
    let device = net.device s in
    let row = adapter_resource net (adapter net s) in
    rw (
      less-not (f s) (net.arrival s) well.not_early,
      less-not (net.last s) (f s) well.not_late,
      less-not (net.cap device (f s)) (at_row net f device s) (well.holds device (uses-device net s)),
      less-not (net.cap row (f s)) (at_row net f row s) (well.holds row (uses-adapter net s)),
      none_among (λ other. is_over net f other s) (link_rows net (adapter net s)) (λ other among. less-not (net.cap other (f s)) (at_row net f other s) (well.holds other (uses-link_rows net other s among))),
    ) refl

-- where each stay that passes a test, with those before it, keeps within a cap, all together do
load_within : (n : ℕ) (test : ℕ → Bool) (round : ℕ → ℕ) (r cap : ℕ) → ((s : ℕ) → s < n → test s ≡ true → round s ≡ r → count_below (s + 1) (λ t. test t && (round t == r)) ≤ cap) → count_below n (λ t. test t && (round t == r)) ≤ cap
load_within zero test round r cap h = omega arith
load_within (suc n) test round r cap h =
    let rest : count_below n (λ t. test t && (round t == r)) ≤ cap = load_within n test round r cap (λ s lt. h s (omega arith)) in
    elim (test n && (round n == r)) as (λ b. (test n && (round n == r)) ≡ b → count_below n (λ t. test t && (round t == r)) + cond b 1 0 ≤ cap) [
      | true ↦ λ e.
          let parts = and_parts (test n) (round n == r) e in
          let at : round n ≡ r = eqb-true (round n) r parts.1 in
          let here : count_below (n + 1) (λ t. test t && (round t == r)) ≤ cap = h n (omega arith) parts.0 at in
          let more = count_below-more n (λ t. test t && (round t == r)) in
          let one : ◌≡◌ {A = ℕ} (cond (test n && (round n == r)) 1 0) 1 = rw e refl in
          omega arith
      | false ↦ λ e. omega arith
    ] refl

pub admissible_where_faultless : (net : Instance) (f : ℕ → ℕ) → IsFaultlessBelow net f net.stays → IsAdmissible net f
admissible_where_faultless net f faultless = record {
  not_early = λ s lt. (well_where_no_fault net f s (faultless s lt)).not_early;
  not_late = λ s lt. (well_where_no_fault net f s (faultless s lt)).not_late;
  rows_hold = λ row r within some most.
      load_within net.stays (uses net row) f r (net.cap row r) (λ s lt own at. let holds = (well_where_no_fault net f s (faultless s lt)).holds row own in rw at at holds);
}

-- a count over more numbers is no less
count_below-le : (m n : ℕ) (test : ℕ → Bool) → m ≤ n → count_below m test ≤ count_below n test
count_below-le m zero test le = let at : m ≡ 0 = omega arith in rw at (omega arith)
count_below-le m (suc n) test le = elim (nat_lt n m) as (λ b. nat_lt n m ≡ b → count_below m test ≤ count_below (suc n) test) [
  | true ↦ λ e. let lt = ltb-true n m e in let at : m ≡ suc n = omega arith in rw at (omega arith)
  | false ↦ λ e. let le' = not_less n m e in let rest : count_below m test ≤ count_below n test = count_below-le m n test le' in omega arith
] refl

-- each stay of an admissible schedule is well
pub well_where_admissible : (net : Instance) (live f : ℕ → ℕ) (s : ℕ) → IsSound net live → IsAdmissible net f → s < net.stays → IsWell net f s
well_where_admissible net live f s sound is lt =
    let early = is.not_early s lt in
    let late = is.not_late s lt in
    let first = sound.from_first s lt in
    let last = sound.to_last s lt in
    record {
      not_early = early;
      not_late = late;
      holds = λ row own.
          let all : load net f row (f s) ≤ net.cap row (f s) = is.rows_hold row (f s) (used_within net live s row sound lt own) (omega arith) (omega arith) in
          let part : at_row net f row s ≤ load net f row (f s) = count_below-le (s + 1) net.stays (λ t. uses net row t && (f t == f s)) (omega arith) in
          omega arith;
    }

pub faulty_not_admissible : (net : Instance) (live f : ℕ → ℕ) (s : ℕ) (cause : Cause) → IsSound net live → IsFirstFault net f s cause → IsAdmissible net f → ⊥
faulty_not_admissible net live f s cause sound fault is =
    let none : fault_at net f s ≡ None = no_fault_where_well net f s (well_where_admissible net live f s sound is fault.within) in
    let some = fault.here in
    cc
