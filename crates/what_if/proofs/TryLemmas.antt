-- how many stays wait in each round, and which changes are worth a try
use Rattle.std.proofs.Common.{◌≡◌, ℕ, zero, suc, ◌+◌, ◌-◌, ◌*◌, ◌<◌, ◌≤◌, Bool, true, false, cond, List, [], ◌∷◌, ◌++◌, refl, sym, ap, inl, inr, ◌∙◌, arith, zero-add, append-nil, All, ◌==◌, ◌&&◌, ◌||◌, nat_lt, nat_le, lt-ltb, slice_index}
use Rattle.std.specs.List.{list_any, flat_map, range_with_len}
use Rattle.std.proofs.lemmas.Bool.{cases_lt}
use Rattle.std.proofs.lemmas.Bool.Decides.{nat_tests}
use Rattle.std.proofs.lemmas.Grind.{flat_map-append}
use Rattle.std.proofs.lemmas.List.Elements.{All-nil, All-cons, All-append}
use Rattle.std.proofs.lemmas.List.Folds.{list_any-append}
use Rattle.event_rules.proofs.ListFacts.{range_with_len-push}
use Rattle.round_net.specs.Instance.{Instance, rows, uses}
use Rattle.round_net.specs.LoadLists.{AreLoads}
use Rattle.round_net.specs.Rows.{NetRows, cell, instance_of_rows, live_of_rows}
use Rattle.round_net.specs.Schedules.{load}
use Rattle.round_net.specs.Sound.{IsSound}
use Rattle.round_net.specs.Sums.{sum_below}
use Rattle.round_net.proofs.LoadListLemmas.{one_at_most}
use Rattle.round_net.proofs.SumLemmas.{sum_below-same, sum_below-add, sum_below-zero, sum_below-most}
use Rattle.what_if.specs.Changes.{Change, Resource, More, Times, NeverStopped, IsResourceOf, IsChangeOf}
use Rattle.what_if.specs.Tries.{waiting_at, is_ever_full, is_ever_stopped, resource_at, more_if, never_stopped_if, tries_of, worth_trying}

-- ---- how many wait

-- a round later: who arrives is added, and who is sent goes
one_later : (own : Bool) (arrival live q : ℕ) → arrival ≤ live →
    ◌≡◌ {A = ℕ} (cond (own && (nat_le arrival (q + 1) && nat_lt (q + 1) live)) 1 0 + cond (own && (live == q + 1)) 1 0) (cond (own && (nat_le arrival q && nat_lt q live)) 1 0 + cond (own && (arrival == q + 1)) 1 0)
one_later false arrival live q le = refl
one_later true arrival live q le = grind (arith, nat_tests)

waiting-later : (net : Instance) (live : ℕ → ℕ) (row q : ℕ) → ((s : ℕ) → s < net.stays → net.arrival s ≤ live s) → waiting_at net live row (q + 1) + load net live row (q + 1) ≡ waiting_at net live row q + load net net.arrival row (q + 1)
unfolding waiting_at
waiting-later net live row q late =
    let own : ℕ → Bool = uses net row in
    let waits : ℕ → ℕ → ℕ = λ r s. cond (own s && (nat_le (net.arrival s) r && nat_lt r (live s))) 1 0 in
    let sends : ℕ → ℕ = λ s. cond (own s && (live s == q + 1)) 1 0 in
    let comes : ℕ → ℕ = λ s. cond (own s && (net.arrival s == q + 1)) 1 0 in
    let after = sum_below-add net.stays (waits (q + 1)) sends in
    let before = sum_below-add net.stays (waits q) comes in
    let each : sum_below net.stays (λ s. waits (q + 1) s + sends s) ≡ sum_below net.stays (λ s. waits q s + comes s) = sum_below-same net.stays (λ s. waits (q + 1) s + sends s) (λ s. waits q s + comes s) (λ s lt. one_later (own s) (net.arrival s) (live s) q (late s lt)) in
    omega arith

-- before the first round nobody waits
none_first : (own : Bool) (arrival live : ℕ) → 1 ≤ arrival → ◌≡◌ {A = ℕ} (cond (own && (nat_le arrival 0 && nat_lt 0 live)) 1 0) 0
none_first false arrival live le = refl
none_first true arrival live le = grind (arith, nat_tests)

pub waiting-none : (net : Instance) (live : ℕ → ℕ) (row : ℕ) → IsSound net live → waiting_at net live row 0 ≡ 0
unfolding waiting_at
waiting-none net live row sound = sum_below-zero net.stays (λ s. cond (uses net row s && (nat_le (net.arrival s) 0 && nat_lt 0 (live s))) 1 0) (λ s lt. none_first (uses net row s) (net.arrival s) (live s) (sound.from_first s lt))

few_wait : (net : Instance) (live : ℕ → ℕ) (row q : ℕ) → waiting_at net live row q ≤ net.stays
unfolding waiting_at
few_wait net live row q = omega (arith, sum_below-most net.stays 1 (λ s. cond (uses net row s && (nat_le (net.arrival s) q && nat_lt q (live s))) 1 0) (λ s lt. one_at_most (uses net row s && (nat_le (net.arrival s) q && nat_lt q (live s)))))

few_come : (net : Instance) (f : ℕ → ℕ) (row r : ℕ) → load net f row r ≤ net.stays
few_come net f row r = omega (arith, sum_below-most net.stays 1 (λ s. cond (uses net row s && (f s == r)) 1 0) (λ s lt. one_at_most (uses net row s && (f s == r))))

-- the count in a round, by who came and who went in it
pub record IsNextCount (net : Instance) (live : ℕ → ℕ) (row q count came went : ℕ) : Type 0 where
  pub enough : went ≤ count + came
  pub few : count + came ≤ 2 * net.stays
  pub next : count + came - went ≡ waiting_at net live row (q + 1)

pub waiting_next : (net : Instance) (live : ℕ → ℕ) (arrived sent : List ℕ) (row q at count : ℕ) → IsSound net live → AreLoads net net.arrival net.stays arrived → AreLoads net live net.stays sent → row < rows net → q < net.rounds → at ≡ cell net.rounds row (q + 1) → count ≡ waiting_at net live row q
    → IsNextCount net live row q count (slice_index arrived at) (slice_index sent at)
waiting_next net live arrived sent row q at count sound came went within lt place is =
    let arrives : slice_index arrived at ≡ load net net.arrival row (q + 1) = ap (slice_index arrived) place ∙ came.each row (q + 1) within (omega arith) (omega arith) in
    let leaves : slice_index sent at ≡ load net live row (q + 1) = ap (slice_index sent) place ∙ went.each row (q + 1) within (omega arith) (omega arith) in
    let later = waiting-later net live row q (λ s less. sound.live_admissible.not_early s less) in
    let few = few_wait net live row q in
    let few' = few_come net net.arrival row (q + 1) in
    record { enough = omega arith; few = omega arith; next = omega arith }

-- ---- the rounds so far

or-false : (b : Bool) → (b || false) ≡ b
or-false true = refl
or-false false = refl

pub any_more : (p : ℕ → Bool) (n : ℕ) (so_far now next : Bool) → so_far ≡ list_any p (range_with_len 1 n) → now ≡ p (n + 1) → next ≡ (so_far || now) → next ≡ list_any p (range_with_len 1 (n + 1))
any_more p n so_far now next is here both =
    let one : 1 + n ≡ n + 1 = omega arith in
    both ∙ rw (is, here) (sym (ap (list_any p) (range_with_len-push 1 n) ∙ list_any-append p (range_with_len 1 n) ((1 + n) ∷ []) ∙ ap (λ b. list_any p (range_with_len 1 n) || b) (or-false (p (1 + n)) ∙ ap p one)))

-- ---- the rows so far

pub flat_map-range : {X : Type 0} (f : ℕ → List X) (n : ℕ) (so_far next : List X) → so_far ≡ flat_map f (range_with_len 0 n) → next ≡ so_far ++ f n → next ≡ flat_map f (range_with_len 0 (n + 1))
flat_map-range f n so_far next is more =
    more ∙ rw is (sym (ap (flat_map f) (range_with_len-push 0 n ∙ ap (λ m. range_with_len 0 n ++ m ∷ []) (zero-add n)) ∙ flat_map-append f (range_with_len 0 n) (n ∷ []) ∙ ap (λ xs. flat_map f (range_with_len 0 n) ++ xs) (append-nil (f n))))

-- the resource that has a row is one of the net
resource-kept : (net : Instance) (row : ℕ) → row < rows net → IsResourceOf net (resource_at net row)
resource-kept net row within = elim (cases_lt row net.devices) [
  | inl lt ↦ rw (lt-ltb row net.devices lt) lt
  | inr from ↦ elim (cases_lt row (net.devices + net.adapters)) [
    | inl lt ↦
        let past : nat_lt row net.devices ≡ false = grind (arith, nat_tests) in
        let own : row - net.devices < net.adapters = omega arith in
        rw (past, lt-ltb row (net.devices + net.adapters) lt) own
    | inr le ↦
        let past : nat_lt row net.devices ≡ false = grind (arith, nat_tests) in
        let past' : nat_lt row (net.devices + net.adapters) ≡ false = grind (arith, nat_tests) in
        let own : row - (net.devices + net.adapters) < net.links = omega arith in
        rw (past, past') own
  ]
]

-- so each change that is worth a try is one of the net
more-kept : (net : Instance) (resource : Resource) (full : Bool) → IsResourceOf net resource → All (IsChangeOf net) (more_if resource full)
more-kept net resource false is = All-nil (IsChangeOf net)
more-kept net resource true is =
    let more : Change = record { resource = resource; widening = More 1 } in
    let twice : Change = record { resource = resource; widening = Times 2 } in
    let one : IsChangeOf net more = record { resource = is; number = (omega arith, omega arith) } in
    let two : IsChangeOf net twice = record { resource = is; number = (omega arith, omega arith) } in
    All-cons (IsChangeOf net) more (twice ∷ []) one (All-cons (IsChangeOf net) twice [] two (All-nil (IsChangeOf net)))

never_stopped-kept : (net : Instance) (resource : Resource) (stopped : Bool) → IsResourceOf net resource → All (IsChangeOf net) (never_stopped_if resource stopped)
never_stopped-kept net resource false is = All-nil (IsChangeOf net)
never_stopped-kept net resource true is =
    let change : Change = record { resource = resource; widening = NeverStopped } in
    All-cons (IsChangeOf net) change [] (record { resource = is; number = tt }) (All-nil (IsChangeOf net))

of_row-kept : (net : Instance) (live : ℕ → ℕ) (row : ℕ) → row < rows net → All (IsChangeOf net) (tries_of net live row)
of_row-kept net live row within =
    let resource : Resource = resource_at net row in
    let is = resource-kept net row within in
    All-append (IsChangeOf net) (more_if resource (is_ever_full net live row)) (never_stopped_if resource (is_ever_stopped net live row)) (more-kept net resource (is_ever_full net live row) is) (never_stopped-kept net resource (is_ever_stopped net live row) is)

kept_all : (net : Instance) (live : ℕ → ℕ) (from n : ℕ) → from + n ≤ rows net → All (IsChangeOf net) (flat_map (tries_of net live) (range_with_len from n))
kept_all net live from zero le = All-nil (IsChangeOf net)
kept_all net live from (suc n) le =
    All-append (IsChangeOf net) (tries_of net live from) (flat_map (tries_of net live) (range_with_len (from + 1) n))
    (of_row-kept net live from (omega arith)) (kept_all net live (from + 1) n (omega arith))

pub worth_trying-kept : (n : NetRows) → All (IsChangeOf (instance_of_rows n)) (worth_trying n)
unfolding worth_trying
worth_trying-kept n = kept_all (instance_of_rows n) (live_of_rows n) 0 (rows (instance_of_rows n)) (omega arith)

-- where no row is left
pub worth_trying-done : (n : NetRows) (row : ℕ) (so_far : List Change) → row ≡ rows (instance_of_rows n) → so_far ≡ flat_map (tries_of (instance_of_rows n) (live_of_rows n)) (range_with_len 0 row) → so_far ≡ worth_trying n
unfolding worth_trying
worth_trying-done n row so_far all is = is ∙ ap (λ k. flat_map (tries_of (instance_of_rows n) (live_of_rows n)) (range_with_len 0 k)) all
