-- what rows sent in rounds, stay by stay
use Rattle.std.proofs.Common.{◌≡◌, ◌≢◌, ℕ, zero, suc, ◌+◌, ◌*◌, ◌^◌, ◌<◌, ◌≤◌, IfSome, Bool, true, false, cond, List, [], ◌∷◌, ◌++◌, length, get_or, refl, sym, ap, ◌∙◌, arith, eq-eqb, Some, None, Option, ◌==◌, ◌&&◌, ◌||◌, nat_lt, slice_get, slice_set, length-set, replicate}
use Rattle.std.specs.List.{list_any}
use Rattle.std.proofs.lemmas.Bool.{eqb-true, ne_eqb, and_parts}
use Rattle.std.proofs.lemmas.Bool.Decides.{nat_tests}
use Rattle.std.proofs.lemmas.Option.{get_or_from_slice_get}
use Rattle.std.proofs.lemmas.List.Folds.{list_any-append}
use Rattle.round_net.specs.Sums.{count_below}
use Rattle.round_net.specs.Instance.{Instance, rows, adapter, link, adapter_resource, link_resource, path, uses}
use Rattle.round_net.specs.Rows.{cell}
use Rattle.round_net.specs.Schedules.{load}
use Rattle.round_net.specs.Sound.{IsSound}
use Rattle.round_net.proofs.CellLemmas.{cell_within, cell-injective}
use Rattle.wait_causes.specs.Behind.{behind_row, LessUrgent, Equal, MoreUrgent}
use Rattle.wait_causes.specs.Sends.{no_sends, lesser, with_send, sends_by, sends_in, AreSends, sends_with, AreNoted, IsNew, Sends}
use Rattle.wait_causes.specs.Totals.{least_behind}

-- how many there are
count_is : (weight : ℕ → ℕ) (test : ℕ → Bool) (n : ℕ) → (sends_by weight test n).count ≡ count_below n test
count_is weight test zero = refl
count_is weight test (suc n) = elim (test n) as (λ b. (cond b (with_send (sends_by weight test n) (weight n)) (sends_by weight test n)).count ≡ count_below n test + cond b 1 0) [
  | true ↦ omega (arith, count_is weight test n)
  | false ↦ omega (arith, count_is weight test n)
]

pub count_is_load : (net : Instance) (live : ℕ → ℕ) (row r : ℕ) → (sends_in net live net.stays row r).count ≡ load net live row r
count_is_load net live row r = count_is net.weight (λ s. uses net row s && (live s == r)) net.stays

few_by : (weight : ℕ → ℕ) (test : ℕ → Bool) (n : ℕ) → (sends_by weight test n).count ≤ n
few_by weight test zero = omega arith
few_by weight test (suc n) = elim (test n) as (λ b. (cond b (with_send (sends_by weight test n) (weight n)) (sends_by weight test n)).count ≤ suc n) [
  | true ↦ omega (arith, few_by weight test n)
  | false ↦ omega (arith, few_by weight test n)
]

pub few_sends : (net : Instance) (live : ℕ → ℕ) (n row r : ℕ) → (sends_in net live n row r).count ≤ n
few_sends net live n row r = few_by net.weight (λ s. uses net row s && (live s == r)) n

-- the least weight, and whether one is smaller or the same
abbrev pub is_below : Option ℕ → ℕ → Bool
is_below None w = false
is_below (Some v) w = nat_lt v w

abbrev pub is_same : Option ℕ → ℕ → Bool
is_same None w = false
is_same (Some v) w = v == w

below_more : (o : Option ℕ) (v w k : ℕ) → nat_lt 0 k ≡ is_below o w → nat_lt 0 (k + cond (nat_lt v w) 1 0) ≡ is_below (Some (lesser o v)) w
below_more None v w k e = grind (arith, nat_tests)
below_more (Some u) v w k e = grind (arith, nat_tests)

below_found : (weight : ℕ → ℕ) (test : ℕ → Bool) (w n : ℕ) → nat_lt 0 (count_below n (λ s. test s && nat_lt (weight s) w)) ≡ is_below (sends_by weight test n).least w
below_found weight test w zero = refl
below_found weight test w (suc n) = elim (test n) as (λ b. nat_lt 0 (count_below n (λ s. test s && nat_lt (weight s) w) + cond (b && nat_lt (weight n) w) 1 0) ≡ is_below (cond b (with_send (sends_by weight test n) (weight n)) (sends_by weight test n)).least w) [
  | true ↦ below_more (sends_by weight test n).least (weight n) w (count_below n (λ s. test s && nat_lt (weight s) w)) (below_found weight test w n)
  | false ↦ ap (λ k. nat_lt 0 k) (plus-none (count_below n (λ s. test s && nat_lt (weight s) w))) ∙ below_found weight test w n
]
  where
    plus-none : (k : ℕ) → k + 0 ≡ k
    plus-none k = omega arith

same_more : (o : Option ℕ) (v w k : ℕ) → is_below (Some (lesser o v)) w ≡ false → (is_below o w ≡ false → nat_lt 0 k ≡ is_same o w) → nat_lt 0 (k + cond (v == w) 1 0) ≡ is_same (Some (lesser o v)) w
same_more None v w k none e = let h = e refl in grind (arith, nat_tests)
same_more (Some u) v w k none e =
    let less : nat_lt u w ≡ false = grind (arith, nat_tests) in
    let h = e less in
    grind (arith, nat_tests)

same_found : (weight : ℕ → ℕ) (test : ℕ → Bool) (w n : ℕ) → is_below (sends_by weight test n).least w ≡ false → nat_lt 0 (count_below n (λ s. test s && (weight s == w))) ≡ is_same (sends_by weight test n).least w
same_found weight test w zero none = refl
same_found weight test w (suc n) none = (elim (test n) as (λ b. is_below (cond b (with_send (sends_by weight test n) (weight n)) (sends_by weight test n)).least w ≡ false → nat_lt 0 (count_below n (λ s. test s && (weight s == w)) + cond (b && (weight n == w)) 1 0) ≡ is_same (cond b (with_send (sends_by weight test n) (weight n)) (sends_by weight test n)).least w) [
  | true ↦ λ e. same_more (sends_by weight test n).least (weight n) w (count_below n (λ s. test s && (weight s == w))) e (same_found weight test w n)
  | false ↦ λ e. ap (λ k. nat_lt 0 k) (plus-none (count_below n (λ s. test s && (weight s == w)))) ∙ same_found weight test w n e
]) none
  where
    plus-none : (k : ℕ) → k + 0 ≡ k
    plus-none k = omega arith

by_least : (o : Option ℕ) (w : ℕ) (less same : Bool) → less ≡ is_below o w → (is_below o w ≡ false → same ≡ is_same o w) → least_behind o w ≡ cond less LessUrgent (cond same Equal MoreUrgent)
by_least None w less same e f = rw (e, f refl) refl
by_least (Some v) w less same e f = elim (nat_lt v w) as (λ b. nat_lt v w ≡ b → cond b LessUrgent (cond (v == w) Equal MoreUrgent) ≡ cond less LessUrgent (cond same Equal MoreUrgent)) [
  | true ↦ λ h. rw (e, h) refl
  | false ↦ λ h. rw (e, h, f h) refl
] refl

-- by the least weight that a row sent it is known what a stay waits behind
pub least_is_behind : (net : Instance) (live : ℕ → ℕ) (w r row : ℕ) → least_behind (sends_in net live net.stays row r).least w ≡ behind_row net live w r row
unfolding behind_row
least_is_behind net live w r row =
    by_least (sends_in net live net.stays row r).least w
    (nat_lt 0 (count_below net.stays (λ s. (uses net row s && (live s == r)) && nat_lt (net.weight s) w)))
    (nat_lt 0 (count_below net.stays (λ s. (uses net row s && (live s == r)) && (net.weight s == w))))
    (below_found net.weight (λ s. uses net row s && (live s == r)) w net.stays)
    (same_found net.weight (λ s. uses net row s && (live s == r)) w net.stays)

-- ---- the list, stay by stay

-- before the first stay nothing was sent
pub sends_none : (net : Instance) (live : ℕ → ℕ) (sends : List Sends) (n : ℕ) → n ≡ rows net * net.rounds → sends ≡ replicate n no_sends → AreSends net live 0 sends
sends_none net live sends n size is = record {
  cells = ap (λ (xs : List Sends). length xs) is ∙ length-replicate n ∙ size;
  each = λ row r within first last. ap (λ (xs : List Sends). slice_get xs (cell net.rounds row r)) is ∙ get-replicate n (cell net.rounds row r) (omega (arith, cell_within net.rounds (rows net) row r within first last));
}
  where
    length-replicate : (n : ℕ) → length (replicate n no_sends) ≡ n
    length-replicate zero = refl
    length-replicate (suc n) = omega (arith, length-replicate n)

    get-replicate : (n k : ℕ) → k < n → slice_get (replicate n no_sends) k ≡ Some no_sends
    get-replicate zero k lt = absurd (omega arith)
    get-replicate (suc n) zero lt = refl
    get-replicate (suc n) (suc k) lt = get-replicate n k (omega arith)

pub noted_none : (net : Instance) (live : ℕ → ℕ) (s : ℕ) (sends : List Sends) → AreSends net live s sends → AreNoted net live s [] sends
noted_none net live s sends are = record { cells = are.cells; each = are.each }

pub noted_all : (net : Instance) (live : ℕ → ℕ) (s : ℕ) (own : List ℕ) (sends : List Sends) → own ≡ path net s → AreNoted net live s own sends → AreSends net live (s + 1) sends
noted_all net live s own sends is are = record {
  cells = are.cells;
  each = λ row r within first last.
      are.each row r within first last
      ∙ ap (λ (xs : List ℕ). Some (sends_with net live s xs row r)) is
      ∙ ap (λ n. Some (sends_in net live n row r)) (next s);
}
  where
    next : (n : ℕ) → suc n ≡ n + 1
    next n = omega arith

-- a row of the net in a round of it
pub record IsPlace (net : Instance) (live : ℕ → ℕ) (s row : ℕ) : Type 0 where
  pub within : row < rows net
  pub first : 1 ≤ live s
  pub last : live s ≤ net.rounds

-- what stands in a row before the stay is noted there
pub noted_before : (net : Instance) (live : ℕ → ℕ) (s : ℕ) (own : List ℕ) (sends : List Sends) (row at : ℕ) → AreNoted net live s own sends → IsPlace net live s row → IsNew own row → at ≡ cell net.rounds row (live s) →
    slice_get sends at ≡ Some (sends_in net live s row (live s))
noted_before net live s own sends row at are p new is =
    ap (λ k. slice_get sends k) is ∙ are.each row (live s) p.within p.first p.last
    ∙ ap (λ (b : Bool). Some (cond (b && (live s == live s)) (with_send (sends_in net live s row (live s)) (net.weight s)) (sends_in net live s row (live s)))) new

pub place_in : (net : Instance) (live : ℕ → ℕ) (s : ℕ) (own : List ℕ) (sends : List Sends) (row at : ℕ) → AreNoted net live s own sends → IsPlace net live s row → at ≡ cell net.rounds row (live s) → at < length sends
place_in net live s own sends row at are p is = omega (arith, is, are.cells, cell_within net.rounds (rows net) row (live s) p.within p.first p.last)

get-set_same : {X : Type 0} (xs : List X) (i : ℕ) (y : X) → i < length xs → slice_get (slice_set xs i y) i ≡ Some y
get-set_same [] i y lt = absurd (omega arith)
get-set_same (x ∷ xs) zero y lt = refl
get-set_same (x ∷ xs) (suc i) y lt = get-set_same xs i y (omega arith)

get-set_other : {X : Type 0} (xs : List X) (i k : ℕ) (y : X) → k ≢ i → slice_get (slice_set xs i y) k ≡ slice_get xs k
get-set_other [] i k y ne = refl
get-set_other (x ∷ xs) zero zero y ne = absurd (ne refl)
get-set_other (x ∷ xs) zero (suc k) y ne = refl
get-set_other (x ∷ xs) (suc i) zero y ne = refl
get-set_other (x ∷ xs) (suc i) (suc k) y ne = get-set_other xs i k y (λ e. ne (ap (λ n. suc n) e))

or_last : (own : List ℕ) (row other : ℕ) → list_any (λ x. x == other) (own ++ row ∷ []) ≡ (list_any (λ x. x == other) own || ((row == other) || false))
or_last own row other = list_any-append (λ x. x == other) own (row ∷ [])

-- one row more
pub noted_more : (net : Instance) (live : ℕ → ℕ) (s : ℕ) (own : List ℕ) (sends new : List Sends) (row at w : ℕ) → AreNoted net live s own sends → IsPlace net live s row → IsNew own row → at ≡ cell net.rounds row (live s) → w ≡ net.weight s →
    new ≡ slice_set sends at (with_send (sends_in net live s row (live s)) w) → AreNoted net live s (own ++ row ∷ []) new
noted_more net live s own sends new row at w are p fresh is weight more = record {
  cells = ap (λ (xs : List Sends). length xs) more ∙ length-set sends at (with_send (sends_in net live s row (live s)) w) ∙ are.cells;
  each = λ other r within first last.
      elim ((row == other) && (live s == r)) as (λ b. ((row == other) && (live s == r)) ≡ b → slice_get new (cell net.rounds other r) ≡ Some (sends_with net live s (own ++ row ∷ []) other r)) [
        | true ↦ λ e.
            let parts = and_parts (row == other) (live s == r) e in
            let same : row ≡ other = eqb-true row other parts.0 in
            let now : live s ≡ r = eqb-true (live s) r parts.1 in
            let here : at ≡ cell net.rounds other r = is ∙ rw (same, now) refl in
            let last : list_any (λ x. x == other) (own ++ row ∷ []) ≡ true = or_last own row other ∙ rw (parts.0) (or_true (list_any (λ x. x == other) own)) in
            ap (λ (xs : List Sends). slice_get xs (cell net.rounds other r)) more
            ∙ ap (λ k. slice_get (slice_set sends at (with_send (sends_in net live s row (live s)) w)) k) (sym here)
            ∙ get-set_same sends at (with_send (sends_in net live s row (live s)) w) (place_in net live s own sends row at are p is)
            ∙ stands (list_any (λ x. x == other) (own ++ row ∷ [])) (live s == r) row other r last parts.1 same now
        | false ↦ λ e.
            let apart : cell net.rounds other r ≢ at = (λ h.
            let both = cell-injective net.rounds other r row (live s) first last p.first p.last (h ∙ is) in
            let yes : ((row == other) && (live s == r)) ≡ true = rw (eq-eqb row other (sym both.0), eq-eqb (live s) r (sym both.1)) refl in
            cc) in
            ap (λ (xs : List Sends). slice_get xs (cell net.rounds other r)) more
            ∙ get-set_other sends at (cell net.rounds other r) (with_send (sends_in net live s row (live s)) w) apart
            ∙ are.each other r within first last
            ∙ ap (λ (x : Sends). Some x) (unchanged (list_any (λ x. x == other) own) (row == other) (live s == r) (list_any (λ x. x == other) (own ++ row ∷ [])) (or_last own row other) e (with_send (sends_in net live s other r) (net.weight s)) (sends_in net live s other r))
      ] refl;
}
  where
    or_true : (b : Bool) → (b || true) ≡ true
    or_true true = refl
    or_true false = refl

    stands : (b c : Bool) (one other r : ℕ) → b ≡ true → c ≡ true → one ≡ other → live s ≡ r →
        Some (with_send (sends_in net live s one (live s)) w) ≡ Some (cond (b && c) (with_send (sends_in net live s other r) (net.weight s)) (sends_in net live s other r))
    stands b c one other r all now same at =
        ap (λ v. Some (with_send (sends_in net live s one (live s)) v)) weight
        ∙ ap (λ k. Some (with_send (sends_in net live s k (live s)) (net.weight s))) same
        ∙ ap (λ k. Some (with_send (sends_in net live s other k) (net.weight s))) at
        ∙ sym (ap (λ (t : Bool). Some (cond (t && c) (with_send (sends_in net live s other r) (net.weight s)) (sends_in net live s other r))) all
        ∙ ap (λ (t : Bool). Some (cond (true && t) (with_send (sends_in net live s other r) (net.weight s)) (sends_in net live s other r))) now)

    unchanged : (a b c d : Bool) → d ≡ (a || (b || false)) → (b && c) ≡ false → (x y : Sends) → cond (a && c) x y ≡ cond (d && c) x y
    unchanged true true c d is e x y = rw is refl
    unchanged true false c d is e x y = rw is refl
    unchanged false true c d is e x y = rw is (rw e refl)
    unchanged false false c d is e x y = rw is refl

-- a stay within the net
pub record IsPlaced (net : Instance) (live : ℕ → ℕ) (s : ℕ) : Type 0 where
  pub device : net.device s < net.devices
  pub adapter : adapter net s < net.adapters
  pub first : 1 ≤ live s
  pub last : live s ≤ net.rounds

pub device_place : (net : Instance) (live : ℕ → ℕ) (s : ℕ) → IsPlaced net live s → IsPlace net live s (net.device s)
device_place net live s p = let lt = p.device in record { within = omega arith; first = p.first; last = p.last }

pub adapter_place : (net : Instance) (live : ℕ → ℕ) (s : ℕ) → IsPlaced net live s → IsPlace net live s (adapter_resource net (adapter net s))
adapter_place net live s p = let lt = p.adapter in record { within = omega arith; first = p.first; last = p.last }

pub link_place : (net : Instance) (live : ℕ → ℕ) (s l : ℕ) → IsPlaced net live s → l < net.links → IsPlace net live s (link_resource net l)
link_place net live s l p lt = record { within = omega arith; first = p.first; last = p.last }

pub adapter_new : (net : Instance) (live : ℕ → ℕ) (s : ℕ) → IsPlaced net live s → IsNew (net.device s ∷ []) (adapter_resource net (adapter net s))
adapter_new net live s p = let lt = p.device in rw (ne_eqb (net.device s) (adapter_resource net (adapter net s)) (λ at. omega arith)) refl

pub link_new : (net : Instance) (live : ℕ → ℕ) (s l : ℕ) → IsPlaced net live s → IsNew (net.device s ∷ adapter_resource net (adapter net s) ∷ []) (link_resource net l)
link_new net live s l p =
    let device = p.device in
    let above = p.adapter in
    rw (ne_eqb (net.device s) (link_resource net l) (λ at. omega arith), ne_eqb (adapter_resource net (adapter net s)) (link_resource net l) (λ at. omega arith)) refl

-- where a stay of a sound net was sent
pub sound_placed : (net : Instance) (live : ℕ → ℕ) (s : ℕ) → IsSound net live → s < net.stays → IsPlaced net live s
sound_placed net live s sound lt =
    let device = sound.on_device s lt in
    let arrival = sound.from_first s lt in
    let early = sound.live_admissible.not_early s lt in
    let late = sound.live_admissible.not_late s lt in
    let last = sound.to_last s lt in
    record {
      device = device;
      adapter = sound.on_adapter (net.device s) device;
      first = omega (arith, arrival, early);
      last = omega (arith, late, last);
    }

pub sound_place : (net : Instance) (live : ℕ → ℕ) (s row : ℕ) → IsSound net live → s < net.stays → row < rows net → IsPlace net live s row
sound_place net live s row sound lt within = let p = sound_placed net live s sound lt in record { within = within; first = p.first; last = p.last }

-- one more fits
pub few_noted : (net : Instance) (live : ℕ → ℕ) (s row : ℕ) (o : Option Sends) → IsSound net live → s < net.stays → o ≡ Some (sends_in net live s row (live s)) → IfSome o (λ x. x.count + 1 < 2 ^ 32)
few_noted net live s row o sound lt is =
    let few = sound.few_stays in
    let count = few_sends net live s row (live s) in
    rw is (omega (arith, few, count, lt))

-- what stands in the list
pub sends_found : (net : Instance) (live : ℕ → ℕ) (sends : List Sends) (row r at : ℕ) (d : Sends) → AreSends net live net.stays sends → row < rows net → 1 ≤ r → r ≤ net.rounds → at ≡ cell net.rounds row r → get_or sends at d ≡ sends_in net live net.stays row r
sends_found net live sends row r at d are within first last is =
    get_or_from_slice_get sends at (sends_in net live net.stays row r) d (ap (λ k. slice_get sends k) is ∙ are.each row r within first last)

pub sends_inside : (net : Instance) (live : ℕ → ℕ) (sends : List Sends) (row r at : ℕ) → AreSends net live net.stays sends → row < rows net → 1 ≤ r → r ≤ net.rounds → at ≡ cell net.rounds row r → at < length sends
sends_inside net live sends row r at are within first last is = omega (arith, is, are.cells, cell_within net.rounds (rows net) row r within first last)

-- a stay on a link, and one on none, use these rows
pub path_with : (net : Instance) (s l : ℕ) → link net s ≡ Some l → net.device s ∷ adapter_resource net (adapter net s) ∷ link_resource net l ∷ [] ≡ path net s
path_with net s l is = rw is refl

pub path_without : (net : Instance) (s : ℕ) → link net s ≡ None → net.device s ∷ adapter_resource net (adapter net s) ∷ [] ≡ path net s
path_without net s is = rw is refl
