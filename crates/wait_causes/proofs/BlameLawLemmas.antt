-- what the rows of a table of blame add up to
use Rattle.std.proofs.Common.{◌≡◌, ℕ, zero, suc, ◌+◌, ◌-◌, ◌*◌, ◌<◌, ◌≤◌, Bool, true, false, cond, List, [], ◌∷◌, length, map, filter, flat_map, fold, count_by, sum_by, refl, sym, ap, ◌∙◌, arith, Option, Some, None, IfSome, All, ◌==◌, ◌||◌, ◌&&◌, nat_lt, mul-add, eqb-true}
use Rattle.std.specs.List.{range_with_len}
use Rattle.std.specs.Option.{option_map}
use Rattle.std.proofs.lemmas.Bool.Decides.{nat_tests}
use Rattle.std.proofs.lemmas.List.Elements.{All-filter, All-cons}
use Rattle.std.proofs.lemmas.List.FromFn.{length-map-range_with_len}
use Rattle.std.proofs.lemmas.List.Sums.{sum_by-cons}
use Rattle.event_rules.specs.Sorted.{insert_by, sorted_by}
use Rattle.cam_types.specs.Lists.{is_less}
use Rattle.round_net.proofs.CountLemmas.{count_by-cons}
use Rattle.wait_causes.specs.declared.origin.Origin.{Origin}
use Rattle.wait_causes.specs.Parts.{part_of}
use Rattle.wait_causes.specs.Tables.{number, stays_of, greatest}
use Rattle.wait_causes.specs.declared.table.Grouping.{Grouping}
use Rattle.wait_causes.specs.declared.explained_stay.ExplainedStay.{ExplainedStay}
use Rattle.wait_causes.proofs.CostLemmas.{sum_flat}
use Rattle.wait_causes.proofs.RowLemmas.{all_reached}
use Rattle.wait_causes.proofs.RowSumLemmas.{sum_eq, sum_zero, sum_both, sum_swap}
use Rattle.wait_causes.specs.BlameAmounts.{who, is_who, waited_for, cost_for, amounts_of, Amounts}
use Rattle.wait_causes.specs.InTheWay.{is_candidate, rather, first_of, in_way}
use Rattle.wait_causes.specs.BlameLaws.{BlameAddsUp}
use Rattle.wait_causes.specs.BlameRows.{everybody, row_of, rows_for, all_rows, row_key, blame_of, BlameRow}

-- ---- sums

sum_scale : {X : Type 0} (w : ℕ) (f : X → ℕ) (xs : List X) → sum_by (λ x. w * f x) xs ≡ w * sum_by f xs
sum_scale w f [] = omega arith
sum_scale w f (x ∷ xs) =
    sum_by-cons (λ x. w * f x) x xs ∙ ap (λ n. w * f x + n) (sum_scale w f xs) ∙ sym (mul-add w (f x) (sum_by f xs)) ∙ ap (λ n. w * n) (sym (sum_by-cons f x xs))

sum_map : {X Y : Type 0} (f : Y → ℕ) (g : X → Y) (xs : List X) → sum_by f (map g xs) ≡ sum_by (λ x. f (g x)) xs
sum_map f g [] = refl
sum_map f g (x ∷ xs) = sum_by-cons f (g x) (map g xs) ∙ ap (λ n. f (g x) + n) (sum_map f g xs) ∙ sym (sum_by-cons (λ x. f (g x)) x xs)

sum_filter : {X : Type 0} (f : X → ℕ) (p : X → Bool) (xs : List X) → sum_by f (filter p xs) ≡ sum_by (λ x. cond (p x) (f x) 0) xs
sum_filter f p [] = refl
sum_filter f p (x ∷ xs) = one (p x) ∙ ap (λ n. cond (p x) (f x) 0 + n) (sum_filter f p xs) ∙ sym (sum_by-cons (λ x. cond (p x) (f x) 0) x xs)
  where
    one : (b : Bool) → sum_by f (cond b (x ∷ filter p xs) (filter p xs)) ≡ cond b (f x) 0 + sum_by f (filter p xs)
    one true = sum_by-cons f x (filter p xs)
    one false = omega arith

-- one number of some
pick_none : (F : ℕ → ℕ) (n a len : ℕ) → n < a → sum_by (λ k. cond (k == n) (F k) 0) (range_with_len a len) ≡ 0
pick_none F n a zero lt = refl
pick_none F n a (suc len) lt =
    let no : (a == n) ≡ false = grind (arith, nat_tests) in
    let here : ◌≡◌ {A = ℕ} (cond (a == n) (F a) 0) 0 = rw no refl in
    omega (arith, here, pick_none F n (a + 1) len (omega (arith, lt)), sum_by-cons (λ k. cond (k == n) (F k) 0) a (range_with_len (a + 1) len))

pick_one : (F : ℕ → ℕ) (n a len : ℕ) → a ≤ n → n < a + len → sum_by (λ k. cond (k == n) (F k) 0) (range_with_len a len) ≡ F n
pick_one F n a zero le lt = absurd (omega (arith, le, lt))
pick_one F n a (suc len) le lt = elim (a == n) as (λ b. (a == n) ≡ b → sum_by (λ k. cond (k == n) (F k) 0) (range_with_len a (suc len)) ≡ F n) [
  | true ↦ λ e.
      let same : a ≡ n = eqb-true a n e in
      let here : ◌≡◌ {A = ℕ} (cond (a == n) (F a) 0) (F n) = rw e (ap F same) in
      omega (arith, here, pick_none F n (a + 1) len (omega (arith, same)), sum_by-cons (λ k. cond (k == n) (F k) 0) a (range_with_len (a + 1) len))
  | false ↦ λ e.
      let more : a < n = grind (arith, nat_tests) in
      let here : ◌≡◌ {A = ℕ} (cond (a == n) (F a) 0) 0 = rw e refl in
      omega (arith, here, pick_one F n (a + 1) len (omega (arith, more)) (omega (arith, lt)), sum_by-cons (λ k. cond (k == n) (F k) 0) a (range_with_len (a + 1) len))
] refl

pick_past : (F : ℕ → ℕ) (n a len : ℕ) → a + len ≤ n → sum_by (λ k. cond (k == n) (F k) 0) (range_with_len a len) ≡ 0
pick_past F n a zero le = refl
pick_past F n a (suc len) le =
    let no : (a == n) ≡ false = grind (arith, nat_tests) in
    let here : ◌≡◌ {A = ℕ} (cond (a == n) (F a) 0) 0 = rw no refl in
    omega (arith, here, pick_past F n (a + 1) len (omega (arith, le)), sum_by-cons (λ k. cond (k == n) (F k) 0) a (range_with_len (a + 1) len))

-- ---- an order changes no sum

sum_insert : {X : Type 0} (key : X → List ℕ) (f : X → ℕ) (ys : List X) (x : X) → sum_by f (insert_by key ys x) ≡ sum_by f ys + f x
sum_insert key f [] x = omega (arith, sum_by-cons f x [])
sum_insert key f (y ∷ ys) x = elim (is_less (key x) (key y)) as (λ b. sum_by f (cond b (x ∷ y ∷ ys) (y ∷ insert_by key ys x)) ≡ sum_by f (y ∷ ys) + f x) [
  | true ↦ omega (arith, sum_by-cons f x (y ∷ ys))
  | false ↦ omega (arith, sum_by-cons f y (insert_by key ys x), sum_by-cons f y ys, sum_insert key f ys x)
]

sum_inserted : {X : Type 0} (key : X → List ℕ) (f : X → ℕ) (ys xs : List X) → sum_by f (fold (insert_by key) ys xs) ≡ sum_by f ys + sum_by f xs
sum_inserted key f ys [] = omega arith
sum_inserted key f ys (x ∷ xs) = omega (arith, sum_inserted key f (insert_by key ys x) xs, sum_insert key f ys x, sum_by-cons f x xs)

sum_sorted : {X : Type 0} (key : X → List ℕ) (f : X → ℕ) (xs : List X) → sum_by f (sorted_by key xs) ≡ sum_by f xs
sum_sorted key f xs = omega (arith, sum_inserted key f [] xs)

-- ---- each round is somebody's or nobody's

-- a number below a bound, or nobody
abbrev IsBelow : ℕ → Option ℕ → Type 0
IsBelow count w = IfSome w (λ k. k < count)

one_who : (count : ℕ) (w : Option ℕ) → IsBelow count w → sum_by (λ m. cond (is_who m w) 1 0) (everybody count) ≡ 1
one_who count None below =
    let rest = sum_map (λ m. cond (is_who m None) 1 0) (λ n. Some n) (range_with_len 0 count) ∙ sum_zero (λ n. 0) (range_with_len 0 count) (λ n. refl) in
    omega (arith, rest, sum_by-cons (λ m. cond (is_who m None) 1 0) None (map (λ n. Some n) (range_with_len 0 count)))
one_who count (Some k) below =
    let rest = sum_map (λ m. cond (is_who m (Some k)) 1 0) (λ n. Some n) (range_with_len 0 count) ∙ pick_one (λ n. 1) k 0 count (omega arith) (omega (arith, below)) in
    omega (arith, rest, sum_by-cons (λ m. cond (is_who m (Some k)) 1 0) None (map (λ n. Some n) (range_with_len 0 count)))

all_who : (count : ℕ) (ws : List (Option ℕ)) → All (IsBelow count) ws → sum_by (λ m. count_by (is_who m) ws) (everybody count) ≡ length ws
all_who count [] all = sum_zero (λ m. count_by (is_who m) []) (everybody count) (λ m. refl)
all_who count (w ∷ ws) all =
    let split = sum_eq (λ m. count_by (is_who m) (w ∷ ws)) (λ m. cond (is_who m w) 1 0 + count_by (is_who m) ws) (everybody count) (λ m. count_by-cons (is_who m) w ws)
    ∙ sum_both (λ m. cond (is_who m w) 1 0) (λ m. count_by (is_who m) ws) (everybody count) in
    omega (arith, split, one_who count w (all 0 w (omega arith)), all_who count ws (λ k d lt. all (suc k) d (omega arith)))

all_mapped : {X Y : Type 0} (P : Y → Type 0) (f : X → Y) (xs : List X) → ((x : X) → P (f x)) → All P (map f xs)
all_mapped P f [] each = λ k d lt. absurd (omega arith)
all_mapped P f (x ∷ xs) each = All-cons P (f x) (map f xs) (each x) (all_mapped P f xs each)

-- the rounds that a stay waited, and what they cost
abbrev waited : ExplainedStay → ℕ
waited s = s.live - s.arrival

abbrev live_cost : ExplainedStay → ℕ
live_cost s = s.weight * (s.live - s.arrival)

-- they are shared out
waited_shared : (who : ℕ → ℕ → Option ℕ) (count : ℕ) → ((d r : ℕ) → IsBelow count (who d r)) → (s : ExplainedStay) → sum_by (λ m. waited_for who m s) (everybody count) ≡ waited s
waited_shared who count below s =
    all_who count (map (who s.device) (range_with_len s.arrival (s.live - s.arrival))) (all_mapped (IsBelow count) (who s.device) (range_with_len s.arrival (s.live - s.arrival)) (below s.device))
    ∙ length-map-range_with_len (who s.device) s.arrival (s.live - s.arrival)

cost_shared : (who : ℕ → ℕ → Option ℕ) (count : ℕ) → ((d r : ℕ) → IsBelow count (who d r)) → (s : ExplainedStay) → sum_by (λ m. cost_for who m s) (everybody count) ≡ live_cost s
cost_shared who count below s = sum_scale s.weight (λ m. waited_for who m s) (everybody count) ∙ ap (λ n. s.weight * n) (waited_shared who count below s)

-- ---- who is in the way is one of the stays

rather_either : (P : ExplainedStay → Type 0) (t : Option ExplainedStay) (s : ExplainedStay) → IfSome t P → P s → P (rather t s)
rather_either P None s h p = p
rather_either P (Some t) s h p = elim (nat_lt t.weight s.weight || ((t.weight == s.weight) && nat_lt s.arrival t.arrival)) as (λ b. P (cond b t s)) [ true ↦ h | false ↦ p ]

first_from : (P : ExplainedStay → Type 0) (t : Option ExplainedStay) (xs : List ExplainedStay) → IfSome t P → All P xs → IfSome (fold (λ t s. Some (rather t s)) t xs) P
first_from P t [] h all = h
first_from P t (x ∷ xs) h all = first_from P (Some (rather t x)) xs (rather_either P t x h (all 0 x (omega arith))) (λ k d lt. all (suc k) d (omega arith))

below_of : (count : ℕ) (by : Grouping) (w : Option ExplainedStay) → IfSome w (λ s. number by s < count) → IsBelow count (option_map (number by) w)
below_of count by None h = h
below_of count by (Some s) h = h

who_below : (o : Origin) (by : Grouping) (stays : List ExplainedStay) (d r : ℕ) → IsBelow (greatest by stays + 1) (who o stays by d r)
unfolding in_way
who_below o by stays d r =
    below_of (greatest by stays + 1) by (first_of (filter (is_candidate o d r) stays))
    (first_from (λ s. number by s < greatest by stays + 1) None (filter (is_candidate o d r) stays) tt
    (All-filter (is_candidate o d r) (λ s. number by s < greatest by stays + 1) stays (all_reached by stays)))

-- ---- the rows of a number

-- an amount of a row, and of what it is made of
pub record IsAmount (of : BlameRow → ℕ) (from : Amounts → ℕ) : Type 0 where
  pub some : (n : ℕ) (m : Option ℕ) (a : Amounts) → of (record { waiting = n; by = m; waited = a.waited; avoidable = a.avoidable; cost = a.cost }) ≡ from a

row_sum : (of : BlameRow → ℕ) (from : Amounts → ℕ) → IsAmount of from → (n k : ℕ) (m : Option ℕ) (a : Amounts) → (a.waited ≡ 0 → from a ≡ 0) → sum_by (λ (r : BlameRow). cond (r.waiting == n) (of r) 0) (row_of k m a) ≡ cond (k == n) (from a) 0
unfolding row_of
row_sum of from is n k m a none = elim (a.waited == 0) as (λ b. (a.waited == 0) ≡ b → sum_by (λ (r : BlameRow). cond (r.waiting == n) (of r) 0) (cond b [] (record { waiting = k; by = m; waited = a.waited; avoidable = a.avoidable; cost = a.cost } ∷ [])) ≡ cond (k == n) (from a) 0) [
  | true ↦ λ e. let zero = none (eqb-true a.waited 0 e) in rw zero (nothing (k == n))
  | false ↦ λ e. one (k == n)
] refl
  where
    nothing : (b : Bool) → ◌≡◌ {A = ℕ} 0 (cond b 0 0)
    nothing true = refl
    nothing false = refl

    plain : (v : ℕ) → v + 0 ≡ v
    plain v = omega arith

    one : (b : Bool) → sum_by (λ (r : BlameRow). cond (r.waiting == n) (of r) 0) (record { waiting = k; by = m; waited = a.waited; avoidable = a.avoidable; cost = a.cost } ∷ []) ≡ cond (k == n) (from a) 0
    one b = sum_by-cons (λ (r : BlameRow). cond (r.waiting == n) (of r) 0) (record { waiting = k; by = m; waited = a.waited; avoidable = a.avoidable; cost = a.cost }) []
        ∙ ap (λ v. cond (k == n) v 0 + 0) (is.some k m a) ∙ plain (cond (k == n) (from a) 0)

-- all of a number
number_none : (by : Grouping) (stays : List ExplainedStay) (n count : ℕ) → All (λ s. number by s < count) stays → count ≤ n → stays_of by stays n ≡ []
number_none by [] n count all le = refl
number_none by (s ∷ ss) n count all le =
    let no : (number by s == n) ≡ false = (let lt = all 0 s (omega arith) in grind (arith, nat_tests)) in
    rw no (number_none by ss n count (λ k d lt. all (suc k) d (omega arith)) le)

all_sum : (of : BlameRow → ℕ) (from : Amounts → ℕ) → IsAmount of from → (who : ℕ → ℕ → Option ℕ) (by : Grouping) (stays : List ExplainedStay) (n count : ℕ) → ((m : Option ℕ) (xs : List ExplainedStay) → (amounts_of who m xs).waited ≡ 0 → from (amounts_of who m xs) ≡ 0) →
    ((m : Option ℕ) → from (amounts_of who m []) ≡ 0) → All (λ s. number by s < count) stays →
    sum_by of (filter (λ (r : BlameRow). r.waiting == n) (all_rows who by stays count)) ≡ sum_by (λ m. from (amounts_of who m (stays_of by stays n))) (everybody count)
unfolding all_rows rows_for
all_sum of from is w by stays n count no_cost none all =
    let h : BlameRow → ℕ = λ r. cond (r.waiting == n) (of r) 0 in
    sum_filter of (λ (r : BlameRow). r.waiting == n) (flat_map (λ m. flat_map (λ k. row_of k m (amounts_of w m (stays_of by stays k))) (range_with_len 0 count)) (everybody count))
    ∙ sum_flat h (λ m. flat_map (λ k. row_of k m (amounts_of w m (stays_of by stays k))) (range_with_len 0 count)) (everybody count)
    ∙ sum_eq (λ m. sum_by h (flat_map (λ k. row_of k m (amounts_of w m (stays_of by stays k))) (range_with_len 0 count))) (λ m. from (amounts_of w m (stays_of by stays n))) (everybody count)
    (λ m. sum_flat h (λ k. row_of k m (amounts_of w m (stays_of by stays k))) (range_with_len 0 count)
    ∙ sum_eq (λ k. sum_by h (row_of k m (amounts_of w m (stays_of by stays k)))) (λ k. cond (k == n) (from (amounts_of w m (stays_of by stays k))) 0) (range_with_len 0 count)
    (λ k. row_sum of from is n k m (amounts_of w m (stays_of by stays k)) (no_cost m (stays_of by stays k)))
    ∙ picked m)
  where
    picked : (m : Option ℕ) → sum_by (λ k. cond (k == n) (from (amounts_of w m (stays_of by stays k))) 0) (range_with_len 0 count) ≡ from (amounts_of w m (stays_of by stays n))
    picked m = elim (nat_lt n count) as (λ b. nat_lt n count ≡ b → sum_by (λ k. cond (k == n) (from (amounts_of w m (stays_of by stays k))) 0) (range_with_len 0 count) ≡ from (amounts_of w m (stays_of by stays n))) [
      | true ↦ λ e. pick_one (λ k. from (amounts_of w m (stays_of by stays k))) n 0 count (omega arith) (grind (arith, nat_tests))
      | false ↦ λ e.
          let past : count ≤ n = grind (arith, nat_tests) in
          pick_past (λ k. from (amounts_of w m (stays_of by stays k))) n 0 count (omega (arith, past))
          ∙ sym (ap (λ xs. from (amounts_of w m xs)) (number_none by stays n count all past) ∙ none m)
    ] refl

cost_zero : (who : ℕ → ℕ → Option ℕ) (m : Option ℕ) (xs : List ExplainedStay) → sum_by (waited_for who m) xs ≡ 0 → sum_by (cost_for who m) xs ≡ 0
cost_zero who m [] e = refl
cost_zero who m (x ∷ xs) e =
    let here : waited_for who m x ≡ 0 = omega (arith, e, sum_by-cons (waited_for who m) x xs) in
    let rest : sum_by (waited_for who m) xs ≡ 0 = omega (arith, e, sum_by-cons (waited_for who m) x xs) in
    let free : x.weight * waited_for who m x ≡ 0 = rw here (omega arith) in
    omega (arith, free, cost_zero who m xs rest, sum_by-cons (cost_for who m) x xs)

pub blame-adds_up : BlameAddsUp
unfolding blame_of part_of
blame-adds_up o by stays known n =
    let w = who o stays by in
    let count = greatest by stays + 1 in
    let p : BlameRow → Bool = λ r. r.waiting == n in
    let all_waited : sum_by (λ (r : BlameRow). r.waited) (filter p (sorted_by row_key (all_rows w by stays count))) ≡ sum_by waited (stays_of by stays n) =
    sum_filter (λ (r : BlameRow). r.waited) p (sorted_by row_key (all_rows w by stays count))
    ∙ sum_sorted row_key (λ (r : BlameRow). cond (p r) r.waited 0) (all_rows w by stays count)
    ∙ sym (sum_filter (λ (r : BlameRow). r.waited) p (all_rows w by stays count))
    ∙ all_sum (λ (r : BlameRow). r.waited) (λ (a : Amounts). a.waited) (record { some = λ n m a. refl }) w by stays n count (λ m xs e. e) (λ m. refl) (all_reached by stays)
    ∙ sum_swap (λ m s. waited_for w m s) (everybody count) (stays_of by stays n)
    ∙ sum_eq (λ s. sum_by (λ m. waited_for w m s) (everybody count)) waited (stays_of by stays n) (waited_shared w count (who_below o by stays)) in
    let all_cost : sum_by (λ (r : BlameRow). r.cost) (filter p (sorted_by row_key (all_rows w by stays count))) ≡ sum_by live_cost (stays_of by stays n) =
    sum_filter (λ (r : BlameRow). r.cost) p (sorted_by row_key (all_rows w by stays count))
    ∙ sum_sorted row_key (λ (r : BlameRow). cond (p r) r.cost 0) (all_rows w by stays count)
    ∙ sym (sum_filter (λ (r : BlameRow). r.cost) p (all_rows w by stays count))
    ∙ all_sum (λ (r : BlameRow). r.cost) (λ (a : Amounts). a.cost) (record { some = λ n m a. refl }) w by stays n count (λ m xs e. cost_zero w m xs e) (λ m. refl) (all_reached by stays)
    ∙ sum_swap (λ m s. cost_for w m s) (everybody count) (stays_of by stays n)
    ∙ sum_eq (λ s. sum_by (λ m. cost_for w m s) (everybody count)) live_cost (stays_of by stays n) (cost_shared w count (who_below o by stays)) in
    (all_waited, all_cost)
