-- sums over stays
use Rattle.std.proofs.Common.{◌≡◌, ℕ, zero, suc, ◌+◌, ◌-◌, ◌*◌, ◌/◌, ◌^◌, ◌<◌, ◌≤◌, Bool, true, false, cond, List, [], ◌∷◌, ◌++◌, map, length, refl, sym, ap, ◌∙◌, arith, Some, zip, filter, find, flat_map, sum_by, count_by, nat_le, unwrap_or, is_some, IfSome, All, mul-add}
use Rattle.std.specs.List.{range_with_len}
use Rattle.std.proofs.lemmas.Bool.Decides.{nat_tests}
use Rattle.cam_types.specs.Lists.{prefixed}
use Rattle.cam_types.specs.declared.limits.TheConstants.{MAX_WEIGHT}
use Rattle.recording_file.specs.Recorded.{Recorded}
use Rattle.recording_file.specs.declared.request.Request.{Request}
use Rattle.wait_causes.specs.Words.{Topology, live_round, live_part, live_cost, stays_begun, unsent, Event, Passage, Error, Caller, AdapterFrozen, DeviceStopped, AdapterStopped, LinkStopped, DeviceFull, AdapterFull, LinkFull, NotAsked}
use Rattle.wait_causes.specs.Origins.{Origin, Known, cause_of}
use Rattle.wait_causes.specs.declared.origin.Origin.TheVariants as origin
use Rattle.wait_causes.specs.Ranks.{is_enough, rank_below}
use Rattle.wait_causes.specs.Parts.{waited, measure, part_of, costs_of, all_costs, Live, Cost}
use Rattle.std.proofs.lemmas.Grind.{flat_map-append}
use Rattle.std.proofs.lemmas.List.{append-nil}
use Rattle.std.proofs.lemmas.Nat.{mul-le}
use Rattle.std.proofs.lemmas.List.Sums.{sum_by-cons}
use Rattle.std.specs.List.Sorted.{IsPermutation, IsPartitionPoint}
use Rattle.std.proofs.lemmas.List.Sorted.{length_permutation, sum_by-IsPermutation}
use Rattle.round_net.proofs.CountLemmas.{count_by-weaker}
use Rattle.event_rules.proofs.ListFacts.{range_with_len-push}
use Rattle.event_rules.proofs.LiveLemmas.{live_cost_unsent, live_cost_sent}
use Rattle.wait_causes.specs.Stays.{all_rounds, explained, explained_stay, explained_stays, explained_request, explained_requests, ExplainedStay}
use Rattle.wait_causes.proofs.StayLemmas.{rounds_add_up}

-- rounds by weight make no large number
pub weight_fits : (w n : ℕ) → w ≤ MAX_WEIGHT → n < 2 ^ 32 → w * n ≤ 4294967295000
weight_fits w n light ns =
    let few : n ≤ 4294967295 = omega arith in
    let h = mul-le w n MAX_WEIGHT 4294967295 light few in
    omega arith

pub no_longer : {X : Type 0} (p : X → Bool) (xs : List X) → length (filter p xs) ≤ length xs
no_longer p [] = omega arith
no_longer p (x ∷ xs) = elim (p x) as (λ b. length (cond b (x ∷ filter p xs) (filter p xs)) ≤ length (x ∷ xs)) [
  | true ↦ omega (arith, no_longer p xs)
  | false ↦ omega (arith, no_longer p xs)
]

-- the first number that passes is the first of those from one on, where that passes
find_here : (test : ℕ → Bool) (r n m : ℕ) → r + suc m ≡ n → test r ≡ true → find test (range_with_len r (n - r)) ≡ Some r
find_here test r n m e passes =
    let here : n - r ≡ suc m = omega arith in
    rw here (rw passes refl)

-- or of those after it, where it doesn't
find_next : (test : ℕ → Bool) (r n m : ℕ) → r + suc m ≡ n → test r ≡ false → find test (range_with_len r (n - r)) ≡ find test (range_with_len (r + 1) (n - (r + 1)))
find_next test r n m e fails =
    let here : n - r ≡ suc m = omega arith in
    let rest : n - (r + 1) ≡ m = omega arith in
    let next : r + 1 ≡ suc r = omega arith in
    rw (here, rest, next) (rw fails refl)

-- what isn't enough is no more where fewer rounds are
short_before : (thousandths : ℕ) (xs : List ℕ) (r s : ℕ) → r ≤ s → is_enough thousandths xs s ≡ false → is_enough thousandths xs r ≡ false
short_before thousandths xs r s le short =
    let fewer = count_by-weaker (λ x. nat_le x r) (λ x. nat_le x s) xs (λ k d lt e. grind (arith, nat_tests)) in
    grind (arith, nat_tests)

find_skip : (test : ℕ → Bool) (a k n : ℕ) → a + k ≤ n → ((r : ℕ) → r < a + k → test r ≡ false) → find test (range_with_len a (n - a)) ≡ find test (range_with_len (a + k) (n - (a + k)))
find_skip test a zero n le short =
    let same : a + 0 ≡ a = omega arith in
    ap (λ b. find test (range_with_len b (n - b))) (sym same)
find_skip test a (suc k) n le short =
    let same : a + 1 + k ≡ a + suc k = omega arith in
    find_next test a n (n - (a + 1)) (omega (arith, le)) (short a (omega arith))
    ∙ find_skip test (a + 1) k n (omega (arith, le)) (λ r lt. short r (omega (arith, lt)))
    ∙ ap (λ b. find test (range_with_len b (n - b))) same

-- the least number that is enough lies between two
pub record IsSought (most thousandths : ℕ) (xs : List ℕ) (low high : ℕ) : Type 0 where
  pub order : low ≤ high
  pub inside : high ≤ most
  pub short : (r : ℕ) → r < low → is_enough thousandths xs r ≡ false
  pub enough : high < most → is_enough thousandths xs high ≡ true

pub middle_lies : (low high : ℕ) → low < high → (low ≤ low + (high - low) / 2) × (low + (high - low) / 2 < high)
middle_lies low high lt = (omega arith, omega arith)

pub sought_above : (most thousandths : ℕ) (xs : List ℕ) (low high middle few : ℕ) → low ≤ middle → middle < high → 1000 * few < thousandths * length xs → few ≡ count_by (λ x. nat_le x middle) xs →
    IsSought most thousandths xs low high → IsSought most thousandths xs (middle + 1) high
sought_above most thousandths xs low high middle few from to less is kept =
    let short_of : nat_le (thousandths * length xs) (1000 * few) ≡ false = grind (arith, nat_tests) in
    let fails : is_enough thousandths xs middle ≡ false = ap (λ n. nat_le (thousandths * length xs) (1000 * n)) (sym is) ∙ short_of in
    record {
      order = omega (arith, to);
      inside = kept.inside;
      short = λ r lt. short_before thousandths xs r middle (omega (arith, lt)) fails;
      enough = kept.enough;
    }

sought_left : (most thousandths : ℕ) (xs : List ℕ) (low high : ℕ) → IsSought most thousandths xs low high → find (is_enough thousandths xs) (range_with_len 0 most) ≡ find (is_enough thousandths xs) (range_with_len low (most - low))
sought_left most thousandths xs low high kept =
    let plain : 0 + low ≡ low = omega arith in
    let all : most ≡ most - 0 = omega arith in
    ap (λ n. find (is_enough thousandths xs) (range_with_len 0 n)) all
    ∙ find_skip (is_enough thousandths xs) 0 low most (omega (arith, kept.order, kept.inside)) (λ r lt. kept.short r (omega (arith, lt)))
    ∙ ap (λ b. find (is_enough thousandths xs) (range_with_len b (most - b))) plain

pub sought_found : (most thousandths : ℕ) (xs : List ℕ) (low high : ℕ) → high ≤ low → low < most → IsSought most thousandths xs low high → low ≡ rank_below most thousandths xs
unfolding rank_below
sought_found most thousandths xs low high over lt kept =
    let same : high ≡ low = omega (arith, over, kept.order) in
    let passes : is_enough thousandths xs low ≡ true = ap (is_enough thousandths xs) (sym same) ∙ kept.enough (omega (arith, same, lt)) in
    ap (λ o. unwrap_or o 0) (sym (sought_left most thousandths xs low high kept ∙ find_here (is_enough thousandths xs) low most (most - (low + 1)) (omega (arith, lt)) passes))

pub sought_none : (most thousandths : ℕ) (xs : List ℕ) (low high : ℕ) → most ≤ low → IsSought most thousandths xs low high → 0 ≡ rank_below most thousandths xs
unfolding rank_below
sought_none most thousandths xs low high le kept =
    let over : most - low ≡ 0 = omega (arith, le) in
    ap (λ o. unwrap_or o 0) (sym (sought_left most thousandths xs low high kept ∙ ap (λ n. find (is_enough thousandths xs) (range_with_len low n)) over))

-- 1 for one that passes
abbrev pass : Bool → ℕ
pass b = cond b 1 0

-- where no number that passes comes after one that fails, the place between them is how many pass
pub point_counts : (p : ℕ → Bool) (xs : List ℕ) (i : ℕ) → i ≤ length xs → IsPartitionPoint (λ y. p y ≡ true) (λ y. p y ≡ false) xs i → i ≡ count_by p xs
point_counts p [] zero le point = refl
point_counts p [] (suc i) le point = absurd (omega (arith, le))
point_counts p (x ∷ xs) zero le point =
    let here : p x ≡ false = point.1 0 x (omega arith) (omega arith) in
    let rest = point_counts p xs zero (omega arith) ((λ k d from to. absurd (omega (arith, to))), (λ k d from to. point.1 (suc k) d (omega arith) (omega (arith, to)))) in
    let one : pass (p x) ≡ 0 = ap pass here in
    omega (arith, rest, one, sum_by-cons (λ y. cond (p y) 1 0) x xs)
point_counts p (x ∷ xs) (suc i) le point =
    let here : p x ≡ true = point.0 0 x (omega arith) (omega arith) in
    let rest = point_counts p xs i (omega (arith, le)) ((λ k d from to. point.0 (suc k) d (omega arith) (omega (arith, to))), (λ k d from to. point.1 (suc k) d (omega (arith, from)) (omega (arith, to)))) in
    let one : pass (p x) ≡ 1 = ap pass here in
    omega (arith, rest, one, sum_by-cons (λ y. cond (p y) 1 0) x xs)

find_alike : (p q : ℕ → Bool) (xs : List ℕ) → ((n : ℕ) → p n ≡ q n) → find p xs ≡ find q xs
find_alike p q [] same = refl
find_alike p q (x ∷ xs) same = rw (same x) (ap (cond (q x) (Some x)) (find_alike p q xs same))

-- numbers in another order have the same ranks
pub rank_moved : (most thousandths : ℕ) (xs ys : List ℕ) → IsPermutation xs ys → rank_below most thousandths ys ≡ rank_below most thousandths xs
unfolding rank_below
rank_moved most thousandths xs ys moved =
    let long = length_permutation xs ys moved in
    let alike : (n : ℕ) → is_enough thousandths ys n ≡ is_enough thousandths xs n = λ n. rw (long, sum_by-IsPermutation (λ x. cond (nat_le x n) 1 0) xs ys moved) refl in
    ap (λ o. unwrap_or o 0) (find_alike (is_enough thousandths ys) (is_enough thousandths xs) (range_with_len 0 most) alike)

-- the rows so far and those of one number more
pub rows_step : {X : Type 0} (f : ℕ → List X) (old new : List X) (n : ℕ) → old ≡ flat_map f (range_with_len 0 n) → new ≡ old ++ f n → new ≡ flat_map f (range_with_len 0 (n + 1))
rows_step f old new n was is =
    let plain : 0 + n ≡ n = omega arith in
    is ∙ ap (λ xs. xs ++ f n) was
    ∙ sym (ap (flat_map f) (range_with_len-push 0 n) ∙ flat_map-append f (range_with_len 0 n) ((0 + n) ∷ [])
    ∙ ap (λ xs. flat_map f (range_with_len 0 n) ++ xs) (append-nil (f (0 + n)))
    ∙ ap (λ k. flat_map f (range_with_len 0 n) ++ f k) plain)

-- a weight times each cause's rounds, all together
by_cause : (w a b c d e f g h i j n : ℕ) → a + b + c + d + e + f + g + h + i + j ≡ n → w * a + w * b + w * c + w * d + w * e + w * f + w * g + w * h + w * i + w * j ≡ w * n
by_cause w a b c d e f g h i j n all =
    omega (arith, ap (λ k. w * k) all, mul-add w (a + b + c + d + e + f + g + h + i) j, mul-add w (a + b + c + d + e + f + g + h) i, mul-add w (a + b + c + d + e + f + g) h, mul-add w (a + b + c + d + e + f) g, mul-add w (a + b + c + d + e) f, mul-add w (a + b + c + d) e, mul-add w (a + b + c) d, mul-add w (a + b) c, mul-add w a b)

-- where each stay's rounds by cause are those that it waited, the costs by cause are its cost
costs_each : (xs : List ExplainedStay) → All (λ (s : ExplainedStay). all_rounds s.rounds ≡ waited s) xs → all_costs (costs_of xs) ≡ sum_by (measure Live) xs
costs_each [] all = refl
costs_each (x ∷ xs) all =
    let rest = costs_each xs (λ k d lt. all (suc k) d (omega arith)) in
    let one = by_cause x.weight x.rounds.error x.rounds.caller x.rounds.adapter_frozen x.rounds.device_stopped x.rounds.adapter_stopped x.rounds.link_stopped x.rounds.device_full x.rounds.adapter_full x.rounds.link_full x.rounds.not_asked (waited x) (all 0 x (omega arith)) in
    omega (
      arith,
      rest,
      one,
      sum_by-cons (measure (Cost Error)) x xs,
      sum_by-cons (measure (Cost Caller)) x xs,
      sum_by-cons (measure (Cost AdapterFrozen)) x xs,
      sum_by-cons (measure (Cost DeviceStopped)) x xs,
      sum_by-cons (measure (Cost AdapterStopped)) x xs,
      sum_by-cons (measure (Cost LinkStopped)) x xs,
      sum_by-cons (measure (Cost DeviceFull)) x xs,
      sum_by-cons (measure (Cost AdapterFull)) x xs,
      sum_by-cons (measure (Cost LinkFull)) x xs,
      sum_by-cons (measure (Cost NotAsked)) x xs,
      sum_by-cons (measure Live) x xs,
    )

-- each round of a stay has one cause
abbrev pub IsWhole : ExplainedStay → Type 0
IsWhole s = all_rounds s.rounds ≡ waited s

history_whole : (c : Topology) (es : List Event) (zs : List (Passage × ℕ)) → All IsWhole (map (λ (m : Passage × ℕ). explained_stay c es m.0 m.1) zs)
unfolding explained_stay
history_whole c es [] k d lt = absurd (omega arith)
history_whole c es (m ∷ zs) zero d lt = rounds_add_up (cause_of (origin.Trace (record { config = c; events = es })) m.0.device) m.0.arrival (live_round es m.0 - m.0.arrival)
history_whole c es (m ∷ zs) (suc k) d lt = history_whole c es zs k d (omega arith)

recording_whole : (r : Recorded) (zs : List ((List Request × Request) × (ℕ × ℕ))) → All IsWhole (map (λ (m : (List Request × Request) × (ℕ × ℕ)). explained_request r m.0 m.1) zs)
unfolding explained_request
recording_whole r [] k d lt = absurd (omega arith)
recording_whole r (m ∷ zs) zero d lt = rounds_add_up (cause_of (origin.Recording r) m.0.1.device) m.0.1.arrival (m.0.1.sent - m.0.1.arrival)
recording_whole r (m ∷ zs) (suc k) d lt = recording_whole r zs k d (omega arith)

all_whole : (o : Origin) (pace best : List ℕ) → All IsWhole (explained o pace best)
unfolding explained_stays explained_requests
all_whole (origin.Trace past) pace best = history_whole past.config past.events (zip (stays_begun past.events) best)
all_whole (origin.Recording r) pace best = recording_whole r (zip (prefixed r.requests) (zip pace best))

-- a part of all stays adds up
pub part_adds_up : (o : Origin) (known : Known) (pace best : List ℕ) → all_costs (part_of known (explained o pace best)).costs ≡ (part_of known (explained o pace best)).live
unfolding part_of
part_adds_up o known pace best = costs_each (explained o pace best) (all_whole o pace best)

lives : (c : Topology) (es : List Event) (ps : List Passage) (bs : List ℕ) → length bs ≡ length ps → sum_by (measure Live) (map (λ (m : Passage × ℕ). explained_stay c es m.0 m.1) (zip ps bs)) ≡ sum_by (live_part c es) ps
unfolding explained_stay live_part
lives c es [] bs same = refl
lives c es (p ∷ ps) [] same = absurd (omega arith)
lives c es (p ∷ ps) (b ∷ bs) same =
    sum_by-cons (measure Live) (explained_stay c es p b) (map (λ (m : Passage × ℕ). explained_stay c es m.0 m.1) (zip ps bs))
    ∙ ap (λ n. live_part c es p + n) (lives c es ps bs (omega arith))
    ∙ sym (sum_by-cons (live_part c es) p ps)

-- what all stays cost is the cost of the live schedule, where each stay was sent
pub part_is_live : (c : Topology) (es : List Event) (known : Known) (best : List ℕ) → length best ≡ length (stays_begun es) → IfSome (live_cost c es) (λ cost. (part_of known (explained_stays c es best)).live ≡ cost)
unfolding part_of explained_stays
part_is_live c es known best same = elim (is_some (unsent es)) as (λ b. is_some (unsent es) ≡ b → IfSome (live_cost c es) (λ cost. (part_of known (explained_stays c es best)).live ≡ cost)) [
  | true ↦ λ e. rw (live_cost_unsent c es e) tt
  | false ↦ λ e. rw (live_cost_sent c es e) (lives c es (stays_begun es) best same)
] refl
