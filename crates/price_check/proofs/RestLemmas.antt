-- the cheapest round of the rest of all rounds
use Rattle.std.proofs.Common.{◌≡◌, ◌≢◌, ℕ, zero, suc, ◌+◌, ◌-◌, ◌*◌, ◌<◌, ◌≤◌, Bool, true, false, cond, List, length, refl, sym, ap, subst, ◌∙◌, arith, inl, inr, mul-add, ◌==◌, nat_le, map, filter, slice_index, slice_set, get_or-set_same, get_or-set_other}
use Rattle.std.specs.List.{range_with_len}
use Rattle.std.proofs.lemmas.Bool.{cases_lt, cases_eq}
use Rattle.std.proofs.lemmas.Nat.{mul-le}
use Rattle.std.proofs.lemmas.Bool.Decides.{nat_tests}
use Rattle.price_check.specs.Words.{MAX_NET_ROUNDS, MAX_WEIGHT, sum_below, least, Instance, cell, Pricing, priced, is_open, allowed}
use Rattle.round_net.proofs.CellLemmas.{cell-injective}
use Rattle.round_net.proofs.SumLemmas.{sum_below-same, sum_below-add, sum_below-zero}
use Rattle.price_check.proofs.LeastLemmas.{least-le_at, le-least}
use Rattle.price_check.specs.Rests.{takes, pays, IsCheapest, AreCheapest, IsNextWeight}

-- after the last round there is none
pub cheapest_none : (net : Instance) (p : Pricing) (w d : ℕ) → IsCheapest net p w d (net.rounds + 1) 0
cheapest_none net p w d = record {
  within = omega arith;
  none = λ e r past most. absurd (omega arith);
  late = λ some. absurd (omega arith);
  taken = λ some. absurd (omega arith);
  least = λ some. absurd (omega arith);
}

-- a round more that takes no stay
pub cheapest_closed : (net : Instance) (p : Pricing) (w d round next : ℕ) → IsCheapest net p w d (round + 1) next → takes net d round ≡ false → IsCheapest net p w d round next
cheapest_closed net p w d round next rest closed = record {
  within = rest.within;
  none = λ e r from most. elim (cases_eq r round) [
    | inl same ↦ subst (λ q. takes net d q ≡ false) (sym same) closed
    | inr other ↦ rest.none e r (omega arith) most
  ];
  late = λ some. let h = rest.late some in omega arith;
  taken = rest.taken;
  least = λ some r from most takes_it. elim (cases_eq r round) [
    | inl same ↦ let no : takes net d r ≡ false = subst (λ q. takes net d q ≡ false) (sym same) closed in absurd cc
    | inr other ↦ rest.least some r (omega arith) most takes_it
  ];
}

-- a round more that is cheapest
pub cheapest_here : (net : Instance) (p : Pricing) (w d round next : ℕ) → IsCheapest net p w d (round + 1) next → takes net d round ≡ true → 1 ≤ round → round ≤ net.rounds →
    (0 < next → pays net p w d round ≤ pays net p w d next) → IsCheapest net p w d round round
cheapest_here net p w d round next rest taken first most cheaper = record {
  within = most;
  none = λ e. absurd (omega arith);
  late = λ some. omega arith;
  taken = λ some. taken;
  least = λ some r from within takes_it. elim (cases_eq r round) [
    | inl same ↦ rw same (omega arith)
    | inr other ↦ elim (cases_eq next 0) [
      | inl nowhere ↦ let no : takes net d r ≡ false = rest.none nowhere r (omega arith) within in absurd cc
      | inr somewhere ↦
          let one : pays net p w d round ≤ pays net p w d next = cheaper (omega arith) in
          let two : pays net p w d next ≤ pays net p w d r = rest.least (omega arith) r (omega arith) within takes_it in
          omega arith
    ]
  ];
}

-- a round more that is dearer
pub cheapest_later : (net : Instance) (p : Pricing) (w d round next : ℕ) → IsCheapest net p w d (round + 1) next → 0 < next → pays net p w d next ≤ pays net p w d round → IsCheapest net p w d round next
cheapest_later net p w d round next rest some dearer = record {
  within = rest.within;
  none = λ e. absurd (omega arith);
  late = λ _. let h = rest.late some in omega arith;
  taken = rest.taken;
  least = λ _ r from within takes_it. elim (cases_eq r round) [
    | inl same ↦ rw same dearer
    | inr other ↦ rest.least some r (omega arith) within takes_it
  ];
}

-- what is noted of a device, from a round on, and of all devices before it
pub record AreNoted (net : Instance) (p : Pricing) (w d from : ℕ) (rests : List ℕ) : Type 0 where
  pub before : AreCheapest net p w d rests
  pub here : (r : ℕ) → from ≤ r → 1 ≤ r → r ≤ net.rounds → IsCheapest net p w d r (slice_index rests (cell net.rounds d r))

pub noted_none : (net : Instance) (p : Pricing) (w d : ℕ) (rests : List ℕ) → AreCheapest net p w d rests → AreNoted net p w d (net.rounds + 1) rests
noted_none net p w d rests before = record { before = before; here = λ r past first most. absurd (omega arith) }

pub noted_all : (net : Instance) (p : Pricing) (w d : ℕ) (rests : List ℕ) → AreNoted net p w d 1 rests → AreCheapest net p w (d + 1) rests
noted_all net p w d rests noted = record {
  each = λ e r within first most. elim (cases_eq e d) [
    | inl same ↦ rw same (noted.here r first first most)
    | inr other ↦ noted.before.each e r (omega arith) first most
  ];
}

pub noted_step : (net : Instance) (p : Pricing) (w d round next : ℕ) (rests : List ℕ) → AreNoted net p w d (round + 1) rests → IsCheapest net p w d round next → 1 ≤ round → round ≤ net.rounds → cell net.rounds d round < length rests →
    AreNoted net p w d round (slice_set rests (cell net.rounds d round) next)
noted_step net p w d round next rests noted cheapest first most room = record {
  before = record {
    each = λ e r within r1 rn.
        let apart : cell net.rounds e r ≢ cell net.rounds d round = (λ at. let same = cell-injective net.rounds e r d round r1 rn first most at in let eq : e ≡ d = same.0 in absurd (omega arith)) in
        rw (get_or-set_other rests (cell net.rounds d round) (cell net.rounds e r) next 0 apart) (noted.before.each e r within r1 rn);
  };
  here = λ r from r1 rn. elim (cases_eq r round) [
    | inl same ↦ rw (same, get_or-set_same rests (cell net.rounds d round) next 0 room) cheapest
    | inr other ↦
        let apart : cell net.rounds d r ≢ cell net.rounds d round = (λ at. let same = cell-injective net.rounds d r d round r1 rn first most at in other same.1) in
        rw (get_or-set_other rests (cell net.rounds d round) (cell net.rounds d r) next 0 apart) (noted.here r (omega arith) r1 rn)
  ];
}

-- none passes
pub least-none : (f : ℕ → ℕ) (p : ℕ → Bool) (from n : ℕ) → ((r : ℕ) → from ≤ r → r < from + n → p r ≡ false) → 0 ≡ least (map f (filter p (range_with_len from n)))
least-none f p from zero none = refl
least-none f p from (suc n) none = rw (none from (omega arith) (omega arith)) (least-none f p (from + 1) n (λ r le lt. none r (omega arith) (omega arith)))

-- a round that is cheapest from the arrival on is cheapest in a window that ends with the last round
mul-sub : (w a b : ℕ) → a ≤ b → w * (b - a) + w * a ≡ w * b
mul-sub w a b le =
    let whole : b - a + a ≡ b = omega arith in
    sym (mul-add w (b - a) a) ∙ ap (λ n. w * n) whole

priced-pays : (net : Instance) (p : Pricing) (s r : ℕ) → net.arrival s ≤ r → priced net p s r + net.weight s * net.arrival s ≡ pays net p (net.weight s) (net.device s) r
priced-pays net p s r le =
    let h : net.weight s * (r - net.arrival s) + net.weight s * net.arrival s ≡ net.weight s * r = mul-sub (net.weight s) (net.arrival s) r le in
    omega arith

pub least-of_rest : (net : Instance) (p : Pricing) (s round : ℕ) → IsCheapest net p (net.weight s) (net.device s) (net.arrival s) round → net.last s ≡ net.rounds → net.arrival s ≤ net.last s → 0 < round →
    priced net p s round ≡ least (map (priced net p s) (allowed net s))
least-of_rest net p s round rest to_end window some =
    let from : net.arrival s ≤ round = rest.late some in
    let within : round < net.arrival s + (net.last s + 1 - net.arrival s) = let h = rest.within in omega arith in
    let passes : is_open net s round ≡ true = rest.taken some in
    let least_le : least (map (priced net p s) (allowed net s)) ≤ priced net p s round = least-le_at (priced net p s) (is_open net s) (net.arrival s) (net.last s + 1 - net.arrival s) round from within passes in
    let le_least : priced net p s round ≤ least (map (priced net p s) (allowed net s)) = le-least (priced net p s) (is_open net s) (priced net p s round) (net.arrival s) (net.last s + 1 - net.arrival s)
    (λ r le lt ok.
    let one = priced-pays net p s round from in
    let two = priced-pays net p s r le in
    let three : pays net p (net.weight s) (net.device s) round ≤ pays net p (net.weight s) (net.device s) r = rest.least some r le (omega arith) ok in
    omega arith)
    round from within passes in
    omega arith

pub none-of_rest : (net : Instance) (p : Pricing) (s : ℕ) → IsCheapest net p (net.weight s) (net.device s) (net.arrival s) 0 → net.last s ≡ net.rounds → net.arrival s ≤ net.last s → 0 ≡ least (map (priced net p s) (allowed net s))
none-of_rest net p s rest to_end window =
    least-none (priced net p s) (is_open net s) (net.arrival s) (net.last s + 1 - net.arrival s) (λ r le lt. rest.none refl r le (omega arith))

-- sums over the stays up to a weight
abbrev pub up_to : Instance → (ℕ → ℕ) → ℕ → ℕ
up_to net g w = sum_below net.stays (λ s. cond (nat_le (net.weight s) w) (g s) 0)

cond-split : (v w next x : ℕ) → w < next → (w < v → next ≤ v) → cond (nat_le v next) x 0 ≡ cond (nat_le v w) x 0 + cond (v == next) x 0
cond-split v w next x lt gap = grind (arith, nat_tests)

pub up_to_step : (net : Instance) (g : ℕ → ℕ) (w next : ℕ) → IsNextWeight net w net.stays next → 0 < next → up_to net g next ≡ up_to net g w + sum_below net.stays (λ s. cond (net.weight s == next) (g s) 0)
up_to_step net g w next so_far some =
    sum_below-same net.stays _ _ (λ s lt. cond-split (net.weight s) w next (g s) (so_far.above_it some) (λ over. so_far.least some s lt over))
    ∙ sum_below-add net.stays (λ s. cond (nat_le (net.weight s) w) (g s) 0) (λ s. cond (net.weight s == next) (g s) 0)

cond-in : (v w x : ℕ) → v ≤ w → cond (nat_le v w) x 0 ≡ x
cond-in v w x le = grind (arith, nat_tests)

cond-out : (v w x : ℕ) → w < v → cond (nat_le v w) x 0 ≡ 0
cond-out v w x lt = grind (arith, nat_tests)

pub up_to_all : (net : Instance) (g : ℕ → ℕ) (w : ℕ) → IsNextWeight net w net.stays 0 → up_to net g w ≡ sum_below net.stays g
up_to_all net g w so_far = sum_below-same net.stays _ _ (λ s lt. cond-in (net.weight s) w (g s) (so_far.none refl s lt))

pub up_to_none : (net : Instance) (g : ℕ → ℕ) → ((s : ℕ) → s < net.stays → 1 ≤ net.weight s) → up_to net g 0 ≡ 0
up_to_none net g weighs = sum_below-zero net.stays _ (λ s lt. cond-out (net.weight s) 0 (g s) (weighs s lt))

-- what is noted for a stay whose window ends with the last round
pub rest-at : (net : Instance) (p : Pricing) (s at : ℕ) (rests : List ℕ) → AreCheapest net p (net.weight s) net.devices rests → net.device s < net.devices → 1 ≤ net.arrival s → net.arrival s ≤ net.last s → net.last s ≡ net.rounds →
    at ≡ cell net.rounds (net.device s) (net.arrival s) → IsCheapest net p (net.weight s) (net.device s) (net.arrival s) (slice_index rests at)
rest-at net p s at rests noted within first window to_end is = rw is (noted.each (net.device s) (net.arrival s) within first (omega arith))

-- few rounds at a small weight are no large number
pub waiting_fits : (w r rounds : ℕ) → w ≤ MAX_WEIGHT → r ≤ rounds → rounds ≤ MAX_NET_ROUNDS → w * r ≤ MAX_WEIGHT * MAX_NET_ROUNDS
waiting_fits w r rounds small within few = mul-le w r MAX_WEIGHT MAX_NET_ROUNDS small (omega arith)
