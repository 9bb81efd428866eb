-- one schedule alone is that of an order
use Rattle.std.proofs.Common.{◌≡◌, ℕ, zero, suc, ◌<◌, ◌≤◌, Bool, true, false, List, [], ◌∷◌, refl, sym, ap, ◌∙◌, inl, inr, arith, ◌==◌, ◌&&◌, eq-eqb, ne_eqb, eqb-true, All}
use Rattle.std.proofs.lemmas.Bool.{cases_eq, cases_lt, and_parts, and_from, and_left, or_cases}
use Rattle.std.proofs.lemmas.List.Elements.{All-head, All-tail}
use Rattle.std.specs.List.{list_any}
use Rattle.round_net.specs.Instance.{Instance, rows, path, uses}
use Rattle.round_net.specs.Schedules.{load}
use Rattle.round_net.specs.Sound.{IsSound}
use Rattle.round_net.specs.Sums.{count_below}
use Rattle.round_net.proofs.PathLemmas.{path-inside}
use Rattle.orders.specs.Orders.{goes_before, load_before, IsOrdered, IsOneAlone}
use Rattle.orders.specs.declared.order.Order.{Order}
use Rattle.orders.proofs.OrderLemmas.{goes_before-itself, goes_before-transitive}
use Rattle.orders.proofs.CountLemmas.{count_below-same, count_below-more}

-- a row that a stay uses is one of the net
used_within : (net : Instance) (row : ℕ) (xs : List ℕ) → All (λ x. x < rows net) xs → list_any (λ own. own == row) xs ≡ true → row < rows net
used_within net row [] all used = absurd cc
used_within net row (x ∷ xs) all used = elim (or_cases (x == row) (list_any (λ own. own == row) xs) used) [
  | inl here ↦ omega (arith, eqb-true x row here, All-head (λ y. y < rows net) x xs all)
  | inr there ↦ used_within net row xs (All-tail (λ y. y < rows net) x xs all) there
]

pub row_within : (net : Instance) (live : ℕ → ℕ) (row s : ℕ) → IsSound net live → s < net.stays → uses net row s ≡ true → row < rows net
row_within net live row s sound less used = used_within net row (path net s) (path-inside net live s sound less) used

-- how many stays go before one
rank : Order → Instance → ℕ → ℕ
rank order net s = count_below net.stays (λ t. goes_before order net t s)

rank-less : (order : Order) (net : Instance) (s t : ℕ) → t < net.stays → goes_before order net t s ≡ true → rank order net t < rank order net s
unfolding rank
rank-less order net s t within before =
    count_below-more net.stays t _ _ (λ u less first. goes_before-transitive order net u t s first before) within (goes_before-itself order net t) before

-- two schedules put a stay into a round, or neither does
record IsBothIn (f g : ℕ → ℕ) (r s : ℕ) : Type 0 where
  there : f s ≡ r → g s ≡ r
  back : g s ≡ r → f s ≡ r

and_same : (b c x y : Bool) → (b ≡ true → x ≡ y) → (b && (c && x)) ≡ (b && (c && y))
and_same true c x y same = ap (λ z. c && z) (same refl)
and_same false c x y same = refl

same_test : (f g : ℕ → ℕ) (r s : ℕ) → IsBothIn f g r s → (f s == r) ≡ (g s == r)
same_test f g r s both = elim (cases_eq (f s) r) [
  | inl at ↦ eq-eqb (f s) r at ∙ sym (eq-eqb (g s) r (both.there at))
  | inr apart ↦ ne_eqb (f s) r apart ∙ sym (ne_eqb (g s) r (λ at. apart (both.back at)))
]

-- where both put those that go before a stay into a round, and one puts the stay there, the other one does no later
no_later : (order : Order) (net : Instance) (live f g : ℕ → ℕ) (r s : ℕ) → IsSound net live → IsOrdered order net f → IsOrdered order net g → s < net.stays →
    ((t : ℕ) → t < net.stays → goes_before order net t s ≡ true → IsBothIn f g r t) → f s ≡ r → g s ≤ r
no_later order net live f g r s sound by_f by_g within before at = elim (cases_lt r (g s)) [
  | inr up ↦ up
  | inl waits ↦
      let first = sound.from_first s within in
      let early = by_f.not_early s within in
      let last = by_g.ends s within in
      let held = by_g.held_up s r within (omega arith) waits (omega arith) in
      let row = held.row in
      let inside : row < rows net = row_within net live row s sound within held.used in
      let same : load_before order net f s row r ≡ load_before order net g s row r = count_below-same net.stays _ _ (same_before row) in
      let before_s : ℕ → Bool = λ t. goes_before order net t s && (uses net row t && (f t == r)) in
      let in_round : ℕ → Bool = λ t. uses net row t && (f t == r) in
      let more : load_before order net f s row r < load net f row r = count_below-more net.stays s before_s in_round (λ t less passes. (and_parts (goes_before order net t s) (in_round t) passes).1) within (and_left (goes_before order net s s) (in_round s) (goes_before-itself order net s)) (and_from (uses net row s) (f s == r) held.used (eq-eqb (f s) r at)) in
      absurd (omega (arith, held.full, by_f.rows_hold row r inside (omega arith) (omega arith)))
]
  where
    same_before : (row t : ℕ) → t < net.stays → (goes_before order net t s && (uses net row t && (f t == r))) ≡ (goes_before order net t s && (uses net row t && (g t == r)))
    same_before row t less = and_same (goes_before order net t s) (uses net row t) _ _ (λ first. same_test f g r t (before t less first))

-- what holds of a number where it holds of all below it, holds of all numbers
below_all : (P : ℕ → Type 0) → ((n : ℕ) → ((m : ℕ) → m < n → P m) → P n) → (n m : ℕ) → m < n → P m
below_all P step zero m less = absurd (omega arith)
below_all P step (suc n) m less = step m (λ k under. below_all P step n k (omega arith))

of_all : (P : ℕ → Type 0) → ((n : ℕ) → ((m : ℕ) → m < n → P m) → P n) → (n : ℕ) → P n
of_all P step n = step n (below_all P step n)

-- the same of two schedules the other way round
turned : (f g : ℕ → ℕ) (r s : ℕ) → IsBothIn f g r s → IsBothIn g f r s
turned f g r s both = record { there = both.back; back = both.there }

-- where both agree on the rounds before one, and on the stays that go before one in it, they agree on that
both_in : (order : Order) (net : Instance) (live f g : ℕ → ℕ) (r s : ℕ) → IsSound net live → IsOrdered order net f → IsOrdered order net g → s < net.stays →
    ((q : ℕ) → q < r → IsBothIn f g q s) → ((t : ℕ) → t < net.stays → goes_before order net t s ≡ true → IsBothIn f g r t) → IsBothIn f g r s
both_in order net live f g r s sound by_f by_g within earlier before = record {
  there = λ at. elim (cases_lt (g s) r) [
    | inl less ↦ absurd (omega (arith, at, (earlier (g s) less).back refl))
    | inr up ↦ omega (arith, no_later order net live f g r s sound by_f by_g within before at)
  ];
  back = λ at. elim (cases_lt (f s) r) [
    | inl less ↦ absurd (omega (arith, at, (earlier (f s) less).there refl))
    | inr up ↦ omega (arith, no_later order net live g f r s sound by_g by_f within (λ t less first. turned f g r t (before t less first)) at)
  ];
}

all_in : (order : Order) (net : Instance) (live f g : ℕ → ℕ) → IsSound net live → IsOrdered order net f → IsOrdered order net g → (r s : ℕ) → s < net.stays → IsBothIn f g r s
all_in order net live f g sound by_f by_g =
    of_all (λ r. (s : ℕ) → s < net.stays → IsBothIn f g r s) (λ r earlier s within.
    of_all (λ n. (t : ℕ) → t < net.stays → rank order net t ≡ n → IsBothIn f g r t) (λ n below t less is.
    both_in order net live f g r t sound by_f by_g less (λ q under. earlier q under t less) (λ u inside first.
    below (rank order net u) (omega (arith, is, rank-less order net t u inside first)) u inside refl)) (rank order net s) s within refl)

pub one-alone : IsOneAlone
one-alone = λ order net live f g sound by_f by_g s within. sym ((all_in order net live f g sound by_f by_g (f s) s within).there refl)
