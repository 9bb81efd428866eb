-- Stays in the order of their turns.
use Rattle.std.proofs.Common.{◌≡◌, ℕ, ◌<◌, ◌≤◌, ◌==◌, Bool, false, cond, Ordering, Less, Equal, Greater, List, length, map, get_or, refl, sym, ap, ◌∙◌, subst, inl, inr, arith}
use Rattle.std.proofs.lemmas.Bool.{cases_lt, false≢true, eq-eqb, lt-ltb, le-ltb}
use Rattle.std.specs.Cmp.{IsStrictWeakOrder}
use Rattle.std.specs.Ordering.{nat_cmp, ordering_then, is_lt}
use Rattle.std.specs.List.{All, Contains, range_with_len}
use Rattle.std.specs.List.Sorted.{IsPermutation, IsSorted}
use Rattle.std.proofs.lemmas.Cmp.{nat_cmp_total, on_total, then_total}
use Rattle.std.proofs.lemmas.List.{get_or-map, get_or_default, length-map, ext_get_or}
use Rattle.std.proofs.lemmas.List.FromFn.{length-range_with_len, get_or-range_with_len}
use Rattle.std.proofs.lemmas.List.Sorted.{IsPermutation-map, All-permutation, Contains-permutation, length_permutation, sorted_far, ranks_by}
use Rattle.cost_plan.proofs.SortLemmas.{AreDistinct, AreDistinct-permutation}
use Rattle.cost_plan.specs.Words.{Instance}
use Rattle.cost_plan.specs.TurnOrder.{turn_of, all_turns, IsUpTo, IsTurnOrder}
use Rattle.cost_plan.specs.declared.turn_order.Turn.{Turn}

-- how turns compare: by device, by weight, by the live round, and by number
abbrev pub turn_cmp : Turn → Turn → Ordering
turn_cmp a b = ordering_then (nat_cmp a.device b.device) (ordering_then (nat_cmp a.weight b.weight) (ordering_then (nat_cmp a.live b.live) (nat_cmp a.stay b.stay)))

nat_less : (x y : ℕ) → x < y → nat_cmp x y ≡ Less
nat_less x y less = ap (λ (b : Bool). cond b Less (cond (x == y) Equal Greater)) (lt-ltb x y less)

nat_same : (x y : ℕ) → x ≡ y → nat_cmp x y ≡ Equal
nat_same x y e = ap (λ (b : Bool). cond b Less (cond (x == y) Equal Greater)) (le-ltb x y (omega arith)) ∙ ap (λ (b : Bool). cond b Equal Greater) (eq-eqb x y e)

not_less : (x y : ℕ) → is_lt (nat_cmp x y) ≡ false → y ≤ x
not_less x y h = elim (cases_lt x y) [
  | inl less ↦ absurd (false≢true (sym h ∙ ap is_lt (nat_less x y less)))
  | inr up ↦ up
]

-- what isn't less by two numbers and then by something else
then_not_less : (x y : ℕ) (o : Ordering) → is_lt (ordering_then (nat_cmp x y) o) ≡ false → (y ≤ x) × (y ≡ x → is_lt o ≡ false)
then_not_less x y o h = elim (cases_lt x y) [
  | inl less ↦ absurd (false≢true (sym h ∙ ap (λ (q : Ordering). is_lt (ordering_then q o)) (nat_less x y less)))
  | inr up ↦ (up, λ e. sym (ap (λ (q : Ordering). is_lt (ordering_then q o)) (nat_same x y (sym e))) ∙ h)
]

IsUpTo-compared : (a b : Turn) → is_lt (turn_cmp b a) ≡ false → IsUpTo a b
IsUpTo-compared a b h =
    let device = then_not_less b.device a.device _ h in (
      device.0,
      λ same.
          let weight = then_not_less b.weight a.weight _ (device.1 same) in (
            weight.0,
            λ alike.
                let live = then_not_less b.live a.live _ (weight.1 alike) in
                (live.0, λ tied. not_less b.stay a.stay (live.1 tied)),
          ),
    )

turns_ranked : IsStrictWeakOrder (λ a b. is_lt (turn_cmp a b))
turns_ranked = ranks_by (then_total (on_total (λ (t : Turn). t.device) nat_cmp_total) (then_total (on_total (λ (t : Turn). t.weight) nat_cmp_total) (then_total (on_total (λ (t : Turn). t.live) nat_cmp_total) (on_total (λ (t : Turn). t.stay) nat_cmp_total)))) (λ (t : Turn). t)

abbrev no_turn : Turn
no_turn = record { device = 0; weight = 0; live = 0; stay = 0 }

-- a turn of the net's stays
abbrev IsTurnOf : Instance → (ℕ → ℕ) → Turn → Type 0
IsTurnOf net live turn = turn ≡ turn_of net live turn.stay

stays_in_order : (net : Instance) (live : ℕ → ℕ) → map (λ (turn : Turn). turn.stay) (all_turns net live) ≡ range_with_len 0 net.stays
stays_in_order net live =
    let n = net.stays in
    ext_get_or 0 _ _ (length-map (all_turns net live) (λ (turn : Turn). turn.stay) ∙ length-map (range_with_len 0 n) (turn_of net live)) (λ i less.
    let size : i < n = omega (arith, length-map (all_turns net live) (λ (turn : Turn). turn.stay), length-map (range_with_len 0 n) (turn_of net live), length-range_with_len 0 n) in
    get_or-map (λ (turn : Turn). turn.stay) (all_turns net live) i no_turn 0 (omega (arith, length-map (range_with_len 0 n) (turn_of net live), length-range_with_len 0 n)) ∙ ap (λ (turn : Turn). turn.stay) (get_or-map (turn_of net live) (range_with_len 0 n) i 0 no_turn (omega (arith, length-range_with_len 0 n))))

pub IsTurnOrder-made : (net : Instance) (live : ℕ → ℕ) (old new : List Turn) (order : List ℕ) → old ≡ all_turns net live → IsPermutation old new → IsSorted turn_cmp new → order ≡ map (λ (turn : Turn). turn.stay) new → IsTurnOrder net live order
IsTurnOrder-made net live old new order begun permutation sorted by_stay =
    let n = net.stays in
    let moved : IsPermutation (all_turns net live) new = subst (λ ts. IsPermutation ts new) begun permutation in
    let stays : IsPermutation (map (λ (turn : Turn). turn.stay) (all_turns net live)) (map (λ (turn : Turn). turn.stay) new) = IsPermutation-map (λ (turn : Turn). turn.stay) (all_turns net live) new moved in
    let size : length new ≡ n = length_permutation (all_turns net live) new moved ∙ length-map (range_with_len 0 n) (turn_of net live) ∙ length-range_with_len 0 n in
    let own : All (IsTurnOf net live) (all_turns net live) = λ k d less.
    let within : k < n = omega (arith, length-map (range_with_len 0 n) (turn_of net live), length-range_with_len 0 n) in
    let is : get_or (all_turns net live) k d ≡ turn_of net live (get_or (range_with_len 0 n) k 0) = get_or-map (turn_of net live) (range_with_len 0 n) k 0 d (omega (arith, length-range_with_len 0 n)) in
    subst (IsTurnOf net live) (sym is) refl in
    let still = All-permutation (IsTurnOf net live) (all_turns net live) new moved own in
    let stay_at : (k : ℕ) → k < n → get_or order k 0 ≡ (get_or new k no_turn).stay = λ k less. ap (λ (xs : List ℕ). get_or xs k 0) by_stay ∙ get_or-map (λ (turn : Turn). turn.stay) new k no_turn 0 (omega arith) in
    let turn_at : (k : ℕ) → k < n → get_or new k no_turn ≡ turn_of net live (get_or order k 0) = λ k less. still k no_turn (omega arith) ∙ ap (turn_of net live) (sym (stay_at k less)) in
    record {
      all = subst (λ xs. IsPermutation (range_with_len 0 n) xs) (sym by_stay) (subst (λ xs. IsPermutation xs (map (λ (turn : Turn). turn.stay) new)) (stays_in_order net live) stays);
      up = λ i j later less.
          let compared = sorted_far (λ a b. is_lt (turn_cmp a b)) turns_ranked new sorted i j no_turn later (omega arith) in
          let ranked = IsUpTo-compared (get_or new i no_turn) (get_or new j no_turn) compared in
          subst (λ t. IsUpTo (turn_of net live (get_or order i 0)) t) (turn_at j less) (subst (λ t. IsUpTo t (get_or new j no_turn)) (turn_at i (omega arith)) ranked);
    }

-- what an order of turns has
pub order_long : (net : Instance) (live : ℕ → ℕ) (order : List ℕ) → IsTurnOrder net live order → length order ≡ net.stays
order_long net live order turns = length_permutation _ order turns.all ∙ length-range_with_len 0 net.stays

pub order_within : (net : Instance) (live : ℕ → ℕ) (order : List ℕ) → IsTurnOrder net live order → (k : ℕ) → k < length order → get_or order k 0 < net.stays
order_within net live order turns =
    let n = net.stays in
    let start : All (λ (s : ℕ). s < n) (range_with_len 0 n) = λ k d less. omega (arith, length-range_with_len 0 n, get_or-range_with_len 0 n k d (omega (arith, length-range_with_len 0 n))) in
    let still = All-permutation (λ (s : ℕ). s < n) (range_with_len 0 n) order turns.all start in
    λ k less. still k 0 less

pub order_once : (net : Instance) (live : ℕ → ℕ) (order : List ℕ) → IsTurnOrder net live order → AreDistinct order
order_once net live order turns =
    let n = net.stays in
    AreDistinct-permutation (range_with_len 0 n) order turns.all (λ i j left right same. omega (arith, length-range_with_len 0 n, get_or-range_with_len 0 n i 0 (omega (arith, length-range_with_len 0 n)), get_or-range_with_len 0 n j 0 (omega (arith, length-range_with_len 0 n))))

pub order_place : (net : Instance) (live : ℕ → ℕ) (order : List ℕ) → IsTurnOrder net live order → (s : ℕ) → s < net.stays → (k : ℕ) × (k < length order) × (get_or order k 0 ≡ s)
order_place net live order turns s less =
    let n = net.stays in
    let there : Contains (range_with_len 0 n) s = (s, omega (arith, length-range_with_len 0 n), get_or-range_with_len 0 n s s less ∙ omega arith) in
    let found = Contains-permutation (range_with_len 0 n) order s turns.all there in
    (found.0, found.1, get_or_default order found.0 0 s found.1 ∙ found.2)
