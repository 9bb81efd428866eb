-- stays that are sorted by their keys
use Rattle.std.proofs.Common.{◌≡◌, ◌≢◌, ℕ, ◌+◌, ◌-◌, ◌<◌, ◌≤◌, ◌==◌, Bool, false, cond, Ordering, Less, Equal, Greater, List, [], ◌∷◌, ◌++◌, length, map, get_or, refl, sym, ap, ◌∙◌, subst, inl, inr, arith}
use Rattle.std.proofs.lemmas.Bool.{cases_lt, cases_eq, false≢true, eqb-false, eq-eqb, ne_eqb, lt-ltb, le-ltb}
use Rattle.std.specs.Cmp.{IsStrictWeakOrder}
use Rattle.std.specs.Ordering.{nat_cmp, ordering_then, is_lt}
use Rattle.std.specs.List.{All, Contains, IsDistinct, range_with_len}
use Rattle.std.specs.List.Sorted.{IsPermutation, IsSorted}
use Rattle.std.proofs.lemmas.Cmp.{nat_cmp_total, on_total, then_total}
use Rattle.std.proofs.lemmas.List.{get_or-map, get_or_default, length-map, ext_get_or}
use Rattle.std.proofs.lemmas.List.FromFn.{length-range_with_len, get_or-range_with_len, map-range_with_len_more}
use Rattle.std.proofs.lemmas.List.Sorted.{IsPermutation-map, All-permutation, Contains-permutation, length_permutation, sorted_far, ranks_by}
use Rattle.std.proofs.lemmas.Map.Keys.{apart_from_distinct, IsDistinct-from_apart, IsDistinct-IsPermutation}
use Rattle.round_net.specs.Instance.{Instance}
use Rattle.round_net.specs.Sound.{IsSound}
use Rattle.orders.specs.Keys.{key_of, all_keys, AreInOrder}
use Rattle.orders.specs.declared.key.Key.{Key}
use Rattle.orders.specs.declared.order.Order.{Order}
use Rattle.orders.specs.declared.order.Order.TheVariants.{FirstCome, ByWeight}
use Rattle.orders.proofs.OrderLemmas.{Came, Goes, Goes-decided}

-- how keys compare: by lightness, by arrival, and by number
abbrev pub key_cmp : Key → Key → Ordering
key_cmp a b = ordering_then (nat_cmp a.lightness b.lightness) (ordering_then (nat_cmp a.arrival b.arrival) (nat_cmp a.stay b.stay))

nat_less : (x y : ℕ) → x < y → nat_cmp x y ≡ Less
nat_less x y less = ap (λ (b : Bool). cond b Less (cond (x == y) Equal Greater)) (lt-ltb x y less)

nat_same : (x y : ℕ) → x ≡ y → nat_cmp x y ≡ Equal
nat_same x y e = ap (λ (b : Bool). cond b Less (cond (x == y) Equal Greater)) (le-ltb x y (omega arith)) ∙ ap (λ (b : Bool). cond b Equal Greater) (eq-eqb x y e)

not_less : (x y : ℕ) → is_lt (nat_cmp x y) ≡ false → y ≤ x
not_less x y h = elim (cases_lt x y) [
  | inl less ↦ absurd (false≢true (sym h ∙ ap is_lt (nat_less x y less)))
  | inr up ↦ up
]

-- what isn't less by two numbers and then by something else
then_not_less : (x y : ℕ) (o : Ordering) → is_lt (ordering_then (nat_cmp x y) o) ≡ false → (y ≤ x) × (y ≡ x → is_lt o ≡ false)
then_not_less x y o h = elim (cases_lt x y) [
  | inl less ↦ absurd (false≢true (sym h ∙ ap (λ (q : Ordering). is_lt (ordering_then q o)) (nat_less x y less)))
  | inr up ↦ (up, λ e. sym (ap (λ (q : Ordering). is_lt (ordering_then q o)) (nat_same x y (sym e))) ∙ h)
]

keys_ranked : IsStrictWeakOrder (λ a b. is_lt (key_cmp a b))
keys_ranked = ranks_by (then_total (on_total (λ (k : Key). k.lightness) nat_cmp_total) (then_total (on_total (λ (k : Key). k.arrival) nat_cmp_total) (on_total (λ (k : Key). k.stay) nat_cmp_total))) (λ (k : Key). k)

-- a stay whose key isn't greater than that of another one goes before it
came_up : (net : Instance) (s t : ℕ) → s ≢ t → is_lt (ordering_then (nat_cmp (net.arrival t) (net.arrival s)) (nat_cmp t s)) ≡ false → Came net s t
came_up net s t apart up =
    let arrived = then_not_less (net.arrival t) (net.arrival s) (nat_cmp t s) up in
    elim (cases_eq (net.arrival s) (net.arrival t)) [
      | inl same ↦ inr (same, (let before = not_less t s (arrived.1 same) in omega arith))
      | inr other ↦ inl (omega (arith, arrived.0))
    ]

goes_up : (order : Order) (net : Instance) (live : ℕ → ℕ) (s t : ℕ) → IsSound net live → s < net.stays → t < net.stays → s ≢ t → is_lt (key_cmp (key_of order net t) (key_of order net s)) ≡ false → Goes order net s t
goes_up FirstCome net live s t sound inside within apart up =
    let light = then_not_less 0 0 (ordering_then (nat_cmp (net.arrival t) (net.arrival s)) (nat_cmp t s)) up in
    came_up net s t apart (light.1 refl)
goes_up ByWeight net live s t sound inside within apart up =
    let light = then_not_less (4294967295 - net.weight t) (4294967295 - net.weight s) (ordering_then (nat_cmp (net.arrival t) (net.arrival s)) (nat_cmp t s)) up in
    let few = sound.small_weight s inside in
    let few' = sound.small_weight t within in
    elim (cases_eq (net.weight s) (net.weight t)) [
      | inl same ↦ inr (same, came_up net s t apart (light.1 (omega arith)))
      | inr other ↦ inl (omega (arith, light.0))
    ]

abbrev no_key : Key
no_key = record { lightness = 0; arrival = 0; stay = 0 }

-- a key of the net's stays
abbrev IsKeyOf : Order → Instance → Key → Type 0
IsKeyOf order net key = key ≡ key_of order net key.stay

stays_in_order : (order : Order) (net : Instance) → map (λ (key : Key). key.stay) (all_keys order net) ≡ range_with_len 0 net.stays
stays_in_order order net =
    let n = net.stays in
    ext_get_or 0 _ _ (length-map (all_keys order net) (λ (key : Key). key.stay) ∙ length-map (range_with_len 0 n) (key_of order net)) (λ i less.
    let size : i < n = omega (arith, length-map (all_keys order net) (λ (key : Key). key.stay), length-map (range_with_len 0 n) (key_of order net), length-range_with_len 0 n) in
    get_or-map (λ (key : Key). key.stay) (all_keys order net) i no_key 0 (omega (arith, length-map (range_with_len 0 n) (key_of order net), length-range_with_len 0 n)) ∙ ap (λ (key : Key). key.stay) (get_or-map (key_of order net) (range_with_len 0 n) i 0 no_key (omega (arith, length-range_with_len 0 n))))

-- the key of one stay more
pub all_keys-more : (order : Order) (net : Instance) (stay : ℕ) (keys longer : List Key) (key : Key) → longer ≡ keys ++ key ∷ [] → keys ≡ map (key_of order net) (range_with_len 0 stay) → key ≡ key_of order net stay → longer ≡ map (key_of order net) (range_with_len 0 (stay + 1))
all_keys-more order net stay keys longer key pushed before is =
    pushed ∙ ap (λ (ks : List Key). ks ++ key ∷ []) before ∙ ap (λ (k : Key). map (key_of order net) (range_with_len 0 stay) ++ k ∷ []) is ∙ sym (map-range_with_len_more (key_of order net) 0 stay stay (omega arith))

eqb-flips : (x y : ℕ) → (x == y) ≡ (y == x)
eqb-flips x y = elim (cases_eq x y) [
  | inl same ↦ eq-eqb x y same ∙ sym (eq-eqb y x (sym same))
  | inr apart ↦ ne_eqb x y apart ∙ sym (ne_eqb y x (λ e. apart (sym e)))
]

-- no number stands twice among those that the numbers from 0 on make by changing places
places_apart : (n : ℕ) (xs : List ℕ) → IsPermutation (range_with_len 0 n) xs → (i j : ℕ) → i < j → j < length xs → get_or xs i 0 ≢ get_or xs j 0
places_apart n xs permutation i j up less =
    let start : IsDistinct ◌==◌ (range_with_len 0 n) = IsDistinct-from_apart ◌==◌ (range_with_len 0 n) (λ k l d above within.
    let size : l < n = omega (arith, length-range_with_len 0 n) in
    ne_eqb _ _ (λ e. omega (arith, e, get_or-range_with_len 0 n k d (omega (arith, length-range_with_len 0 n)), get_or-range_with_len 0 n l d (omega (arith, length-range_with_len 0 n))))) in
    eqb-false _ _ (apart_from_distinct ◌==◌ xs i j 0 (IsDistinct-IsPermutation ◌==◌ eqb-flips (range_with_len 0 n) xs permutation start) up less)

pub AreInOrder-made : (order : Order) (net : Instance) (live : ℕ → ℕ) (old new : List Key) (stays : List ℕ) → IsSound net live → old ≡ all_keys order net → IsPermutation old new → IsSorted key_cmp new → stays ≡ map (λ (key : Key). key.stay) new → AreInOrder order net stays
AreInOrder-made order net live old new stays sound begun permutation sorted by_stay =
    let n = net.stays in
    let moved : IsPermutation (all_keys order net) new = subst (λ ks. IsPermutation ks new) begun permutation in
    let mapped : IsPermutation (map (λ (key : Key). key.stay) (all_keys order net)) (map (λ (key : Key). key.stay) new) = IsPermutation-map (λ (key : Key). key.stay) (all_keys order net) new moved in
    let all : IsPermutation (range_with_len 0 n) stays = subst (λ xs. IsPermutation (range_with_len 0 n) xs) (sym by_stay) (subst (λ xs. IsPermutation xs (map (λ (key : Key). key.stay) new)) (stays_in_order order net) mapped) in
    let size : length new ≡ n = length_permutation (all_keys order net) new moved ∙ length-map (range_with_len 0 n) (key_of order net) ∙ length-range_with_len 0 n in
    let long : length stays ≡ n = length_permutation (range_with_len 0 n) stays all ∙ length-range_with_len 0 n in
    let start : All (λ (s : ℕ). s < n) (range_with_len 0 n) = λ k d less. omega (arith, length-range_with_len 0 n, get_or-range_with_len 0 n k d (omega (arith, length-range_with_len 0 n))) in
    let inside = All-permutation (λ (s : ℕ). s < n) (range_with_len 0 n) stays all start in
    let within : (i : ℕ) → i < n → get_or stays i 0 < n = λ i less. inside i 0 (omega arith) in
    let own : All (IsKeyOf order net) (all_keys order net) = λ k d less.
    let is : get_or (all_keys order net) k d ≡ key_of order net (get_or (range_with_len 0 n) k 0) = get_or-map (key_of order net) (range_with_len 0 n) k 0 d (omega (arith, length-map (range_with_len 0 n) (key_of order net))) in
    subst (IsKeyOf order net) (sym is) refl in
    let still = All-permutation (IsKeyOf order net) (all_keys order net) new moved own in
    let stay_at : (k : ℕ) → k < n → get_or stays k 0 ≡ (get_or new k no_key).stay = λ k less. ap (λ (xs : List ℕ). get_or xs k 0) by_stay ∙ get_or-map (λ (key : Key). key.stay) new k no_key 0 (omega arith) in
    let key_at : (k : ℕ) → k < n → get_or new k no_key ≡ key_of order net (get_or stays k 0) = λ k less. still k no_key (omega arith) ∙ ap (key_of order net) (sym (stay_at k less)) in
    record {
      long = long;
      within = within;
      place = λ s less.
          let there : Contains (range_with_len 0 n) s = (s, omega (arith, length-range_with_len 0 n), get_or-range_with_len 0 n s s less ∙ omega arith) in
          let found = Contains-permutation (range_with_len 0 n) stays s all there in
          (found.0, omega (arith, found.1), get_or_default stays found.0 0 s found.1 ∙ found.2);
      before = λ i j later less.
          let s = get_or stays i 0 in
          let t = get_or stays j 0 in
          let compared = sorted_far (λ a b. is_lt (key_cmp a b)) keys_ranked new sorted i j no_key (omega arith) (omega arith) in
          let first : is_lt (key_cmp (get_or new j no_key) (key_of order net s)) ≡ false = subst (λ k. is_lt (key_cmp (get_or new j no_key) k) ≡ false) (key_at i (omega arith)) compared in
          let up : is_lt (key_cmp (key_of order net t) (key_of order net s)) ≡ false = subst (λ k. is_lt (key_cmp k (key_of order net s)) ≡ false) (key_at j less) first in
          (Goes-decided order net s t).1 (goes_up order net live s t sound (within i (omega arith)) (within j less) (places_apart n stays all i j later (omega arith)) up);
    }
