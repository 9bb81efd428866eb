-- the stays of each device, in the order by weight
use Rattle.std.proofs.Common.{◌≡◌, ◌≢◌, ℕ, ◌+◌, ◌<◌, true, List, [], ◌∷◌, ◌++◌, length, get_or, set, slice_index, Vec, refl, sym, ap, ◌∙◌, subst, inl, inr, arith}
use Rattle.std.specs.Global.{Global}
use Rattle.std.proofs.lemmas.Bool.{cases_eq}
use Rattle.std.proofs.lemmas.Grind.{get_or-set_at}
use Rattle.std.proofs.lemmas.List.{length-set, length_push, get_or-set_other, get_or_append_left, get_or_push}
use Rattle.round_net.specs.Instance.{Instance}
use Rattle.orders.specs.Keys.{AreInOrder}
use Rattle.orders.specs.Orders.{goes_before}
use Rattle.orders.specs.declared.order.Order.TheVariants.{ByWeight}
use Rattle.orders.specs.OwnOrders.{IsOwnOrder, AreOwnOrders, AreNone}

-- those of the first so many stays of the order
pub record IsOwnSoFar (net : Instance) (order : List ℕ) (n d : ℕ) (own : List ℕ) : Type 0 where
  pub from : (i : ℕ) → i < length own → (k : ℕ) × (k < n) × (slice_index order k ≡ slice_index own i)
  pub here : (i : ℕ) → i < length own → net.device (slice_index own i) ≡ d
  pub place : (k : ℕ) → k < n → net.device (slice_index order k) ≡ d → (i : ℕ) × (i < length own) × (slice_index own i ≡ slice_index order k)
  pub before : (i j : ℕ) → i < j → j < length own → goes_before ByWeight net (slice_index own i) (slice_index own j) ≡ true

pub record AreOwnSoFar (net : Instance) (order : List ℕ) (n : ℕ) (lists : List (Vec ℕ Global)) : Type 0 where
  pub all : length lists ≡ net.devices
  pub each : (d : ℕ) (x : Vec ℕ Global) → d < net.devices → IsOwnSoFar net order n d (get_or lists d x).items

none_so_far : (net : Instance) (order : List ℕ) (d : ℕ) → IsOwnSoFar net order 0 d []
none_so_far net order d = record {
  from = λ i less. absurd (omega arith);
  here = λ i less. absurd (omega arith);
  place = λ k less. absurd (omega arith);
  before = λ i j low less. absurd (omega arith);
}

pub AreOwnSoFar-none : (net : Instance) (order : List ℕ) (devices : ℕ) (lists : List (Vec ℕ Global)) → devices ≡ net.devices → AreNone devices lists → AreOwnSoFar net order 0 lists
AreOwnSoFar-none net order devices lists same none = record {
  all = none.all ∙ same;
  each = λ d x less. subst (IsOwnSoFar net order 0 d) (sym (none.each d x (omega (arith, same)))) (none_so_far net order d);
}

-- one stay more, of another device
own_same : (net : Instance) (order : List ℕ) (n d : ℕ) (own : List ℕ) → net.device (slice_index order n) ≢ d → IsOwnSoFar net order n d own → IsOwnSoFar net order (n + 1) d own
own_same net order n d own other so_far = record {
  from = λ i less. let k = so_far.from i less in (k.0, omega (arith, k.1), k.2);
  here = so_far.here;
  place = λ k less at. elim (cases_eq k n) [
    | inl same ↦ absurd (other (ap (λ m. net.device (slice_index order m)) (sym same) ∙ at))
    | inr apart ↦ so_far.place k (omega (arith, less, apart)) at
  ];
  before = so_far.before;
}

-- and one of the device
own_more : (net : Instance) (order : List ℕ) (n d : ℕ) (own : List ℕ) → AreInOrder ByWeight net order → n < length order → net.device (slice_index order n) ≡ d → IsOwnSoFar net order n d own → IsOwnSoFar net order (n + 1) d (own ++ slice_index order n ∷ [])
own_more net order n d own in_order within at so_far =
    let x : ℕ = slice_index order n in
    let new : List ℕ = own ++ x ∷ [] in
    let long : length new ≡ length own + 1 = length_push own x in
    let old : (i : ℕ) → i < length own → slice_index new i ≡ slice_index own i = λ i less. get_or_append_left own (x ∷ []) 0 i less in
    let last : slice_index new (length own) ≡ x = get_or_push own x 0 (length own) refl in
    let goes : (i : ℕ) → i < length own → goes_before ByWeight net (slice_index own i) x ≡ true = λ i less.
    let k = so_far.from i less in
    subst (λ (s : ℕ). goes_before ByWeight net s x ≡ true) k.2 (in_order.before k.0 n k.1 (omega (arith, in_order.long, within))) in
    record {
      from = λ i less. elim (cases_eq i (length own)) [
        | inl same ↦ (n, omega arith, sym (ap (slice_index new) same ∙ last))
        | inr apart ↦
            let low : i < length own = omega (arith, less, long, apart) in
            let k = so_far.from i low in
            (k.0, omega (arith, k.1), k.2 ∙ sym (old i low))
      ];
      here = λ i less. elim (cases_eq i (length own)) [
        | inl same ↦ ap net.device (ap (slice_index new) same ∙ last) ∙ at
        | inr apart ↦ let low : i < length own = omega (arith, less, long, apart) in ap net.device (old i low) ∙ so_far.here i low
      ];
      place = λ k less here. elim (cases_eq k n) [
        | inl same ↦ (length own, omega (arith, long), last ∙ ap (slice_index order) (sym same))
        | inr apart ↦
            let i = so_far.place k (omega (arith, less, apart)) here in
            (i.0, omega (arith, i.1, long), old i.0 i.1 ∙ i.2)
      ];
      before = λ i j low less. elim (cases_eq j (length own)) [
        | inl same ↦
            let under : i < length own = omega (arith, low, same) in
            rw (old i under, ap (slice_index new) same ∙ last) (goes i under)
        | inr apart ↦
            let under : j < length own = omega (arith, less, long, apart) in
            rw (old i (omega (arith, low, under)), old j under) (so_far.before i j low under)
      ];
    }

pub AreOwnSoFar-more : (net : Instance) (order : List ℕ) (n d : ℕ) (lists : List (Vec ℕ Global)) (was v : Vec ℕ Global) → AreInOrder ByWeight net order → n < length order → d ≡ net.device (slice_index order n) → d < net.devices → was ≡ get_or lists d was → v.items ≡ was.items ++ slice_index order n ∷ [] → AreOwnSoFar net order n lists → AreOwnSoFar net order (n + 1) (set lists d v)
AreOwnSoFar-more net order n d lists was v in_order within is lt read push so_far =
    let all = so_far.all in
    record {
      all = length-set lists d v ∙ so_far.all;
      each = λ e x less. elim (cases_eq d e) [
        | inl same ↦
            let there : get_or (set lists d v) e x ≡ v = get_or-set_at lists d e v x (sym same) (omega (arith, all, lt)) in
            let before : IsOwnSoFar net order n e was.items = subst (λ (w : Vec ℕ Global). IsOwnSoFar net order n e w.items) (ap (λ k. get_or lists k was) (sym same) ∙ sym read) (so_far.each e was less) in
            let after : IsOwnSoFar net order (n + 1) e v.items = subst (IsOwnSoFar net order (n + 1) e) (sym push) (own_more net order n e was.items in_order within (sym is ∙ same) before) in
            subst (λ (w : Vec ℕ Global). IsOwnSoFar net order (n + 1) e w.items) (sym there) after
        | inr apart ↦
            let there : get_or (set lists d v) e x ≡ get_or lists e x = get_or-set_other lists d e v x (λ same. apart (sym same)) in
            subst (λ (w : Vec ℕ Global). IsOwnSoFar net order (n + 1) e w.items) (sym there) (own_same net order n e (get_or lists e x).items (λ at. apart (is ∙ at)) (so_far.each e x less))
      ];
    }

-- those of all stays
own_all : (net : Instance) (order : List ℕ) (n d : ℕ) (own : List ℕ) → AreInOrder ByWeight net order → n ≡ net.stays → IsOwnSoFar net order n d own → IsOwnOrder net d own
own_all net order n d own in_order all so_far = record {
  within = λ i less. let k = so_far.from i less in subst (λ s. s < net.stays) k.2 (in_order.within k.0 (omega (arith, k.1, all)));
  here = so_far.here;
  place = λ s inside at.
      let k = in_order.place s inside in
      let i = so_far.place k.0 (omega (arith, k.1, all)) (ap net.device k.2 ∙ at) in
      (i.0, i.1, i.2 ∙ k.2);
  before = so_far.before;
}

pub AreOwnOrders-all : (net : Instance) (order : List ℕ) (n : ℕ) (lists : List (Vec ℕ Global)) → AreInOrder ByWeight net order → n ≡ net.stays → AreOwnSoFar net order n lists → AreOwnOrders net lists
AreOwnOrders-all net order n lists in_order all so_far = record {
  all = so_far.all;
  each = λ d x less. own_all net order n d (get_or lists d x).items in_order all (so_far.each d x less);
}

pub AreNone-more : (n : ℕ) (lists : List (Vec ℕ Global)) (v : Vec ℕ Global) → AreNone n lists → v.items ≡ [] → AreNone (n + 1) (lists ++ v ∷ [])
AreNone-more n lists v none empty =
    let all = none.all in
    record {
      all = length_push lists v ∙ ap (λ k. k + 1) none.all;
      each = λ d x less. elim (cases_eq d n) [
        | inl same ↦ ap (λ (w : Vec ℕ Global). w.items) (get_or_push lists v x d (none.all ∙ sym same)) ∙ empty
        | inr apart ↦
            let low : d < n = omega (arith, less, apart) in
            ap (λ (w : Vec ℕ Global). w.items) (get_or_append_left lists (v ∷ []) x d (omega (arith, low, all))) ∙ none.each d x low
      ];
    }
