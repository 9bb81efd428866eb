-- Who waits first at a device after each round, of its first stays in the order by weight.
use Rattle.std.proofs.Common.{◌≡◌, ◌≢◌, ℕ, ◌+◌, ◌<◌, ◌≤◌, ◌⊎◌, true, List, length, get_or, slice_index, replicate, Option, Some, None, refl, sym, ap, ◌∙◌, subst, inl, inr, arith}
use Rattle.std.proofs.lemmas.Bool.{cases_eq, cases_lt}
use Rattle.round_net.specs.Instance.{Instance}
use Rattle.orders.specs.declared.order.Order.TheVariants.{ByWeight}
use Rattle.orders.specs.Orders.{goes_before}
use Rattle.orders.specs.ClosedPrices.{WaitsAfter}
use Rattle.orders.specs.FirstWaiting.{IsFirstOrNobody, AreFirsts, Skips, Takes}
use Rattle.orders.specs.OwnOrders.{IsOwnOrder}

-- of the stays before a place of the order one goes before all others that wait there after the round
pub record IsFirstSoFar (net : Instance) (f : ℕ → ℕ) (d r : ℕ) (order : List ℕ) (place h : ℕ) : Type 0 where
  pub at : ℕ
  pub before : at < place
  pub is : slice_index order at ≡ h
  pub waits : WaitsAfter net f d r h
  pub first : (i : ℕ) → i < place → WaitsAfter net f d r (slice_index order i) → slice_index order i ≢ h → goes_before ByWeight net h (slice_index order i) ≡ true

abbrev pub IsFound : Instance → (ℕ → ℕ) → ℕ → ℕ → List ℕ → ℕ → Option ℕ → Type 0
IsFound net f d r order place None = (i : ℕ) → i < place → ¬ WaitsAfter net f d r (slice_index order i)
IsFound net f d r order place (Some h) = IsFirstSoFar net f d r order place h

pub record AreFound (net : Instance) (f : ℕ → ℕ) (d : ℕ) (order : List ℕ) (place : ℕ) (firsts : List (Option ℕ)) (next : List ℕ) : Type 0 where
  pub long : length firsts ≡ net.rounds + 1
  pub skips : Skips firsts next
  pub each : (r : ℕ) → 1 ≤ r → r ≤ net.rounds → IsFound net f d r order place (get_or firsts r None)

-- a stay that doesn't wait changes nothing
IsFound-past : (net : Instance) (f : ℕ → ℕ) (d r : ℕ) (order : List ℕ) (place : ℕ) (o : Option ℕ) → ¬ WaitsAfter net f d r (slice_index order place) → IsFound net f d r order place o → IsFound net f d r order (place + 1) o
IsFound-past net f d r order place None not found = λ i less waits. elim (cases_eq i place) [
  | inl same ↦ not (subst (λ (k : ℕ). WaitsAfter net f d r (slice_index order k)) same waits)
  | inr other ↦ found i (omega arith) waits
]
IsFound-past net f d r order place (Some h) not found = record {
  at = found.at;
  before = omega (arith, found.before);
  is = found.is;
  waits = found.waits;
  first = λ i less waits apart. elim (cases_eq i place) [
    | inl same ↦ absurd (not (subst (λ (k : ℕ). WaitsAfter net f d r (slice_index order k)) same waits))
    | inr other ↦ found.first i (omega arith) waits apart
  ];
}

-- one that waits where nobody did is the first
IsFound-fresh : (net : Instance) (f : ℕ → ℕ) (d r : ℕ) (order : List ℕ) (place : ℕ) → WaitsAfter net f d r (slice_index order place) → IsFound net f d r order place None → IsFound net f d r order (place + 1) (Some (slice_index order place))
IsFound-fresh net f d r order place waits found = record {
  at = place;
  before = omega arith;
  is = refl;
  waits = waits;
  first = λ i less also apart. elim (cases_eq i place) [
    | inl same ↦ absurd (apart (ap (slice_index order) same))
    | inr other ↦ absurd (found i (omega arith) also)
  ];
}

-- one that waits where somebody did comes after that one
IsFound-kept : (net : Instance) (f : ℕ → ℕ) (d r : ℕ) (order : List ℕ) (place h : ℕ) → IsOwnOrder net d order → place < length order → IsFirstSoFar net f d r order place h → IsFirstSoFar net f d r order (place + 1) h
IsFound-kept net f d r order place h in_order within found = record {
  at = found.at;
  before = omega (arith, found.before);
  is = found.is;
  waits = found.waits;
  first = λ i less also apart. elim (cases_eq i place) [
    | inl same ↦ subst (λ (x : ℕ). goes_before ByWeight net x (slice_index order i) ≡ true) found.is (in_order.before found.at i (omega (arith, found.before)) (omega arith))
    | inr other ↦ found.first i (omega arith) also apart
  ];
}

-- nobody is found before the first stay
pub AreFound-none : (net : Instance) (f : ℕ → ℕ) (d : ℕ) (order : List ℕ) (firsts : List (Option ℕ)) (next : List ℕ) → firsts ≡ replicate (net.rounds + 1) None → length firsts ≡ net.rounds + 1 → ((r : ℕ) → get_or firsts r None ≡ None) → length next ≡ net.rounds + 1 → ((r : ℕ) → r < net.rounds + 1 → slice_index next r ≡ r) → AreFound net f d order 0 firsts next
AreFound-none net f d order firsts next made long none all each = record {
  long = long;
  skips = record {
    long = all ∙ sym long;
    within = λ r less. omega (arith, each r (omega (arith, long)), long);
    ahead = λ r less. omega (arith, each r (omega (arith, long)));
    taken = λ r q less low high. absurd (omega (arith, each r (omega (arith, long))));
    free = λ r less still. none r;
  };
  each = λ r low high. subst (IsFound net f d r order 0) (sym (none r)) (λ i less. absurd (omega arith));
}

-- the next stay
pub AreFound-own : (net : Instance) (f : ℕ → ℕ) (d : ℕ) (order : List ℕ) (place : ℕ) (firsts new : List (Option ℕ)) (next after : List ℕ) (from to stay : ℕ) → IsOwnOrder net d order → place < length order → stay ≡ slice_index order place → from ≡ net.arrival stay → to ≡ f stay → AreFound net f d order place firsts next → Skips new after → Takes firsts new from to stay → AreFound net f d order (place + 1) new after
AreFound-own net f d order place firsts new next after from to stay in_order within is from_is to_is found skips takes = record {
  long = takes.long ∙ found.long;
  skips = skips;
  each = λ r low high.
      let was = found.each r low high in
      let inside : slice_index order place < net.stays = in_order.within place within in
      let out : (r < from) ⊎ (to ≤ r) → IsFound net f d r order (place + 1) (get_or new r None) = λ o. subst (IsFound net f d r order (place + 1)) (sym (takes.outside r o)) (IsFound-past net f d r order place (get_or firsts r None) (λ waits. elim o [
        | inl early ↦ omega (arith, waits.arrived, from_is, ap net.arrival is)
        | inr gone ↦ omega (arith, waits.later, to_is, ap f is)
      ]) was) in
      elim (cases_lt r from) [
        | inl early ↦ out (inl early)
        | inr arrived ↦ elim (cases_lt r to) [
          | inr gone ↦ out (inr gone)
          | inl later ↦
              let waits : WaitsAfter net f d r (slice_index order place) = record { within = inside; here = in_order.here place within; arrived = omega (arith, from_is, ap net.arrival is); later = omega (arith, to_is, ap f is) } in
              let go : (o : Option ℕ) → get_or firsts r None ≡ o → IsFound net f d r order place o → IsFound net f d r order (place + 1) (get_or new r None) = λ o. elim o as (λ (x : Option ℕ). get_or firsts r None ≡ x → IsFound net f d r order place x → IsFound net f d r order (place + 1) (get_or new r None)) [
                | None ↦ λ e before. subst (IsFound net f d r order (place + 1)) (ap (λ (x : ℕ). Some x) (sym is) ∙ sym (takes.fresh r arrived later e)) (IsFound-fresh net f d r order place waits before)
                | Some h ↦ λ e before. subst (IsFound net f d r order (place + 1)) (sym (takes.kept r (λ none. let clash : Some h ≡ None = sym e ∙ none in cc) ∙ e)) (IsFound-kept net f d r order place h in_order within before)
              ] in
              go (get_or firsts r None) refl was
        ]
      ];
}

-- after all stays those that are found are the first of all
pub AreFirsts-done : (net : Instance) (f : ℕ → ℕ) (d : ℕ) (order : List ℕ) (firsts : List (Option ℕ)) (next : List ℕ) → IsOwnOrder net d order → AreFound net f d order (length order) firsts next → AreFirsts net f d firsts
AreFirsts-done net f d order firsts next in_order found = λ r low high.
    let go : (o : Option ℕ) → IsFound net f d r order (length order) o → IsFirstOrNobody net f d r o = λ o. elim o as (λ (x : Option ℕ). IsFound net f d r order (length order) x → IsFirstOrNobody net f d r x) [
      | None ↦ λ none. λ s waits.
          let place = in_order.place s waits.within waits.here in
          none place.0 place.1 (subst (WaitsAfter net f d r) (sym place.2) waits)
      | Some h ↦ λ one. record {
        waits = one.waits;
        first = λ s waits apart.
            let place = in_order.place s waits.within waits.here in
            subst (λ (x : ℕ). goes_before ByWeight net h x ≡ true) place.2 (one.first place.0 place.1 (subst (WaitsAfter net f d r) (sym place.2) waits) (λ same. apart (sym place.2 ∙ same)));
      }
    ] in
    go (get_or firsts r None) (found.each r low high)
