-- The order by weight is best where only devices bind: prices in closed form.
use Rattle.std.proofs.Common.{◌≡◌, ℕ, zero, suc, ◌+◌, ◌-◌, ◌*◌, ◌<◌, ◌≤◌, ◌==◌, ◌&&◌, Bool, true, false, cond, refl, sym, ap, ◌∙◌, subst, inl, inr, arith, mul-le-mul_right}
use Rattle.std.specs.List.{list_any}
use Rattle.std.proofs.lemmas.Bool.{cases_eq, cases_lt, eq-eqb, and_from}
use Rattle.std.proofs.lemmas.Bool.Decides.{nat_tests}
use Rattle.round_net.specs.Sums.{sum_below}
use Rattle.round_net.specs.Instance.{Instance, path_of, uses}
use Rattle.round_net.specs.Schedules.{IsAdmissible}
use Rattle.round_net.specs.Value.{Pricing}
use Rattle.round_net.specs.Sound.{IsSound}
use Rattle.round_net.proofs.SumLemmas.{sum_below-le}
use Rattle.price_check.proofs.UsedLemmas.{used_within}
use Rattle.orders.specs.declared.order.Order.TheVariants.{ByWeight}
use Rattle.orders.specs.Orders.{goes_before, IsOrdered}
use Rattle.orders.specs.ClosedPrices.{WaitsAfter, AreClosedPrices}

-- where no term is above another's and the sums are equal, the terms are
sum_below-pinned : (n : ℕ) (g h : ℕ → ℕ) → ((i : ℕ) → i < n → g i ≤ h i) → sum_below n h ≤ sum_below n g → (i : ℕ) → i < n → h i ≤ g i
sum_below-pinned zero g h below total i less = absurd (omega arith)
sum_below-pinned (suc n) g h below total i less =
    let before = sum_below-le n g h (λ j within. below j (omega arith)) in
    let here = below n (omega arith) in
    elim (cases_eq i n) [
      | inl same ↦ subst (λ (k : ℕ). h k ≤ g k) (sym same) (omega arith)
      | inr other ↦ sum_below-pinned n g h (λ j within. below j (omega arith)) (omega arith) i (omega arith)
    ]

fewer : (a b : Bool) → cond {A = ℕ} (a && b) 1 0 ≤ cond b 1 0
fewer true true = omega arith
fewer true false = omega arith
fewer false true = omega arith
fewer false false = omega arith

both : (a b : Bool) → 1 ≤ cond {A = ℕ} (a && b) 1 0 → a ≡ true
both true b h = refl
both false b h = absurd (omega arith)

-- who goes before another weighs at least as much, and doesn't come after it
goes_before-weight : (net : Instance) (s t : ℕ) → goes_before ByWeight net s t ≡ true → net.weight t ≤ net.weight s
goes_before-weight net s t = grind (arith, nat_tests)

goes_before-once : (net : Instance) (s t : ℕ) → goes_before ByWeight net s t ≡ true → goes_before ByWeight net t s ≡ true → ⊥
goes_before-once net s t = grind (arith, nat_tests)

-- what a device is sent in a round in which a stay of it waits goes before that stay
sent-goes_before : (net : Instance) (live f : ℕ → ℕ) (s t : ℕ) → IsSound net live → IsOrdered ByWeight net f → s < net.stays → t < net.stays → net.device t ≡ net.device s → net.arrival s ≤ f t → f t < f s → f t ≤ net.rounds → goes_before ByWeight net t s ≡ true
sent-goes_before net live f s t sound ordered within also same arrived later last =
    let held = ordered.held_up s (f t) within arrived later last in
    let inside = used_within net live s held.row sound within held.used in
    let first : 1 ≤ f t = omega (arith, sound.from_first s within) in
    let used : uses net held.row t ≡ true = ap (λ (d : ℕ). list_any (λ own. own == held.row) (path_of net d)) same ∙ held.used in
    let counted : uses net held.row t && (f t == f t) ≡ true = and_from (uses net held.row t) (f t == f t) used (eq-eqb (f t) (f t) refl) in
    let before = sum_below-pinned net.stays _ (λ i. cond (uses net held.row i && (f i == f t)) 1 0) (λ i less. fewer (goes_before ByWeight net i s) (uses net held.row i && (f i == f t))) (omega (arith, held.full, ordered.rows_hold held.row (f t) inside first last)) t also in
    both (goes_before ByWeight net t s) (uses net held.row t && (f t == f t)) (omega (arith, before, ap (λ (b : Bool). cond {A = ℕ} b 1 0) counted))

-- a weight times a span, and a greater weight times it
pub times : (w r q : ℕ) → r ≤ q → w * (q - r) + w * r ≡ w * q
times w r q le = let e : q - r + r ≡ q = omega arith in let product : w * (q - r + r) ≡ w * q = ap (λ (n : ℕ). w * n) e in omega arith

heavier-times : (w v r q : ℕ) → r ≤ q → w ≤ v → w * q ≤ w * r + v * (q - r)
heavier-times w v r q le heavy = omega (arith, times w r q le, mul-le-mul_right (q - r) heavy)

-- it costs a stay that waits after a round no more to go when it goes
early : (n : ℕ) (net : Instance) (live f : ℕ → ℕ) (p : Pricing) (d r s : ℕ) → IsSound net live → IsOrdered ByWeight net f → IsAdmissible net f → AreClosedPrices net f p → 1 ≤ r → f s ≤ r + n → WaitsAfter net f d r s → net.weight s * f s + p d (f s) ≤ net.weight s * r + p d r
early zero net live f p d r s sound ordered ok closed first near waits = let h = waits.later in absurd (omega arith)
early (suc n) net live f p d r s sound ordered ok closed first near waits =
    let last : f s ≤ net.rounds = omega (arith, ok.not_late s waits.within, sound.to_last s waits.within) in
    let inside : d < net.devices = subst (λ (x : ℕ). x < net.devices) waits.here (sound.on_device s waits.within) in
    elim (closed.devices d r inside first (omega (arith, waits.later))) [
      | inl nobody ↦ absurd (nobody.0 s waits)
      | inr found ↦
          let h : ℕ = found.0 in
          let is = found.1 in
          let price = found.2 in
          elim (cases_eq s h) [
            | inl same ↦ subst (λ (x : ℕ). net.weight x * f x + p d (f x) ≤ net.weight x * r + p d r) (sym same) (omega (arith, price, times (net.weight h) r (f h) (omega (arith, is.waits.later))))
            | inr other ↦
                let before = is.first s waits other in
                let heavy = goes_before-weight net h s before in
                let way = heavier-times (net.weight s) (net.weight h) r (f h) (omega (arith, is.waits.later)) heavy in
                elim (cases_lt (f s) (f h)) [
                  | inl less ↦ absurd (goes_before-once net h s before (sent-goes_before net live f h s sound ordered is.waits.within waits.within (waits.here ∙ sym is.waits.here) (omega (arith, is.waits.arrived, waits.later)) less last))
                  | inr upto ↦ elim (cases_eq (f h) (f s)) [
                    | inl tied ↦ omega (arith, way, price, ap (λ (q : ℕ). net.weight s * q) tied, ap (p d) tied)
                    | inr apart ↦
                        let rest = early n net live f p d (f h) s sound ordered ok closed (omega (arith, is.waits.later)) (omega (arith, is.waits.later)) (record { within = waits.within; here = waits.here; arrived = omega (arith, waits.arrived, is.waits.later); later = omega arith }) in
                        omega (arith, way, price, rest)
                  ]
                ]
          ]
    ]

-- who is the first after a round weighs at most so much
abbrev IsLightAfter : Instance → (ℕ → ℕ) → ℕ → ℕ → ℕ → Type 0
IsLightAfter net f d r w = (s : ℕ) → WaitsAfter net f d r s → net.weight s ≤ w

-- those that wait at a device after the round of a stay that it was sent weigh no more than that
light-after : (net : Instance) (live f : ℕ → ℕ) (d h : ℕ) → IsSound net live → IsOrdered ByWeight net f → h < net.stays → net.device h ≡ d → f h ≤ net.rounds → IsLightAfter net f d (f h) (net.weight h)
light-after net live f d h sound ordered within here last = λ s waits.
    goes_before-weight net h s (sent-goes_before net live f s h sound ordered waits.within within (here ∙ sym waits.here) waits.arrived waits.later last)

-- an opening in a later round is worth so much less at most
late : (n : ℕ) (net : Instance) (live f : ℕ → ℕ) (p : Pricing) (d t r w : ℕ) → IsSound net live → IsOrdered ByWeight net f → IsAdmissible net f → AreClosedPrices net f p → d < net.devices → 1 ≤ t → t < r → r ≤ t + n → r ≤ net.rounds → IsLightAfter net f d t w → p d t ≤ w * (r - t) + p d r
late zero net live f p d t r w sound ordered ok closed inside first less near last light = absurd (omega arith)
late (suc n) net live f p d t r w sound ordered ok closed inside first less near last light = elim (closed.devices d t inside first (omega arith)) [
  | inl nobody ↦ omega (arith, nobody.1)
  | inr found ↦
      let h : ℕ = found.0 in
      let is = found.1 in
      let price = found.2 in
      let to : f h ≤ net.rounds = omega (arith, ok.not_late h is.waits.within, sound.to_last h is.waits.within) in
      let heavy : net.weight h * (r - t) ≤ w * (r - t) = mul-le-mul_right (r - t) (light h is.waits) in
      let spent = times (net.weight h) t (f h) (omega (arith, is.waits.later)) in
      let whole = times (net.weight h) t r (omega arith) in
      elim (cases_lt r (f h)) [
        | inl past ↦
            let waits : WaitsAfter net f d r h = record { within = is.waits.within; here = is.waits.here; arrived = omega (arith, is.waits.arrived); later = past } in
            omega (arith, early (f h) net live f p d r h sound ordered ok closed (omega arith) (omega arith) waits, price, spent, whole, heavy)
        | inr upto ↦ elim (cases_eq (f h) r) [
          | inl tied ↦ omega (arith, price, heavy, ap (λ (q : ℕ). net.weight h * (q - t)) tied, ap (p d) tied)
          | inr apart ↦
              let rest = late n net live f p d (f h) r (net.weight h) sound ordered ok closed inside (omega (arith, is.waits.later)) (omega arith) (omega (arith, is.waits.later)) last (light-after net live f d h sound ordered is.waits.within is.waits.here to) in
              omega (arith, price, rest, spent, whole, times (net.weight h) (f h) r upto, heavy)
        ]
      ]
]

-- no round of its window is cheaper for a stay than its own
pub moves : (net : Instance) (live f : ℕ → ℕ) (p : Pricing) (s r : ℕ) → IsSound net live → IsOrdered ByWeight net f → IsAdmissible net f → AreClosedPrices net f p → s < net.stays → net.arrival s ≤ r → r ≤ net.last s → net.weight s * f s + p (net.device s) (f s) ≤ net.weight s * r + p (net.device s) r
moves net live f p s r sound ordered ok closed within low high =
    let first : 1 ≤ r = omega (arith, sound.from_first s within) in
    let last : r ≤ net.rounds = omega (arith, sound.to_last s within) in
    elim (cases_lt r (f s)) [
      | inl before ↦ early (f s) net live f p (net.device s) r s sound ordered ok closed first (omega arith) (record { within = within; here = refl; arrived = low; later = before })
      | inr upto ↦ elim (cases_eq (f s) r) [
        | inl tied ↦ omega (arith, ap (λ (q : ℕ). net.weight s * q) tied, ap (p (net.device s)) tied)
        | inr apart ↦
            let own : f s ≤ net.rounds = omega (arith, ok.not_late s within, sound.to_last s within) in
            let start : 1 ≤ f s = omega (arith, sound.from_first s within, ok.not_early s within) in
            omega (arith, late r net live f p (net.device s) (f s) r (net.weight s) sound ordered ok closed (sound.on_device s within) start (omega arith) (omega arith) last (light-after net live f (net.device s) s sound ordered within refl own), times (net.weight s) (f s) r upto)
      ]
    ]
