use Rattle.std.proofs.Common.{◌<◌, subst, ◌∙◌, ap, length, arith, List, ℕ, map, ◌≡◌, get_or}
use Rattle.cost_plan.specs.declared.turns.slots.Slot.{Slot}
use Rattle.cost_plan.proofs.SortLemmas.{AreHeld-made, holders_below}
use Rattle.cost_plan.proofs.turns.slots.Slots.of.Goals as goal

pub places_of-requires : goal.places_of-requires
places_of-requires c = holders_below _ _ _ c.in_ok-slots.ensures (c.deref-3.ensures.value ∙ c.in_ok-holders.ensures ∙ ap (map (λ (slot : Slot). slot.holder)) c.deref.ensures.value)

pub returns : goal.returns
returns c =
    let e = c.deref-3.ensures.value in
    let p = c.in_ok-places.ensures in
    let P : List ℕ → Type 0 = λ xs. (slot : ℕ) → slot < length xs → get_or xs (get_or c.in_ok-places.places.items (get_or xs slot 0) 0) 0 ≡ get_or xs slot 0 in
    AreHeld-made _ _ _ _ _ c.in_ok-slots.ensures (c.in_ok-rounds.ensures ∙ ap (map (λ (slot : Slot). slot.round)) c.deref-2.ensures.value) (c.in_ok-holders.ensures ∙ ap (map (λ (slot : Slot). slot.holder)) c.deref.ensures.value) (p.long ∙ ap length e) (λ stay less. omega (arith, p.within stay (omega (arith, ap length e)), ap length e)) (subst P e p.holds)
