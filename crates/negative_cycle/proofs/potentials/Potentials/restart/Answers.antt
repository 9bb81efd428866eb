use Rattle.std.proofs.Common.{ℕ, false, subst, ◌≡◌, ◌∙◌, arith, sym, ap, length, Option, None, replicate, ltb}
use Rattle.std.specs.List.{list_any}
use Rattle.std.proofs.lemmas.List.{length-replicate}
use Rattle.negative_cycle.specs.Walks.{Arc}
use Rattle.negative_cycle.specs.PotentialTable.{highest_root}
use Rattle.negative_cycle.specs.declared.potentials.Potentials.TheInside.{Inside}
use Rattle.negative_cycle.proofs.ForestLemmas.{IsForest-begun, IsForest-low}
use Rattle.negative_cycle.proofs.potentials.Potentials.restart.Goals as goal
use Rattle.negative_cycle.proofs.potentials.Potentials.restart.Goals.{then-any_high, else-any_high}

pub invariant_of-self : goal.invariant_of-self
invariant_of-self c =
    let forest = c.self.invariant.0 in
    let n = length c.self.inside.potentials.items in
    elim c.if-any_high.branch [
      | then-any_high w ↦
          let potentials : c.if-any_high.self-inside.potentials.items ≡ replicate n 0 = ap (λ (i : Inside). i.potentials.items) w.self-inside-is ∙ w.lower.ensures in
          let places = ap (λ (i : Inside). length i.places.items) w.self-inside-is in
          let most : c.if-any_high.self-inside.most ≡ c.self.inside.most = ap (λ (i : Inside). i.most) w.self-inside-is in
          let preds : c.forget.new.preds.items ≡ replicate n None = c.forget.ensures ∙ ap (λ (k : ℕ). replicate k (let o : Option Arc = None in o)) (ap (λ (i : Inside). length i.preds.items) w.self-inside-is ∙ forest.lengths) in
          (IsForest-begun _ _ _ n (omega (arith, most, forest.fits)) potentials preds, omega (arith, ap length potentials, length-replicate {A = ℕ} n 0, places, c.self.invariant.1))
      | else-any_high w ↦
          let potentials : c.if-any_high.self-inside.potentials.items ≡ c.self.inside.potentials.items = ap (λ (i : Inside). i.potentials.items) w.self-inside-is in
          let places = ap (λ (i : Inside). length i.places.items) w.self-inside-is in
          let most : c.if-any_high.self-inside.most ≡ c.self.inside.most = ap (λ (i : Inside). i.most) w.self-inside-is in
          let preds : c.forget.new.preds.items ≡ replicate n None = c.forget.ensures ∙ ap (λ (k : ℕ). replicate k (let o : Option Arc = None in o)) (ap (λ (i : Inside). length i.preds.items) w.self-inside-is ∙ forest.lengths) in
          let none = ap (list_any (λ y. ltb (highest_root c.self.inside.most) y)) (potentials ∙ sym c.deref.ensures.value) ∙ sym w.if-any_high.ensures in
          (IsForest-low _ _ _ n (sym (ap length potentials)) (omega (arith, most, forest.fits)) (subst (λ (m : ℕ). list_any (λ y. ltb (highest_root m) y) c.if-any_high.self-inside.potentials.items ≡ false) (sym most) none) preds, omega (arith, ap length potentials, places, c.self.invariant.1))
    ]
