use Rattle.std.proofs.Common.{◌≡◌, ◌∙◌, Bool, true, false, sym, ap, refl, not}
use Rattle.cam_types.proofs.ListLemmas.{same_lists}
use Rattle.sim_worker.specs.Words.{Topology}
use Rattle.sim_worker.proofs.ConfigLemmas.{same_numbers, same_adapter, same_device, same_rows, same_config, differ_numbers, differ_rows, differ_adapters, differ_devices}
use Rattle.sim_worker.proofs.judging.is_config.Goals as goal

so : (b : Bool) → not b ≡ false → b ≡ true
so true h = refl
so false h = absurd (cc)

not_so : (b : Bool) → not b ≡ true → b ≡ false
not_so true h = absurd (cc)
not_so false h = refl

pub returns-then-ne-clause-no : goal.returns-then-ne-clause-no
returns-then-ne-clause-no c = λ _ same. differ_rows _ _ (not_so _ (sym c.ne.ensures ∙ c.if-ne.true))
    (c.weights.ensures.same ∙ ap (λ (t : Topology). t.weights) (sym same) ∙ sym c.weights-2.ensures.same)

pub returns-then-ne-2-clause-no : goal.returns-then-ne-2-clause-no
returns-then-ne-2-clause-no c = λ _ same. differ_numbers _ _ (not_so _ (sym c.ne-2.ensures ∙ c.if-ne-2.true))
    (c.links.ensures.same ∙ ap (λ (t : Topology). t.links) (sym same) ∙ sym c.links-2.ensures.same)

pub returns-then-ne-3-clause-no : goal.returns-then-ne-3-clause-no
returns-then-ne-3-clause-no c = λ _ same. differ_adapters _ _ (not_so _ (sym c.ne-3.ensures ∙ c.if-ne-3.true))
    (c.adapters.ensures.same ∙ ap (λ (t : Topology). t.adapters) (sym same) ∙ sym c.adapters-2.ensures.same)

pub returns-then-ne-4-clause-no : goal.returns-then-ne-4-clause-no
returns-then-ne-4-clause-no c = λ _ same. differ_devices _ _ (not_so _ (sym c.ne-4.ensures ∙ c.if-ne-4.true))
    (c.devices.ensures.same ∙ ap (λ (t : Topology). t.devices) (sym same) ∙ sym c.devices-2.ensures.same)

pub returns-clause-yes : goal.returns-clause-yes
returns-clause-yes c = λ same. same_config c.args.one.now c.args.other.now
    (sym c.weights.ensures.same ∙ same_rows _ _ (so _ (sym c.ne.ensures ∙ c.if-ne.false)) ∙ c.weights-2.ensures.same)
    (sym c.links.ensures.same ∙ same_numbers _ _ (so _ (sym c.ne-2.ensures ∙ c.if-ne-2.false)) ∙ c.links-2.ensures.same)
    (sym c.adapters.ensures.same ∙ same_lists _ _ _ same_adapter (so _ (sym c.ne-3.ensures ∙ c.if-ne-3.false)) ∙ c.adapters-2.ensures.same)
    (sym c.devices.ensures.same ∙ same_lists _ _ _ same_device (so _ (sym c.ne-4.ensures ∙ c.if-ne-4.false)) ∙ c.devices-2.ensures.same)
    (sym c.lanes.ensures.same ∙ same_numbers _ _ (sym c.eq.ensures ∙ same) ∙ c.lanes-2.ensures.same)

pub returns-clause-no : goal.returns-clause-no
returns-clause-no c = λ other same. differ_numbers _ _ (sym c.eq.ensures ∙ other)
    (c.lanes.ensures.same ∙ ap (λ (t : Topology). t.lanes) (sym same) ∙ sym c.lanes-2.ensures.same)
