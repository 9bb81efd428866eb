use Rattle.std.proofs.Common.{◌≡◌, ◌≢◌, ℕ, ◌+◌, ◌*◌, ◌<◌, ◌∙◌, sym, ap, arith, drop}
use Rattle.round_net.specs.Rows.{instance_of_rows}
use Rattle.cost_plan.specs.Words.{rows}
use Rattle.cost_plan.specs.Parts.{part_of_resource}
use Rattle.cost_plan.proofs.PartLemmas.{HasPotentials-own, HasPotentials-other, resources_before-other, potentials_behind}
use Rattle.cost_plan.proofs.part.put_potentials.Goals as goal
use Rattle.cost_plan.proofs.part.put_potentials.Goals.{then-part_of_resource-part, else-part_of_resource-part}

pub loop-resource-preserved : goal.loop-resource-preserved
loop-resource-preserved c =
    let net = instance_of_rows c.args.net.now in
    let a = c.args.part.now.adapter in
    let resource = c.loop-resource.resource in
    let potentials = c.args.part.now.guess.potentials.items in
    let inside : resource < rows net = omega (arith, c.loop-resource-test.true, c.rows-resource-end.ensures.same) in
    elim c.if-part_of_resource-part.branch [
      | then-part_of_resource-part w ↦
          let own : part_of_resource net resource ≡ a = sym c.part_of_resource.ensures ∙ w.if-part_of_resource-part.true in
          record {
            rest = rw w.rest-is (w.behind_resource-rest.ensures ∙ potentials_behind net a resource potentials c.loop-resource.rest.now own c.loop-resource.invariant.rest);
            put = rw w.potentials-is (HasPotentials-own net a resource potentials c.loop-resource.rest.now c.args.potentials.now c.loop-resource.potentials w.put_resource.new.potentials inside own c.loop-resource.invariant.rest w.put_resource.ensures.put c.loop-resource.invariant.put);
          }
      | else-part_of_resource-part w ↦
          let apart : part_of_resource net resource ≢ a = λ e. w.if-part_of_resource-part.false (c.part_of_resource.ensures ∙ e) in
          record {
            rest = rw w.rest-is (c.loop-resource.invariant.rest ∙ ap (λ (k : ℕ). drop (k * (net.rounds + 1)) potentials) (sym (resources_before-other net a resource apart)));
            put = rw w.potentials-is (HasPotentials-other net a resource potentials c.args.potentials.now c.loop-resource.potentials apart c.loop-resource.invariant.put);
          }
    ]
