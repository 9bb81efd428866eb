use Rattle.std.proofs.Common.{◌∙◌, ℕ, List, length, ap, subst}
use Rattle.round_net.specs.Rows.{instance_of_rows}
use Rattle.cost_plan.specs.Words.{rows}
use Rattle.cost_plan.specs.Parts.{IsPutIn, HasPotentials}
use Rattle.cost_plan.proofs.PartLemmas.{put_some, put_none}
use Rattle.cost_plan.proofs.parts.put.Goals as goal

pub returns-in-Some-clause-put : goal.returns-in-Some-clause-put
returns-in-Some-clause-put c =
    let net = instance_of_rows c.args.net.now in
    let part = c.in-Some.part in
    let r = c.args.rounds.now in
    let l = c.args.potentials.now in
    put_some net c.args.part part r.len l.len r.items l.items c.put_rounds.new.rounds c.put_potentials.new.potentials _ _ c.in-Some.is r.ok.0
    (c.put_rounds.ensures.size ∙ ap length c.deref_mut.ensures.value) l.ok.0 (c.put_potentials.ensures.size ∙ ap length c.deref_mut-in-Some.ensures.value)
    (subst (λ (xs : List ℕ). IsPutIn net part.adapter net.stays part.guess.rounds.items xs c.put_rounds.new.rounds) c.deref_mut.ensures.value c.put_rounds.ensures.put)
    (subst (λ (xs : List ℕ). HasPotentials net part.adapter (rows net) part.guess.potentials.items xs c.put_potentials.new.potentials) c.deref_mut-in-Some.ensures.value c.put_potentials.ensures.put)

pub returns-in_default-clause-put : goal.returns-in_default-clause-put
returns-in_default-clause-put c = put_none (instance_of_rows c.args.net.now) c.args.part c.args.rounds.now.items c.args.potentials.now.items c.in_default.is
