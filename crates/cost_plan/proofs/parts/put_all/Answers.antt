use Rattle.std.proofs.Common.{◌≡◌, ◌∙◌, ◌∷◌, [], ◌++◌, length, sym, ap, arith, append_assoc, append-nil, subst, List, Option, Result}
use Rattle.std.specs.declared.alloc.AllocError.{AllocError}
use Rattle.std.specs.Vec.Iter.{into_iter_items}
use Rattle.round_net.specs.Rows.{instance_of_rows}
use Rattle.cost_plan.specs.Parts.{AreAllPut}
use Rattle.cost_plan.specs.declared.part.Part.{Part}
use Rattle.cost_plan.proofs.PartLemmas.{all_put_none, all_put_more, none_left}
use Rattle.cost_plan.proofs.parts.put_all.Goals as goal

pub loop-part-init : goal.loop-part-init
loop-part-init c = record {
  rounds = c.requires.rounds;
  potentials = c.requires.potentials;
  put = all_put_none _ _ _;
  left = omega (arith, c.into_iter-part-iterator.ensures.into_iter_gives.1, c.args.parts.ok.0, ap length c.into_iter-part-iterator.ensures.into_iter_gives.0);
  rest = c.into_iter-part-iterator.ensures.into_iter_gives.0;
}

pub loop-part-preserved : goal.loop-part-preserved
loop-part-preserved c =
    let at = c.loop-part in
    let steps : into_iter_items at.part-iterator ≡ c.in-Some.part ∷ into_iter_items c.next.new.self = c.in-Some.ensures.steps.0 in
    record {
      rounds = c.put.ensures.rounds ∙ at.invariant.rounds;
      potentials = c.put.ensures.potentials ∙ at.invariant.potentials;
      put = all_put_more _ _ _ _ _ _ _ _ _ _ at.invariant.put c.in_ok-part.was c.put.ensures.put;
      left = omega (arith, c.in-Some.ensures.steps.1, at.invariant.left, ap length steps);
      rest = append_assoc at.yielded (c.in-Some.part ∷ []) _ ∙ rw (← steps) at.invariant.rest;
    }

pub returns-clause-put : goal.returns-clause-put
returns-clause-put c =
    let at = c.loop-part in
    subst (λ (xs : List (Result (Option Part) AllocError)). AreAllPut (instance_of_rows c.args.net.now) xs c.args.rounds.now.items c.args.potentials.now.items at.rounds.items at.potentials.items) (sym (append-nil at.yielded) ∙ ap (λ (xs : List (Result (Option Part) AllocError)). at.yielded ++ xs) (sym (none_left _ (omega (arith, c.in-None.ensures.steps.0, at.invariant.left)))) ∙ at.invariant.rest) at.invariant.put
