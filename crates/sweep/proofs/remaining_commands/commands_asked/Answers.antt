use Rattle.std.proofs.Common.{◌≡◌, ◌≤◌, ◌∙◌, ap, length, count_by, sum_by, get_or, map, arith, List}
use Rattle.std.proofs.lemmas.List.{take_all}
use Rattle.std.proofs.lemmas.List.Sums.{count_by-le-length}
use Rattle.trace_file.specs.declared.step.Step.{Step}
use Rattle.sweep.specs.Runs.{asks_submit}
use Rattle.sweep.proofs.LeftLemmas.{some_fit, some_few}
use Rattle.sweep.proofs.remaining_commands.commands_asked.Goals as goal

pub overflow_add-asked : goal.overflow_add-asked
overflow_add-asked c =
    let lists = c.drivers-steps-items.result.now in
    let few : sum_by length c.args.script.now.drivers ≤ 4096 = c.drivers-steps-items.ensures.kept.few_steps in
    let most = some_fit (λ v. v.items) (λ (steps : List Step). count_by asks_submit steps) length lists c.loop-steps.steps-index c.steps-item.result 4096
    (λ steps. count_by-le-length asks_submit steps) (rw c.drivers-steps-items.ensures.same few) c.loop-steps-test.true in
    let here : c.asked_in-asked.result ≡ count_by asks_submit (get_or lists c.loop-steps.steps-index c.steps-item.result).items =
    c.asked_in-asked.ensures.same ∙ ap (count_by asks_submit) (c.deref.ensures.value ∙ ap (λ v. v.items) c.steps-item.is) in
    omega (arith, most, here, c.loop-steps.invariant)

pub returns-clause-few : goal.returns-clause-few
returns-clause-few c =
    let few : sum_by length c.args.script.now.drivers ≤ 4096 = c.drivers-steps-items.ensures.kept.few_steps in
    let same : c.loop-steps.asked ≡ sum_by (λ (steps : List Step). count_by asks_submit steps) c.args.script.now.drivers =
    c.loop-steps.invariant ∙ ap (sum_by (λ (steps : List Step). count_by asks_submit steps))
    (ap (map (λ v. v.items)) (take_all c.loop-steps.steps-index c.drivers-steps-items.result.now (omega (arith, c.loop-steps-test.false))) ∙ c.drivers-steps-items.ensures.same) in
    omega (arith, same, few, some_few (λ (steps : List Step). count_by asks_submit steps) length (λ steps. count_by-le-length asks_submit steps) c.args.script.now.drivers)
