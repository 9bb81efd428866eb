use Rattle.std.proofs.Common.{◌≡◌, map, take, count_by, sum_by, List}
use Rattle.sweep.specs.Runs.{asks_submit}
use Rattle.trace_file.specs.declared.step.Step.{Step}
use Rattle.sweep.proofs.remaining_commands.commands_asked.Given as goal

abbrev pub invariant-loop-steps : goal.invariant-loop-steps
invariant-loop-steps l =
    l.asked ≡ sum_by (λ (steps : List Step). count_by asks_submit steps) (map (λ v. v.items) (take l.steps-index l.steps-items))
