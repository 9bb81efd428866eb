use Rattle.std.proofs.Common.{◌≡◌, [], map, replicate}
use Rattle.conversions.proofs.recording_script.no_answers.Given as goal

abbrev pub invariant-loop : goal.invariant-loop
invariant-loop l = map (λ x. x.items) l.answers.items ≡ replicate l.counter []
