use Rattle.std.proofs.Common.{◌≡◌, ◌≤◌, length, take, count_by, sum_by}
use Rattle.conversions.specs.Answers.{is_other}
use Rattle.conversions.proofs.answers.others.Given as goal

-- how many there are so far
abbrev pub invariant-loop-outcomes : goal.invariant-loop-outcomes
invariant-loop-outcomes l = record {
  count : l.count ≡ sum_by (λ x. count_by is_other x.items) (take l.outcomes-index l.answers);
  few : l.count ≤ sum_by (λ x. length x.items) (take l.outcomes-index l.answers);
}
