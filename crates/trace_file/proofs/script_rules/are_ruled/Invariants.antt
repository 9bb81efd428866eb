use Rattle.std.proofs.Common.{◌≡◌, ◌<◌, ℕ, true, [], get_or, map}
use Rattle.std.specs.List.{list_all}
use Rattle.trace_file.specs.Scenarios.{is_ruled}
use Rattle.trace_file.proofs.script_rules.are_ruled.Given as goal

abbrev pub invariant-loop-driver : goal.invariant-loop-driver
invariant-loop-driver l = (driver : ℕ) → driver < l.driver → list_all (is_ruled l.config driver) (get_or (map (λ x. x.items) l.drivers) driver []) ≡ true
