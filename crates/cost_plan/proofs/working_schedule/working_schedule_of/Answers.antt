use Rattle.std.proofs.Common.{◌≡◌, ℕ, List, true, false, refl, subst}
use Rattle.round_net.specs.Rows.{instance_of_rows}
use Rattle.cost_plan.specs.Cells.{rounds_of}
use Rattle.cost_plan.specs.WorkingSchedule.{KeepWindows}
use Rattle.cost_plan.proofs.LoadLemmas.{IsAdmissible-kept, KeepResources-admissible}
use Rattle.cost_plan.proofs.working_schedule.working_schedule_of.Goals as goal

pub returns-then-not-keep_caps-clause-none : goal.returns-then-not-keep_caps-clause-none
returns-then-not-keep_caps-clause-none c = λ ok.
    let net = instance_of_rows c.args.net.now in
    let never : false ≡ true = c.if-not-keep_caps.ensures.1 (KeepResources-admissible net (rounds_of c.args.rounds.items) ok) in
    cc

pub returns-clause-admissible : goal.returns-clause-admissible
returns-clause-admissible c =
    let net = instance_of_rows c.args.net.now in
    let windows = subst (λ (rounds : List ℕ). KeepWindows net (rounds_of rounds) net.stays) c.deref.ensures.value (c.if-not-keep_windows.ensures.exact.0 refl) in
    IsAdmissible-kept net (rounds_of c.args.rounds.items) windows (c.if-not-keep_caps.ensures.0 refl)
