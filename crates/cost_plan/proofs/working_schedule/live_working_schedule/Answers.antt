use Rattle.std.proofs.Common.{ℕ, ap, subst, arith, get_or, List}
use Rattle.round_net.specs.Rows.{instance_of_rows, live_of_rows}
use Rattle.cost_plan.specs.Cells.{rounds_of}
use Rattle.cost_plan.specs.WorkingSchedule.{AreLoads}
use Rattle.cost_plan.proofs.LoadLemmas.{IsAdmissible-same}
use Rattle.cost_plan.proofs.working_schedule.live_working_schedule.Goals as goal

pub loads_of-requires-clause-within : goal.loads_of-requires-clause-within
loads_of-requires-clause-within c = λ s less.
    let sound = c.in_ok-rounds.ensures.sound in
    let sent = c.in_ok-rounds.ensures.live s less in
    let late = sound.live_admissible.not_late s less in
    let last = sound.to_last s less in
    omega (arith, ap (λ (rounds : List ℕ). get_or rounds s 0) c.deref.ensures.value)

pub returns-clause-working : goal.returns-clause-working
returns-clause-working c =
    let net = instance_of_rows c.args.net.now in
    record {
      long = c.in_ok-rounds.ensures.len;
      within = λ s less.
          let sound = c.in_ok-rounds.ensures.sound in
          let sent = c.in_ok-rounds.ensures.live s less in
          let late = sound.live_admissible.not_late s less in
          let last = sound.to_last s less in
          omega arith;
      loads_are = subst (λ (rounds : List ℕ). AreLoads net (rounds_of rounds) net.stays c.in_ok-loads.loads.items) c.deref.ensures.value c.in_ok-loads.ensures;
    }

pub returns-clause-admissible : goal.returns-clause-admissible
returns-clause-admissible c =
    let net = instance_of_rows c.args.net.now in
    IsAdmissible-same net (live_of_rows c.args.net.now) (rounds_of c.in_ok-rounds.rounds.items) c.in_ok-rounds.ensures.live c.in_ok-rounds.ensures.sound.live_admissible
