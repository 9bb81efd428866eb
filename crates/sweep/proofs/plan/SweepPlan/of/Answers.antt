use Rattle.std.proofs.Common.{◌≡◌, ◌≤◌, ◌*◌, length, rules, arith}
use Rattle.sweep.specs.Settings.{settings}
use Rattle.sweep.specs.Plans.{MAX_RUNS}
use Rattle.sweep.proofs.ChoiceLemmas.{have_some, settings_open}
use Rattle.sweep.proofs.plan.SweepPlan.of.Goals as goal

pub run_count-requires-clause-some : goal.run_count-requires-clause-some
run_count-requires-clause-some c = have_some c.args.config.now c.args.choices.now c.requires

pub invariant_of-result : goal.invariant_of-result
invariant_of-result c =
    let few : length (settings c.args.choices.now) * c.args.seeds ≤ MAX_RUNS = omega (arith, c.in-Some.ensures.few) in
    record {
      openings = rw c.in_ok-settings.ensures (settings_open c.args.config.now c.args.choices.now c.requires);
      some = search rules;
      few = rw c.in_ok-settings.ensures few;
    }
