use Rattle.std.proofs.Common.{◌∙◌, sym, Some, None, refl}
use Rattle.sim_worker.proofs.RestLemmas.{rests_held_up}
use Rattle.sim_worker.proofs.TickLemmas.{not_held_up}
use Rattle.sim_worker.proofs.run_replay.may_recovery_rest.Goals as goal

pub returns-in-Some : goal.returns-in-Some
returns-in-Some c = record {
  yes = λ is s of. rests_held_up s c.args.xpt.now (Some c.in-Some.case) of (sym c.next_case.ensures ∙ c.in-Some.is) (sym c.is_held_up.ensures ∙ is);
  no = λ free s of sofar rest. not_held_up s c.args.xpt.now c.in-Some.case of (sym c.next_case.ensures ∙ c.in-Some.is) (sym c.is_held_up.ensures ∙ free) sofar rest;
}

pub returns-in-None-clause-yes : goal.returns-in-None-clause-yes
returns-in-None-clause-yes c = λ is s of. rests_held_up s c.args.xpt.now None of (sym c.next_case.ensures ∙ c.in-None.is) refl
