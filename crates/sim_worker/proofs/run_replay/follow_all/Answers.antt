use Rattle.std.proofs.Common.{◌∙◌, sym, subst, inr}
use Rattle.sim_worker.specs.LiveRuns.{IsLiveEnding}
use Rattle.sim_worker.specs.Walks.{AreOn, ArePlaced}
use Rattle.sim_worker.proofs.PassLemmas.{followed, followed_to}
use Rattle.sim_worker.proofs.run_replay.follow_all.Goals as goal

pub returns-in-Some-clause-followed : goal.returns-in-Some-clause-followed
returns-in-Some-clause-followed c = followed c.args.script.now c.args.events.now c.args.logs.now c.pass.new.walks c.pass.new.xpt c.in-Some.stated (c.in_ok-pass.ensures.len ∙ c.requires.same) c.in_ok-pass.ensures.passed c.events-events.ensures.legal c.in-Some.ensures.some

pub ending-requires-clause-on : goal.ending-requires-clause-on
ending-requires-clause-on c = let passed = c.in_ok-pass.ensures.passed in subst (λ es. AreOn c.args.script.now c.args.logs.now es c.pass.new.walks) (sym passed.1) passed.2

pub ending-requires-clause-placed : goal.ending-requires-clause-placed
ending-requires-clause-placed c = subst (ArePlaced c.args.logs.now) (sym c.in_ok-pass.ensures.passed.1) c.requires.placed

pub returns-in-None-clause-failed : goal.returns-in-None-clause-failed
returns-in-None-clause-failed c = inr (
  c.saturating_sub.ensures,
  record {
    whole = followed_to c.args.script.now c.args.events.now c.args.logs.now c.pass.new.walks c.pass.new.xpt (c.in_ok-pass.ensures.len ∙ c.requires.same) c.in_ok-pass.ensures.passed c.events-events.ensures.legal;
    not_over = λ stated over. c.in-None.ensures.none stated (subst (λ es. IsLiveEnding c.args.script.now es c.args.logs.now stated) (sym c.in_ok-pass.ensures.passed.1) over);
  },
)
