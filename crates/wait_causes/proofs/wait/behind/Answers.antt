use Rattle.std.proofs.Common.{◌+◌, List, subst, sym, ◌∙◌}
use Rattle.wait_causes.specs.Waits.{AreBegun, Wait}
use Rattle.wait_causes.proofs.WaitLemmas.{begun_joined, begun_next}
use Rattle.wait_causes.proofs.wait.behind.Goals as goal

pub returns-then-is : goal.returns-then-is
returns-then-is c = λ f first n is at b. begun_joined f first n c.args.waits.now.items c.args.wait c.args.cause c.args.round is at (sym c.is.ensures ∙ c.if-is.true) b

pub returns : goal.returns
returns c = λ f first n is at b.
    subst (λ (ws : List Wait). AreBegun f first (n + 1) ws c.begun.result) (sym c.in_ok-push.ensures.items)
    (begun_next f first n c.args.waits.now.items c.args.wait c.begun.result c.args.cause c.args.round c.begun.ensures is at (sym c.is.ensures ∙ c.if-is.false) b)
