use Rattle.std.proofs.Common.{arith}
use Rattle.xpt_core.proofs.CcbLemmas.{cases_in, few_cases}
use Rattle.xpt_core.proofs.state.State.case_count.Goals as goal

pub returns : goal.returns
returns c = omega (arith, c.len.ensures, c.self.inside.ccbs.cases.ok.0, cases_in c.self.inside.queues c.self.inside.ccbs c.self.invariant.ccbs c.args.self.now c.self.view_is)

pub overflow_cast-result : goal.overflow_cast-result
overflow_cast-result c = omega (arith, c.len.ensures, few_cases c.self.inside.queues c.self.inside.ccbs c.self.invariant.ccbs c.args.self.now c.self.view_is)
