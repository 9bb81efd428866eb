use Rattle.std.proofs.Common.{◌∙◌, sym}
use Rattle.capture.proofs.FaultLemmas.{priority_fault, early_fault, ended_fault, no_fault_more}
use Rattle.capture.proofs.request_faults.check_requests.Goals as goal

pub returns-then-request-gt-MAX_PRIORITY-clause-err : goal.returns-then-request-gt-MAX_PRIORITY-clause-err
returns-then-request-gt-MAX_PRIORITY-clause-err c = priority_fault c.args.requests.now c.loop-number.number _ c.loop-number-test.true c.loop-number.invariant c.if-request-gt-MAX_PRIORITY.true

pub returns-then-is_early-clause-err : goal.returns-then-is_early-clause-err
returns-then-is_early-clause-err c = early_fault c.args.requests.now c.loop-number.number _ c.loop-number-test.true c.loop-number.invariant c.if-request-gt-MAX_PRIORITY.false (sym c.is_early.ensures ∙ c.if-is_early.true)

pub returns-then-is_ended_early-clause-err : goal.returns-then-is_ended_early-clause-err
returns-then-is_ended_early-clause-err c = ended_fault c.args.requests.now c.loop-number.number _ c.loop-number-test.true c.loop-number.invariant c.if-request-gt-MAX_PRIORITY.false (sym c.is_early.ensures ∙ c.if-is_early.false) (sym c.is_ended_early.ensures ∙ c.if-is_ended_early.true)

pub loop-number-preserved : goal.loop-number-preserved
loop-number-preserved c = no_fault_more c.args.requests.now c.loop-number.number _ c.loop-number-test.true c.loop-number.invariant c.if-request-gt-MAX_PRIORITY.false (sym c.is_early.ensures ∙ c.if-is_early.false) (sym c.is_ended_early.ensures ∙ c.if-is_ended_early.false)
