use Rattle.std.proofs.Common.{◌≡◌, ◌+◌, ◌-◌, length, take, drop, ap, ◌∙◌, arith, length-drop}
use Rattle.std.proofs.lemmas.List.{take_all}
use Rattle.conversions.specs.Answers.{sent_outcome}
use Rattle.conversions.proofs.ServedLemmas.{outcomes_more, outcomes_all}
use Rattle.conversions.proofs.answers.served.Goals as goal

pub loop-at-preserved : goal.loop-at-preserved
loop-at-preserved c =
    let es = c.args.events.now in
    let k = c.loop-at.at + 1 in
    let rest : take (length es - k) (drop k es) ≡ drop k es = take_all (length es - k) (drop k es) (omega (arith, length-drop k es)) in
    outcomes_more c.args.lane es c.loop-at.at c.index-events-at.result c.loop-at.outcomes.items c.add.new.outcomes.items c.sent_outcome.result
    c.loop-at-test.true c.index-events-at.is c.loop-at.invariant (c.sent_outcome.ensures ∙ ap (sent_outcome c.args.lane c.index-events-at.result) rest) c.in_ok-add.ensures

pub returns : goal.returns
returns c = outcomes_all c.args.lane c.args.events.now c.loop-at.at c.loop-at.outcomes.items c.loop-at-test.false c.loop-at.invariant
