use Rattle.std.proofs.Common.{◌≡◌, ◌∙◌, sym}
use Rattle.sweep.proofs.ChangeLemmas.{adapters_none, adapters_more}
use Rattle.sweep.proofs.config.changed_adapters.Goals as goal

pub loop-number-init : goal.loop-number-init
loop-number-init c = c.new-all.ensures.items ∙ sym (adapters_none c.args.changes.now)

pub loop-number-preserved : goal.loop-number-preserved
loop-number-preserved c =
    (rw c.adapter_openings.ensures at c.in_ok-push.ensures.items)
    ∙ adapters_more c.args.changes.now c.loop-number.all.items c.args.adapters.now c.loop-number.number _ c.loop-number-test.true c.loop-number.invariant
