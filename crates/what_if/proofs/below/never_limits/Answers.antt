use Rattle.std.proofs.Common.{◌<◌, ◌∙◌, sym}
use Rattle.round_net.specs.Rows.{instance_of_rows}
use Rattle.what_if.specs.Below.{is_enough}
use Rattle.what_if.proofs.BelowLemmas.{rows_below-within, each_more, not_each}
use Rattle.what_if.proofs.below.never_limits.Goals as goal

pub is_enough-requires-clause-below : goal.is_enough-requires-clause-below
is_enough-requires-clause-below c =
    let net = instance_of_rows c.args.net.now in
    rw c.requires.below (rows_below-within net c.args.row c.requires.row)

pub returns-then-not-is_enough : goal.returns-then-not-is_enough
returns-then-not-is_enough c =
    let net = instance_of_rows c.args.net.now in
    let lt : c.loop-before.before < net.rounds = rw c.rounds-before-end.ensures.same at c.loop-before-test.true in
    rw (← c.requires.below) (sym (not_each (is_enough net c.args.below.now c.args.row) net.rounds c.loop-before.before lt (sym c.is_enough.ensures ∙ c.if-not-is_enough.true)))

pub loop-before-preserved : goal.loop-before-preserved
loop-before-preserved c = each_more (is_enough (instance_of_rows c.args.net.now) c.args.below.now c.args.row) c.loop-before.before c.loop-before.invariant (sym c.is_enough.ensures ∙ c.if-not-is_enough.false)
