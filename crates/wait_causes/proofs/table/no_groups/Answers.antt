use Rattle.std.proofs.Common.{◌≡◌, arith, []}
use Rattle.wait_causes.specs.Tables.{stays_of}
use Rattle.wait_causes.specs.declared.table.Grouping.TheVariants.{Device}
use Rattle.wait_causes.proofs.CountingLemmas.{lists_more}
use Rattle.wait_causes.proofs.table.no_groups.Goals as goal

pub loop-number-preserved : goal.loop-number-preserved
loop-number-preserved c = lists_more (stays_of Device []) c.loop-number._number c.loop-number.groups.items c.push.new.self.items c.new.result c.loop-number.invariant c.in_ok-push.ensures.items c.new.ensures.items

pub returns : goal.returns
returns c = λ by.
    let all : c.loop-number._number ≡ c.args.count = omega (arith, c.loop-number-test.false, c.loop-number.auto._number-end) in
    rw all at c.loop-number.invariant
