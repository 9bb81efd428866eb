use Rattle.std.proofs.Common.{arith}
use Rattle.trace_file.proofs.ScriptRules.{items_at, not_both, ruled_more}
use Rattle.trace_file.proofs.script_rules.are_ruled.Goals as goal

pub returns-then-not-each_is_ruled-clause-broken :
    goal.returns-then-not-each_is_ruled-clause-broken
returns-then-not-each_is_ruled-clause-broken c same all =
    let at = items_at c.args.drivers.now c.loop-driver.driver c.index-drivers-driver.result c.deref.result.now (omega (arith, c.requires, c.loop-driver-test.true)) c.index-drivers-driver.is c.deref.ensures.value in
    let here = all c.loop-driver.driver (omega (arith, c.loop-driver-test.true)) in
    not_both _ _ c.each_is_ruled.ensures (rw at at here) c.if-not-each_is_ruled.true

pub loop-driver-preserved : goal.loop-driver-preserved
loop-driver-preserved c =
    let at = items_at c.args.drivers.now c.loop-driver.driver c.index-drivers-driver.result c.deref.result.now (omega (arith, c.requires, c.loop-driver-test.true)) c.index-drivers-driver.is c.deref.ensures.value in
    ruled_more c.args.config.now _ c.loop-driver.driver c.deref.result.now c.each_is_ruled.result at c.each_is_ruled.ensures c.if-not-each_is_ruled.false c.loop-driver.invariant
