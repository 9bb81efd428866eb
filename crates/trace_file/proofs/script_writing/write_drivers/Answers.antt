use Rattle.std.proofs.Common.{◌≡◌, true, map, arith, subst}
use Rattle.std.specs.List.{AllByRecursion}
use Rattle.std.proofs.lemmas.List.{length-map}
use Rattle.trace_file.specs.Scenarios.{is_ruled, Step}
use Rattle.trace_file.specs.ScriptWriting.{step_row}
use Rattle.trace_file.proofs.ScriptRules.{items_at}
use Rattle.trace_file.proofs.WritingLemmas.{fits_list, wrote_list}
use Rattle.record_text.proofs.WritingLemmas.{wrote_none}
use Rattle.trace_file.proofs.script_writing.write_drivers.Goals as goal

pub loop-driver-init : goal.loop-driver-init
loop-driver-init c = (wrote_none c.args.writer.now c.requires.between, tt)

pub write_steps-requires-clause-ruled : goal.write_steps-requires-clause-ruled
write_steps-requires-clause-ruled c =
    let i = c.loop-driver.driver in
    let at = items_at c.args.drivers.now i c.index-drivers-driver.result c.deref.result.now (omega (arith, c.requires.eight, c.loop-driver-test.true)) c.index-drivers-driver.is c.deref.ensures.value in
    subst (AllByRecursion (λ (one : Step). is_ruled c.args.config.now i one ≡ true)) at (c.requires.ruled i)

pub loop-driver-preserved : goal.loop-driver-preserved
loop-driver-preserved c =
    let lists = map (λ l. l.items) c.args.drivers.now in
    let i = c.loop-driver.driver in
    let kept = c.loop-driver.invariant in
    let row = step_row c.args.config.now in
    let size = length-map c.args.drivers.now (λ l. l.items) in
    let at = items_at c.args.drivers.now i c.index-drivers-driver.result c.deref.result.now (omega (arith, c.requires.eight, c.loop-driver-test.true)) c.index-drivers-driver.is c.deref.ensures.value in (
      wrote_list c.args.writer.now c.loop-driver.writer c.write_steps.new.writer row lists i c.deref.result.now (omega (arith, size, c.requires.eight, c.loop-driver-test.true)) at kept.0 c.in_ok-write_steps.ensures.rows,
      fits_list row lists i c.deref.result.now (omega (arith, size, c.requires.eight, c.loop-driver-test.true)) at kept.1 c.in_ok-write_steps.ensures.fits,
    )
