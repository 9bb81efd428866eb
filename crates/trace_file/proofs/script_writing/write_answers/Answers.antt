use Rattle.std.proofs.Common.{map, arith}
use Rattle.std.proofs.lemmas.List.{length-map}
use Rattle.trace_file.specs.declared.script_row.ScriptRow.TheVariants as row
use Rattle.trace_file.proofs.ScriptRules.{items_at}
use Rattle.trace_file.proofs.WritingLemmas.{fits_list, wrote_list}
use Rattle.record_text.proofs.WritingLemmas.{wrote_none}
use Rattle.trace_file.proofs.script_writing.write_answers.Goals as goal

pub loop-lane-init : goal.loop-lane-init
loop-lane-init c = (wrote_none c.args.writer.now c.requires.between, tt)

pub loop-lane-preserved : goal.loop-lane-preserved
loop-lane-preserved c =
    let lists = map (λ l. l.items) c.args.answers.now in
    let i = c.loop-lane.lane in
    let kept = c.loop-lane.invariant in
    let size = length-map c.args.answers.now (λ l. l.items) in
    let at = items_at c.args.answers.now i c.index-answers-lane.result c.deref.result.now (omega (arith, c.loop-lane-test.true)) c.index-answers-lane.is c.deref.ensures.value in (
      wrote_list c.args.writer.now c.loop-lane.writer c.write_outcomes.new.writer row.Answer lists i c.deref.result.now (omega (arith, size, c.loop-lane-test.true)) at kept.0 c.in_ok-write_outcomes.ensures.rows,
      fits_list row.Answer lists i c.deref.result.now (omega (arith, size, c.loop-lane-test.true)) at kept.1 c.in_ok-write_outcomes.ensures.fits,
    )
