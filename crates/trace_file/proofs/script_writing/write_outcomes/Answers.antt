use Rattle.std.proofs.Common.{arith, sym}
use Rattle.trace_file.specs.declared.script_row.ScriptRow.TheVariants as row
use Rattle.trace_file.proofs.WritingLemmas.{fits_row, wrote_row}
use Rattle.record_text.proofs.WritingLemmas.{wrote_none}
use Rattle.trace_file.proofs.script_writing.write_outcomes.Goals as goal

pub loop-outcome-init : goal.loop-outcome-init
loop-outcome-init c = (wrote_none c.args.writer.now c.requires, tt)

pub write_script_row-requires-clause-between : goal.write_script_row-requires-clause-between
write_script_row-requires-clause-between c = c.loop-outcome.invariant.0.between

pub loop-outcome-preserved : goal.loop-outcome-preserved
loop-outcome-preserved c =
    let outcomes = c.args.outcomes.now in
    let i = c.loop-outcome.outcome-index in
    let kept = c.loop-outcome.invariant in
    let outcome = c.outcome-item.result in (
      wrote_row c.args.writer.now c.loop-outcome.writer c.write_script_row.new.writer (row.Answer c.args.lane) outcomes i outcome (omega arith) (sym c.outcome-item.is) kept.0 c.in_ok-write_script_row.ensures.rows,
      fits_row (row.Answer c.args.lane) outcomes i outcome (omega arith) (sym c.outcome-item.is) kept.1 c.write_script_row.ensures.fits,
    )
