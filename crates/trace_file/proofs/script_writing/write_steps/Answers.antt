use Rattle.std.proofs.Common.{◌≡◌, true, arith, sym}
use Rattle.trace_file.specs.Scenarios.{is_ruled, Step}
use Rattle.trace_file.specs.ScriptWriting.{step_row}
use Rattle.trace_file.proofs.WritingLemmas.{fits_row, ruled_at, wrote_row}
use Rattle.record_text.proofs.WritingLemmas.{wrote_none}
use Rattle.trace_file.proofs.script_writing.write_steps.Goals as goal

pub loop-step-init : goal.loop-step-init
loop-step-init c = (wrote_none c.args.writer.now c.requires.between, tt)

pub step_row-row-requires : goal.step_row-row-requires
step_row-row-requires c =
    ruled_at (λ (one : Step). is_ruled c.args.config.now c.args.driver one ≡ true) c.args.steps.now c.loop-step.step-index c.step-item.result (omega arith) (sym c.step-item.is) c.requires.ruled

pub write_script_row-requires-clause-between : goal.write_script_row-requires-clause-between
write_script_row-requires-clause-between c = c.loop-step.invariant.0.between

pub loop-step-preserved : goal.loop-step-preserved
loop-step-preserved c =
    let steps = c.args.steps.now in
    let i = c.loop-step.step-index in
    let kept = c.loop-step.invariant in
    let step = c.step-item.result in
    let row = step_row c.args.config.now c.args.driver in
    let rows = rw c.step_row-row.ensures.row at c.in_ok-write_script_row.ensures.rows in
    let fits = rw c.step_row-row.ensures.row at c.write_script_row.ensures.fits in (
      wrote_row c.args.writer.now c.loop-step.writer c.write_script_row.new.writer row steps i step (omega arith) (sym c.step-item.is) kept.0 rows,
      fits_row row steps i step (omega arith) (sym c.step-item.is) kept.1 fits,
    )
