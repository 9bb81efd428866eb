use Rattle.std.proofs.Common.{arith}
use Rattle.std.proofs.lemmas.List.{get_or_default}
use Rattle.record_text.specs.ConfigRows.{weight_row}
use Rattle.record_text.proofs.WritingLemmas.{wrote_more, wrote_none}
use Rattle.record_text.proofs.config_writer.write_weights.Goals as goal

pub loop-row-init : goal.loop-row-init
loop-row-init c = wrote_none c.args.writer.now c.requires

pub loop-row-preserved : goal.loop-row-preserved
loop-row-preserved c =
    let items = c.args.weights.now in
    let i = c.loop-row.row-index in
    wrote_more c.args.writer.now c.loop-row.writer c.write_two.new.writer weight_row items i _ (omega arith) (get_or_default items i _ _ (omega arith)) c.loop-row.invariant c.in_ok-write_two.ensures
