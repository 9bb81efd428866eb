use Rattle.std.proofs.Common.{arith}
use Rattle.std.proofs.lemmas.List.{get_or_default}
use Rattle.record_text.specs.ConfigRows.{adapter_row}
use Rattle.record_text.proofs.WritingLemmas.{wrote_more, wrote_none}
use Rattle.record_text.proofs.config_writer.write_adapters.Goals as goal

pub loop-adapter-init : goal.loop-adapter-init
loop-adapter-init c = wrote_none c.args.writer.now c.requires

pub loop-adapter-preserved : goal.loop-adapter-preserved
loop-adapter-preserved c =
    let items = c.args.adapters.now in
    let i = c.loop-adapter.adapter-index in
    wrote_more c.args.writer.now c.loop-adapter.writer c.write_adapter.new.writer adapter_row items i _ (omega arith) (get_or_default items i _ _ (omega arith)) c.loop-adapter.invariant c.in_ok-write_adapter.ensures
