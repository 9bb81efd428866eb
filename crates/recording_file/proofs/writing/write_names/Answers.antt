use Rattle.std.proofs.Common.{arith, sym}
use Rattle.recording_file.specs.Records.{name_row}
use Rattle.record_text.proofs.WritingLemmas.{wrote_more, wrote_none}
use Rattle.recording_file.proofs.writing.write_names.Goals as goal

pub loop-name-init : goal.loop-name-init
loop-name-init c = wrote_none c.args.writer.now c.requires

pub loop-name-preserved : goal.loop-name-preserved
loop-name-preserved c =
    let items = c.args.names.now in
    let i = c.loop-name.name-index in
    wrote_more c.args.writer.now c.loop-name.writer c.write_name.new.writer name_row items i c.name-item.result (omega arith) (sym c.name-item.is) c.loop-name.invariant c.in_ok-write_name.ensures
