use Rattle.std.proofs.Common.{arith}
use Rattle.std.proofs.lemmas.List.{get_or_default}
use Rattle.recording_file.specs.Records.{cap_row}
use Rattle.record_text.proofs.WritingLemmas.{wrote_more, wrote_none}
use Rattle.recording_file.proofs.writing.write_caps.Goals as goal

pub loop-cap-init : goal.loop-cap-init
loop-cap-init c = wrote_none c.args.writer.now c.requires

pub loop-cap-preserved : goal.loop-cap-preserved
loop-cap-preserved c =
    let items = c.args.caps.now in
    let i = c.loop-cap.cap-index in
    wrote_more c.args.writer.now c.loop-cap.writer c.write_cap.new.writer cap_row items i _ (omega arith) (get_or_default items i _ _ (omega arith)) c.loop-cap.invariant c.in_ok-write_cap.ensures
