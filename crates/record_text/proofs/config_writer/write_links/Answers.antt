use Rattle.std.proofs.Common.{arith, get_or}
use Rattle.std.proofs.lemmas.List.{get_or_default}
use Rattle.record_text.specs.ConfigRows.{link_row}
use Rattle.record_text.proofs.WritingLemmas.{wrote_more, wrote_none}
use Rattle.record_text.proofs.config_writer.write_links.Goals as goal

pub loop-openings-init : goal.loop-openings-init
loop-openings-init c = wrote_none c.args.writer.now c.requires

pub loop-openings-preserved : goal.loop-openings-preserved
loop-openings-preserved c =
    let items = c.args.links.now in
    let i = c.loop-openings.openings-index in
    wrote_more c.args.writer.now c.loop-openings.writer c.write_one.new.writer link_row items i (get_or items i 0) (omega arith) (get_or_default items i (get_or items i 0) 0 (omega arith)) c.loop-openings.invariant c.in_ok-write_one.ensures
