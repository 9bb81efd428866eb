use Rattle.record_text.proofs.WritingLemmas.{wrote_none}
use Rattle.recording_file.proofs.writing.write_unit.Goals as goal

pub returns-in-None-clause-rows : goal.returns-in-None-clause-rows
returns-in-None-clause-rows c = rw c.in-None.is (wrote_none c.args.writer.now c.requires)
