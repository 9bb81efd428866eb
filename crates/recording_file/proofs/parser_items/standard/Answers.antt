use Rattle.std.proofs.Common.{arith}
use Rattle.record_text.proofs.ConfigLaws.{ordered_standard}
use Rattle.recording_file.specs.Sound.{IsSound}
use Rattle.recording_file.proofs.parser_items.standard.Goals as goal

pub returns-in-Ok-clause-sound : goal.returns-in-Ok-clause-sound
unfolding IsSound
returns-in-Ok-clause-sound c = rw c.in-Ok.ensures.value (c.requires, ordered_standard, omega arith)
