use Rattle.recording_file.proofs.WholeLaws.{one_recorded}
use Rattle.recording_file.proofs.reading.one_recording.Goals as goal

pub returns : goal.returns
returns c = one_recorded
