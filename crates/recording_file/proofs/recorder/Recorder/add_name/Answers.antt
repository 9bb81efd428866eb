use Rattle.recording_file.proofs.PlacingLemmas.{name_kept}
use Rattle.recording_file.proofs.recorder.Recorder.add_name.Goals as goal

pub invariant_of-self : goal.invariant_of-self
invariant_of-self c = name_kept _ _ c.args.name _ _ c.self.invariant (rw (← c.self.view_is) at c.requires) c.push.ensures.items
