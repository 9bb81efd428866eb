use Rattle.recording_file.proofs.PlacingLemmas.{cap_kept}
use Rattle.recording_file.proofs.recorder.Recorder.add_cap.Goals as goal

pub invariant_of-self : goal.invariant_of-self
invariant_of-self c = cap_kept _ _ _ c.args.cap _ _ c.self.invariant (rw (← c.self.view_is) at c.requires.next) (rw (← c.self.view_is) at c.requires.first) c.clear.ensures.items c.push.ensures.items
