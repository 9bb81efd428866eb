use Rattle.recording_file.proofs.PlacingLemmas.{caps_laid, placed_kept}
use Rattle.recording_file.specs.Requests.{OutOfMemory}
use Rattle.recording_file.proofs.recorder.Recorder.add_request.Goals as goal

pub place_request-requires-clause-caps : goal.place_request-requires-clause-caps
place_request-requires-clause-caps c = rw c.deref.ensures.value (caps_laid _ c.self.invariant.kept.head)

pub invariant_of-self : goal.invariant_of-self
invariant_of-self c =
    let e = rw c.deref.ensures.value at c.place_request.ensures.answer in
    placed_kept _ _ c.args.request _ OutOfMemory _ c.self.invariant.kept (rw (← c.self.view_is) at c.requires.few) (rw (← c.self.view_is) at c.requires.done) e c.place_request.ensures.ok c.place_request.ensures.err (rw c.deref.ensures.value at c.place_request.ensures.table)
