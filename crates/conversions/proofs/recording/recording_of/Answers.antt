use Rattle.conversions.proofs.SameNetLemmas.{same_net, same_live}
use Rattle.conversions.proofs.recording.recording_of.Goals as goal

pub returns-clause-net : goal.returns-clause-net
returns-clause-net c = rw c.in_ok-recording.ensures (same_net c.args.history.now)

pub returns-clause-live : goal.returns-clause-live
returns-clause-live c = rw c.in_ok-recording.ensures (same_live c.args.history.now)
