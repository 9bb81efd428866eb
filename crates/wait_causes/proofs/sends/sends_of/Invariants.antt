use Rattle.round_net.specs.Rows.{instance_of_rows, live_of_rows}
use Rattle.wait_causes.specs.Sends.{AreSends}
use Rattle.wait_causes.proofs.sends.sends_of.Given as goal

-- what the stays so far were sent
abbrev pub invariant-loop-stay : goal.invariant-loop-stay
invariant-loop-stay l = AreSends (instance_of_rows l.net) (live_of_rows l.net) l.stay l.sends.items
