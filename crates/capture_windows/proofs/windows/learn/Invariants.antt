use Rattle.capture_windows.proofs.KnownLemmas.{Learnt}
use Rattle.capture_windows.proofs.windows.learn.Given as goal

abbrev pub invariant-loop-number : goal.invariant-loop-number
invariant-loop-number l = Learnt l.fn.devices l.devices l.rooms l.number
