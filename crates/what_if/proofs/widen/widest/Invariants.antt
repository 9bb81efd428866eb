use Rattle.std.proofs.Common.{◌≡◌, take}
use Rattle.what_if.specs.Caps.{widest}
use Rattle.what_if.proofs.widen.widest.Given as goal

-- the changes so far
abbrev pub invariant-loop-change : goal.invariant-loop-change
invariant-loop-change l = l.cap ≡ widest l.net.config (take l.change-index l.own) l.most
