use Rattle.std.proofs.Common.{◌≡◌, take, fold, max}
use Rattle.wait_causes.specs.Tables.{number}
use Rattle.wait_causes.proofs.table.greatest.Given as goal

abbrev pub invariant-loop-stay : goal.invariant-loop-stay
invariant-loop-stay l = l.most ≡ fold (λ n s. max n (number l.by s)) 0 (take l.stay-index l.stays)
