use Rattle.std.proofs.Common.{◌≡◌, length, map}
use Rattle.std.specs.List.{range_with_len}
use Rattle.sim_worker.proofs.handed.hand_back.Given as goal

abbrev pub invariant-loop-one : goal.invariant-loop-one
invariant-loop-one g l = map (λ p. g.P.Port.answers p) l.ports.items ≡ map (λ lane. g.H.Handed.answers lane) (range_with_len 0 (length l.ports.items))
