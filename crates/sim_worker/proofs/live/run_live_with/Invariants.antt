use Rattle.std.proofs.Common.{[], get_or, map}
use Rattle.sim_worker.proofs.live.run_live_with.Given as goal

abbrev pub ghosts-run_by-L-Ledger : goal.ghosts-run_by-L-Ledger
ghosts-run_by-L-Ledger g a = record { name = a.blank.name; parts = a.blank.parts }

abbrev pub ghosts-run_by-H-Handed : goal.ghosts-run_by-H-Handed
ghosts-run_by-H-Handed g a = record { answers = λ lane. get_or (map (λ p. g.P.Port.answers p) a.ports.items) lane [] }
