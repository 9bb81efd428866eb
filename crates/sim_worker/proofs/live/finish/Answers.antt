use Rattle.std.proofs.Common.{◌≡◌, ◌∙◌, ℕ, List, length, map, ap}
use Rattle.std.specs.List.{range_with_len}
use Rattle.sim_worker.specs.Words.{Topology}
use Rattle.sim_worker.proofs.live.finish.Goals as goal

pub returns-in-Ok-judged-clause-ports : goal.returns-in-Ok-judged-clause-ports
returns-in-Ok-judged-clause-ports g c =
    let count : length c.lanes.result.now ≡ length c.args.script.now.config.lanes = ap (λ (ls : List ℕ). length ls) c.lanes.ensures.same ∙ ap (λ (t : Topology). length t.lanes) c.config.ensures in
    rw (c.in-Ok-judged.ensures.ports) (c.in-Ok.ensures.ports ∙ ap (λ n. map (λ lane. g.H.Handed.answers lane) (range_with_len 0 n)) count)
