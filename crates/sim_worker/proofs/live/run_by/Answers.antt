use Rattle.std.proofs.Common.{◌≡◌, ◌∙◌, length, map, sym, ap}
use Rattle.std.proofs.lemmas.List.{length-map}
use Rattle.std.specs.List.{range_with_len}
use Rattle.sim_worker.proofs.PortLemmas.{as_handed}
use Rattle.sim_worker.proofs.live.run_by.Goals as goal

pub returns-clause-ports : goal.returns-clause-ports
returns-clause-ports g c =
    let in_order = map (λ p. g.P.Port.answers p) c.args.ports.items in
    let count : length c.args.script.now.config.lanes ≡ length in_order = sym c.requires.ports ∙ sym (length-map c.args.ports.items (λ p. g.P.Port.answers p)) in
    let same : map (λ lane. g.H.Handed.answers lane) (range_with_len 0 (length c.args.script.now.config.lanes)) ≡ in_order = ap (λ n. map (λ lane. g.H.Handed.answers lane) (range_with_len 0 n)) count ∙ as_handed (λ lane. g.H.Handed.answers lane) in_order c.requires.handed in
    rw (← same) c.finish.ensures.ports
