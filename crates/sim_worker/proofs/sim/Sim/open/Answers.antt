use Rattle.std.proofs.Common.{◌≤◌, [], ◌∙◌, ap, subst}
use Rattle.sim_worker.specs.Words.{Topology, Bounds, rules_of}
use Rattle.sim_worker.proofs.OpenLemmas.{opened}
use Rattle.sim_worker.proofs.sim.Sim.open.Goals as goal

pub invariant_of-result : goal.invariant_of-result
invariant_of-result c = opened c.args.script.now _ _ _ c.drivers-drivers.ensures.kept (subst (λ (b : Bounds). 1 ≤ b.rounds) c.limits-limits.ensures c.rounds-rounds.ensures.range.some_round)
    (c.in_ok-open.ensures ∙ ap (λ (v : Topology). record { config = v; rules = rules_of c.limits-limits.result; events = [] }) (c.in_ok-config.ensures ∙ c.config.ensures) ∙ ap (λ (b : Bounds). record { config = c.args.script.now.config; rules = rules_of b; events = [] }) c.limits-limits.ensures)
    c.in_ok-first_drivers.ensures c.in_ok-first_lanes.ensures.len c.in_ok-first_lanes.ensures.fresh
