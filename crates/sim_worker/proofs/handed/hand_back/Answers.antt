use Rattle.std.proofs.Common.{◌≡◌, ◌∙◌, length, map, ap, arith}
use Rattle.std.specs.List.{range_with_len}
use Rattle.sim_worker.proofs.PortLemmas.{answers_more}
use Rattle.sim_worker.proofs.handed.hand_back.Goals as goal

pub loop-one-preserved : goal.loop-one-preserved
loop-one-preserved g c =
    let at : c.in-Some.one.lane ≡ length c.loop-one.ports.items = omega (arith, c.if-lane-len.false, c.len.ensures, c.loop-one.ports.ok.0) in
    rw (c.in-Ok.ensures.items) (answers_more (λ p. g.P.Port.answers p) (λ lane. g.H.Handed.answers lane) c.loop-one.ports.items c.in-Some.one.port c.in-Some.one.lane at c.in-Some.one.same c.loop-one.invariant)

pub returns-clause-ports : goal.returns-clause-ports
returns-clause-ports g c =
    let all : length c.loop-one.ports.items ≡ c.args.count = omega (arith, c.if-len-count.false, c.len-2.ensures, c.loop-one.ports.ok.0) in
    c.loop-one.invariant ∙ ap (λ n. map (λ lane. g.H.Handed.answers lane) (range_with_len 0 n)) all
