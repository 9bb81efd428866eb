use Rattle.std.proofs.Common.{ap, arith, length}
use Rattle.cam_types.specs.Topology.{Topology}
use Rattle.cam_types.proofs.ConfigLemmas.{few_links}
use Rattle.conversions.proofs.GreatestLemmas.{links_more}
use Rattle.conversions.proofs.greatest.links_of.Goals as goal

pub greatest-requires-clause-part : goal.greatest-requires-clause-part
greatest-requires-clause-part c = omega (arith, c.loop-number-test.true, ap length c.links-number-end.ensures.same, few_links _ c.links-number-end.ensures.kept)

pub loop-number-preserved : goal.loop-number-preserved
loop-number-preserved c =
    let r = c.args.recording.now in
    let len = ap length c.links-number-end.ensures.same in
    let links = ap (λ (t : Topology). length t.links) c.config.ensures.same in
    links_more r r.config.links c.loop-number.number c.greatest.result c.loop-number.links.items c.push.new.self.items (omega (arith, c.loop-number-test.true, len, links)) c.loop-number.invariant c.greatest.ensures c.in_ok-push.ensures.items
