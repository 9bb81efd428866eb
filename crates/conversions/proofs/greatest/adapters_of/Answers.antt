use Rattle.std.proofs.Common.{◌≡◌, None, ap, ◌∙◌, arith, length}
use Rattle.cam_types.specs.Topology.{Topology}
use Rattle.cam_types.proofs.ConfigLemmas.{few_adapters}
use Rattle.conversions.proofs.GreatestLemmas.{adapters_more}
use Rattle.conversions.proofs.greatest.adapters_of.Goals as goal

pub greatest-requires-clause-part : goal.greatest-requires-clause-part
greatest-requires-clause-part c = omega (arith, c.loop-number-test.true, ap length c.adapters-adapter-items.ensures.same, few_adapters _ c.adapters-adapter-items.ensures.kept)

pub loop-number-preserved : goal.loop-number-preserved
loop-number-preserved c =
    let r = c.args.recording.now in
    let same : c.adapters-adapter-items.result.now ≡ r.config.adapters = c.adapters-adapter-items.ensures.same ∙ ap (λ (t : Topology). t.adapters) c.config.ensures.same in
    let pushed = rw same at c.in_ok-push.ensures.items in
    adapters_more r r.config.adapters c.loop-number.number c.greatest.result (record { openings = 0; link = None }) c.loop-number.adapters.items c.push.new.self.items (omega (arith, c.loop-number-test.true, ap length same)) c.loop-number.invariant c.greatest.ensures pushed
