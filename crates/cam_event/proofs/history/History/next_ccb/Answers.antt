use Rattle.std.proofs.Common.{◌≡◌, ◌<◌, length, ap, sym, subst, ◌∙◌}
use Rattle.cam_types.proofs.LaneLemmas.{lane_within}
use Rattle.cam_types.specs.Topology.{Topology}
use Rattle.xpt_core.specs.Transport.{Transport}
use Rattle.cam_event.proofs.history.History.next_ccb.Goals as goal

pub next-requires : goal.next-requires
next-requires c =
    let same : c.config.result.now ≡ c.queues.result.now.config =
    c.config.ensures ∙ ap (λ (t : Transport). t.config) (c.deref.ensures ∙ sym c.deref-2.ensures ∙ sym c.queues.ensures) in
    subst (λ (g : Topology). c.in_ok-adapter.adapter < length g.adapters) same
    (lane_within c.config.result.now c.args.lane c.in_ok-adapter.adapter c.in_ok-adapter.ensures.kept (sym c.in_ok-adapter.ensures.same))
