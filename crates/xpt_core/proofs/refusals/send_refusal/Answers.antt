use Rattle.std.proofs.Common.{ap, sym, ◌∙◌}
use Rattle.xpt_core.specs.Words.{Topology, names_lane}
use Rattle.cam_types.proofs.LaneLemmas.{named_lane_within}
use Rattle.xpt_core.proofs.refusals.send_refusal.Goals as goal

pub turn_refusal-requires : goal.turn_refusal-requires
turn_refusal-requires c =
    named_lane_within c.args.state.now.config c.args.lane _ c.lane_adapter-adapter.ensures.kept c.lane_adapter-adapter.ensures.same
    (sym (c.names_lane.ensures ∙ ap (λ (g : Topology). names_lane g c.args.lane) c.config.ensures) ∙ c.if-not-names_lane.false)
