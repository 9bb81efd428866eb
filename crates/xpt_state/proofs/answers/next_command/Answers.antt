use Rattle.std.proofs.Common.{length, ap, sym, subst, ◌<◌, ◌∙◌, option_map}
use Rattle.xpt_state.specs.Words.{next, next_of, Transport}
use Rattle.xpt_state.proofs.NextLemmas.{free_lane_within, turn_free}
use Rattle.xpt_state.proofs.answers.next_command.Goals as goal

pub next-requires : goal.next-requires
next-requires c =
    let t = c.args.state.now in
    subst (λ (x : Transport). c.lane_adapter-adapter.result < length x.config.adapters) (sym c.queues.ensures) (free_lane_within t c.args.lane _ c.lane_adapter-adapter.ensures.kept c.lane_adapter-adapter.ensures.same c.requires)

pub idle-requires-clause-adapter : goal.idle-requires-clause-adapter
idle-requires-clause-adapter c =
    free_lane_within c.args.state.now c.args.lane _ c.lane_adapter-adapter.ensures.kept c.lane_adapter-adapter.ensures.same c.requires

pub returns-in-Some-clause-ok : goal.returns-in-Some-clause-ok
returns-in-Some-clause-ok c =
    let t = c.args.state.now in
    turn_free t c.args.lane c.in-Some.next c.requires
    (sym c.in-Some.is ∙ c.next.ensures ∙ ap (λ (x : Transport). option_map next_of (next x.config x.events c.lane_adapter-adapter.result)) c.queues.ensures
    ∙ ap (λ a. option_map next_of (next t.config t.events a)) c.lane_adapter-adapter.ensures.same)
