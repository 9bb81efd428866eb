use Rattle.std.proofs.Common.{length, ap, sym, subst, ◌≤◌, ◌∙◌, is_some, option_map, le-ltb}
use Rattle.xpt_state.specs.Words.{Topology, next, next_of, Transport}
use Rattle.xpt_state.proofs.NextLemmas.{head_where_next, no_head}
use Rattle.xpt_state.proofs.questions.has_head.Goals as goal

pub returns-then-adapter-adapter_count : goal.returns-then-adapter-adapter_count
returns-then-adapter-adapter_count c =
    c.is_some.ensures ∙ ap is_some (c.next.ensures ∙ ap (λ (t : Transport). option_map next_of (next t.config t.events c.args.adapter)) c.queues.ensures)
    ∙ head_where_next c.args.state.now.config c.args.state.now.events c.args.adapter

pub returns-else-adapter-adapter_count : goal.returns-else-adapter-adapter_count
returns-else-adapter-adapter_count c =
    let there = c.adapters-adapter_count.ensures.same ∙ ap (λ (g : Topology). g.adapters) c.config.ensures in
    let past = subst (λ as'. length as' ≤ c.args.adapter) there c.if-adapter-adapter_count.false in
    le-ltb c.args.adapter _ c.if-adapter-adapter_count.false ∙ sym (no_head c.args.state.now.config c.args.state.now.events c.args.adapter past)
