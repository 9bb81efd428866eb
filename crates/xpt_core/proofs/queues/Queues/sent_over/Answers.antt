use lib.Dec.{eqb}
use Rattle.std.specs.Option.{option_eq}
use Rattle.std.proofs.Common.{◌+◌, ◌≤◌, length, Some, ap, sym, subst, ◌∙◌, arith, eqb-true}
use Rattle.xpt_core.specs.Words.{adapter_link, Topology, IsConfig, MAX_EVENTS}
use Rattle.cam_types.proofs.ConfigLemmas.{few_adapters}
use Rattle.xpt_core.specs.Transport.{Transport}
use Rattle.xpt_core.proofs.LinkLemmas.{sent_by-none, sent_by-on, sent_by-within, sent_by-off, all_sent, nothing_sent}
use Rattle.xpt_core.proofs.queues.Queues.sent_over.Goals as goal
use Rattle.xpt_core.proofs.queues.Queues.sent_over.Goals.{then-eq, else-eq}

pub returns-then-is_empty : goal.returns-then-is_empty
returns-then-is_empty c =
    let short = ap length (c.events.ensures.same ∙ ap (λ (t : Transport). t.events) c.self.view_is) in
    sym (nothing_sent c.args.self.now.config c.args.self.now.events c.args.link (omega (arith, short, eqb-true (length c.events.result.now) 0 (sym c.if-is_empty.ensures))))

pub overflow_cast-adapter-end : goal.overflow_cast-adapter-end
overflow_cast-adapter-end c = omega (arith, ap length c.adapters.ensures.same, few_adapters c.config-config.result.now c.adapters.ensures.kept)

pub loop-adapter-init : goal.loop-adapter-init
loop-adapter-init c = sym (sent_by-none c.args.self.now.config c.args.self.now.events c.args.link)

pub overflow_add-sent : goal.overflow_add-sent
overflow_add-sent c =
    let here = c.config-config.ensures ∙ ap (λ (t : Transport). t.config) c.self.view_is in
    let link = sym (ap (λ o. option_eq eqb o (Some c.args.link)) (c.adapter_link.ensures.same ∙ ap (λ (t : Topology). adapter_link t c.loop-adapter.adapter) here)) in
    let both = sent_by-on c.args.self.now.config c.args.self.now.events c.args.link c.loop-adapter.adapter c.loop-adapter.sent c.sent-sent.result c.loop-adapter.invariant (link ∙ sym c.if-eq.ensures) c.sent-sent.ensures in
    let short = ap length (c.events.ensures.same ∙ ap (λ (t : Transport). t.events) c.self.view_is) in
    let few : c.loop-adapter.sent + c.sent-sent.result ≤ MAX_EVENTS =
    sent_by-within c.args.self.now.config c.args.self.now.events c.args.link (c.loop-adapter.adapter + 1) c.loop-adapter.sent c.sent-sent.result MAX_EVENTS both (omega (arith, short, c.events.ensures.short)) in
    omega arith

pub loop-adapter-preserved : goal.loop-adapter-preserved
loop-adapter-preserved c =
    let here = c.config-config.ensures ∙ ap (λ (t : Transport). t.config) c.self.view_is in
    let link = sym (ap (λ o. option_eq eqb o (Some c.args.link)) (c.adapter_link.ensures.same ∙ ap (λ (t : Topology). adapter_link t c.loop-adapter.adapter) here)) in
    elim c.if-eq.branch [
      | then-eq w ↦ w.sent-is ∙ sent_by-on c.args.self.now.config c.args.self.now.events c.args.link c.loop-adapter.adapter c.loop-adapter.sent w.sent-sent.result c.loop-adapter.invariant (link ∙ sym w.if-eq.ensures) w.sent-sent.ensures
      | else-eq w ↦ w.sent-is ∙ sent_by-off c.args.self.now.config c.args.self.now.events c.args.link c.loop-adapter.adapter c.loop-adapter.sent c.loop-adapter.invariant (link ∙ sym w.if-eq.ensures)
    ]

pub returns : goal.returns
returns c =
    let here = c.config-config.ensures ∙ ap (λ (t : Transport). t.config) c.self.view_is in
    let many = ap length (c.adapters.ensures.same ∙ ap (λ (t : Topology). t.adapters) here) in
    all_sent c.args.self.now.config c.args.self.now.events c.args.link c.loop-adapter.adapter c.loop-adapter.sent (subst IsConfig here c.adapters.ensures.kept) c.loop-adapter.invariant
    (omega (arith, many, c.loop-adapter-test.false, c.loop-adapter.auto.adapter-end))
