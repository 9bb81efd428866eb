use Rattle.std.proofs.Common.{◌<◌, ◌∙◌, refl, sym, ap, subst, length, arith, slice_get}
use Rattle.sim_worker.specs.Words.{Send, Transport, lane_adapter, lane_refused, idle, has_head, IsTaken, IsSent}
use Rattle.sim_worker.specs.Endings.{IsDrained}
use Rattle.sim_worker.proofs.DrainLemmas.{left_to_send}
use Rattle.sim_worker.specs.Work.{Work, Lane}
use Rattle.sim_worker.proofs.CaseLemmas.{lane_full, never_idle, send_grounded}
use Rattle.sim_worker.proofs.LeftLemmas.{left-event}
use Rattle.sim_worker.proofs.RunListFacts.{get_is, some_is, there_is}
use Rattle.sim_worker.proofs.StepLemmas.{send_step}
use Rattle.sim_worker.proofs.TurnLemmas.{at_limit, room_for}
use Rattle.sim_worker.proofs.sim.Sim.send.Goals as goal

pub returns-in_default-clause-ending : goal.returns-in_default-clause-ending
returns-in_default-clause-ending c =
    let there = ap (λ (w : Work). slice_get w.lanes c.args.lane) c.self.view_is ∙ c.requires.there in
    let lt = there_is c.self.inside.lanes.items c.args.lane c.requires.worker there in
    let seen = get_is c.self.inside.lanes.items c.args.lane c.index.result.now lt c.index.ensures in
    let number = (c.self.invariant.lanes c.args.lane c.index.result.now seen).number in
    let head = ap (λ (w : Work). has_head w.transport.config w.transport.events c.args.lane) c.self.view_is ∙ c.requires.head in (
      (λ drained. left_to_send c.self.inside.xpt.config c.self.inside.xpt.events c.args.lane head (subst (λ (t : Transport). IsDrained c.self.inside.script.now t.events) c.in_default.ensures.1 drained).quiet.sent),
      ap (λ t. length t.events) c.in_default.ensures.1 ∙ at_limit _ c.self.invariant (lane_full c.self.inside.xpt c.args.lane _ head (ap (lane_refused c.self.inside.xpt) (sym number) ∙ c.in_default.ensures.0)),
    )

pub unreachable-requires : goal.unreachable-requires
unreachable-requires c =
    let there = ap (λ (w : Work). slice_get w.lanes c.args.lane) c.self.view_is ∙ c.requires.there in
    let lt = there_is c.self.inside.lanes.items c.args.lane c.requires.worker there in
    let seen = get_is c.self.inside.lanes.items c.args.lane c.index.result.now lt c.index.ensures in
    let number = (c.self.invariant.lanes c.args.lane c.index.result.now seen).number in
    let head = ap (λ (w : Work). has_head w.transport.config w.transport.events c.args.lane) c.self.view_is ∙ c.requires.head in
    let idle_so = subst (λ x. IsSent c.self.inside.xpt c.index.result.now.number c.send_next.new.self x) c.in_default-sent.is c.in-Ok.ensures.1 in
    never_idle c.self.inside.xpt.config c.self.inside.xpt.events c.args.lane _ head (ap (λ n. idle c.self.inside.xpt.config c.self.inside.xpt.events (lane_adapter c.self.inside.xpt.config n)) (sym number) ∙ idle_so.0)

pub index_mut-worker-requires : goal.index_mut-worker-requires
index_mut-worker-requires c =
    let there = ap (λ (w : Work). slice_get w.lanes c.args.lane) c.self.view_is ∙ c.requires.there in
    omega (arith, there_is c.self.inside.lanes.items c.args.lane c.requires.worker there, c.self.inside.lanes.ok.0)

pub serve-requires : goal.serve-requires
serve-requires c =
    let there = ap (λ (w : Work). slice_get w.lanes c.args.lane) c.self.view_is ∙ c.requires.there in
    let here = get_is c.self.inside.lanes.items c.args.lane c.index_mut-worker.result.now (there_is c.self.inside.lanes.items c.args.lane c.requires.worker there) c.index_mut-worker.ensures.value in
    subst (λ (w : Lane). 0 < w.port.room) (some_is _ _ (sym there ∙ here)) c.requires.room

pub invariant_of-self-2 : goal.invariant_of-self-2
invariant_of-self-2 c =
    let there = ap (λ (w : Work). slice_get w.lanes c.args.lane) c.self.view_is ∙ c.requires.there in
    let lt = there_is c.self.inside.lanes.items c.args.lane c.requires.worker there in
    let seen = get_is c.self.inside.lanes.items c.args.lane c.index.result.now lt c.index.ensures in
    let number = (c.self.invariant.lanes c.args.lane c.index.result.now seen).number in
    let head = ap (λ (w : Work). has_head w.transport.config w.transport.events c.args.lane) c.self.view_is ∙ c.requires.head in
    let here = get_is c.self.inside.lanes.items c.args.lane c.index_mut-worker.result.now lt c.index_mut-worker.ensures.value in
    let is = some_is c.index_mut-worker.result.now c.requires.worker (sym here ∙ there) in
    let sent = subst (λ x. IsSent c.self.inside.xpt c.index.result.now.number c.send_next.new.self x) c.in-Command.is c.in-Ok.ensures.1 in
    let taken : IsTaken c.self.inside.xpt (Send c.args.lane c.in-Command.command.ccb) c.send_next.new.self = subst (λ n. IsTaken c.self.inside.xpt (Send n c.in-Command.command.ccb) c.send_next.new.self) number sent.0 in
    send_step c.self.inside.script.now c.self.inside.xpt c.send_next.new.self c.self.inside.drivers.items c.self.inside.lanes.items c.self.inside.refused c.args.lane c.in-Command.command.ccb c.index_mut-worker.result.now _ (record { command = c.in-Command.command; outcome = c.serve.result })
    (send_grounded c.self.inside.xpt c.args.lane c.in-Command.command.ccb c.self.invariant.legal taken.0) here (ap (λ (w : Lane). w.hand) is ∙ c.requires.empty) refl c.serve.ensures.answers c.serve.ensures.list c.serve.ensures.value refl c.serve.ensures.status taken c.self.invariant

pub returns-clause-less : goal.returns-clause-less
returns-clause-less c =
    let sent = subst (λ x. IsSent c.self.inside.xpt c.index.result.now.number c.send_next.new.self x) c.in-Command.is c.in-Ok.ensures.1 in
    left-event c.self.inside.script.now c.self.inside.xpt c.send_next.new.self c.self.inside.drivers.items c.self.inside.drivers.items c.self.inside.lanes.items _ c.self.inside.refused c.self.inside.refused (Send c.index.result.now.number c.in-Command.command.ccb) c.args.self.now c.self.view_is
    sent.0 (room_for c.self.inside.xpt (Send c.index.result.now.number c.in-Command.command.ccb) sent.0.0) c.self.invariant.eight
