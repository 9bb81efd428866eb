use Rattle.std.proofs.Common.{◌<◌, ◌∙◌, refl, sym, ap, subst, ◌||◌, is_some, IfNone}
use Rattle.xpt_state.specs.Looks.{has_head}
use Rattle.sim_worker.specs.Work.{Work, is_able, left, Lane}
use Rattle.sim_worker.specs.declared.actor.Actor.TheVariants as actors
use Rattle.sim_worker.proofs.ListFacts.{set_at}
use Rattle.sim_worker.proofs.RunListFacts.{get_is, some_is, there_is}
use Rattle.sim_worker.proofs.LeftLemmas.{left-same}
use Rattle.sim_worker.proofs.StepLemmas.{port_step}
use Rattle.sim_worker.proofs.TurnLemmas.{able_lane}
use Rattle.sim_worker.proofs.sim.Sim.serve.Goals as goal

pub invariant_of-self : goal.invariant_of-self
invariant_of-self c =
    let able = able_lane c.self.inside.xpt c.self.inside.lanes.items c.args.lane (ap (λ (w : Work). is_able w (actors.Lane c.args.lane)) c.self.view_is ∙ c.requires) in
    let here = get_is c.self.inside.lanes.items c.args.lane c.index_mut.result.now (there_is c.self.inside.lanes.items c.args.lane able.0 able.1) c.index_mut.ensures.value in
    port_step c.self.inside.script.now c.self.inside.xpt c.self.inside.drivers.items c.self.inside.lanes.items c.self.inside.refused c.args.lane c.index_mut.result.now _ here refl c.make_room.ensures.answers c.make_room.ensures.list refl c.self.invariant

pub invariant_of-self-in-None : goal.invariant_of-self-in-None
invariant_of-self-in-None c =
    let able = able_lane c.self.inside.xpt c.self.inside.lanes.items c.args.lane (ap (λ (w : Work). is_able w (actors.Lane c.args.lane)) c.self.view_is ∙ c.requires) in
    let here = get_is c.self.inside.lanes.items c.args.lane c.index_mut.result.now (there_is c.self.inside.lanes.items c.args.lane able.0 able.1) c.index_mut.ensures.value in
    port_step c.self.inside.script.now c.self.inside.xpt c.self.inside.drivers.items c.self.inside.lanes.items c.self.inside.refused c.args.lane c.index_mut.result.now _ here refl c.make_room.ensures.answers c.make_room.ensures.list refl c.self.invariant

pub send-requires : goal.send-requires
send-requires c =
    let able = able_lane c.self.inside.xpt c.self.inside.lanes.items c.args.lane (ap (λ (w : Work). is_able w (actors.Lane c.args.lane)) c.self.view_is ∙ c.requires) in
    let lt = there_is c.self.inside.lanes.items c.args.lane able.0 able.1 in
    let here = get_is c.self.inside.lanes.items c.args.lane c.index_mut.result.now lt c.index_mut.ensures.value in
    let seen = get_is c.self.inside.lanes.items c.args.lane c.index.result.now lt c.index.ensures in
    let same = some_is c.index_mut.result.now c.index.result.now (sym here ∙ seen) in
    let old = some_is able.0 c.index.result.now (sym able.1 ∙ seen) in
    let number = (c.self.invariant.lanes c.args.lane able.0 able.1).number in
    let empty = ap (λ (w : Lane). w.hand) old ∙ c.in-None.is in
    record {
      worker = _;
      there = set_at c.self.inside.lanes.items c.args.lane _ c.index_mut.result.now here;
      empty = ap (λ (w : Lane). w.hand) same ∙ c.in-None.is;
      room = c.in_ok-make_room-in-None.ensures.room;
      head = ap (has_head c.self.inside.xpt.config c.self.inside.xpt.events) (sym number) ∙ ap (λ o. is_some o || has_head c.self.inside.xpt.config c.self.inside.xpt.events able.0.number) (sym empty) ∙ able.2;
    }

pub returns-in_ok-make_room-in-None-clause-less : goal.returns-in_ok-make_room-in-None-clause-less
returns-in_ok-make_room-in-None-clause-less c =
    subst (λ n. IfNone c.send.result (left c.send.new.self < n)) (left-same c.self.inside.script.now c.self.inside.xpt c.self.inside.drivers.items c.self.inside.drivers.items c.self.inside.lanes.items _ c.self.inside.refused c.args.self.now c.self.view_is refl) c.send.ensures.less
