use Rattle.std.proofs.Common.{◌≡◌, ◌∙◌, true, Some, IfSome, refl, sym, ap, subst, length, arith, option_map, slice_get}
use Rattle.event_rules.specs.declared.event.Event.TheVariants.{Done}
use Rattle.sim_worker.specs.Words.{Transport, is_in_flight}
use Rattle.sim_worker.specs.Endings.{IsDrained}
use Rattle.sim_worker.specs.Runs.{sender}
use Rattle.sim_worker.proofs.DrainLemmas.{left_in_flight}
use Rattle.sim_worker.specs.Work.{Work, Hand, Lane}
use Rattle.sim_worker.proofs.StepLemmas.{done_step}
use Rattle.sim_worker.proofs.LeftLemmas.{left-event}
use Rattle.sim_worker.proofs.TurnLemmas.{room_for, lane_with, done_full, err_case, ok_case}
use Rattle.sim_worker.proofs.RunListFacts.{get_is, some_is, there_is}
use Rattle.sim_worker.proofs.sim.Sim.complete.Goals as goal

pub returns-then-is_err-clause-ending : goal.returns-then-is_err-clause-ending
returns-then-is_err-clause-ending c =
    let with = lane_with c.self.inside.lanes.items c.args.lane c.args.hand (ap (λ (w : Work). option_map (λ (x : Lane). x.hand) (slice_get w.lanes c.args.lane)) c.self.view_is ∙ c.requires) in
    let no = err_case _ _ c.done.result (sym c.is_err.ensures.value ∙ c.if-is_err.true) c.done.ensures in
    let flies = subst (λ o. IfSome o (λ (v : Hand). (is_in_flight c.self.inside.xpt.events v.ccb ≡ true) × (sender c.self.inside.xpt.events v.ccb ≡ Some c.args.lane))) with.2 (c.self.invariant.lanes c.args.lane with.0 with.1).hand in (
      (λ drained. left_in_flight _ c.args.hand.ccb c.self.invariant flies.0 (subst (λ (t : Transport). IsDrained c.self.inside.script.now t.events) no.1.1 drained)),
      ap (λ t. length t.events) no.1.1 ∙ done_full _ c.args.lane with.0 c.args.hand no.0 c.self.invariant with.1 with.2 no.1.0,
    )

pub index_mut-requires : goal.index_mut-requires
index_mut-requires c =
    let with = lane_with c.self.inside.lanes.items c.args.lane c.args.hand (ap (λ (w : Work). option_map (λ (x : Lane). x.hand) (slice_get w.lanes c.args.lane)) c.self.view_is ∙ c.requires) in
    omega (arith, there_is c.self.inside.lanes.items c.args.lane with.0 with.1, c.self.inside.lanes.ok.0)

pub invariant_of-self-2 : goal.invariant_of-self-2
invariant_of-self-2 c =
    let with = lane_with c.self.inside.lanes.items c.args.lane c.args.hand (ap (λ (w : Work). option_map (λ (x : Lane). x.hand) (slice_get w.lanes c.args.lane)) c.self.view_is ∙ c.requires) in
    let yes = ok_case _ _ c.done.result (sym c.is_err.ensures.value ∙ c.if-is_err.false) c.done.ensures in
    let here = get_is c.self.inside.lanes.items c.args.lane c.index_mut.result.now (there_is c.self.inside.lanes.items c.args.lane with.0 with.1) c.index_mut.ensures.value in
    done_step c.self.inside.script.now c.self.inside.xpt c.done.new.self c.self.inside.drivers.items c.self.inside.lanes.items c.self.inside.refused c.args.lane c.index_mut.result.now _ c.args.hand
    here (ap (λ (w : Lane). w.hand) (some_is _ _ (sym here ∙ with.1)) ∙ with.2) refl refl refl yes.1.0 c.self.invariant

pub returns-clause-less : goal.returns-clause-less
returns-clause-less c =
    let yes = ok_case _ _ c.done.result (sym c.is_err.ensures.value ∙ c.if-is_err.false) c.done.ensures in
    left-event c.self.inside.script.now c.self.inside.xpt c.done.new.self c.self.inside.drivers.items c.self.inside.drivers.items c.self.inside.lanes.items _ c.self.inside.refused c.self.inside.refused (Done c.args.hand.ccb c.args.hand.outcome) c.args.self.now c.self.view_is
    yes.1.0 (room_for c.self.inside.xpt (Done c.args.hand.ccb c.args.hand.outcome) yes.1.0.0) c.self.invariant.eight
