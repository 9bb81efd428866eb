use Rattle.std.proofs.Common.{◌≡◌, ◌∙◌, refl, sym, ap, subst, length, Some, arith, slice_get, length-set}
use Rattle.sim_worker.specs.Words.{Transport}
use Rattle.sim_worker.specs.Endings.{IsDrained}
use Rattle.sim_worker.proofs.DrainLemmas.{left_to_call}
use Rattle.sim_worker.specs.Work.{Work, is_able, steps_of, call_of, Driver}
use Rattle.sim_worker.specs.declared.actor.Actor.TheVariants as actors
use Rattle.sim_worker.proofs.FullLemmas.{full_at_limit, says_full}
use Rattle.sim_worker.proofs.RunListFacts.{get_is, some_is, there_is}
use Rattle.sim_worker.proofs.LeftLemmas.{left-event, left-driver, fewer_fresh}
use Rattle.sim_worker.proofs.StepLemmas.{call_step, driver_step}
use Rattle.sim_worker.proofs.TurnLemmas.{able_driver, at_limit, call_is, few_at, room_for}
use Rattle.sim_worker.proofs.sim.Sim.call.Goals as goal

pub overflow_add-index_mut : goal.overflow_add-index_mut
overflow_add-index_mut c =
    let able = able_driver c.self.inside.script.now c.self.inside.drivers.items c.args.d (ap (λ (w : Work). is_able w (actors.Driver c.args.d)) c.self.view_is ∙ c.requires) in
    let here = get_is c.self.inside.drivers.items c.args.d c.index_mut.result.now (there_is c.self.inside.drivers.items c.args.d able.0 able.1) c.index_mut.ensures.value in
    let within = (c.self.invariant.drivers c.args.d c.index_mut.result.now here).within in
    omega (arith, within, few_at c.self.inside.script.now.drivers c.args.d, c.self.invariant.scenario.few_steps)

pub invariant_of-self : goal.invariant_of-self
invariant_of-self c =
    let able = able_driver c.self.inside.script.now c.self.inside.drivers.items c.args.d (ap (λ (w : Work). is_able w (actors.Driver c.args.d)) c.self.view_is ∙ c.requires) in
    let lt = there_is c.self.inside.drivers.items c.args.d able.0 able.1 in
    let here = get_is c.self.inside.drivers.items c.args.d c.index_mut.result.now lt c.index_mut.ensures.value in
    let seen = get_is c.self.inside.drivers.items c.args.d c.index.result.now lt c.index.ensures in
    let same : c.index.result.now ≡ c.index_mut.result.now = some_is _ _ (sym seen ∙ here) in
    let stated = call_is (slice_get (steps_of c.self.inside.script.now c.args.d) c.index.result.now.done) c.in-Some.event
    (ap (λ (w : Work). call_of (slice_get (steps_of w.script c.args.d) c.index.result.now.done)) c.self.view_is ∙ sym c.next_call.ensures ∙ c.in-Some.is) in
    call_step c.self.inside.script.now c.self.inside.xpt c.take.new.self c.self.inside.drivers.items c.self.inside.lanes.items c.self.inside.refused c.self.inside.refused c.args.d c.index_mut.result.now _ c.in-Some.event
    here (ap (λ (w : Driver). slice_get (steps_of c.self.inside.script.now c.args.d) w.done) (sym same) ∙ stated) refl c.in-Ok.ensures.0 c.self.invariant

pub returns-in-Err-HistoryFull-clause-ending : goal.returns-in-Err-HistoryFull-clause-ending
returns-in-Err-HistoryFull-clause-ending c =
    let able = able_driver c.self.inside.script.now c.self.inside.drivers.items c.args.d (ap (λ (w : Work). is_able w (actors.Driver c.args.d)) c.self.view_is ∙ c.requires) in
    let seen = get_is c.self.inside.drivers.items c.args.d c.index.result.now (there_is c.self.inside.drivers.items c.args.d able.0 able.1) c.index.ensures in
    let stated = call_is (slice_get (steps_of c.self.inside.script.now c.args.d) c.index.result.now.done) c.in-Some.event
    (ap (λ (w : Work). call_of (slice_get (steps_of w.script c.args.d) c.index.result.now.done)) c.self.view_is ∙ sym c.next_call.ensures ∙ c.in-Some.is) in (
      (λ drained. left_to_call _ c.args.d c.index.result.now c.in-Some.event c.self.invariant seen stated (subst (λ (t : Transport). IsDrained c.self.inside.script.now t.events) c.in-Err-HistoryFull.ensures.1 drained)),
      ap (λ t. length t.events) c.in-Err-HistoryFull.ensures.1
          ∙ at_limit _ c.self.invariant (full_at_limit c.self.inside.xpt.rules c.self.inside.xpt.config c.self.inside.xpt.events c.in-Some.event
          (ap says_full c.in-Err-HistoryFull.ensures.0 ∙ ap (λ why. says_full (Some why)) c.in-Err-HistoryFull.field-0-is)),
    )

pub invariant_of-self-in-Err : goal.invariant_of-self-in-Err
invariant_of-self-in-Err c =
    let able = able_driver c.self.inside.script.now c.self.inside.drivers.items c.args.d (ap (λ (w : Work). is_able w (actors.Driver c.args.d)) c.self.view_is ∙ c.requires) in
    let here = get_is c.self.inside.drivers.items c.args.d c.index_mut-in-Err.result.now (there_is c.self.inside.drivers.items c.args.d able.0 able.1) c.index_mut-in-Err.ensures.value in
    rw (c.in-Err.ensures.1) (driver_step c.self.inside.script.now c.self.inside.xpt c.self.inside.drivers.items c.self.inside.lanes.items c.self.inside.refused c.self.inside.refused c.args.d c.index_mut-in-Err.result.now _ here refl
    (c.self.invariant.drivers c.args.d c.index_mut-in-Err.result.now here) c.self.invariant)

pub returns-in-Ok-clause-less : goal.returns-in-Ok-clause-less
returns-in-Ok-clause-less c =
    left-event c.self.inside.script.now c.self.inside.xpt c.take.new.self c.self.inside.drivers.items _ c.self.inside.lanes.items c.self.inside.lanes.items c.self.inside.refused c.self.inside.refused c.in-Some.event c.args.self.now c.self.view_is
    c.in-Ok.ensures.0 (room_for c.self.inside.xpt c.in-Some.event c.in-Ok.ensures.0.0) (length-set c.self.inside.drivers.items c.args.d _ ∙ c.self.invariant.eight)

pub returns-in-Err : goal.returns-in-Err
returns-in-Err c =
    let able = able_driver c.self.inside.script.now c.self.inside.drivers.items c.args.d (ap (λ (w : Work). is_able w (actors.Driver c.args.d)) c.self.view_is ∙ c.requires) in
    let here = get_is c.self.inside.drivers.items c.args.d c.index_mut-in-Err.result.now (there_is c.self.inside.drivers.items c.args.d able.0 able.1) c.index_mut-in-Err.ensures.value in
    record {
      same = ap (λ (w : Work). w.script) c.self.view_is;
      ending = tt;
      less = left-driver c.self.inside.script.now c.self.inside.xpt c.take.new.self c.self.inside.drivers.items _ c.self.inside.lanes.items c.self.inside.refused c.args.self.now c.self.view_is c.in-Err.ensures.1
          (fewer_fresh c.self.inside.drivers.items c.args.d able.0 _ able.1 able.2 refl);
    }
