use Rattle.std.proofs.Common.{◌≡◌, ◌<◌, ◌∙◌, refl, sym, ap, subst, List, length, arith, Vec, Global}
use Rattle.std.proofs.lemmas.List.{length-map}
use Rattle.sim_worker.specs.Words.{Step, round}
use Rattle.sim_worker.specs.Work.{Work, HasDone, calls_of, steps_of}
use Rattle.sim_worker.proofs.StepLemmas.{driver_step}
use Rattle.sim_worker.proofs.LeftLemmas.{left-same, same_fresh}
use Rattle.sim_worker.proofs.RunListFacts.{list_at}
use Rattle.sim_worker.proofs.RunListFacts.{get_is}
use Rattle.sim_worker.proofs.sim.Sim.pass_pauses_of.Goals as goal

pub invariant_of-self : goal.invariant_of-self
invariant_of-self c =
    let within : c.args.d < length c.self.inside.drivers.items = omega (arith, c.requires.number, c.self.invariant.eight) in
    let here = get_is c.self.inside.drivers.items c.args.d c.index.result.now within c.index.ensures in
    let now = c.requires.now ∙ sym (ap (λ (w : Work). round w.transport.events) c.self.view_is) in
    let steps : c.deref.result.now ≡ steps_of c.self.inside.script.now c.args.d = c.deref.ensures.value ∙ list_at c.drivers.result.now c.self.inside.script.now.drivers c.args.d c.index-drivers-d.result c.drivers.ensures.same (omega (arith, c.requires.number, ap (λ (ls : List (List Step)). length ls) c.drivers.ensures.same, length-map c.drivers.result.now (λ (l : Vec Step Global). l.items), c.drivers.ensures.kept.eight)) c.index-drivers-d.is in
    driver_step c.self.inside.script.now c.self.inside.xpt c.self.inside.drivers.items c.self.inside.lanes.items c.self.inside.refused c.self.inside.refused c.args.d c.index.result.now _ here
    (subst (λ v. calls_of v c.behind_pauses-done.result ≡ calls_of v c.index.result.now.done) steps c.behind_pauses-done.ensures.calls)
    (subst (λ v. HasDone v c.args.d c.self.inside.xpt.events c.behind_pauses-done.result) steps (c.behind_pauses-done.ensures.done c.args.d c.self.inside.xpt.events now
    (subst (λ v. HasDone v c.args.d c.self.inside.xpt.events c.index.result.now.done) (sym steps) (c.self.invariant.drivers c.args.d c.index.result.now here))))
    c.self.invariant

pub returns-clause-same : goal.returns-clause-same
returns-clause-same c =
    let within : c.args.d < length c.self.inside.drivers.items = omega (arith, c.requires.number, c.self.invariant.eight) in
    let here = get_is c.self.inside.drivers.items c.args.d c.index_mut.result.now within c.index_mut.ensures.value in (
      ap (λ (w : Work). w.script) c.self.view_is,
      left-same c.self.inside.script.now c.self.inside.xpt c.self.inside.drivers.items _ c.self.inside.lanes.items c.self.inside.lanes.items c.self.inside.refused c.args.self.now c.self.view_is (same_fresh c.self.inside.drivers.items c.args.d c.index_mut.result.now _ here refl),
      ap (λ (w : Work). w.transport) c.self.view_is,
    )
