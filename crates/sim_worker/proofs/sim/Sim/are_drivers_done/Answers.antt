use Rattle.std.proofs.Common.{◌≡◌, ◌∙◌, List, length, ap, sym, arith, inl, inr, slice_get, Vec, Global}
use Rattle.std.proofs.lemmas.List.{length-map}
use Rattle.trace_file.specs.declared.step.Step.{Step}
use Rattle.sim_worker.specs.Work.{Work, Driver, steps_of}
use Rattle.sim_worker.proofs.RunListFacts.{get_is, less_or_not, list_at, some_is}
use Rattle.sim_worker.proofs.sim.Sim.are_drivers_done.Goals as goal

pub loop-d-preserved : goal.loop-d-preserved
loop-d-preserved c = λ k w lt at.
    let d = c.loop-d.d in
    let ds = c.self.inside.drivers.items in
    let script = c.self.inside.script.now in
    let here = get_is ds d c.index.result.now (omega (arith, c.self.invariant.eight, c.loop-d-test.true)) c.index.ensures in
    let all = ap (λ (ls : List (List Step)). length ls) c.drivers.ensures.same in
    let items = list_at c.drivers.result.now script.drivers d c.index-drivers-d.result c.drivers.ensures.same (omega (arith, length-map c.drivers.result.now (λ (l : Vec Step Global). l.items), all, c.self.invariant.scenario.eight, c.loop-d-test.true)) c.index-drivers-d.is in
    elim (less_or_not k d) [
      | inl less ↦ c.loop-d.invariant k w less at
      | inr rest ↦
          let same : k ≡ d = omega arith in
          let is : w ≡ c.index.result.now = some_is w c.index.result.now (sym at ∙ ap (λ n. slice_get c.args.self.now.drivers n) same ∙ ap (λ (x : Work). slice_get x.drivers d) (sym c.self.view_is) ∙ here) in
          let long : length (steps_of c.args.self.now.script k) ≡ length (steps_of script d) = ap (λ (x : Work). length (steps_of x.script k)) (sym c.self.view_is) ∙ ap (λ n. length (steps_of script n)) same in
          omega (arith, long, ap (λ (xs : List Step). length xs) items, c.if-index-len.false, c.len.ensures, c.index-drivers-d.result.ok.0, ap (λ (x : Driver). x.done) is)
    ]

pub returns-then-index-len-clause-left : goal.returns-then-index-len-clause-left
returns-then-index-len-clause-left c = λ _ done.
    let d = c.loop-d.d in
    let ds = c.self.inside.drivers.items in
    let script = c.self.inside.script.now in
    let here = get_is ds d c.index.result.now (omega (arith, c.self.invariant.eight, c.loop-d-test.true)) c.index.ensures in
    let all = ap (λ (ls : List (List Step)). length ls) c.drivers.ensures.same in
    let items = list_at c.drivers.result.now script.drivers d c.index-drivers-d.result c.drivers.ensures.same (omega (arith, length-map c.drivers.result.now (λ (l : Vec Step Global). l.items), all, c.self.invariant.scenario.eight, c.loop-d-test.true)) c.index-drivers-d.is in
    let le = done d c.index.result.now (ap (λ (x : Work). slice_get x.drivers d) (sym c.self.view_is) ∙ here) in
    let long : length (steps_of c.args.self.now.script d) ≡ length (steps_of script d) = ap (λ (x : Work). length (steps_of x.script d)) (sym c.self.view_is) in
    omega (arith, le, long, ap (λ (xs : List Step). length xs) items, c.if-index-len.true, c.len.ensures, c.index-drivers-d.result.ok.0)
