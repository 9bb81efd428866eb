use Rattle.std.proofs.Common.{◌≡◌, ◌∙◌, true, sym, subst}
use Rattle.std.specs.List.{AllByRecursion}
use Rattle.trace_file.specs.Scenarios.{is_ruled}
use Rattle.sim_worker.proofs.RunListFacts.{list_at}
use Rattle.sim_worker.proofs.worker.work.Goals as goal

pub drive-requires : goal.drive-requires
drive-requires g c =
    let config = c.args.script.now.config in
    let found = c.in-Some.ensures.lookup in
    let same = c.deref.ensures.value ∙ list_at c.drivers.result.now c.args.script.now.drivers c.from.result c.in-Some.steps.now c.drivers.ensures.same found.3.0 found.1 in (
      config,
      c.from.result,
      subst (AllByRecursion (λ one. is_ruled config c.from.result one ≡ true)) (sym same) (c.drivers.ensures.kept.ruled c.from.result),
    )
