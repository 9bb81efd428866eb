use Rattle.std.proofs.Common.{◌≡◌, IfOk, subst, sym}
use Rattle.sweep.specs.Rows.{AreRowsOf}
use Rattle.sweep.proofs.RunLemmas.{ok_both, swept_rows}
use Rattle.sweep.proofs.all_runs.run_sweep.Goals as goal

pub returns : goal.returns
returns g c =
    let comes = g.W.Runner.comes_to c.args.runner.now in
    subst (λ n. IfOk c.rows_of.result (λ rows. AreRowsOf comes c.args.script.now n c.args.plan.now.settings rows.items)) c.seeds-seeds.ensures.same
    (ok_both c.rows_of.result c.rows_of.ensures.long c.rows_of.ensures.rows
    (λ v long each.
    swept_rows comes c.args.script.now c.seeds-seeds.result c.settings-settings.result.now c.args.plan.now.settings c.in_ok-tallies.tallies.items v.items c.settings-settings.ensures.same c.in_ok-tallies.ensures long
    (rw c.deref.ensures.value at each)))
