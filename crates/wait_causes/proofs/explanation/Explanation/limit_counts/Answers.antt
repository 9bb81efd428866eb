use Rattle.std.proofs.Common.{◌≡◌, ◌+◌, sym, subst, IfOk}
use Rattle.std.proofs.lemmas.Result.{IfOk-weaker}
use Rattle.wait_causes.specs.Explained.{Explained}
use Rattle.wait_causes.specs.Limits.{limit_counts, LimitCounts}
use Rattle.wait_causes.specs.Stays.{explained}
use Rattle.wait_causes.proofs.ExplainedLemmas.{few_explained}
use Rattle.wait_causes.proofs.LatencyLemmas.{counts_add_up}
use Rattle.wait_causes.proofs.explanation.Explanation.limit_counts.Goals as goal

pub limit_counts-requires-clause-few : goal.limit_counts-requires-clause-few
limit_counts-requires-clause-few c =
    let x = c.self.inside in
    rw c.deref.ensures.value (few_explained x.origin x.stays.items c.self.invariant.0)

pub returns-clause-counts : goal.returns-clause-counts
returns-clause-counts c =
    subst (λ (e : Explained). IfOk c.limit_counts.result (λ counts. counts ≡ limit_counts c.args.limit.now (explained e.origin e.pace e.best))) c.self.view_is
    (rw (c.deref.ensures.value, c.self.invariant.0.rows) at c.limit_counts.ensures)

pub returns-clause-add_up : goal.returns-clause-add_up
returns-clause-add_up c =
    IfOk-weaker c.limit_counts.result (λ counts. counts ≡ limit_counts c.args.limit.now c.deref.result.now) (λ (counts : LimitCounts). counts.over ≡ counts.by_order + counts.by_slots + counts.device)
    (λ counts is. subst (λ (k : LimitCounts). k.over ≡ k.by_order + k.by_slots + k.device) (sym is) (counts_add_up c.args.limit.now c.deref.result.now))
    c.limit_counts.ensures
