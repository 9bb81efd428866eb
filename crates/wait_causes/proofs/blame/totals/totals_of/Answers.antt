use Rattle.std.proofs.Common.{◌≡◌, ◌∙◌, ap, arith, map}
use Rattle.std.specs.List.{range_with_len}
use Rattle.wait_causes.specs.Origins.{instance_in}
use Rattle.wait_causes.proofs.CountingLemmas.{lists_more, lists_length}
use Rattle.wait_causes.specs.BlameLists.{who_at, totals_at}
use Rattle.wait_causes.proofs.BlameTotalLemmas.{totals_found}
use Rattle.wait_causes.proofs.blame.totals.totals_of.Goals as goal

pub loop-list-preserved : goal.loop-list-preserved
loop-list-preserved c = λ e of are.
    lists_more (totals_at e of c.args.by) c.loop-list.list-index c.loop-list.totals.items c.push.new.self.items c.in_ok-counts_of.field-0 (c.loop-list.invariant e of are) c.in_ok-push.ensures.items
    (totals_found e of c.args.by c.loop-list.list-index c.args.lists.now c.list-item.result c.in_ok-counts_of.field-0.items are c.loop-list-test.true c.list-item.is (rw c.deref.ensures.value at c.in_ok-counts_of.ensures))

pub returns : goal.returns
returns c = λ e of are.
    let long = lists_length (who_at e of) (instance_in e.origin).devices c.args.lists.now are in
    let all : c.loop-list.list-index ≡ (instance_in e.origin).devices = omega (arith, long, c.loop-list-test.false, c.loop-list.auto.list-index-end) in
    c.loop-list.invariant e of are ∙ ap (λ n. map (totals_at e of c.args.by) (range_with_len 0 n)) all
