use Rattle.std.proofs.Common.{sym, ◌∙◌}
use Rattle.round_net.specs.Rows.{instance_of_rows}
use Rattle.what_if.specs.Below.{is_below}
use Rattle.what_if.proofs.BelowLemmas.{filter-range_kept, filter-range_left}
use Rattle.what_if.proofs.below.rows_below.Goals as goal
use Rattle.what_if.proofs.below.rows_below.Goals.{then-is_below+in_ok-push, else-is_below}

pub loop-part-preserved : goal.loop-part-preserved
loop-part-preserved c =
    let p = is_below (instance_of_rows c.args.net.now) c.args.row in
    elim c.if-is_below.branch [
      | then-is_below+in_ok-push w ↦ rw w.below-is (filter-range_kept p c.loop-part.part c.loop-part.below.items w.push.new.self.items c.loop-part.invariant (sym c.is_below.ensures ∙ w.if-is_below.true) w.in_ok-push.ensures.items)
      | else-is_below w ↦ rw w.below-is (filter-range_left p c.loop-part.part c.loop-part.below.items c.loop-part.invariant (sym c.is_below.ensures ∙ w.if-is_below.false))
    ]
