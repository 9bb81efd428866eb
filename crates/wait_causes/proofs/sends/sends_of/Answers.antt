use Rattle.std.proofs.Common.{◌≡◌, ◌∙◌, ap, replicate}
use Rattle.round_net.specs.Rows.{instance_of_rows, live_of_rows}
use Rattle.wait_causes.specs.Sends.{Sends}
use Rattle.wait_causes.proofs.SendsLemmas.{sends_none}
use Rattle.wait_causes.proofs.sends.sends_of.Goals as goal

pub loop-stay-init : goal.loop-stay-init
loop-stay-init c =
    let items : c.in_ok-sends.sends.items ≡ replicate c.cells.result c.none.result = c.in_ok-sends.ensures.items_if_clones_equal (λ y is. is) in
    sends_none (instance_of_rows c.args.net.now) (live_of_rows c.args.net.now) c.in_ok-sends.sends.items c.cells.result c.cells.ensures (items ∙ ap (λ (x : Sends). replicate c.cells.result x) c.none.ensures)
