use Rattle.std.proofs.Common.{◌≡◌, ◌*◌, ◌∙◌, ap, arith}
use Rattle.round_net.specs.Nets.{cells}
use Rattle.round_net.specs.Rows.{instance_of_rows}
use Rattle.round_net.proofs.RecordedLemmas.{cells_none}
use Rattle.what_if.specs.Caps.{changed_cap}
use Rattle.what_if.proofs.widen.changed_caps.Goals as goal

pub loop-row-init : goal.loop-row-init
loop-row-init c =
    let net = instance_of_rows c.args.net.now in
    let value = changed_cap net c.args.net.now.config c.args.changes.now in
    let none : 0 ≡ 0 * net.rounds = omega arith in
    cells_none net.rounds value c.in_ok-caps.caps.items c.in_ok-caps.ensures.items ∙ ap (cells net.rounds value) none
