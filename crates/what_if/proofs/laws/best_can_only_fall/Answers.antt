use Rattle.std.proofs.Common.{arith}
use Rattle.price_check.proofs.DualityLemmas.{best_where_proved}
use Rattle.round_net.specs.Rows.{instance_of_rows, live_of_rows}
use Rattle.what_if.specs.Caps.{changed_net}
use Rattle.what_if.proofs.WideLemmas.{admissible-changed, cost-changed, sound-changed}
use Rattle.what_if.proofs.laws.best_can_only_fall.Goals as goal

pub returns : goal.returns
returns c = λ f g p q before after.
    let n = c.args.net.now in
    let sound = c.rounds-rounds.ensures.sound in
    let wide = sound-changed n c.args.changes.now sound c.config-config.ensures.kept c.requires in
    let best = best_where_proved (instance_of_rows (changed_net n c.args.changes.now)) (live_of_rows n) g q wide after f (admissible-changed n c.args.changes.now f sound before.admissible) in
    omega (arith, best, cost-changed n c.args.changes.now f)
