use Rattle.std.proofs.Common.{◌≡◌, ap, ◌∙◌}
use Rattle.wait_causes.specs.Words.{NetRows, instance_of_rows}
use Rattle.wait_causes.specs.Counting.{causes_before}
use Rattle.wait_causes.specs.Origins.{instance_in, cause_of}
use Rattle.wait_causes.specs.Stays.{rounds_by}
use Rattle.wait_causes.specs.Totals.{totals_by}
use Rattle.wait_causes.proofs.CountingLemmas.{lists_more}
use Rattle.wait_causes.proofs.counting.all_cause_totals.Goals as goal

pub loop-device-preserved : goal.loop-device-preserved
loop-device-preserved c =
    let o = c.args.origin.now in
    let rounds : c.rounds.result ≡ (instance_in o).rounds = c.rounds.ensures.same ∙ ap (λ (n : NetRows). (instance_of_rows n).rounds) c.requires.net in
    lists_more (causes_before o) c.loop-device.device c.loop-device.totals.items c.push.new.self.items c.in_ok-cause_totals.field-0 c.loop-device.invariant c.in_ok-push.ensures.items
    (c.in_ok-cause_totals.ensures ∙ ap (λ k. totals_by rounds_by (cause_of o c.loop-device.device) k) rounds)
