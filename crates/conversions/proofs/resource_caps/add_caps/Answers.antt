use Rattle.std.proofs.Common.{◌≡◌, ◌∙◌, ap, arith}
use Rattle.round_net.specs.Instance.{rows}
use Rattle.round_net.specs.Rows.{NetRows, instance_of_rows}
use Rattle.round_net.specs.Caps.{resource_count}
use Rattle.conversions.proofs.CapLemmas.{caps_none}
use Rattle.conversions.proofs.NetLemmas.{net_rows}
use Rattle.conversions.proofs.resource_caps.add_caps.Goals as goal

pub loop-row-init : goal.loop-row-init
loop-row-init c = caps_none c.args.history.now c.args.recorder.now c.requires.none

pub add_resource_caps-requires-clause-row : goal.add_resource_caps-requires-clause-row
add_resource_caps-requires-clause-row c =
    let h = c.args.history.now in
    let all : c.rows-row-end.result ≡ resource_count h.config = c.rows-row-end.ensures.same ∙ ap (λ (n : NetRows). rows (instance_of_rows n)) c.requires.net ∙ net_rows h.config h.events in
    omega (arith, c.loop-row-test.true)

pub returns : goal.returns
returns c =
    let h = c.args.history.now in
    let end : c.rows-row-end.result ≡ resource_count h.config = c.rows-row-end.ensures.same ∙ ap (λ (n : NetRows). rows (instance_of_rows n)) c.requires.net ∙ net_rows h.config h.events in
    let all : c.loop-row.row ≡ resource_count h.config = omega (arith, c.loop-row-test.false, c.loop-row.auto.row-end) in
    rw all at c.loop-row.invariant
