use Rattle.std.proofs.Common.{◌≡◌, ◌∙◌, ap, arith, map, List, Option, Vec}
use Rattle.std.specs.Global.{Global}
use Rattle.std.specs.List.{range_with_len}
use Rattle.wait_causes.specs.Origins.{instance_in}
use Rattle.std.specs.Option.{option_map}
use Rattle.wait_causes.specs.Tables.{number, stays_of}
use Rattle.wait_causes.specs.declared.explained_stay.ExplainedStay.{ExplainedStay}
use Rattle.wait_causes.specs.declared.table.Grouping.TheVariants.{Device}
use Rattle.wait_causes.proofs.CountingLemmas.{list_at, lists_length, lists_more}
use Rattle.wait_causes.specs.BlameLists.{stays_in, who_at}
use Rattle.wait_causes.proofs.BlameTotalLemmas.{who_found}
use Rattle.wait_causes.proofs.blame.totals.who_of.Goals as goal

pub groups_of-requires : goal.groups_of-requires
groups_of-requires c = λ k d lt. let within = c.stays.ensures.within k d lt in let device = within.device in omega (arith, device, c.devices-devices.ensures)

pub index-requires : goal.index-requires
index-requires c =
    omega (arith, c.loop-device-test.true, lists_length (stays_of Device (stays_in c.args.explanation.now)) c.devices-devices.result c.in_ok-own.own.items (rw c.stays.ensures.stays at c.in_ok-own.ensures))

pub in_way_of-requires-clause-own : goal.in_way_of-requires-clause-own
in_way_of-requires-clause-own c =
    let e = c.args.explanation.now in
    c.deref.ensures.value ∙ ap (λ (v : Vec ExplainedStay Global). v.items) c.index.ensures ∙ list_at (stays_of Device (stays_in e)) c.devices-devices.result c.loop-device.device c.in_ok-own.own.items c.index.result.now (rw c.stays.ensures.stays at c.in_ok-own.ensures) (omega (arith, c.loop-device-test.true))

pub loop-device-preserved : goal.loop-device-preserved
loop-device-preserved c =
    lists_more (who_at c.args.explanation.now c.args.by) c.loop-device.device c.loop-device.lists.items c.push.new.self.items c.in_ok-numbers_of.field-0 c.loop-device.invariant c.in_ok-push.ensures.items
    (who_found c.args.explanation.now c.args.by c.loop-device.device c.in_ok-ways.ways.items c.in_ok-numbers_of.field-0.items c.in_ok-ways.ensures (c.in_ok-numbers_of.ensures ∙ ap (λ (ws : List (Option ExplainedStay)). map (option_map (number c.args.by)) ws) c.deref-in-loop-device.ensures.value))

pub returns : goal.returns
returns c =
    let all : c.loop-device.device ≡ (instance_in c.args.explanation.now.origin).devices = omega (arith, c.devices-devices.ensures, c.loop-device-test.false, c.loop-device.auto.device-end) in
    c.loop-device.invariant ∙ ap (λ n. map (who_at c.args.explanation.now c.args.by) (range_with_len 0 n)) all
