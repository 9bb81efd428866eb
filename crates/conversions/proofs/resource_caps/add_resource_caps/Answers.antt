use Rattle.std.proofs.Common.{◌≡◌, ◌<◌, ◌≤◌, ◌+◌, ◌∙◌, arith}
use Rattle.event_rules.specs.Counts.{round}
use Rattle.conversions.specs.Recorded.{run_cap}
use Rattle.conversions.proofs.CapLemmas.{begins_by, runs_none, runs_more, runs_same, runs_all, run_next}
use Rattle.conversions.proofs.resource_caps.add_resource_caps.Goals as goal
use Rattle.conversions.proofs.resource_caps.add_resource_caps.Goals.{then-begins_run+in_ok-add_cap, else-begins_run}

pub loop-before-init : goal.loop-before-init
loop-before-init c = runs_none c.args.history.now c.args.row c.args.recorder.now c.requires.before

pub add_cap-requires-clause-next : goal.add_cap-requires-clause-next
add_cap-requires-clause-next c =
    let h = c.args.history.now in
    let row = c.args.row in
    let before = c.loop-before.before in
    let begins = begins_by h.config c.config-config.result.now h.events row before c.openings-usual.result c.part_of_resource-part.result c.begins_run.result c.config-config.ensures c.part_of_resource-part.ensures c.openings-usual.ensures c.begins_run.ensures ∙ c.if-begins_run.true in
    let rounds = c.round-before-end.ensures.same in
    let lt : before < round h.events = omega (arith, c.loop-before-test.true) in
    let few : (run_cap h.config h.events row (before + 1)).most ≤ 65535 = rw c.run_cap.ensures.same at c.run_cap.ensures.most in
    rw (c.loop-before.invariant, c.run_cap.ensures.same) (run_next h.config h.events row before c.requires.row lt begins few)

pub loop-before-preserved : goal.loop-before-preserved
loop-before-preserved c =
    let h = c.args.history.now in
    let row = c.args.row in
    let before = c.loop-before.before in
    let begins = begins_by h.config c.config-config.result.now h.events row before c.openings-usual.result c.part_of_resource-part.result c.begins_run.result c.config-config.ensures c.part_of_resource-part.ensures c.openings-usual.ensures c.begins_run.ensures in
    elim c.if-begins_run.branch [
      | then-begins_run+in_ok-add_cap w ↦ w.recorder-is ∙ runs_more h row before c.loop-before.recorder _ w.run_cap.result c.loop-before.invariant (begins ∙ w.if-begins_run.true) w.run_cap.ensures.same w.in_ok-add_cap.ensures.ok
      | else-begins_run w ↦ w.recorder-is ∙ runs_same h row before c.loop-before.recorder c.loop-before.invariant (begins ∙ w.if-begins_run.false)
    ]

pub returns : goal.returns
returns c =
    let h = c.args.history.now in
    let rounds = c.round-before-end.ensures.same in
    let all : c.loop-before.before ≡ round h.events = omega (arith, c.loop-before-test.false, c.loop-before.auto.before-end) in
    runs_all h c.args.row c.loop-before.recorder (rw all at c.loop-before.invariant)
