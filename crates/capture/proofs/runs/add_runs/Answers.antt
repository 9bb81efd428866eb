use Rattle.std.proofs.Common.{◌<◌, ◌+◌, ◌∙◌, sym, arith, slice_index}
use Rattle.capture.proofs.CapLemmas.{run_next, runs_none, runs_more, runs_same, runs_all}
use Rattle.capture.proofs.runs.add_runs.Goals as goal
use Rattle.capture.proofs.runs.add_runs.Goals.{then-begins_run+in_ok-add_cap, else-begins_run}

pub loop-before-init : goal.loop-before-init
loop-before-init c = runs_none c.args.recorder.now c.args.part (slice_index c.args.row.now) c.args.usual

pub add_cap-requires-clause-next : goal.add_cap-requires-clause-next
add_cap-requires-clause-next c =
    let r = c.args.recorder.now in
    let before = c.loop-before.before in
    let same = c.rounds-rounds.ensures.same in
    let lt : before < r.rounds = omega (arith, c.loop-before-test.true) in
    rw (c.loop-before.invariant, c.run_cap.ensures.same, same) (run_next r.config r.caps c.args.part (slice_index c.args.row.now) c.args.usual r.rounds before c.requires.there c.requires.before lt (sym c.begins_run.ensures ∙ c.if-begins_run.true) (c.requires.most (before + 1) (omega arith) (omega arith)))

pub loop-before-preserved : goal.loop-before-preserved
loop-before-preserved c =
    let r = c.args.recorder.now in
    let number = slice_index c.args.row.now in
    let before = c.loop-before.before in
    let same = c.rounds-rounds.ensures.same in
    elim c.if-begins_run.branch [
      | then-begins_run+in_ok-add_cap w ↦ w.recorder-is ∙ runs_more r c.loop-before.recorder _ c.args.part number c.args.usual before w.run_cap.result c.loop-before.invariant (sym c.begins_run.ensures ∙ w.if-begins_run.true) (rw (← same) w.run_cap.ensures.same) w.in_ok-add_cap.ensures.ok
      | else-begins_run w ↦ w.recorder-is ∙ runs_same r c.loop-before.recorder c.args.part number c.args.usual before c.loop-before.invariant (sym c.begins_run.ensures ∙ w.if-begins_run.false)
    ]

pub returns : goal.returns
returns c =
    let same = c.rounds-rounds.ensures.same in
    let end = c.loop-before.auto.before-end in
    runs_all c.args.recorder.now c.loop-before.recorder c.args.part (slice_index c.args.row.now) c.args.usual c.loop-before.before (omega (arith, c.loop-before-test.false, end)) c.loop-before.invariant
