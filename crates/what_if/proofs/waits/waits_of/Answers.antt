use Rattle.std.proofs.Common.{◌≡◌, ◌<◌, ◌+◌, ◌∙◌, refl, sym, arith}
use Rattle.round_net.specs.Instance.{rows}
use Rattle.round_net.specs.Rows.{cell, instance_of_rows, live_of_rows}
use Rattle.round_net.proofs.CellLemmas.{cell_in}
use Rattle.what_if.specs.Tries.{is_full, is_stopped}
use Rattle.what_if.proofs.TryLemmas.{waiting-none, waiting_next, any_more}
use Rattle.what_if.proofs.waits.waits_of.Goals as goal

pub loop-before-init : goal.loop-before-init
loop-before-init c = record { waiting = sym (waiting-none (instance_of_rows c.args.net.now) (live_of_rows c.args.net.now) c.args.row c.rounds-before-end.ensures.sound); full = refl; stopped = refl }

pub bounds-sent-at : goal.bounds-sent-at
bounds-sent-at c =
    let net = instance_of_rows c.args.net.now in
    let lt : c.loop-before.before < net.rounds = rw c.rounds-before-end.ensures.same at c.loop-before-test.true in
    let at : c.cell-at.result ≡ cell net.rounds c.args.row (c.loop-before.before + 1) = c.cell-at.ensures ∙ rw c.rounds.ensures.same refl in
    rw at (cell_in c.args.sent.now net.rounds (rows net) c.args.row (c.loop-before.before + 1) c.requires.sent.cells c.requires.row (omega arith) (omega arith))

pub bounds-arrived-at : goal.bounds-arrived-at
bounds-arrived-at c =
    let net = instance_of_rows c.args.net.now in
    let lt : c.loop-before.before < net.rounds = rw c.rounds-before-end.ensures.same at c.loop-before-test.true in
    let at : c.cell-at.result ≡ cell net.rounds c.args.row (c.loop-before.before + 1) = c.cell-at.ensures ∙ rw c.rounds.ensures.same refl in
    rw at (cell_in c.args.arrived.now net.rounds (rows net) c.args.row (c.loop-before.before + 1) c.requires.arrived.cells c.requires.row (omega arith) (omega arith))

pub overflow_add-waiting : goal.overflow_add-waiting
overflow_add-waiting c =
    let net = instance_of_rows c.args.net.now in
    let lt : c.loop-before.before < net.rounds = rw c.rounds-before-end.ensures.same at c.loop-before-test.true in
    let at : c.cell-at.result ≡ cell net.rounds c.args.row (c.loop-before.before + 1) = c.cell-at.ensures ∙ rw c.rounds.ensures.same refl in
    let step = waiting_next net (live_of_rows c.args.net.now) c.args.arrived.now c.args.sent.now c.args.row c.loop-before.before c.cell-at.result c.loop-before.waiting c.rounds.ensures.sound c.requires.arrived c.requires.sent c.requires.row lt at c.loop-before.invariant.waiting in
    let few = c.rounds.ensures.sound.few_stays in
    omega (arith, step.few)

pub overflow_sub-waiting : goal.overflow_sub-waiting
overflow_sub-waiting c =
    let net = instance_of_rows c.args.net.now in
    let lt : c.loop-before.before < net.rounds = rw c.rounds-before-end.ensures.same at c.loop-before-test.true in
    let at : c.cell-at.result ≡ cell net.rounds c.args.row (c.loop-before.before + 1) = c.cell-at.ensures ∙ rw c.rounds.ensures.same refl in
    let step = waiting_next net (live_of_rows c.args.net.now) c.args.arrived.now c.args.sent.now c.args.row c.loop-before.before c.cell-at.result c.loop-before.waiting c.rounds.ensures.sound c.requires.arrived c.requires.sent c.requires.row lt at c.loop-before.invariant.waiting in
    step.enough

pub waits_in-requires-clause-waiting : goal.waits_in-requires-clause-waiting
waits_in-requires-clause-waiting c =
    let net = instance_of_rows c.args.net.now in
    let lt : c.loop-before.before < net.rounds = rw c.rounds-before-end.ensures.same at c.loop-before-test.true in
    let at : c.cell-at.result ≡ cell net.rounds c.args.row (c.loop-before.before + 1) = c.cell-at.ensures ∙ rw c.rounds.ensures.same refl in
    let step = waiting_next net (live_of_rows c.args.net.now) c.args.arrived.now c.args.sent.now c.args.row c.loop-before.before c.cell-at.result c.loop-before.waiting c.rounds.ensures.sound c.requires.arrived c.requires.sent c.requires.row lt at c.loop-before.invariant.waiting in
    step.next

pub loop-before-preserved : goal.loop-before-preserved
loop-before-preserved c =
    let net = instance_of_rows c.args.net.now in
    let lt : c.loop-before.before < net.rounds = rw c.rounds-before-end.ensures.same at c.loop-before-test.true in
    let at : c.cell-at.result ≡ cell net.rounds c.args.row (c.loop-before.before + 1) = c.cell-at.ensures ∙ rw c.rounds.ensures.same refl in
    let step = waiting_next net (live_of_rows c.args.net.now) c.args.arrived.now c.args.sent.now c.args.row c.loop-before.before c.cell-at.result c.loop-before.waiting c.rounds.ensures.sound c.requires.arrived c.requires.sent c.requires.row lt at c.loop-before.invariant.waiting in
    let live = live_of_rows c.args.net.now in
    let was = c.loop-before.invariant in
    record {
      waiting = step.next;
      full = any_more (is_full net live c.args.row) c.loop-before.before c.loop-before.waits.full c.waits_in.result.full c.or-waits.result.full was.full c.waits_in.ensures.full c.or-waits.ensures.full;
      stopped = any_more (is_stopped net live c.args.row) c.loop-before.before c.loop-before.waits.stopped c.waits_in.result.stopped c.or-waits.result.stopped was.stopped c.waits_in.ensures.stopped c.or-waits.ensures.stopped;
    }
