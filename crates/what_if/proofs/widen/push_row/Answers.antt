use Rattle.std.proofs.Common.{◌≡◌, ◌≤◌, ◌<◌, ◌+◌, ◌*◌, ◌==◌, ◌∙◌, ℕ, refl, sym, ap, arith, length}
use Rattle.std.proofs.lemmas.List.Elements.{All-filter}
use Rattle.round_net.specs.Rows.{instance_of_rows, live_of_rows}
use Rattle.round_net.proofs.TableLemmas.{length-cells}
use Rattle.what_if.specs.Changes.{Change, IsChangeOf, row_of}
use Rattle.what_if.specs.Below.{carried, together}
use Rattle.what_if.specs.Caps.{own_cap, changed_cap}
use Rattle.what_if.proofs.CapLemmas.{cap_by_carried, carried_within, together_so_far, cells-next}
use Rattle.what_if.proofs.widen.push_row.Goals as goal

pub widest-cap-requires-clause-own : goal.widest-cap-requires-clause-own
widest-cap-requires-clause-own c =
    let net = instance_of_rows c.args.net.now in
    rw (c.deref.ensures.value, c.in_ok-own.ensures) (All-filter (λ (change : Change). row_of net change.resource == c.args.row) (IsChangeOf net) c.args.changes.now c.requires.changes)

pub together-requires-clause-parts : goal.together-requires-clause-parts
together-requires-clause-parts c =
    let net = instance_of_rows c.args.net.now in
    let lt : c.loop-before.before < net.rounds = rw c.rounds-before-end.ensures.same at c.loop-before-test.true in
    let value = changed_cap net c.args.net.now.config c.args.changes.now in
    let all : c.args.row * net.rounds ≤ length c.loop-before.caps.items = omega (arith, ap length c.loop-before.invariant, length-cells net.rounds value (c.args.row * net.rounds + c.loop-before.before)) in
    rw (c.rounds.ensures.same, c.deref-in-loop-before.ensures.value, c.in_ok-parts.ensures, c.deref-in-loop-before-2.ensures.value)
    (carried_within net c.args.row (c.loop-before.before + 1) (length c.loop-before.caps.items) all (omega arith) (omega arith))

pub loop-before-preserved : goal.loop-before-preserved
loop-before-preserved c =
    let net = instance_of_rows c.args.net.now in
    let config = c.args.net.now.config in
    let row = c.args.row in
    let round : ℕ = c.loop-before.before + 1 in
    let value = changed_cap net config c.args.changes.now in
    let lt : c.loop-before.before < net.rounds = rw c.rounds-before-end.ensures.same at c.loop-before-test.true in
    let own : c.widest-cap.result ≡ own_cap net config c.args.changes.now row round = c.widest-cap.ensures ∙ rw (c.deref.ensures.value, c.in_ok-own.ensures, c.cap.ensures.same) refl in
    let below : c.together.result ≡ together (λ part. value part round) (carried net row) =
    c.together.ensures
    ∙ rw (c.rounds.ensures.same, c.deref-in-loop-before.ensures.value, c.in_ok-parts.ensures, c.deref-in-loop-before-2.ensures.value)
    (together_so_far net value c.loop-before.caps.items row round (row * net.rounds + c.loop-before.before) c.loop-before.invariant (omega arith) (omega arith) (omega arith)) in
    let here : c.max.result ≡ value row round = c.max.ensures ∙ rw (own, below) (sym (cap_by_carried net (live_of_rows c.args.net.now) config c.args.changes.now row round c.rounds.ensures.sound)) in
    c.in_ok-push.ensures.items ∙ cells-next net.rounds value c.loop-before.caps.items row c.loop-before.before c.max.result lt c.loop-before.invariant here
