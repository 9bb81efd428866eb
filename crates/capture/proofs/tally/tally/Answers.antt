use Rattle.std.proofs.Common.{◌≡◌, ◌==◌, ◌≤◌, get_or, take, slice_index, arith, ◌∙◌}
use Rattle.std.proofs.lemmas.List.{get_or_default, length-take-le}
use Rattle.std.proofs.lemmas.List.Sums.{count_by-le-length}
use Rattle.capture.proofs.TallyLemmas.{tally_more}
use Rattle.capture.proofs.tally.tally.Goals as goal

pub overflow_add-index_mut : goal.overflow_add-index_mut
overflow_add-index_mut c =
    let n = c.loop-round.round-index in
    let x = get_or c.args.rounds.now n 0 in
    let few : x ≤ c.args.last = c.requires.within n 0 c.loop-round-test.true in
    let size = c.loop-round.invariant.size in
    let is : c.index_mut.result.now ≡ slice_index c.loop-round.row.items x = c.index_mut.ensures.value ∙ get_or_default c.loop-round.row.items x _ 0 (omega (arith, size)) in
    let read = c.loop-round.invariant.each x few in
    omega (arith, is, read, count_by-le-length (λ k. k == x) (take n c.args.rounds.now), length-take-le n c.args.rounds.now c.loop-round.auto.round-index-end, c.loop-round-test.true, c.requires.few)

pub loop-round-preserved : goal.loop-round-preserved
loop-round-preserved c =
    let n = c.loop-round.round-index in
    let x = get_or c.args.rounds.now n 0 in
    let few : x ≤ c.args.last = c.requires.within n 0 c.loop-round-test.true in
    let size = c.loop-round.invariant.size in
    let is : c.index_mut.result.now ≡ slice_index c.loop-round.row.items x = c.index_mut.ensures.value ∙ get_or_default c.loop-round.row.items x _ 0 (omega (arith, size)) in
    tally_more c.args.last c.args.rounds.now n c.index_mut.result.now c.loop-round.row.items c.loop-round-test.true few is c.loop-round.invariant
