use Rattle.std.proofs.Common.{◌≡◌, ◌∙◌, arith, ap, refl, get_or, slice_index, length}
use Rattle.slots.specs.Changes.{Change, changes_in}
use Rattle.slots.proofs.ChangeLemmas.{AreBehind-none, AreBehind-more, counted, no_change, change_in, place_in, changes_count}
use Rattle.slots.proofs.SweepLemmas.{IsSweeping-start, IsSweeping-known, IsSweeping-over, ends_in_rounds, next_change, total_fits, written_back}
use Rattle.slots.proofs.levels.tally_of.Goals as goal

pub loop-at-init : goal.loop-at-init
loop-at-init c = record {
  sweep = IsSweeping-start c.args.slots c.args.clock (changes_in c.args.changes.now c.args.slots) _ _ _ _ (c.in_ok-tally.ensures.tally c.args.clock) (omega (arith, c.in_ok-begun.ensures.len, c.in_ok-begun.begun.ok.0)) refl;
  size = c.in_ok-tally.ensures.size;
  flying = AreBehind-none _ _ _ _ c.none-flying.ensures.begins c.none-flying.ensures.ends;
  waiting = AreBehind-none _ _ _ _ c.none-waiting.ensures.begins c.none-waiting.ensures.ends;
}

pub up_to_from-flying-requires-clause-begins : goal.up_to_from-flying-requires-clause-begins
up_to_from-flying-requires-clause-begins c =
    rw c.deref-at-items.ensures.value (c.loop-at.invariant.flying.begun c.loop-at.at-index (omega arith) (omega (arith, c.loop-at-test.true, ap length c.deref-at-items.ensures.value)))

pub up_to_from-flying-requires-clause-ends : goal.up_to_from-flying-requires-clause-ends
up_to_from-flying-requires-clause-ends c =
    rw c.deref-at-items.ensures.value (c.loop-at.invariant.flying.ended c.loop-at.at-index (omega arith) (omega (arith, c.loop-at-test.true, ap length c.deref-at-items.ensures.value)))

pub up_to_from-waiting-requires-clause-begins : goal.up_to_from-waiting-requires-clause-begins
up_to_from-waiting-requires-clause-begins c =
    rw c.deref-at-items.ensures.value (c.loop-at.invariant.waiting.begun c.loop-at.at-index (omega arith) (omega (arith, c.loop-at-test.true, ap length c.deref-at-items.ensures.value)))

pub up_to_from-waiting-requires-clause-ends : goal.up_to_from-waiting-requires-clause-ends
up_to_from-waiting-requires-clause-ends c =
    rw c.deref-at-items.ensures.value (c.loop-at.invariant.waiting.ended c.loop-at.at-index (omega arith) (omega (arith, c.loop-at-test.true, ap length c.deref-at-items.ensures.value)))

pub change_at-change-requires-clause-flying : goal.change_at-change-requires-clause-flying
change_at-change-requires-clause-flying c =
    let t = get_or c.deref-at-items.result.now c.loop-at.at-index 0 in
    let is = counted c.args.changes.now.held.begins.items c.args.changes.now.held.ends.items t c.up_to_from-flying.result c.up_to_from-flying.ensures in
    omega (arith, is.0, is.1, c.requires.ready.held.begun t (omega arith))

pub change_at-change-requires-clause-waiting : goal.change_at-change-requires-clause-waiting
change_at-change-requires-clause-waiting c =
    let t = get_or c.deref-at-items.result.now c.loop-at.at-index 0 in
    let is = counted c.args.changes.now.waited.begins.items c.args.changes.now.waited.ends.items t c.up_to_from-waiting.result c.up_to_from-waiting.ensures in
    omega (arith, is.0, is.1, c.requires.ready.waited.begun t (omega arith))

-- the change is that of its place
is_known : (c : goal.After-deref) → c.change_at-change.result ≡ get_or (changes_in c.args.changes.now c.args.slots) c.loop-at.at-index no_change
is_known c = change_in c.args.changes.now c.args.slots c.loop-at.at-index c.deref-at-items.result.now _ _ _ c.deref-at-items.ensures.value c.loop-at-test.true c.up_to_from-flying.ensures c.up_to_from-waiting.ensures c.change_at-change.ensures

pub end_levels-requires-clause-begin : goal.end_levels-requires-clause-begin
end_levels-requires-clause-begin c = λ k above below.
    let there = place_in c.args.changes.now c.args.slots c.loop-at.at-index c.deref-at-items.result.now c.deref-at-items.ensures.value c.loop-at-test.true in
    let is = ends_in_rounds c.args.slots c.args.clock _ _ _ _ _ _ c.args.rounds no_change c.loop-at.invariant.sweep c.requires.levels there c.requires.rounds k above (omega (arith, below, ap (λ (x : Change). x.lowest) (is_known c))) in
    omega (arith, is.0, ap (λ xs. slice_index xs k) c.deref.ensures.value)

pub end_levels-requires-clause-order : goal.end_levels-requires-clause-order
end_levels-requires-clause-order c = λ k above below.
    let there = place_in c.args.changes.now c.args.slots c.loop-at.at-index c.deref-at-items.result.now c.deref-at-items.ensures.value c.loop-at-test.true in
    let is = ends_in_rounds c.args.slots c.args.clock _ _ _ _ _ _ c.args.rounds no_change c.loop-at.invariant.sweep c.requires.levels there c.requires.rounds k above (omega (arith, below, ap (λ (x : Change). x.lowest) (is_known c))) in
    omega (arith, is.1, ap (λ xs. slice_index xs k) c.deref.ensures.value, ap (λ (x : Change). x.at) (is_known c))

pub end_levels-requires-clause-round : goal.end_levels-requires-clause-round
end_levels-requires-clause-round c = λ k above below.
    let there = place_in c.args.changes.now c.args.slots c.loop-at.at-index c.deref-at-items.result.now c.deref-at-items.ensures.value c.loop-at-test.true in
    let is = ends_in_rounds c.args.slots c.args.clock _ _ _ _ _ _ c.args.rounds no_change c.loop-at.invariant.sweep c.requires.levels there c.requires.rounds k above (omega (arith, below, ap (λ (x : Change). x.lowest) (is_known c))) in
    rw (is_known c) (omega (arith, is.2, c.loop-at.invariant.size))

pub end_levels-requires-clause-total : goal.end_levels-requires-clause-total
end_levels-requires-clause-total c =
    let h = c.loop-at.invariant.sweep in
    let there = place_in c.args.changes.now c.args.slots c.loop-at.at-index c.deref-at-items.result.now c.deref-at-items.ensures.value c.loop-at-test.true in
    let few = total_fits c.args.slots c.args.clock _ _ _ _ _ _ h in
    let next = next_change c.args.slots c.args.clock _ _ _ _ _ _ no_change h c.requires.levels there in
    omega (arith, few, next.highest, ap (λ (x : Change). x.lowest) (is_known c))

pub loop-at-preserved : goal.loop-at-preserved
loop-at-preserved c =
    let h = c.loop-at.invariant in
    let times = c.args.changes.now.times.items in
    let lent = c.deref-at-items.result.now in
    let same = c.deref-at-items.ensures.value in
    let at = c.loop-at.at-index in
    let there = place_in c.args.changes.now c.args.slots at lent same c.loop-at-test.true in
    let known = change_in c.args.changes.now c.args.slots at lent _ _ _ same c.loop-at-test.true c.up_to_from-flying.ensures c.up_to_from-waiting.ensures c.change_at-change.ensures in
    let whole = written_back c.loop-at.begun.items c.deref_mut.result.now c.begin_levels.new.begun _ c.loop-at.begun.len (omega (arith, c.loop-at.begun.ok.0)) c.deref_mut.ensures.value c.begin_levels.ensures.size refl in
    record {
      sweep = IsSweeping-known c.args.slots c.args.clock (changes_in c.args.changes.now c.args.slots) c.loop-at.begun.items c.deref.result.now c.deref_mut.result.now c.begin_levels.new.begun _ _ _ _ _ _ _ c.change_at-change.result known h.sweep c.requires.levels there (omega arith) c.requires.service c.deref.ensures.value c.deref_mut.ensures.value c.begin_levels.ensures.size c.begin_levels.ensures.each whole c.end_levels.ensures.tally;
      size = c.end_levels.ensures.size ∙ h.size;
      flying = AreBehind-more _ _ times at _ c.requires.ready.order (rw same at c.up_to_from-flying.ensures);
      waiting = AreBehind-more _ _ times at _ c.requires.ready.order (rw same at c.up_to_from-waiting.ensures);
    }

pub returns-clause-tally : goal.returns-clause-tally
returns-clause-tally c = λ last over.
    let made = changes_count c.args.changes.now c.args.slots in
    IsSweeping-over c.args.slots c.args.clock _ _ _ _ _ _ last c.loop-at.invariant.sweep (omega (arith, made, ap length c.deref-at-items.ensures.value)) over
