use Rattle.std.proofs.Common.{refl, arith}
use Rattle.xpt_lock.proofs.ConsistentLemmas.{nothing_taken, unnamed_by, interleaved_by}
use Rattle.xpt_lock.specs.Gathers.{IsUnnamed}
use Rattle.xpt_lock.proofs.compare.compare.Goals as goal

pub loop-place-init : goal.loop-place-init
loop-place-init g c = record {
  consistent = nothing_taken _;
  marked = c.requires.unmarked;
}

pub overflow_cast-result : goal.overflow_cast-result
overflow_cast-result g c =
    let u : IsUnnamed c.args.due.now c.args.seats.now c.in-Some.place =
    unnamed_by _ _ _ _ _ _ c.loop-place.invariant.consistent c.loop-place.invariant.marked (omega (arith, c.loop-place-test.false)) refl c.in-Some.ensures.some in
    let there = u.there in
    record { fits = omega (arith, there, c.requires.few) }

pub returns-in-Some : goal.returns-in-Some
returns-in-Some g c =
    unnamed_by _ _ _ _ _ _ c.loop-place.invariant.consistent c.loop-place.invariant.marked (omega (arith, c.loop-place-test.false)) refl c.in-Some.ensures.some

pub returns-in-None : goal.returns-in-None
returns-in-None g c = interleaved_by _ _ _ _ _ c.loop-place.invariant.consistent c.loop-place.invariant.marked (omega (arith, c.loop-place-test.false)) refl c.in-None.ensures.none
