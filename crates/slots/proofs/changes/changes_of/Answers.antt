use Rattle.std.proofs.Common.{arith}
use Rattle.slots.proofs.ChangeLemmas.{AreChanges-made, starts_few}
use Rattle.slots.proofs.changes.changes_of.Goals as goal

pub returns-clause-ready : goal.returns-clause-ready
returns-clause-ready c = record {
  few = omega (arith, starts_few c.args.flights.now _ _ c.in_ok-held.ensures, c.requires.few);
  held = c.in_ok-held.ensures.order;
  waited = c.in_ok-waited.ensures.bounds.order;
  order = c.in_ok-times.ensures.order;
}

pub returns-clause-changes : goal.returns-clause-changes
returns-clause-changes c = λ slots.
    let moved = rw (c.deref.ensures.value, c.deref-2.ensures.value, c.deref-3.ensures.value, c.deref-4.ensures.value) at c.in_ok-times.ensures.all in
    AreChanges-made c.args.flights.now c.args.waits.now slots _ _ _ _ _ c.in_ok-held.ensures c.in_ok-waited.ensures.bounds c.in_ok-waited.ensures.fits moved c.in_ok-times.ensures.order c.in_ok-times.ensures.fits
