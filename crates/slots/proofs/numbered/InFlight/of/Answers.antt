use Rattle.std.proofs.Common.{◌∙◌, ap, arith, length}
use Rattle.std.proofs.lemmas.List.{length-map}
use Rattle.slots.specs.Flights.{span_held}
use Rattle.slots.proofs.WindowLemmas.{begins_few}
use Rattle.slots.proofs.numbered.InFlight.of.Goals as goal

pub invariant_of-result : goal.invariant_of-result
invariant_of-result c = record {
  few = omega (arith, c.requires.few, begins_few _ _ _ c.in_ok-bounds.ensures, ap length (c.deref.ensures.value ∙ c.in_ok-spans.ensures), length-map c.args.flights.now (span_held 0));
  order = c.in_ok-bounds.ensures.order;
}
