use Rattle.std.proofs.Common.{◌+◌, ◌∙◌, ap, arith, is_some, sym, length, take, sum}
use Rattle.slots.proofs.ListLemmas.{sum_step, length_step, one_at_most}
use Rattle.slots.proofs.ServiceLemmas.{no_flight, last_by, last_times-by, last_read}
use Rattle.slots.proofs.service.total_of_last.Goals as goal

pub loop-place-preserved : goal.loop-place-preserved
loop-place-preserved c =
    let h = c.loop-place.invariant in
    let i = c.loop-place.place in
    let fs = c.args.flights.now in
    let lt = c.loop-place-test.true in
    record {
      sum = λ number are.
          sum_step (last_by c.args.usual number c.args.most) fs i no_flight _ _ _ lt (last_read c.args.usual number c.args.most fs c.args.flying.now i _ lt are c.last_time.ensures) (h.sum number are ∙ ap sum (last_times-by c.args.usual number c.args.most (take i fs))) c.with-total.ensures.sum ∙ sym (ap sum (last_times-by c.args.usual number c.args.most (take (i + 1) fs)));
      count = λ number are.
          length_step (last_by c.args.usual number c.args.most) fs i no_flight _ _ _ lt (last_read c.args.usual number c.args.most fs c.args.flying.now i _ lt are c.last_time.ensures) (h.count number are ∙ ap length (last_times-by c.args.usual number c.args.most (take i fs))) c.with-total.ensures.count ∙ sym (ap length (last_times-by c.args.usual number c.args.most (take (i + 1) fs)));
      few = omega (arith, c.with-total.ensures.count, h.few, one_at_most (is_some c.last_time.result));
    }
