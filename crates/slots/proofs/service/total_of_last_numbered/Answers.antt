use Rattle.std.proofs.Common.{◌+◌, ◌∙◌, ap, arith, is_some, sym, length, take, sum}
use Rattle.slots.proofs.ListLemmas.{sum_step, length_step, one_at_most}
use Rattle.slots.proofs.WindowLemmas.{no_numbered, last_numbered, last_times-numbered}
use Rattle.slots.proofs.service.total_of_last_numbered.Goals as goal

pub with-total-requires : goal.with-total-requires
with-total-requires c = omega (arith, c.loop-each.invariant.few, c.requires.few, c.loop-each-test.true)

pub loop-each-preserved : goal.loop-each-preserved
loop-each-preserved c =
    let h = c.loop-each.invariant in
    let i = c.loop-each.each-index in
    let fs = c.args.flights.now in
    let most = c.args.most in
    let lt = c.loop-each-test.true in
    record {
      sum = sum_step (last_numbered most) fs i no_numbered _ _ _ lt c.last_time.ensures (h.sum ∙ ap sum (last_times-numbered most (take i fs))) c.with-total.ensures.sum ∙ sym (ap sum (last_times-numbered most (take (i + 1) fs)));
      count = length_step (last_numbered most) fs i no_numbered _ _ _ lt c.last_time.ensures (h.count ∙ ap length (last_times-numbered most (take i fs))) c.with-total.ensures.count ∙ sym (ap length (last_times-numbered most (take (i + 1) fs)));
      few = omega (arith, c.with-total.ensures.count, h.few, one_at_most (is_some c.last_time.result));
    }
