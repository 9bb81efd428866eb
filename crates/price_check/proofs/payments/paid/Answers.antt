use Rattle.std.proofs.Common.{ℕ, ◌*◌, ◌^◌, ◌<◌, ◌≤◌, sym, arith, map}
use Rattle.price_check.specs.Words.{least, instance_of_rows, pricing_of_rows, priced, allowed}
use Rattle.price_check.proofs.RestLemmas.{up_to_step}
use Rattle.price_check.proofs.payments.paid.Goals as goal

pub loop-next-preserved : goal.loop-next-preserved
loop-next-preserved c =
    let net = instance_of_rows c.args.net.now in
    let g : ℕ → ℕ = λ s. least (map (priced net (pricing_of_rows c.args.prices.now) s) (allowed net s)) in
    let inv = c.loop-next.invariant in
    let some : 0 < c.loop-next.next = c.loop-next-test.true in
    let step = up_to_step net g c.loop-next.weight c.loop-next.next inv.next some in
    let over : c.loop-next.weight < c.loop-next.next = inv.next.above_it some in
    let before : c.loop-next.total ≤ 2 ^ 84 * c.loop-next.weight = inv.short in
    let more : c.paid_by-total.result ≤ 2 ^ 84 = c.paid_by-total.ensures.short in
    record {
      so_far = rw (inv.so_far, c.paid_by-total.ensures.same) (sym step);
      short = omega arith;
      few = inv.next.most;
      next = c.next_weight-next-in-loop-next.ensures.next;
    }
