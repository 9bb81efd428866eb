use Rattle.std.proofs.Common.{◌≡◌, ◌+◌, ap, ◌∙◌, arith}
use Rattle.wait_causes.specs.Origins.{cause_of}
use Rattle.wait_causes.specs.Stays.{rounds_by, all_rounds}
use Rattle.wait_causes.proofs.StayLemmas.{rounds_add_up, rounds_step}
use Rattle.wait_causes.proofs.TotalsLemmas.{totals_none, totals_more}
use Rattle.wait_causes.proofs.totals.cause_totals.Goals as goal

pub loop-before-init : goal.loop-before-init
loop-before-init c = record {
  totals = c.in_ok-totals.ensures.items ∙ totals_none rounds_by (cause_of c.args.origin.now c.args.device);
  here = c.none-so_far.ensures;
}

pub add-requires : goal.add-requires
add-requires c =
    let total : all_rounds c.loop-before.so_far ≡ c.loop-before.before = ap all_rounds c.loop-before.invariant.here ∙ rounds_add_up (cause_of c.args.origin.now c.args.device) 1 c.loop-before.before in
    omega (arith, c.loop-before-test.true, c.ranges.rounds.fits)

pub loop-before-preserved : goal.loop-before-preserved
loop-before-preserved c =
    let turned : 1 + c.loop-before.before ≡ c.loop-before.before + 1 = omega arith in
    record {
      totals = totals_more rounds_by (cause_of c.args.origin.now c.args.device) c.loop-before.before c.loop-before.totals.items c.push.new.self.items c.loop-before.so_far c.loop-before.invariant.totals c.in_ok-push.ensures.items c.loop-before.invariant.here;
      here = rounds_step (cause_of c.args.origin.now c.args.device) 1 c.loop-before.before c.loop-before.so_far c.add.new.self c.cause.result c.loop-before.invariant.here c.add.ensures (rw turned c.cause.ensures);
    }
