use Rattle.std.proofs.Common.{◌≡◌, ◌+◌, ℕ, Option, sym, ap, ◌∙◌, arith}
use Rattle.wait_causes.specs.Behind.{behind_in, behind_by, all_behind, Behind}
use Rattle.wait_causes.specs.Origins.{cause_of, instance_in, live_in}
use Rattle.wait_causes.proofs.TotalsLemmas.{totals_none, totals_more, behind_step, few_behind}
use Rattle.wait_causes.proofs.totals.behind_totals.Goals as goal

pub loop-before-init : goal.loop-before-init
loop-before-init c =
    let o = c.args.origin.now in
    record {
      totals = c.in_ok-totals.ensures.items ∙ totals_none behind_by (behind_in (instance_in o) (live_in o) (cause_of o) c.args.device c.args.weight);
      here = c.none-so_far.ensures;
    }

pub add-requires : goal.add-requires
add-requires c =
    let o = c.args.origin.now in
    let few = few_behind (behind_in (instance_in o) (live_in o) (cause_of o) c.args.device c.args.weight) 1 c.loop-before.before in
    let here = ap all_behind c.loop-before.invariant.here in
    omega (arith, few, here, c.loop-before-test.true)

pub loop-before-preserved : goal.loop-before-preserved
loop-before-preserved c =
    let o = c.args.origin.now in
    let f : ℕ → Option Behind = behind_in (instance_in o) (live_in o) (cause_of o) c.args.device c.args.weight in
    let turned : 1 + c.loop-before.before ≡ c.loop-before.before + 1 = omega arith in
    let found : c.behind_in.result ≡ f (c.loop-before.before + 1) = rw c.requires.net at (c.behind_in.ensures (cause_of o) c.cause-cause.ensures) in
    record {
      totals = totals_more behind_by f c.loop-before.before c.loop-before.totals.items c.push.new.self.items c.loop-before.so_far c.loop-before.invariant.totals c.in_ok-push.ensures.items c.loop-before.invariant.here;
      here = behind_step f 1 c.loop-before.before c.loop-before.so_far c.add.new.self c.behind_in.result c.loop-before.invariant.here c.add.ensures (found ∙ ap f (sym turned));
    }
