use Rattle.std.proofs.Common.{◌≡◌, ◌+◌, ◌-◌, get_or, ℕ, List, sym, subst, arith, ap, ◌∙◌}
use Rattle.wait_causes.specs.Origins.{cause_of}
use Rattle.wait_causes.specs.FirstWaits.{IsLast}
use Rattle.wait_causes.proofs.FirstWaitsLemmas.{lasts_step}
use Rattle.wait_causes.proofs.cause_runs.lasts_of.Goals as goal

pub loop-after-preserved : goal.loop-after-preserved
loop-after-preserved c =
    let f = cause_of c.args.origin.now c.args.device in
    let all = c.args.rounds in
    let after = c.loop-after.after in
    let inv = c.loop-after.invariant in
    let read : c.number_at.result ≡ get_or c.loop-after.lasts.items (all - after) 0 = c.number_at.ensures ∙ ap (λ (xs : List ℕ). get_or xs (all - after) 0) c.deref.ensures.value in
    let known : IsLast f all (all - after + 1) c.number_at.result = subst (IsLast f all (all - after + 1)) (sym read) (inv.1 (all - after) (omega (arith, c.loop-after.auto.after, c.loop-after-test.true)) (omega (arith, c.loop-after-test.true))) in
    let here : IsLast f all (all - after) c.last_of-last.result =
    subst (λ n. IsLast f n (all - after) c.last_of-last.result) (sym c.requires.rounds) (c.last_of-last.ensures (subst (λ n. IsLast f n (all - after + 1) c.number_at.result) c.requires.rounds known)) in
    lasts_step f all after c.loop-after.lasts.items c.last_of-last.result (omega (arith, c.loop-after.auto.after)) c.loop-after-test.true inv.0 inv.1 here
