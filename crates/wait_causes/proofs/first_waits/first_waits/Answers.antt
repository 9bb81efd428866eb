use Rattle.std.proofs.Common.{◌≡◌, ◌-◌, ◌≤◌, ◌∷◌, [], get_or, ℕ, List, length-append, sym, subst, arith, ap, ◌∙◌}
use Rattle.wait_causes.specs.Origins.{cause_of, instance_in}
use Rattle.wait_causes.specs.FirstWaits.{IsLast}
use Rattle.wait_causes.specs.Waits.{Wait}
use Rattle.wait_causes.proofs.FirstWaitsLemmas.{lasts_at, none_first, one_first}
use Rattle.wait_causes.proofs.first_waits.first_waits.Goals as goal
use Rattle.wait_causes.proofs.first_waits.first_waits.Goals.{then-loop-next-test+else-len-most, else-loop-next-test}

pub loop-next-init : goal.loop-next-init
loop-next-init c = rw c.new-listed.ensures.items (none_first (cause_of c.args.origin.now c.args.device) c.args.arrival c.args.live, omega arith)

pub loop-next-preserved : goal.loop-next-preserved
loop-next-preserved c =
    let f = cause_of c.args.origin.now c.args.device in
    let all = (instance_in c.args.origin.now).rounds in
    let next = c.loop-next.next in
    let end = c.min-last.result in
    let inv = c.loop-next.invariant in
    let wait : Wait = record { cause = f next; first = next; last = end } in
    let some : 1 ≤ next = omega (arith, c.requires.first, inv.0.from) in
    let within : next ≤ all = omega (arith, c.loop-next-test.true, c.requires.last) in
    let read : c.number_at.result ≡ get_or c.args.runs.now.lasts.items (next - 1) 0 = c.number_at.ensures ∙ ap (λ (xs : List ℕ). get_or xs (next - 1) 0) c.deref.ensures.value in
    let known : IsLast f all next c.number_at.result = subst (IsLast f all next) (sym read) (lasts_at f all c.args.runs.now next c.requires.runs some within) in
    rw (c.in_ok-push.ensures.items, c.cause-cause.ensures) (
      one_first f all c.args.arrival c.args.live next c.number_at.result end c.loop-next.listed.items known
          (omega (arith, known.from, c.min-last.ensures, c.loop-next-test.true)) (omega (arith, c.min-last.ensures)) (omega (arith, c.min-last.ensures, c.loop-next-test.true)) c.requires.last
          (λ more. omega (arith, more, c.min-last.ensures)) inv.0,
      omega (arith, length-append c.loop-next.listed.items (wait ∷ []), c.len.ensures, c.if-len-most.true),
    )

pub returns : goal.returns
returns c =
    let inv = c.loop-next.invariant in
    let each = rw c.deref-2.ensures.value at (c.waits_from-more.ensures (cause_of c.args.origin.now c.args.device)) in
    record {
      listed = inv.0.are;
      few = inv.1;
      from = inv.0.from;
      all = λ lt. elim c.loop-next-test.branch [
        | then-loop-next-test+else-len-most w ↦ omega (arith, w.len.ensures, w.if-len-most.false, inv.1)
        | else-loop-next-test w ↦ absurd (omega (arith, w.loop-next-test.false, lt))
      ];
      whole = inv.0.begins;
      more = each (λ k lt. c.requires.runs.changes k (omega (arith, lt, c.requires.runs.all_changes)));
    }
